-- Fingerprints that a list records have bytes.
use Rattle.std.proofs.Common.{◌≡◌, ℕ, ◌<◌, ◌≤◌, ◌^◌, Bool, true, false, cond, List, [], ◌∷◌, Option, Some, None, All, refl, subst, arith}
use Rattle.std.proofs.lemmas.List.Elements.{All-head, All-tail}
use Rattle.local_db.specs.cny-base.declared.limits.TheConstants.{CONTENT_LIMIT}
use Rattle.local_db.specs.cny-stream.declared.record.FileRec.{FileRec}
use Rattle.local_db.specs.cny-stream.declared.record.FileRec.TheVariants as rec
use Rattle.local_db.specs.cny-stream.Record.{IsFileRecord}
use Rattle.local_db.specs.trove-parts.declared.files.FileAt.{FileAt}
use Rattle.local_db.specs.trove-parts.Files.{IsFileAt}
use Rattle.local_db.specs.trove-stream.declared.parts.TroveParts.{TroveParts}
use Rattle.local_db.specs.trove-stream.Trove.{IsTrove}
use Rattle.local_db.specs.tree-disk.Tree.{Name, same_name}
use Rattle.tree_scan.specs.declared.mark.Mark.{Mark}
use Rattle.tree_scan.specs.Marks.{fingerprint_of_record}
use Rattle.local_db.specs.Installed.{first_mark, record_at, recorded}
use Rattle.local_db.specs.MarkBytes.{IsMark}
use Rattle.change_rel.proofs.cny-base.OptionValues.{same_some as some_same}

small : (size : ℕ) → size ≤ CONTENT_LIMIT → size < 2 ^ 32
small size le = let most : CONTENT_LIMIT ≡ 16777216 = refl in omega (arith, le, most)

record_mark : (r : FileRec) → IsFileRecord r → IsMark (fingerprint_of_record r)
record_mark (rec.Dir mode owner) is = is.0
record_mark (rec.File mode owner flags size name) is = (is.0, small size is.1, is.2)
record_mark (rec.Link target) is = is

chosen : (b : Bool) (r s : FileRec) (later : Option FileRec) → IsFileRecord r → (later ≡ Some s → IsFileRecord s) → cond b (Some r) later ≡ Some s → IsFileRecord s
chosen true r s later is more e = subst IsFileRecord (some_same r s e) is
chosen false r s later is more e = more e

record_is : (files : List FileAt) (path : Name) (s : FileRec) → All IsFileAt files → record_at files path ≡ Some s → IsFileRecord s
record_is [] path s all e = absurd (cc e)
record_is (file ∷ files) path s all e =
    chosen (same_name path file.path) file.rec s (record_at files path) (All-head IsFileAt file files all).rec
    (record_is files path s (All-tail IsFileAt file files all)) e

first_is : (o : Option FileRec) (later : Option Mark) (mark : Mark) → ((s : FileRec) → o ≡ Some s → IsFileRecord s) → (later ≡ Some mark → IsMark mark) → first_mark o later ≡ Some mark → IsMark mark
first_is None later mark here more e = more e
first_is (Some s) later mark here more e = subst IsMark (some_same (fingerprint_of_record s) mark e) (record_mark s (here s refl))

pub recorded_is_mark : (list : List TroveParts) (path : Name) (mark : Mark) → All IsTrove list → recorded list path ≡ Some mark → IsMark mark
recorded_is_mark [] path mark all e = absurd (cc e)
recorded_is_mark (t ∷ list) path mark all e =
    first_is (record_at t.files path) (recorded list path) mark
    (λ s is. record_is t.files path s (All-head IsTrove t list all).lists.files.valid is)
    (recorded_is_mark list path mark (All-tail IsTrove t list all)) e
