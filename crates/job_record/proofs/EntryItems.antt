-- The items of file entries.
use Rattle.std.proofs.Common.{◌≡◌, ℕ, ◌<◌, ◌≤◌, ◌^◌, List, [], ◌∷◌, ◌++◌, All, length, drop, refl, sym, ◌∙◌, ap, arith, append_assoc, append-nil, length-append}
use Rattle.std.specs.Prelude.{slice_range}
use Rattle.std.specs.Int.{w16, w32, to_be_bytes}
use Rattle.std.proofs.lemmas.List.Concat.{flat_map-append}
use Rattle.std.proofs.lemmas.List.Elements.{All-nil, All-push}
use Rattle.local_db.specs.cny-base.StrField.{str}
use Rattle.cny_stream.specs.Item.{FitsItem, IsItemAt, item_bytes}
use Rattle.cny_stream.proofs.ItemLaws.{same_item}
use Rattle.local_db.specs.trove-parts.Items.{items_bytes}
use Rattle.tree_scan.specs.declared.mark.Mark.{Mark}
use Rattle.tree_scan.specs.declared.mark.Mark.TheVariants.{Nothing, Dir, File, Link}
use Rattle.local_db.specs.MarkBytes.{IsMark, mark_bytes}
use Rattle.local_db.specs.declared.record.Told.{Told}
use Rattle.local_db.specs.declared.record.Told.TheVariants.{Listed, Own}
use Rattle.local_db.specs.declared.record.ToldEntry.{ToldEntry}
use Rattle.local_db.specs.RecordText.{told_text, IsTold, entry_text, IsToldEntry, entries_text}
use Rattle.job_record.specs.Reading.{IsEntryText, IsEntryAt, IsNoEntryAt, AreEntriesTo}
use Rattle.job_record.proofs.Items.{last_of}
use Rattle.job_record.proofs.Once.{entry_once}
use Rattle.local_db.proofs.Found.{same_text}
use Rattle.local_db.proofs.journal-log.Links.{fits_target}
use Rattle.change_rel.proofs.trove-parts.ItemFields.{path_fits as fits_path}
use Rattle.change_rel.proofs.trove-parts.IdFields.{str_length}

-- ---- an entry is short

mark_short : (m : Mark) → IsMark m → length (mark_bytes m) < 70000
mark_short Nothing is = omega arith
mark_short (Dir mode) is = omega arith
mark_short (File mode size name) is =
    let long = is.2 in omega (arith, long, length-append (to_be_bytes w16 mode) (to_be_bytes w32 size ++ name), length-append (to_be_bytes w32 size) name)
mark_short (Link target) is = let short : length target < 2 ^ 16 = fits_target target is in omega (arith, short, str_length target)

told_short : (t : Told) → IsTold t → length (told_text t) < 70000
told_short Listed is = omega arith
told_short (Own m) is = mark_short m is

pub entry_fits : (e : ToldEntry) → IsToldEntry e → FitsItem (entry_text e)
entry_fits e is =
    let path : length e.path < 2 ^ 16 = fits_path e.path is.path_is in
    let before = told_short e.before is.before_is in
    let after = told_short e.after is.after_is in
    omega (arith, path, before, after, str_length e.path, length-append (str e.path) (told_text e.before ++ told_text e.after), length-append (told_text e.before) (told_text e.after))

-- ---- one item

abbrev pub item_of : ToldEntry → List ℕ
item_of e = item_bytes 0x67 (entry_text e)

pub one_entry : (d e : ToldEntry) (r s : List ℕ) → IsToldEntry d → IsToldEntry e → item_of d ++ r ≡ item_of e ++ s → (d ≡ e) × (r ≡ s)
one_entry d e r s a b same =
    let items = same_item 0x67 0x67 (entry_text d) (entry_text e) r s (entry_fits d a) (entry_fits e b) same in
    (entry_once d e a b items.values, items.rests)

pub no_entry_before_end : (e : ToldEntry) (r : List ℕ) → IsToldEntry e → item_bytes 0x6F [] ≡ item_of e ++ r → ⊥
no_entry_before_end e r is same =
    let items = same_item 0x6F 0x67 [] (entry_text e) [] r (omega arith) (entry_fits e is) same in omega (arith, items.tags)

-- ---- an item that was found

module _ (bytes : List ℕ) (at tag from to : ℕ) (found : IsItemAt bytes at tag from to) where
  pub no_entry_here : ((e : ToldEntry) → IsEntryText (slice_range bytes from to) e → ⊥) → IsNoEntryAt bytes at
  no_entry_here none e rest is same =
      none e (record { entry_is = is; text = (same_text bytes at tag from to found 0x67 (entry_text e) rest (entry_fits e is) same).values })

-- ---- entries so far

pub no_entries : (bytes : List ℕ) (from : ℕ) → from ≤ length bytes → AreEntriesTo bytes from [] from
no_entries bytes from within = record { within = within; entries_are = All-nil IsToldEntry; spelled = refl }

pub one_more : (bytes : List ℕ) (from : ℕ) (es : List ToldEntry) (at : ℕ) (e : ToldEntry) (to : ℕ) → AreEntriesTo bytes from es at → IsEntryAt bytes at e to
    → AreEntriesTo bytes from (es ++ e ∷ []) to
one_more bytes from es at e to are next = record {
  within = next.within;
  entries_are = All-push IsToldEntry es e are.entries_are next.entry_is;
  spelled = are.spelled
      ∙ (ap (λ (l : List ℕ). items_bytes entry_text 0x67 es ++ l) (next.spelled ∙ ap (λ (l : List ℕ). l ++ drop to bytes) (sym (append-nil (item_of e))))
      ∙ sym (append_assoc (items_bytes entry_text 0x67 es) (item_of e ++ []) (drop to bytes))
      ∙ ap (λ (l : List ℕ). l ++ drop to bytes) (sym (flat_map-append item_of es (e ∷ []))));
}

-- where no entry follows, those read so far are all, and the end follows
pub last_entries : (bytes : List ℕ) (from : ℕ) (es : List ToldEntry) (at : ℕ) (all : List ToldEntry) → AreEntriesTo bytes from es at → IsNoEntryAt bytes at
    → All IsToldEntry all → drop from bytes ≡ entries_text all → (all ≡ es) × (drop at bytes ≡ item_bytes 0x6F [])
last_entries bytes from es at all are none all_are is =
    last_of item_of IsToldEntry one_entry es all (drop at bytes) (item_bytes 0x6F []) are.entries_are all_are no_entry_before_end none (sym are.spelled ∙ is)
