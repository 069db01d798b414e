-- What a list records at paths, noted file by file.
use Rattle.std.proofs.Common.{◌≡◌, ℕ, ◌+◌, ◌<◌, Bool, true, false, cond, List, [], ◌∷◌, ◌++◌, length, get_or, take, Option, Some, None, refl, sym, ap, ◌∙◌}
use Rattle.std.specs.Option.{option_or, is_some}
use Rattle.std.proofs.lemmas.List.{take_more}
use Rattle.local_db.specs.cny-stream.declared.record.FileRec.{FileRec}
use Rattle.local_db.specs.Installed.{record_at, first_mark, recorded}
use Rattle.local_db.specs.Record.{Entry}
use Rattle.local_db.specs.tree-disk.Tree.{Name, same_name}
use Rattle.tree_scan.specs.declared.mark.Mark.{Mark}
use Rattle.tree_scan.specs.Marks.{fingerprint_of_record}
use Rattle.local_db.specs.trove-parts.declared.files.FileAt.{FileAt}
use Rattle.local_db.specs.trove-stream.declared.parts.TroveParts.{TroveParts}
use Rattle.job_record.specs.Recorded.{Marks, mark_at, IsEntryPath, file_mark, HasNoted, HasNotedAll}
use Rattle.job_record.proofs.Keyed.{same, same_means, turned_same, or_none, or_later, added, stayed}
use Rattle.change_rel.proofs.cny-base.Lists.{not_some as none_from}

-- ---- one file

chosen : (b : Bool) (rec : FileRec) → first_mark (cond b (Some rec) None) None ≡ cond b (Some (fingerprint_of_record rec)) None
chosen true rec = refl
chosen false rec = refl

one_file : (file : FileAt) (path : Name) → file_mark (file ∷ []) path ≡ cond (same file.path path) (Some (fingerprint_of_record file.rec)) None
one_file file path =
    chosen (same_name path file.path) file.rec
    ∙ ap (λ (b : Bool). cond b (Some (fingerprint_of_record file.rec)) None) (turned_same path file.path)

-- a place of one path
here : (es : List Entry) (path other : Name) → IsEntryPath es path → other ≡ path → IsEntryPath es other
here es path other is e = record { entry = is.entry; among = is.among; at_path = is.at_path ∙ sym e }

module _ (es : List Entry) (file : FileAt) where
  pub note_missing : (marks : Marks) → (IsEntryPath es file.path → ⊥) → HasNoted es (file ∷ []) marks marks
  note_missing marks none path is =
      stayed (same file.path path) (fingerprint_of_record file.rec) (mark_at marks path) (λ e. absurd (none (here es path file.path is (same_means file.path path e))))
      ∙ ap (option_or (mark_at marks path)) (sym (one_file file path))

  pub note_there : (marks : Marks) → is_some (mark_at marks file.path) ≡ true → HasNoted es (file ∷ []) marks marks
  note_there marks some path is =
      stayed (same file.path path) (fingerprint_of_record file.rec) (mark_at marks path) (λ e. ap (λ (p : Name). is_some (mark_at marks p)) (sym (same_means file.path path e)) ∙ some)
      ∙ ap (option_or (mark_at marks path)) (sym (one_file file path))

  pub note_new : (old new : Marks) → is_some (mark_at old file.path) ≡ false → ((q : Name) → mark_at new q ≡ cond (same file.path q) (Some (fingerprint_of_record file.rec)) (mark_at old q))
      → HasNoted es (file ∷ []) old new
  note_new old new none updated path is =
      added (same file.path path) (fingerprint_of_record file.rec) (mark_at old path) (mark_at new path)
      (λ e. ap (mark_at old) (sym (same_means file.path path e)) ∙ none_from (mark_at old file.path) none) (updated path)
      ∙ ap (option_or (mark_at old path)) (sym (one_file file path))

-- ---- files

file_or : (b : Bool) (rec : FileRec) (more all last : Option FileRec) → first_mark all None ≡ option_or (first_mark more None) (first_mark last None)
    → first_mark (cond b (Some rec) all) None ≡ option_or (first_mark (cond b (Some rec) more) None) (first_mark last None)
file_or true rec more all last is = refl
file_or false rec more all last is = is

files_more : (xs ys : List FileAt) (path : Name) → file_mark (xs ++ ys) path ≡ option_or (file_mark xs path) (file_mark ys path)
files_more [] ys path = refl
files_more (x ∷ xs) ys path = file_or (same_name path x.path) x.rec (record_at xs path) (record_at (xs ++ ys) path) (record_at ys path) (files_more xs ys path)

-- two steps are one
joined : {B : Type 0} (old mid new a b c : Option B) → mid ≡ option_or old a → new ≡ option_or mid b → c ≡ option_or a b → new ≡ option_or old c
joined {B} old mid new a b c first second whole = second ∙ ap (λ (o : Option B). option_or o b) first ∙ or_later old a b ∙ ap (option_or old) (sym whole)

pub noted_none : (es : List Entry) (marks : Marks) → HasNoted es [] marks marks
noted_none es marks path is = sym (or_none (mark_at marks path))

pub noted_more : (es : List Entry) (files : List FileAt) (i : ℕ) (file : FileAt) (old mid new : Marks) → i < length files → file ≡ get_or files i file
    → HasNoted es (take i files) old mid → HasNoted es (file ∷ []) mid new → HasNoted es (take (i + 1) files) old new
noted_more es files i file old mid new within is so_far step path at =
    joined (mark_at old path) (mark_at mid path) (mark_at new path) (file_mark (take i files) path) (file_mark (file ∷ []) path) (file_mark (take (i + 1) files) path)
    (so_far path at) (step path at)
    (ap (λ (l : List FileAt). file_mark l path) (take_more files i file within ∙ ap (λ (f : FileAt). take i files ++ f ∷ []) (sym is)) ∙ files_more (take i files) (file ∷ []) path)

-- ---- troves

trove_or : (o : Option FileRec) (a b : Option Mark) → first_mark o (option_or a b) ≡ option_or (first_mark o a) b
trove_or None a b = refl
trove_or (Some rec) a b = refl

troves_more : (xs : List TroveParts) (t : TroveParts) (path : Name) → recorded (xs ++ t ∷ []) path ≡ option_or (recorded xs path) (file_mark t.files path)
troves_more [] t path = refl
troves_more (x ∷ xs) t path =
    ap (first_mark (record_at x.files path)) (troves_more xs t path)
    ∙ trove_or (record_at x.files path) (recorded xs path) (file_mark t.files path)

pub noted_all_none : (es : List Entry) (marks : Marks) → HasNotedAll es [] marks marks
noted_all_none es marks path is = sym (or_none (mark_at marks path))

pub noted_all_more : (es : List Entry) (list : List TroveParts) (i : ℕ) (t : TroveParts) (old mid new : Marks) → i < length list → t ≡ get_or list i t
    → HasNotedAll es (take i list) old mid → HasNoted es t.files mid new → HasNotedAll es (take (i + 1) list) old new
noted_all_more es list i t old mid new within is so_far step path at =
    joined (mark_at old path) (mark_at mid path) (mark_at new path) (recorded (take i list) path) (file_mark t.files path) (recorded (take (i + 1) list) path)
    (so_far path at) (step path at)
    (ap (λ (l : List TroveParts). recorded l path) (take_more list i t within ∙ ap (λ (u : TroveParts). take i list ++ u ∷ []) (sym is)) ∙ troves_more (take i list) t path)
