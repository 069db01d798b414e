-- What is found at paths outside the private directory depends on the tree outside it alone.
use Rattle.std.proofs.Common.{◌≡◌, Bool, true, false, cond, List, [], ◌∷◌, ◌++◌, Option, Some, None, refl, ap, ◌∙◌}
use Rattle.std.specs.FinMap.{get}
use Rattle.std.specs.List.{AllByRecursion, cons_option}
use Rattle.std.specs.Option.{option_map}
use Rattle.std.proofs.lemmas.List.Elements.{All-filter, recursion_from_All}
use Rattle.cli_call.specs.cny-base.Reserved.{is_reserved}
use Rattle.cli_call.specs.cny-stream.declared.record.FileRec.{FileRec}
use Rattle.cli_call.specs.cny-stream.declared.record.FileRec.TheVariants as rec
use Rattle.cli_call.specs.trove-parts.declared.files.FileAt.{FileAt}
use Rattle.cli_call.specs.trove-stream.declared.parts.TroveParts.{TroveParts}
use Rattle.cli_call.specs.trove-stream.Forbidden.{first_forbidden, is_forbidden_file}
use Rattle.cli_call.specs.tree-disk.Tree.{Name, Tree, AgreesOutside}
use Rattle.cli_call.specs.content-store.Contents.{ContentMap}
use Rattle.local_db.specs.Installed.{IsInstalled}
use Rattle.cli_call.specs.tree-scan.declared.mark.Mark.{Mark}
use Rattle.cli_call.specs.tree-scan.declared.mark.Mark.TheVariants as mark
use Rattle.cli_call.specs.tree-scan.declared.verification.Found.{Found}
use Rattle.cli_call.specs.tree-scan.Marks.{fingerprint}
use Rattle.root_edits.specs.Verify.{asked, change_at, finding_of, findings, found_at, is_asked, verified}
use Rattle.root_edits.specs.Local.{records}
use Rattle.local_db.proofs.cny-base.Bools.{first_false}

-- the files whose paths aren't reserved
abbrev pub AreOuter : List FileAt → Type 0
AreOuter files = AllByRecursion (λ (file : FileAt). is_reserved file.path ≡ false) files

pub files_outer : (files : List FileAt) → first_forbidden files ≡ None → AreOuter files
files_outer [] none = tt
files_outer (file ∷ files) none = by (is_forbidden_file file) refl none (files_outer files)
  where
    by : (b : Bool) → is_forbidden_file file ≡ b → cond b (Some file.path) (first_forbidden files) ≡ None → (first_forbidden files ≡ None → AreOuter files) → (is_reserved file.path ≡ false) × AreOuter files
    by true is h rest = absurd (cc h)
    by false is h rest = (first_false (is_reserved file.path) _ is, rest h)

append_outer : (some more : List FileAt) → AreOuter some → AreOuter more → AreOuter (some ++ more)
append_outer [] more first second = second
append_outer (file ∷ some) more first second = (first.0, append_outer some more first.1 second)

pub records_outer : (troves : List TroveParts) → AllByRecursion (λ (t : TroveParts). first_forbidden t.files ≡ None) troves → AreOuter (records troves)
records_outer [] all = tt
records_outer (t ∷ troves) all = append_outer t.files (records troves) (files_outer t.files all.0) (records_outer troves all.1)

-- of an installed list, also of those of some names
pub asked_outer : (names : List Name) (list : List TroveParts) → IsInstalled list → AreOuter (records (asked names list))
asked_outer names list rules =
    records_outer (asked names list) (recursion_from_All (λ (t : TroveParts). first_forbidden t.files ≡ None) (asked names list)
    (All-filter (is_asked names) (λ (t : TroveParts). first_forbidden t.files ≡ None) list rules.allowed))

module _ (map : ContentMap) (t u : Tree) (same : AgreesOutside is_reserved t u) where
  change_same : (path : Name) → get t path ≡ get u path → (m : Mark) (r : FileRec) → change_at map t path m r ≡ change_at map u path m r
  change_same path here (mark.File m s n) (rec.File mode owner flags size name) = rw here refl
  change_same path here (mark.File m s n) (rec.Dir mode owner) = refl
  change_same path here (mark.File m s n) (rec.Link target) = refl
  change_same path here mark.Nothing r = refl
  change_same path here (mark.Dir mode) r = refl
  change_same path here (mark.Link target) r = refl

  found_same : (path : Name) (r : FileRec) → get t path ≡ get u path → found_at map t path r ≡ found_at map u path r
  found_same path r here = rw (here, change_same path here (fingerprint (get u path)) r) refl

  findings_same : (files : List FileAt) → AreOuter files → findings map t files ≡ findings map u files
  findings_same [] outer = refl
  findings_same (file ∷ files) outer =
      ap (λ (f : Option Found). cons_option (option_map (finding_of file.path) f) (findings map t files)) (found_same file.path file.rec (same file.path outer.0))
      ∙ ap (cons_option (option_map (finding_of file.path) (found_at map u file.path file.rec))) (findings_same files outer.1)

  pub verified_same : (troves : List TroveParts) → AreOuter (records troves) → verified map t troves ≡ verified map u troves
  verified_same troves outer = rw (findings_same (records troves) outer) refl
