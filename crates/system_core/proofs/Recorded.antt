-- What two lists record is what a job may change.
use Rattle.std.proofs.Common.{◌≡◌, ◌⊎◌, inl, inr, ⊎_elim, Bool, true, false, cond, List, [], ◌∷◌, ◌++◌, Option, Some, None, refl, subst}
use Rattle.std.proofs.lemmas.List.Elements.{recursion_from_All}
use Rattle.std.specs.List.{All, AllByRecursion}
use Rattle.std.specs.Option.{is_some}
use Rattle.rollback_stack.specs.cny-base.Path.{is_path}
use Rattle.rollback_stack.specs.cny-base.Reserved.{is_reserved}
use Rattle.rollback_stack.specs.trove-parts.declared.files.FileAt.{FileAt}
use Rattle.rollback_stack.specs.trove-parts.Files.{IsFileAt}
use Rattle.rollback_stack.specs.trove-stream.declared.parts.TroveParts.{TroveParts}
use Rattle.rollback_stack.specs.trove-stream.Forbidden.{first_forbidden, is_forbidden_file}
use Rattle.rollback_stack.specs.trove-stream.Trove.{IsTrove}
use Rattle.rollback_stack.specs.tree-disk.Laws.{same_means}
use Rattle.rollback_stack.specs.tree-disk.Tree.{Name, same_name}
use Rattle.local_db.specs.SystemState.{IsFree}
use Rattle.conflict_plan.specs.declared.planned.Planned.{Planned}
use Rattle.conflict_plan.specs.Claims.{Claim, claims, claims_in, first_record, record_at}
use Rattle.conflict_plan.specs.Plan.{IsPlannable}
use Rattle.local_db.proofs.cny-base.Bools.{first_false}
use Rattle.tree_journal.proofs.tree-disk.ClearLaws.{or_cases as or_means}

-- a path that a trove may record
pub record IsRecordable (path : Name) : Type 0 where
  pub path_is : is_path path ≡ true
  pub outside : is_reserved path ≡ false

-- where the first file is no forbidden one, and no later one is
allowed_first : (b : Bool) (path : Name) (rest : Option Name) → cond b (Some path) rest ≡ None → (b ≡ false) × (rest ≡ None)
allowed_first true path rest is = absurd (cc is)
allowed_first false path rest is = (refl, is)

files_recordable : (name : List Rattle.std.proofs.Common.ℕ) (files : List FileAt) (path : Name) → AllByRecursion IsFileAt files → first_forbidden files ≡ None
    → is_some (first_record (claims_in name files path)) ≡ true → IsRecordable path
files_recordable name [] path are none is = absurd (cc is)
files_recordable name (file ∷ files) path are none is =
    let both = allowed_first (is_forbidden_file file) file.path (first_forbidden files) none in
    at (same_name file.path path) refl is both (λ later. files_recordable name files path are.1 both.1 later)
  where
    at : (b : Bool) → same_name file.path path ≡ b → is_some (first_record (cond b ((name, file.rec) ∷ claims_in name files path) (claims_in name files path))) ≡ true
        → (is_forbidden_file file ≡ false) × (first_forbidden files ≡ None) → (is_some (first_record (claims_in name files path)) ≡ true → IsRecordable path) → IsRecordable path
    at true same is both rest = record {
      path_is = subst (λ p. is_path p ≡ true) (same_means file.path path same) are.0.path;
      outside = subst (λ p. is_reserved p ≡ false) (same_means file.path path same) (first_false (is_reserved file.path) _ both.0);
    }
    at false other is both rest = rest is

-- the first of two lists of claims that has any
either_claims : (a b : List Claim) → is_some (first_record (a ++ b)) ≡ true → (is_some (first_record a) ≡ true) ⊎ (is_some (first_record b) ≡ true)
either_claims [] b is = inr is
either_claims (c ∷ a) b is = inl refl

pub list_recordable : (list : List TroveParts) (path : Name) → AllByRecursion IsTrove list → AllByRecursion (λ (t : TroveParts). first_forbidden t.files ≡ None) list
    → is_some (record_at list path) ≡ true → IsRecordable path
list_recordable [] path are allowed is = absurd (cc is)
list_recordable (t ∷ list) path are allowed is = ⊎_elim
    (λ here. files_recordable t.id.name t.files path (recursion_from_All IsFileAt t.files are.0.lists.files.valid) allowed.0 here)
    (λ later. list_recordable list path are.1 allowed.1 later)
    (either_claims (claims_in t.id.name t.files path) (claims list path) is)

-- what is planned by two lists is at paths that a job may change
pub plannable_free : (old fresh : List TroveParts) (x : Planned) → All IsTrove old → All IsTrove fresh
    → All (λ (t : TroveParts). first_forbidden t.files ≡ None) old → All (λ (t : TroveParts). first_forbidden t.files ≡ None) fresh → IsPlannable old fresh x → IsFree x.path
plannable_free old fresh x olds freshes old_allowed fresh_allowed is =
    let recordable = ⊎_elim
    (λ here. list_recordable old x.path (recursion_from_All IsTrove old olds) (recursion_from_All _ old old_allowed) here)
    (λ here. list_recordable fresh x.path (recursion_from_All IsTrove fresh freshes) (recursion_from_All _ fresh fresh_allowed) here)
    (or_means (is_some (record_at old x.path)) (is_some (record_at fresh x.path)) is.recorded) in
    record { path_is = recordable.path_is; not_reserved = recordable.outside; not_pinned = is.not_pinned }
