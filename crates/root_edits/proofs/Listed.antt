-- Names and troves, one after the other.
use Rattle.std.proofs.Common.{◌≡◌, ◌∙◌, sym, ap, subst, ⊎_elim, ℕ, ◌+◌, ◌<◌, ◌≤◌, min, List, [], ◌∷◌, ◌++◌, length, take, get_or, Option, Some, None, Contains, arith}
use Rattle.std.specs.Option.{is_some}
use Rattle.std.specs.Prelude.{IfSome, true, slice_get}
use Rattle.std.proofs.lemmas.Option.{slice_get-get_or, slice_get_within, same_Some}
use Rattle.std.proofs.lemmas.List.{take_more}
use Rattle.std.proofs.lemmas.List.Elements.{Contains-push_cases, filter-append}
use Rattle.std.proofs.lemmas.Grind.{flat_map-append}
use Rattle.update_job.specs.trove-stream.declared.parts.TroveParts.{TroveParts}
use Rattle.tree_scan.specs.tree-disk.Tree.{Name}
use Rattle.update_job.specs.trove-stream.Installed.{IsNameless, IsPlaceOf}
use Rattle.update_job.specs.Lists.{AreInstalled}
use Rattle.root_edits.specs.Verify.{asked, is_asked}
use Rattle.root_edits.specs.Local.{records}

-- ---- names

contains_at : (xs : List TroveParts) (i : ℕ) (x : TroveParts) → slice_get xs i ≡ Some x → Contains xs x
contains_at xs i x at =
    let within = slice_get_within xs i x at in
    (i, within, same_Some (get_or xs i x) x (sym (slice_get-get_or xs i x within) ∙ at))

-- a trove of the name is installed
pub is_there : (list : List TroveParts) (name : Name) (o : Option ℕ) → IfSome o (λ (place : ℕ). IsPlaceOf name list place) → is_some o ≡ true → IsNameless name list → ⊥
is_there list name None at some none = absurd cc
is_there list name (Some place) at some none = none at.trove (contains_at list place at.trove at.there) at.named

-- so far each name is installed
pub record InstalledSoFar (list : List TroveParts) (names : List Name) : Type 0 where
  pub installed : AreInstalled list names

pub installed_more : (list : List TroveParts) (names : List Name) (i : ℕ) (name : Name) → i < length names → name ≡ get_or names i name → (IsNameless name list → ⊥)
    → InstalledSoFar list (take i names) → InstalledSoFar list (take (i + 1) names)
installed_more list names i name within is there so_far = record {
  installed = λ other among none. ⊎_elim
      (λ before. so_far.installed other before none)
      (λ last. there (subst (λ (n : Name). IsNameless n list) (sym last) none))
      (Contains-push_cases (take i names) name other (subst (λ (l : List Name). Contains l other) one_more among));
}
  where
    one_more : take (i + 1) names ≡ take i names ++ name ∷ []
    one_more = take_more names i name within ∙ ap (λ (n : Name). take i names ++ n ∷ []) (sym is)

-- ---- troves

pub records_next : (names : List Name) (t : TroveParts) (rest : List TroveParts) → records (asked names (t ∷ rest)) ≡ records (asked names (t ∷ [])) ++ records (asked names rest)
records_next names t rest = ap records (filter-append (is_asked names) (t ∷ []) rest) ∙ flat_map-append (λ (u : TroveParts). u.files) (asked names (t ∷ [])) (asked names rest)

-- ---- counts

pub count_end : (names : List Name) (rest : List TroveParts) (count most x : ℕ) → length rest < 1 → count ≤ most → min (count + length (records (asked names rest))) most ≡ x → count ≡ x
count_end names [] count most x none fits so_far = omega (arith, fits, so_far)
count_end names (t ∷ rest) count most x none fits so_far = absurd (omega (arith, none))
