-- Troves with another version record the same contents.
use Rattle.std.proofs.Common.{◌≡◌, ℕ, ◌||◌, Bool, true, false, IsTrue, List, [], ◌∷◌, map, Option, Some, None, Result, Ok, refl, sym, ap, subst}
use Rattle.std.specs.List.{list_any}
use Rattle.cli_call.specs.cny-base.declared.refusal.Fault.{Fault}
use Rattle.cli_call.specs.cny-base.declared.refusal.Fault.TheVariants as fault
use Rattle.cli_call.specs.cny-base.declared.refusal.Refusal.{Refusal}
use Rattle.cny_version.specs.Version.{WholeVersion}
use Rattle.cli_call.specs.trove-stream.declared.parts.TroveParts.{TroveParts}
use Rattle.cli_call.specs.change-set.declared.change.Carried.{Carried}
use Rattle.cli_call.specs.change-set.declared.change.Part.TheVariants.{Whole}
use Rattle.cli_call.specs.change-set.ChangeSet.{has_record, HasContents}
use Rattle.repo_index.specs.Next.{next_refusal, next_version, trove_with, unless_refused}
use Rattle.repo_index.specs.Steps.{IsErrOrMemory}
use Rattle.repo_commands.specs.Cook.{cooked_troves, set_carrying, set_of_result}

same_records : (v : WholeVersion) (name : List ℕ) (size : ℕ) (troves : List TroveParts) → list_any (has_record name size) (map Whole (map (trove_with v) troves)) ≡ list_any (has_record name size) (map Whole troves)
same_records v name size [] = refl
same_records v name size (t ∷ troves) = ap (λ (b : Bool). has_record name size (Whole t) || b) (same_records v name size troves)

kept : (v : WholeVersion) (contents : List Carried) (troves : List TroveParts) → HasContents (set_carrying contents troves) → HasContents (set_carrying contents (map (trove_with v) troves))
kept v contents troves has = record {
  contents = λ k d within.
      let old = has.contents k d within in record {
        hash = old.hash;
        twenty = old.twenty;
        recorded = subst IsTrue (sym (same_records v _ _ troves)) old.recorded;
      };
  rising = has.rising;
}

same_ok : {A : Type 0} (a : Result A Refusal) (x y : A) → a ≡ Ok x → a ≡ Ok y → x ≡ y
same_ok a x y one two = cc

unrefused : {A : Type 0} (o : Option Refusal) (x y : A) → unless_refused o x ≡ Ok y → x ≡ y
unrefused None x y is = same_ok (Ok x) x y refl is
unrefused (Some refusal) x y is = absurd (cc is)

-- so what is cooked carries the contents of its troves
pub cooked_contents : (next : Bool) (committed : List TroveParts) (contents : List Carried) (troves made : List TroveParts) → HasContents (set_carrying contents troves) → cooked_troves next committed troves ≡ Ok made → HasContents (set_carrying contents made)
cooked_contents false committed contents troves made has is = subst (λ (l : List TroveParts). HasContents (set_carrying contents l)) (same_ok (Ok troves) troves made refl is) has
cooked_contents true committed contents [] made has is = subst (λ (l : List TroveParts). HasContents (set_carrying contents l)) (same_ok (Ok []) [] made refl is) has
cooked_contents true committed contents (first ∷ troves) made has is =
    let v = next_version first.id committed in
    subst (λ (l : List TroveParts). HasContents (set_carrying contents l)) (unrefused (next_refusal first.id committed) (map (trove_with v) (first ∷ troves)) made is)
    (kept v contents (first ∷ troves) has)

-- where there are no troves there is no change set
pub set_refused : (contents : List Carried) (o : Result (List TroveParts) Refusal) (f : Fault) → IsErrOrMemory o f → IsErrOrMemory (set_of_result contents o) f
set_refused contents o (fault.Refused r) is = ap (set_of_result contents) is
set_refused contents o fault.Memory is = tt
