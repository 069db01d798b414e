-- Faults of items: one place at most, and none where a good item stands.
use Rattle.std.proofs.Common.{◌≡◌, inl, inr, ⊎_elim, ℕ, IsTrue, List, ◌++◌, drop, sym, ◌∙◌, subst}
use Rattle.cny_stream.specs.Item.{FitsItem, item_bytes, is_expected}
use Rattle.cny_stream.proofs.ItemLaws.{same_item}
use Rattle.change_set.specs.cny-base.declared.refusal.Fault.{Fault}
use Rattle.change_set.specs.cny-base.declared.refusal.Fault.TheVariants.{Refused, Memory}
use Rattle.std.specs.Prelude.{Result, Ok, Err, IsErrAnd, MatchResult}
use Rattle.change_set.specs.cny-base.declared.text.TextFault.{TextFault}
use Rattle.repo_mirror.specs.Faults.{IsBadItem, IsItemFault, IsMalformed, LacksItem}

module _ (IsGood : ℕ → List ℕ → Type 0) (tags : List ℕ) (at : ℕ) (bytes : List ℕ) where
  pub no_fault : (tag : ℕ) (value rest : List ℕ) → IsTrue (is_expected tags tag) → FitsItem value → drop at bytes ≡ item_bytes tag value ++ rest
      → ((t : ℕ) (v : List ℕ) → t ≡ tag → v ≡ value → IsGood t v) → (place : ℕ) → IsItemFault IsGood tags at bytes place → ⊥
  no_fault tag value rest expected fits spelled good place fault = ⊎_elim
      (λ (lacks : LacksItem tags at bytes place). lacks.none tag value rest expected fits spelled)
      (λ (bad : IsBadItem IsGood tags at bytes place).
      let same = same_item bad.tag tag bad.value value bad.rest rest bad.fits fits (sym bad.spelled ∙ spelled) in
      bad.bad (good bad.tag bad.value same.tags same.values))
      fault

  pub one_fault : (place other : ℕ) → IsItemFault IsGood tags at bytes place → IsItemFault IsGood tags at bytes other → place ≡ other
  one_fault place other (inl a) (inl b) = a.place_is ∙ sym b.place_is
  one_fault place other (inl a) (inr b) = absurd (a.none b.tag b.value b.rest b.expected b.fits b.spelled)
  one_fault place other (inr a) (inl b) = absurd (b.none a.tag a.value a.rest a.expected a.fits a.spelled)
  one_fault place other (inr a) (inr b) = a.place_is ∙ sym b.place_is

-- a refusal with a place, for another reason
pub malformed_by : (P Q : ℕ → Type 0) → ((place : ℕ) → P place → Q place) → (why : Fault) → IsMalformed P why → IsMalformed Q why
malformed_by P Q by (Refused refusal) is = (is.0, is.1, by is.0 is.2)
malformed_by P Q by Memory is = tt

-- the fault that was met is the one that is told
pub met_is : {T : Type 0} (r : Result T TextFault) (met told : TextFault) → ((e : TextFault) × (r ≡ Err e) × (e ≡ met)) → r ≡ Err told → met ≡ told
met_is r met told is same = cc (is.1, is.2, same)

-- a fault that is handed on
pub passed : {T : Type 0} (A : T → Type 0) (P : Fault → Type 0) (r : Result T Fault) (why : Fault) → IsErrAnd r (λ y. y ≡ why) → P why → MatchResult r A P
passed A P (Ok x) why handed is = absurd handed
passed A P (Err e) why handed is = subst P (sym handed) is
