-- At most one outcome where tests follow one another, each of which ends in one way.
use Rattle.std.proofs.Common.{◌≡◌, inl, inr, ℕ, List, Result, Ok, Err, sym, ◌∙◌, subst}
use Rattle.conary_cli.specs.cli-call.cny-base.declared.refusal.Refusal.{Refusal}
use Rattle.conary_cli.specs.cli-call.change-set.declared.change.ChangeSet.{ChangeSet}
use Rattle.conary_cli.specs.cli-call.change-set.ChangeSet.{IsSetStream}
use Rattle.conary_cli.specs.cli-call.change-set.FirstFault.{IsFirstFault}
use Rattle.conary_cli.specs.cli-call.cny-laws.Reading.{given}
use Rattle.conary_cli.specs.cli-call.cny-laws.State.{Effect, Meaning, State, Then, tree_of}
use Rattle.conary_cli.specs.cli-call.system-core.FixedDirs.{fixed_dirs}
use Rattle.cny_manifest.specs.declared.made.Made.{Made}
use Rattle.cny_manifest.specs.FirstFault as manifest_fault
use Rattle.cny_manifest.specs.Makes.{Makes}
use Rattle.trove_spec.specs.AndThen.{AndThen}
use Rattle.conary_cli.specs.cli-call.ManifestInput.{OfManifest}
use Rattle.conary_cli.specs.cli-call.SetInput.{OfChangeSet}
use Rattle.outcome_laws.specs.OneOutcome.{AtMostOne, IsState, HasOneOutcome}

abbrev pub done : Effect → Result Effect Refusal
done e = Ok e

abbrev pub refused : Refusal → Result Effect Refusal
refused r = Err r

-- ---- tests

pub then_once : {A : Type 0} (test : Result A Refusal) (Is : A → Result Effect Refusal → Type 0) → ((x : A) → AtMostOne (Is x)) → AtMostOne (Then test Is)
then_once (Ok x) Is one = one x
then_once (Err r) Is one = λ a b h g. h ∙ sym g

-- the tests that all commands share come before
pub with_shared : (m : Meaning) → ((s : State) (input : List ℕ) → IsState s → AtMostOne (m.IsOutcome s input)) → HasOneOutcome m
with_shared m one = λ s input state. then_once (fixed_dirs (tree_of s.root)) (λ _. Then (given m.takes_input input) (m.IsOutcome s))
    (λ _. then_once (given m.takes_input input) (m.IsOutcome s) (λ bytes. one s bytes state))

pub and_then_once : {A B : Type 0} (Test : Result A Refusal → Type 0) (Rest : A → Result B Refusal → Type 0) → AtMostOne Test → ((x : A) → AtMostOne (Rest x)) → AtMostOne (AndThen Test Rest)
and_then_once {A} {B} Test Rest test rest a b (inl x) (inl y) =
    let same : x.value ≡ y.value = cc (test (Ok x.value) (Ok y.value) x.found y.found) in
    rest y.value a b (subst (λ (v : A). Rest v a) same x.rest) y.rest
and_then_once {A} {B} Test Rest test rest a b (inl x) (inr y) = absurd (cc (test (Ok x.value) (Err y.refusal) x.found y.refused))
and_then_once {A} {B} Test Rest test rest a b (inr x) (inl y) = absurd (cc (test (Err x.refusal) (Ok y.value) x.refused y.found))
and_then_once {A} {B} Test Rest test rest a b (inr x) (inr y) =
    let same : x.refusal ≡ y.refusal = cc (test (Err x.refusal) (Err y.refusal) x.refused y.refused) in
    subst (λ (r : Refusal). a ≡ Err r) same x.is ∙ sym y.is

-- ---- inputs

-- Bytes are the stream of one change set at most, and have one first fault at most.
pub record SetLaws : Type 0 where
  pub set : (set other : ChangeSet) (bytes : List ℕ) → IsSetStream set bytes → IsSetStream other bytes → set ≡ other
  pub fault : (bytes : List ℕ) (r q : Refusal) → IsFirstFault bytes r → IsFirstFault bytes q → r ≡ q

pub set_once : SetLaws → (bytes : List ℕ) (Is : ChangeSet → Result Effect Refusal → Type 0) → ((set : ChangeSet) → AtMostOne (Is set)) → AtMostOne (OfChangeSet bytes Is)
set_once laws bytes Is each a b (inl x) (inl y) = each y.set a b (subst (λ (c : ChangeSet). Is c a) (laws.set x.set y.set bytes x.spelled y.spelled) x.is) y.is
set_once laws bytes Is each a b (inl x) (inr y) = absurd (y.none x.set x.spelled)
set_once laws bytes Is each a b (inr x) (inl y) = absurd (x.none y.set y.spelled)
set_once laws bytes Is each a b (inr x) (inr y) = subst (λ (r : Refusal). a ≡ Err r) (laws.fault bytes x.fault y.fault x.first y.first) x.is ∙ sym y.is

-- Bytes make one value at most, and have one first fault at most, and never both.
pub record ManifestLaws : Type 0 where
  pub made : (bytes : List ℕ) (a b : Made) → Makes bytes a → Makes bytes b → a ≡ b
  pub excluded : (bytes : List ℕ) (a : Made) (f : Refusal) → Makes bytes a → manifest_fault.IsFirstFault bytes f → ⊥
  pub fault : (bytes : List ℕ) (f g : Refusal) → manifest_fault.IsFirstFault bytes f → manifest_fault.IsFirstFault bytes g → f ≡ g

pub manifest_once : ManifestLaws → (bytes : List ℕ) (Is : Made → Result Effect Refusal → Type 0) → ((made : Made) → AtMostOne (Is made)) → AtMostOne (OfManifest bytes Is)
manifest_once laws bytes Is each a b (inl x) (inl y) = each y.made a b (subst (λ (m : Made). Is m a) (laws.made bytes x.made y.made x.makes y.makes) x.is) y.is
manifest_once laws bytes Is each a b (inl x) (inr y) = absurd (laws.excluded bytes x.made y.fault x.makes y.first)
manifest_once laws bytes Is each a b (inr x) (inl y) = absurd (laws.excluded bytes y.made x.fault y.makes x.first)
manifest_once laws bytes Is each a b (inr x) (inr y) = subst (λ (r : Refusal). a ≡ Err r) (laws.fault bytes x.fault y.fault x.first y.first) x.is ∙ sym y.is
