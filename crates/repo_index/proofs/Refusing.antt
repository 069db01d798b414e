-- Why there is no next version.
use Rattle.std.proofs.Common.{◌≡◌, ◌<◌, ◌≤◌, ◌==◌, ℕ, Bool, true, false, cond, length, Option, Some, None, Ok, Err, refl, sym, ap, ◌∙◌, arith}
use Rattle.std.proofs.lemmas.Bool.{lt-ltb, le-ltb}
use Rattle.std.proofs.lemmas.Bool.Decides.{nat_tests}
use Rattle.trove_stream.specs.cny-base.declared.limits.TheConstants.{COUNT_LIMIT, VERSION_LIMIT}
use Rattle.trove_stream.specs.cny-base.declared.refusal.Fault.{Fault}
use Rattle.trove_stream.specs.cny-base.declared.refusal.Fault.TheVariants.{Refused, Memory}
use Rattle.trove_stream.specs.cny-base.declared.refusal.Refusal.{Refusal}
use Rattle.trove_stream.specs.cny-base.declared.refusal.Refusal.TheVariants.{TooLarge}
use Rattle.trove_stream.specs.cny-base.declared.refusal.What.TheVariants as what
use Rattle.cny_version.specs.declared.revision.Revision.{Revision}
use Rattle.cny_version.specs.Next.{latest_count, number_to_raise}
use Rattle.cny_version.specs.TooLarge.{TooLargeOrMemory}
use Rattle.cny_version.specs.Version.{WholeVersion, depth, version_text}
use Rattle.repo_index.specs.Next.{long_refusal, refusal_after, version_after}
use Rattle.cny_version.specs.cny-base.Refusals.{IsRefusalOrMemory}

-- ---- the tests

pub is_limit : (n : ℕ) → n ≡ COUNT_LIMIT → (n == COUNT_LIMIT) ≡ true
is_limit n is = grind (arith, nat_tests)

pub not_limit : (n : ℕ) → (n ≡ COUNT_LIMIT → ⊥) → (n == COUNT_LIMIT) ≡ false
not_limit n other = by (n == COUNT_LIMIT) refl
  where
    equal : (n == COUNT_LIMIT) ≡ true → n ≡ COUNT_LIMIT
    equal is = grind (arith, nat_tests)

    by : (b : Bool) → (n == COUNT_LIMIT) ≡ b → b ≡ false
    by true is = absurd (other (equal is))
    by false is = refl

-- the length of the text of the version
abbrev pub size_of : WholeVersion → ℕ
size_of v = length (version_text v)

module _ (v : WholeVersion) (last : Option Revision) where
  abbrev pub number : ℕ
  number = number_to_raise (depth v.branch) (latest_count v.revision last)

  pub behind_count : (o : Option Refusal) → (number ≡ COUNT_LIMIT → ⊥) → long_refusal (version_after v last) ≡ o → refusal_after v last ≡ o
  behind_count o other is = ap (λ (b : Bool). cond b (Some (TooLarge what.Count COUNT_LIMIT)) (long_refusal (version_after v last))) (not_limit number other) ∙ is

  pub count_refused : (e : Fault) → (e ≡ Refused (TooLarge what.Count COUNT_LIMIT) → number ≡ COUNT_LIMIT) → TooLargeOrMemory what.Count COUNT_LIMIT e → IsRefusalOrMemory (refusal_after v last) e
  count_refused (Refused r) why is =
      ap (λ (b : Bool). cond b (Some (TooLarge what.Count COUNT_LIMIT)) (long_refusal (version_after v last))) (is_limit number (why (ap Refused is))) ∙ ap Some (sym is)
  count_refused Memory why is = tt

  pub long_is : VERSION_LIMIT < size_of (version_after v last) → long_refusal (version_after v last) ≡ Some (TooLarge what.Version (size_of (version_after v last)))
  long_is long = ap (λ (b : Bool). cond b (Some (TooLarge what.Version (size_of (version_after v last)))) None) (lt-ltb VERSION_LIMIT (size_of (version_after v last)) long)

  pub short_is : size_of (version_after v last) ≤ VERSION_LIMIT → long_refusal (version_after v last) ≡ None
  short_is short = ap (λ (b : Bool). cond b (Some (TooLarge what.Version (size_of (version_after v last)))) None) (le-ltb VERSION_LIMIT (size_of (version_after v last)) short)

  pub version_refused : (e : Fault) → (number ≡ COUNT_LIMIT → ⊥) → (e ≡ Refused (TooLarge what.Version (size_of (version_after v last))) → VERSION_LIMIT < size_of (version_after v last)) → TooLargeOrMemory what.Version (size_of (version_after v last)) e → IsRefusalOrMemory (refusal_after v last) e
  version_refused (Refused r) other why is = behind_count (Some r) other (long_is (why (ap Refused is)) ∙ ap Some (sym is))
  version_refused Memory other why is = tt

  pub none_refused : (number ≡ COUNT_LIMIT → ⊥) → (VERSION_LIMIT < size_of (version_after v last) → ⊥) → refusal_after v last ≡ None
  none_refused other short = behind_count None other (short_is (omega (arith, short)))

pub not_err : {A E : Type 0} {x : A} {e : E} → Ok x ≡ Err e → ⊥
not_err is = absurd (cc is)
