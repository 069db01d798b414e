use Rattle.std.proofs.Common.{◌≡◌, List, ℕ, Result, Err, MatchResult, refl, sym, subst}
use Rattle.std.proofs.lemmas.Result.{err_from_is_err_and}
use Rattle.trove_stream.specs.cny-base.declared.refusal.Refusal.{Refusal}
use Rattle.trove_stream.specs.cny-base.declared.refusal.Fault.{Fault}
use Rattle.trove_stream.specs.cny-base.declared.refusal.Fault.TheVariants.{Refused, Memory}
use Rattle.change_set.specs.declared.change.ChangeSet.{ChangeSet}
use Rattle.change_set.specs.FirstFault.{IsFirstFault, IsFaultOf, IsRefusalOrMemory}
use Rattle.change_set.proofs.reading.decode.Goals as goal

-- without a first fault only want of memory is left
memory_alone : (bytes : List ℕ) (f : Fault) → IsFaultOf bytes f → ((r : Refusal) → IsFirstFault bytes r → ⊥) → f ≡ Memory
memory_alone bytes (Refused r) is none = absurd (none r is)
memory_alone bytes Memory is none = refl

-- with one, that is refused, or memory ran out
refused_alone : (bytes : List ℕ) (f : Fault) (refusal : Refusal) → IsFaultOf bytes f → ((r : Refusal) → IsFirstFault bytes r → r ≡ refusal) → IsRefusalOrMemory refusal f
refused_alone bytes (Refused r) refusal is one = one r is
refused_alone bytes Memory refusal is one = tt

-- a fault that is handed on
handed : (P : ChangeSet → Type 0) (Q : Fault → Type 0) (r : Result ChangeSet Fault) (met : Fault) → ((e : Fault) × (r ≡ Err e) × (e ≡ met)) → Q met → MatchResult r P Q
handed P Q r met given is = subst (λ x. MatchResult x P Q) (sym given.1) (subst Q (sym given.2) is)

pub returns-in_err-set-clause-only : goal.returns-in_err-set-clause-only
returns-in_err-set-clause-only c set is =
    handed (λ read. read ≡ set) (λ fault. fault ≡ Memory) c.from_residual.result c.in_err-set.field-0.0 (err_from_is_err_and c.from_residual.result c.from_residual.ensures.1)
    (memory_alone c.args.bytes.now c.in_err-set.field-0.0 c.in_err-set.ensures.refused (λ r fault. c.one_fault.ensures.excluded c.args.bytes.now r set fault is))

pub returns-in_err-set-clause-exact : goal.returns-in_err-set-clause-exact
returns-in_err-set-clause-exact c refusal is =
    handed (λ read. ⊥) (IsRefusalOrMemory refusal) c.from_residual.result c.in_err-set.field-0.0 (err_from_is_err_and c.from_residual.result c.from_residual.ensures.1)
    (refused_alone c.args.bytes.now c.in_err-set.field-0.0 refusal c.in_err-set.ensures.refused (λ r fault. c.one_fault.ensures.unique c.args.bytes.now r refusal fault is))

pub returns-clause-only : goal.returns-clause-only
returns-clause-only c set is = c.unique_set.ensures c.in_ok-set.set set c.args.bytes.now c.in_ok-set.ensures.value is

pub returns-clause-exact : goal.returns-clause-exact
returns-clause-exact c refusal is = c.one_fault.ensures.excluded c.args.bytes.now refusal c.in_ok-set.set is c.in_ok-set.ensures.value
