use Rattle.std.proofs.Common.{◌≡◌, ℕ}
use Rattle.change_set.specs.cny-base.declared.refusal.Fault.{Fault}
use Rattle.change_set.specs.cny-base.declared.refusal.Fault.TheVariants.{Memory}
use Rattle.change_set.specs.declared.change.ChangeSet.{ChangeSet}
use Rattle.repo_mirror.specs.Faults.{IsPlaceOrMemory}
use Rattle.repo_mirror.specs.Replies.{IsReplyFault}
use Rattle.repo_mirror.proofs.ItemFaults.{malformed_by, passed}
use Rattle.repo_mirror.proofs.SetReplies.{only_memory}
use Rattle.repo_mirror.proofs.taking.take.Goals as goal

pub returns-in_err-set-clause-only : goal.returns-in_err-set-clause-only
returns-in_err-set-clause-only c = λ set reply.
    passed (λ (taken : ChangeSet). taken ≡ set) (λ (why : Fault). why ≡ Memory) c.from_residual.result c.in_err-set.field-0.0 c.from_residual.ensures.1
    (only_memory c.args.bytes.now set reply c.in_err-set.field-0.0 c.in_err-set.ensures.refused)

pub returns-in_err-set-clause-exact : goal.returns-in_err-set-clause-exact
returns-in_err-set-clause-exact c = λ place fault.
    passed (λ (taken : ChangeSet). ⊥) (IsPlaceOrMemory place) c.from_residual.result c.in_err-set.field-0.0 c.from_residual.ensures.1
    (malformed_by (IsReplyFault c.args.bytes.now) (λ (other : ℕ). other ≡ place) (λ other is. c.one_reply.ensures.one_place c.args.bytes.now other place is fault) c.in_err-set.field-0.0 c.in_err-set.ensures.refused)

pub returns-clause-only : goal.returns-clause-only
returns-clause-only c = λ set reply. c.one_reply.ensures.unique c.in_ok-set.set set c.args.bytes.now c.in_ok-set.ensures.value reply

pub returns-clause-exact : goal.returns-clause-exact
returns-clause-exact c = λ place fault. c.one_reply.ensures.excluded c.in_ok-set.set c.args.bytes.now place c.in_ok-set.ensures.value fault
