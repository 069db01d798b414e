use Rattle.change_set.proofs.cny-base.Faults.{handed_on}
use Rattle.repo_mirror.specs.Faults.{IsMalformed}
use Rattle.repo_mirror.specs.Replies.{IsNoEnd, IsReplyFault}
use Rattle.repo_mirror.proofs.ItemFaults.{malformed_by}
use Rattle.repo_mirror.proofs.SetReplies.{no_end}
use Rattle.repo_mirror.proofs.taking.read_reply.Goals as goal

pub returns-in_err-check_end-clause-refused : goal.returns-in_err-check_end-clause-refused
returns-in_err-check_end-clause-refused c =
    let bytes = c.args.bytes.now in
    let item = c.in_ok-item.item in
    handed_on (IsMalformed (IsReplyFault bytes)) c.from_residual-in_err-check_end.result c.in_err-check_end.field-0.0 c.from_residual-in_err-check_end.ensures.1
    (malformed_by (IsNoEnd bytes item.to) (IsReplyFault bytes)
    (no_end bytes item.from item.to c.in_default.ensures.ok c.in_ok-item.ensures.found.1 c.in_ok-set.set c.in_ok-set.ensures.value)
    c.in_err-check_end.field-0.0 c.in_err-check_end.ensures.refused)
