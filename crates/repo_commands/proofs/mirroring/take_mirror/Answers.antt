use Rattle.std.proofs.Common.{false, inl}
use Rattle.std.proofs.lemmas.Bool.{false≢true}
use Rattle.cli_call.specs.Alone.{ActsOnRepository, AnswersByContents}
use Rattle.cli_call.proofs.OpenedEnds.{files_kept}
use Rattle.cli_call.specs.Command.{disks}
use Rattle.cli_call.specs.cny-laws.Failures.{failure_of_fault}
use Rattle.repo_mirror.specs.Replies.{IsSetReply}
use Rattle.repo_commands.specs.TakeMirror.{take_mirror}
use Rattle.repo_commands.proofs.CommitEnds.{set_acts, set_whole}
use Rattle.repo_commands.proofs.MirrorEnds.{no_reply, no_reply_whole}
use Rattle.cny_version.proofs.cny-base.Passing.{err_is}
use Rattle.repo_commands.proofs.mirroring.take_mirror.Goals as goal

pub returns-in_err-set-clause-performs : goal.returns-in_err-set-clause-performs
returns-in_err-set-clause-performs g c =
    let m = disks c.args.root.now c.args.repo.now c.args.opened.now in
    err_is (ActsOnRepository g.T.TreeDisk.disk g.P.TreeDisk.disk take_mirror c.args.input.now m m) c.from_residual.result (failure_of_fault c.in_err-set.field-0.0) c.from_residual.ensures.1
    (no_reply c.args.input.now m g.met.P.TreeDisk.laws c.store_laws.ensures c.requires c.in_err-set.field-0.0 c.in_err-set.ensures.refused)

pub commit_set-requires-clause-contents : goal.commit_set-requires-clause-contents
commit_set-requires-clause-contents g c = c.in_ok-set.ensures.value.stream.stream.set_is.has_contents

pub returns-clause-performs : goal.returns-clause-performs
returns-clause-performs g c = set_acts (λ set. IsSetReply set c.args.input.now) take_mirror c.args.input.now (λ s outcome is. inl is) _ _ c.in_ok-set.set c.in_ok-set.ensures.value c.commit_set.result (c.commit_set.ensures.performs c.args.input.now)

pub returns-in_err-set-clause-whole : goal.returns-in_err-set-clause-whole
returns-in_err-set-clause-whole g c =
    let m = disks c.args.root.now c.args.repo.now c.args.opened.now in
    err_is (AnswersByContents g.T.TreeDisk.disk g.P.TreeDisk.disk take_mirror c.args.input.now m m) c.from_residual.result (failure_of_fault c.in_err-set.field-0.0) c.from_residual.ensures.1
    (no_reply_whole c.args.input.now m g.met.T.TreeDisk.laws c.requires c.in_err-set.field-0.0 c.in_err-set.ensures.refused)

pub returns-clause-whole : goal.returns-clause-whole
returns-clause-whole g c = set_whole (λ set. IsSetReply set c.args.input.now) take_mirror c.args.input.now (λ s outcome is. inl is) _ _ c.in_ok-set.set c.in_ok-set.ensures.value c.commit_set.result (c.commit_set.ensures.whole c.args.input.now)

-- ---- what stays

pub returns-in_err-set-clause-files : goal.returns-in_err-set-clause-files
returns-in_err-set-clause-files g c = files_kept g.met.P.TreeDisk.laws c.args.opened.now.catalogue false c.args.repo.now

pub returns-clause-files : goal.returns-clause-files
returns-clause-files g c = c.commit_set.ensures.files false (λ is. absurd (false≢true is))
