use Rattle.std.proofs.Common.{false, inl, inr}
use Rattle.std.proofs.lemmas.Bool.{false≢true}
use Rattle.cli_call.proofs.OpenedEnds.{files_kept}
use Rattle.cli_call.specs.Command.{disks}
use Rattle.repo_commands.specs.Commit.{commit}
use Rattle.cli_call.proofs.SetFaults.{no_set_acts, no_set_whole}
use Rattle.cli_call.specs.change-set.ChangeSet.{IsSetStream}
use Rattle.repo_commands.proofs.CommitEnds.{set_acts, set_whole}
use Rattle.repo_commands.proofs.committing.commit_input.Goals as goal

pub returns-in_err-set-clause-performs : goal.returns-in_err-set-clause-performs
returns-in_err-set-clause-performs g c = no_set_acts g.met.T.TreeDisk.laws g.met.P.TreeDisk.laws c.store_laws.ensures commit c.args.input.now (disks c.args.root.now c.args.repo.now c.args.opened.now) c.requires (λ s outcome fault. inr fault) c.in_err-set.field-0.0 c.in_err-set.ensures.refused c.in_err-set.ensures.only c.from_residual.result c.from_residual.ensures.1

pub returns-clause-performs : goal.returns-clause-performs
returns-clause-performs g c = set_acts (λ set. IsSetStream set c.args.input.now) commit c.args.input.now (λ s outcome is. inl is) _ _ c.in_ok-set.set c.in_ok-set.ensures.value c.commit_set.result (c.commit_set.ensures.performs c.args.input.now)

pub returns-in_err-set-clause-whole : goal.returns-in_err-set-clause-whole
returns-in_err-set-clause-whole g c = no_set_whole g.met.T.TreeDisk.laws g.met.P.TreeDisk.laws c.store_laws.ensures commit c.args.input.now (disks c.args.root.now c.args.repo.now c.args.opened.now) c.requires (λ s outcome fault. inr fault) c.in_err-set.field-0.0 c.in_err-set.ensures.refused c.in_err-set.ensures.only c.from_residual.result c.from_residual.ensures.1

pub returns-clause-whole : goal.returns-clause-whole
returns-clause-whole g c = set_whole (λ set. IsSetStream set c.args.input.now) commit c.args.input.now (λ s outcome is. inl is) _ _ c.in_ok-set.set c.in_ok-set.ensures.value c.commit_set.result (c.commit_set.ensures.whole c.args.input.now)

-- ---- what stays

pub returns-in_err-set-clause-files : goal.returns-in_err-set-clause-files
returns-in_err-set-clause-files g c = files_kept g.met.P.TreeDisk.laws c.args.opened.now.catalogue false c.args.repo.now

pub returns-clause-files : goal.returns-clause-files
returns-clause-files g c = c.commit_set.ensures.files false (λ is. absurd (false≢true is))
