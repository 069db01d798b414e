use Rattle.std.proofs.Common.{inl, inr}
use Rattle.cli_call.specs.Command.{disks}
use Rattle.cli_call.proofs.OpenedEnds.{contents_more}
use Rattle.cli_call.proofs.CommandLaws.{performs_more}
use Rattle.cli_call.proofs.SetFaults.{no_set, no_set_whole}
use Rattle.root_commands.specs.Update as spec
use Rattle.cli_call.proofs.StoreLaws.{nothing_done}
use Rattle.root_commands.proofs.updating.update_input.Goals as goal

pub returns-in_err-set-clause-performs : goal.returns-in_err-set-clause-performs
returns-in_err-set-clause-performs g c = no_set g.met.T.TreeDisk.laws g.met.P.TreeDisk.laws c.store_laws.ensures (spec.update_input c.args.options.now) c.args.input.now (disks c.args.root.now c.args.repo.now c.args.opened.now) c.requires (λ s outcome fault. inr fault) c.in_err-set.field-0.0 c.in_err-set.ensures.refused c.in_err-set.ensures.only c.from_residual.result c.from_residual.ensures.1

pub returns-clause-performs : goal.returns-clause-performs
returns-clause-performs g c =
    let old = disks c.args.root.now c.args.repo.now c.args.opened.now in
    let new = disks c.update_by.new.root c.update_by.new.repo c.update_by.new.opened in
    performs_more (spec.update_by c.args.options.now c.in_ok-set.set) (spec.update_input c.args.options.now) c.args.input.now c.args.input.now (λ s outcome is. inl (record { set = c.in_ok-set.set; spelled = c.in_ok-set.ensures.value; is = is }))
    old new c.update_by.result (c.update_by.ensures.performs c.args.input.now)

pub returns-in_err-set-clause-repo_read : goal.returns-in_err-set-clause-repo_read
returns-in_err-set-clause-repo_read g c = λ told. nothing_done g.met.P.TreeDisk.laws c.args.repo.now

pub returns-clause-repo_read : goal.returns-clause-repo_read
returns-clause-repo_read g c = c.update_by.ensures.repo_read

-- ---- by what was read when the disks were opened, and the contents that stand whole

pub returns-in_err-set-clause-whole : goal.returns-in_err-set-clause-whole
returns-in_err-set-clause-whole g c = no_set_whole g.met.T.TreeDisk.laws g.met.P.TreeDisk.laws c.store_laws.ensures (spec.update_input c.args.options.now) c.args.input.now (disks c.args.root.now c.args.repo.now c.args.opened.now) c.requires (λ s outcome fault. inr fault) c.in_err-set.field-0.0 c.in_err-set.ensures.refused c.in_err-set.ensures.only c.from_residual.result c.from_residual.ensures.1

pub returns-clause-whole : goal.returns-clause-whole
returns-clause-whole g c =
    let old = disks c.args.root.now c.args.repo.now c.args.opened.now in
    let new = disks c.update_by.new.root c.update_by.new.repo c.update_by.new.opened in
    contents_more (spec.update_by c.args.options.now c.in_ok-set.set) (spec.update_input c.args.options.now) c.args.input.now c.args.input.now old new c.update_by.result
    (λ s has outcome is. inl (record { set = c.in_ok-set.set; spelled = c.in_ok-set.ensures.value; is = is })) (c.update_by.ensures.whole c.args.input.now)
