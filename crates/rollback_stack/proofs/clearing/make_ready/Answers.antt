use Rattle.std.proofs.Common.{◌∙◌, ap, refl}
use Rattle.job_targets.specs.cny-base.Path.{is_path, parent}
use Rattle.job_targets.specs.cny-base.Reserved.{private_directory}
use Rattle.job_targets.specs.tree-disk.Tree.{Name, Tree, is_dir}
use Rattle.job_targets.specs.tree-disk.Rows.{is_dir_at}
use Rattle.job_targets.proofs.tree-disk.StepLaws.{makes_stop, makes_then, makes_then_stop, makes_wider}
use Rattle.job_targets.specs.tree-journal.Apply.{with_base}
use Rattle.local_db.proofs.FileNames.{base_is_path}
use Rattle.rollback_stack.specs.Saving.{without_dropped, without_job}
use Rattle.rollback_stack.proofs.Keeping.{base_name, dropped_elsewhere, dropped_name, job_elsewhere, own_name}
use Rattle.rollback_stack.proofs.Places.{above_not_place}
use Rattle.rollback_stack.proofs.clearing.make_ready.Goals as goal

pub returns-in_err-clear_dropped-clause-makes : goal.returns-in_err-clear_dropped-clause-makes
returns-in_err-clear_dropped-clause-makes g c =
    makes_stop (makes_wider (dropped_name c.args.number c.args.dropped) c.in_err-clear_dropped.ensures.makes) c.from_residual-in_err-clear_dropped.ensures.1

pub returns-in_err-clear_job-clause-makes : goal.returns-in_err-clear_job-clause-makes
returns-in_err-clear_job-clause-makes g c =
    makes_then_stop {next = without_job c.args.number} (makes_wider (dropped_name c.args.number c.args.dropped) c.in_ok-clear_dropped.ensures.makes)
    (own_name c.args.number c.args.dropped) c.in_err-clear_job.ensures c.from_residual-in_err-clear_job.ensures.1

pub make_dir-requires-clause-path : goal.make_dir-requires-clause-path
make_dir-requires-clause-path g c = ap is_path c.in_ok-base.ensures ∙ base_is_path

pub make_dir-requires-clause-parent : goal.make_dir-requires-clause-parent
make_dir-requires-clause-parent g c tells =
    let old = g.D.TreeDisk.disk.reads c.args.disk.now in
    let d1 = g.D.TreeDisk.disk.reads c.clear_dropped.new.disk in
    let d2 = g.D.TreeDisk.disk.reads c.clear_job.new.disk in
    ap (λ (p : Name). is_dir_at d2 (parent p)) c.in_ok-base.ensures
    ∙ ap (λ (t : Tree). is_dir_at t (parent private_directory)) (c.in_ok-clear_job.ensures.ended tells)
    ∙ ap is_dir (job_elsewhere c.args.number d1 (parent private_directory) (above_not_place c.args.number))
    ∙ ap (λ (t : Tree). is_dir_at t (parent private_directory)) (c.in_ok-clear_dropped.ensures.makes.ended tells)
    ∙ ap is_dir (dropped_elsewhere c.args.dropped old (parent private_directory) above_not_place)
    ∙ c.requires.parent tells

pub returns-in_err-make_dir-clause-makes : goal.returns-in_err-make_dir-clause-makes
returns-in_err-make_dir-clause-makes g c =
    makes_then_stop {next = with_base private_directory}
    (makes_then {next = without_job c.args.number} {goal = λ t. without_job c.args.number (without_dropped c.args.dropped t)} (makes_wider (dropped_name c.args.number c.args.dropped) c.in_ok-clear_dropped.ensures.makes)
    (own_name c.args.number c.args.dropped) c.in_ok-clear_job.ensures (λ tells. refl))
    (base_name c.args.number c.args.dropped) (rw c.in_ok-base.ensures at c.in_err-make_dir.ensures) c.from_residual-in_err-make_dir.ensures.1

pub returns-clause-makes : goal.returns-clause-makes
returns-clause-makes g c =
    makes_then {next = with_base private_directory}
    (makes_then {next = without_job c.args.number} {goal = λ t. without_job c.args.number (without_dropped c.args.dropped t)} (makes_wider (dropped_name c.args.number c.args.dropped) c.in_ok-clear_dropped.ensures.makes)
    (own_name c.args.number c.args.dropped) c.in_ok-clear_job.ensures (λ tells. refl))
    (base_name c.args.number c.args.dropped) (rw c.in_ok-base.ensures at c.in_ok-make_dir.ensures) (λ tells. refl)
