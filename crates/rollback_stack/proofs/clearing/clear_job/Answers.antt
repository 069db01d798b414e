use Rattle.std.proofs.Common.{◌≢◌, subst, sym, refl}
use Rattle.job_targets.specs.tree-disk.Tree.{Name}
use Rattle.job_targets.specs.cny-base.Path.{root}
use Rattle.job_targets.specs.tree-disk.Clear.{is_within, without_tree}
use Rattle.job_targets.proofs.tree-disk.StepLaws.{makes_stop, makes_then, makes_then_stop, makes_wider}
use Rattle.local_db.specs.Names.{record_file, saved}
use Rattle.rollback_stack.proofs.Places.{record_not_root, saved_not_root}
use Rattle.change_rel.proofs.cny-base.Bools.{or_left, or_right}
use Rattle.rollback_stack.proofs.clearing.clear_job.Goals as goal

pub clear_tree-requires : goal.clear_tree-requires
clear_tree-requires g c = subst (λ (q : Name). q ≢ root) (sym c.in_ok-record.ensures) (record_not_root c.args.number)

pub clear_tree-requires-2 : goal.clear_tree-requires-2
clear_tree-requires-2 g c = subst (λ (q : Name). q ≢ root) (sym c.in_ok-saved.ensures) (saved_not_root c.args.number)

pub returns-in_err-clear_tree : goal.returns-in_err-clear_tree
returns-in_err-clear_tree g c =
    makes_stop (makes_wider (λ q h. or_left (is_within (record_file c.args.number) q) _ h) (rw c.in_ok-record.ensures at c.in_err-clear_tree.ensures)) c.from_residual-in_err-clear_tree.ensures.1

pub returns-in_err-clear_tree-2 : goal.returns-in_err-clear_tree-2
returns-in_err-clear_tree-2 g c =
    makes_then_stop {next = λ t. without_tree t (saved c.args.number)}
    (makes_wider (λ q h. or_left (is_within (record_file c.args.number) q) _ h) (rw c.in_ok-record.ensures at c.in_ok-clear_tree.ensures))
    (λ q h. or_right (is_within (record_file c.args.number) q) _ h) (rw c.in_ok-saved.ensures at c.in_err-clear_tree-2.ensures) c.from_residual-in_err-clear_tree-2.ensures.1

pub returns : goal.returns
returns g c =
    makes_then {next = λ t. without_tree t (saved c.args.number)}
    (makes_wider (λ q h. or_left (is_within (record_file c.args.number) q) _ h) (rw c.in_ok-record.ensures at c.in_ok-clear_tree.ensures))
    (λ q h. or_right (is_within (record_file c.args.number) q) _ h) (rw c.in_ok-saved.ensures at c.in_ok-clear_tree-2.ensures) (λ tells. refl)
