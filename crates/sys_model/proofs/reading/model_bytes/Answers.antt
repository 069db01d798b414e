use Rattle.std.proofs.Common.{Err, sym, subst, ap, ◌∙◌, arith}
use Rattle.repo_index.specs.cny-base.declared.stop.Stop.{Stop}
use Rattle.tree_disk.specs.Rows.{look_of}
use Rattle.tree_disk.proofs.StepLaws.{tests_refuse, tests_value}
use Rattle.tree_disk.specs.Steps.{Tests}
use Rattle.sys_model.specs.RootModel.{model_file}
use Rattle.sys_model.proofs.ModelSizes.{large_seen}
use Rattle.sys_model.proofs.reading.model_bytes.Goals as goal

pub returns-then-size-clause-tests : goal.returns-then-size-clause-tests
returns-then-size-clause-tests g c =
    let disk = g.T.TreeDisk.disk in
    let tested = c.in_ok-look.ensures.tests in
    subst (λ (s : Stop). Tests disk (λ bytes. bytes) model_file c.args.root.now c.look.new.disk (Err s)) (sym c.too_large.ensures)
    (tests_refuse tested (λ tells. large_seen (disk.reads c.args.root.now) c.in_ok-look.look c.in-Some.size (tests_value tested tells ∙ ap (look_of (disk.reads c.args.root.now)) c.in_ok-path.ensures) (sym c.size.ensures ∙ c.in-Some.is) (omega arith)))
