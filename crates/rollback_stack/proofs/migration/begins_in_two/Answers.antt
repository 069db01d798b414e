use Rattle.std.proofs.Common.{◌≡◌, Ok, List, ℕ, take, sym, ◌∙◌, ap}
use Rattle.job_targets.specs.cny-base.Below.{begins_with}
use Rattle.job_targets.specs.tree-disk.Rows.{bytes_at}
use Rattle.job_targets.proofs.cny-base.ByteLists.{read_front}
use Rattle.local_db.specs.Formats.{database_magic}
use Rattle.local_db.specs.declared.format.Format.TheVariants.{Two}
use Rattle.local_db.proofs.tree-disk.StepLaws.{tests_answer}
use Rattle.rollback_stack.proofs.Migrating.{front_begins}
use Rattle.rollback_stack.proofs.migration.begins_in_two.Goals as goal

pub returns-clause-tests : goal.returns-clause-tests
returns-clause-tests g c = tests_answer c.in_ok-count.ensures.tests (λ tells. (
    let bytes = bytes_at (g.D.TreeDisk.disk.reads c.args.disk.now) c.args.path.now in
    let read = c.in_ok-count.ensures.filled tells in
    let front = read_front bytes _ _ 0 c.in_ok-count.count read.most read.bytes in
    ap Ok (sym (front_begins (database_magic Two) bytes) ∙ ap (begins_with (database_magic Two)) (sym front) ∙ sym c.has_magic.ensures)))
