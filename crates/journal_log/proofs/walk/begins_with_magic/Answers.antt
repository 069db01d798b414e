use Rattle.std.proofs.Common.{Ok, List, ℕ, nat_eq, take, sym, ◌∙◌, ap}
use Rattle.std.specs.Cmp.Lexicographic.{pointwise}
use Rattle.tree_disk.specs.Rows.{bytes_at}
use Rattle.tree_disk.proofs.StepLaws.{tests_answer}
use Rattle.tree_disk.proofs.cny-base.ByteLists.{begins_by, read_front}
use Rattle.journal_log.proofs.walk.begins_with_magic.Goals as goal

pub returns-clause-tests : goal.returns-clause-tests
returns-clause-tests g c = tests_answer c.in_ok-count.ensures.tests (λ tells. (
    let bytes = bytes_at (g.D.TreeDisk.disk.reads c.args.disk.now) c.args.path.now in
    let read = c.in_ok-count.ensures.filled tells in
    let front = read_front bytes _ _ 0 c.in_ok-count.count read.most read.bytes in
    ap Ok (sym (begins_by c.args.magic.now bytes)
    ∙ ap (λ (n : ℕ). pointwise nat_eq (take n bytes) c.args.magic.now) c.requires.magic
    ∙ ap (λ (l : List ℕ). pointwise nat_eq l c.args.magic.now) (sym front) ∙ sym c.eq.ensures)))
