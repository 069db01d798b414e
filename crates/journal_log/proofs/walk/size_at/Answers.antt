use Rattle.std.proofs.Common.{◌≡◌, ℕ, List, Ok, length, take, drop, sym, ap, ◌∙◌, arith, length-drop, ◌-◌}
use Rattle.tree_disk.specs.Rows.{bytes_at}
use Rattle.tree_disk.proofs.StepLaws.{tests_answer}
use Rattle.tree_disk.proofs.cny-base.ByteLists.{read_front}
use Rattle.journal_log.specs.Walk.{item_size}
use Rattle.journal_log.proofs.walk.size_at.Goals as goal

pub returns-clause-tests : goal.returns-clause-tests
returns-clause-tests g c = tests_answer c.in_ok-count.ensures.tests (λ tells. (
    let file = bytes_at (g.D.TreeDisk.disk.reads c.args.disk.now) c.args.path.now in
    let read = c.in_ok-count.ensures.filled tells in
    let front = read_front file _ _ c.args.at c.in_ok-count.count read.most read.bytes in
    let left : length (drop c.args.at file) ≡ c.args.size - c.args.at = omega (arith, length-drop c.args.at file, c.requires.size tells, c.requires.within) in
    ap Ok (ap (λ (l : List ℕ). item_size c.args.tags.now (length (drop c.args.at file)) l) (sym front)
    ∙ ap (λ (n : ℕ). item_size c.args.tags.now n (take c.in_ok-count.count c.read_at.new.buf)) left ∙ sym c.item_size.ensures.size)))
