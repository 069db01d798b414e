use Rattle.std.proofs.Common.{◌≡◌, ℕ, ◌-◌, min, length, drop, take, Ok, sym, ap, ◌∙◌, arith}
use Rattle.std.proofs.lemmas.List.{length-take, length-drop}
use Rattle.tree_disk.specs.cny-base.Compare.{count_of_differing}
use Rattle.tree_disk.specs.Rows.{bytes_at}
use Rattle.tree_disk.proofs.StepLaws.{tests_answer}
use Rattle.tree_scan.proofs.Buffers.{read_count}
use Rattle.tree_scan.proofs.Counts.{differing_common, few_differing}
use Rattle.tree_scan.proofs.counting.compare_piece.Goals as goal

pub returns-clause-tests : goal.returns-clause-tests
returns-clause-tests g c =
    tests_answer c.in_ok-read.ensures.tests (λ tells.
    ap (λ (n : ℕ). Ok (min n (length (bytes_at (g.D.TreeDisk.disk.reads c.args.disk.now) c.args.path.now) - c.args.at))) (sym c.requires.same)
    ∙ c.in_ok-read.ensures.tests.found tells)

pub returns-clause-differing : goal.returns-clause-differing
returns-clause-differing g c tells =
    let file = bytes_at (g.D.TreeDisk.disk.reads c.args.disk.now) c.args.path.now in
    let filled = c.in_ok-read.ensures.filled tells in
    let read = c.in_ok-read.read in
    let few : read ≡ min (length c.args.own.now) (length (drop c.args.at file)) = omega (arith, filled.most, c.requires.same, length-drop c.args.at file) in
    c.count_different-differing.ensures
    ∙ ap (λ l. count_of_differing l (take read c.args.own.now)) (read_count file c.args.buf.now _ c.args.at read filled.most filled.bytes)
    ∙ differing_common (drop c.args.at file) c.args.own.now read few

pub returns-clause-few : goal.returns-clause-few
returns-clause-few g c =
    let read = c.in_ok-read.read in
    omega (arith, c.count_different-differing.ensures, few_differing (take read c.read_at.new.buf) (take read c.args.own.now), length-take read c.args.own.now)
