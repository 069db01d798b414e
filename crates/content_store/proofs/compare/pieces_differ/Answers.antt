use Rattle.std.proofs.Common.{length, drop, take, Ok, sym, ap, ◌∙◌}
use Rattle.tree_disk.specs.Tree.{Tree}
use Rattle.tree_disk.specs.Rows.{bytes_at}
use Rattle.tree_disk.proofs.StepLaws.{tests_answer}
use Rattle.content_store.specs.Difference.{first_difference}
use Rattle.content_store.proofs.Differences.{pieces_read}
use Rattle.tree_disk.proofs.Deciding.{tests_next}
use Rattle.content_store.proofs.compare.pieces_differ.Goals as goal

pub returns-clause-tests : goal.returns-clause-tests
returns-clause-tests g c =
    let run = tests_next g.met.D.TreeDisk.laws c.in_ok-kept.ensures.tests c.in_ok-count.ensures.tests in
    let file = bytes_at (g.D.TreeDisk.disk.reads c.args.disk.now) c.args.path.now in
    tests_answer run (λ tells.
    let first = c.in_ok-kept.ensures.filled tells in
    let second = c.in_ok-count.ensures.filled tells in
    ap Ok (ap (λ (t : Tree). first_difference (take (length c.args.own.now) (drop c.args.at file)) (take (length c.args.own.now) (drop c.args.at (bytes_at t c.args.other.now)))) (sym (c.in_ok-kept.ensures.tests.same tells).same.reads)
    ∙ pieces_read _ _ c.args.buf.now _ c.args.own.now _ c.args.at c.in_ok-kept.kept c.in_ok-count.count c.requires.same first.most first.bytes second.most second.bytes
    ∙ sym c.difference.ensures.value))
