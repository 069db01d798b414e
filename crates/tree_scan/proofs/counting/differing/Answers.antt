use Rattle.std.proofs.Common.{◌≡◌, ◌+◌, ◌-◌, ℕ, min, length, Ok, ap, ◌∙◌, arith}
use Rattle.std.specs.Prelude.{unwrap_or}
use Rattle.tree_disk.specs.cny-base.Compare.{count_of_differing}
use Rattle.tree_disk.specs.Looks.{size_seen}
use Rattle.tree_disk.specs.Rows.{bytes_at}
use Rattle.tree_disk.proofs.StepLaws.{tests_answer, tests_value}
use Rattle.tree_scan.proofs.Counts.{differing_front}
use Rattle.tree_scan.proofs.Seen.{size_or_zero}
use Rattle.tree_disk.proofs.Deciding.{tests_next}
use Rattle.tree_scan.proofs.counting.differing.Goals as goal

pub returns-clause-tests : goal.returns-clause-tests
returns-clause-tests g c =
    let run = tests_next g.met.D.TreeDisk.laws c.in_ok-look.ensures.tests c.in_ok-count.ensures.tests in
    tests_answer run (λ tells.
    let file = bytes_at (g.D.TreeDisk.disk.reads c.args.disk.now) c.args.path.now in
    let long : c.unwrap_or-size.result ≡ length file =
    c.unwrap_or-size.ensures ∙ ap (λ o. unwrap_or o 0) c.size.ensures ∙ ap (λ l. unwrap_or (size_seen l) 0) (tests_value c.in_ok-look.ensures.tests tells) ∙ size_or_zero (g.D.TreeDisk.disk.reads c.args.disk.now) c.args.path.now in
    let front = differing_front file c.args.bytes.now c.room_for-common.result (c.room_for-common.ensures ∙ ap (λ (n : ℕ). min n (length c.args.bytes.now)) long) in
    let counted : c.in_ok-count.count ≡ count_of_differing file c.args.bytes.now = tests_value run tells ∙ front in
    let rest = c.abs_diff.ensures in
    let all : count_of_differing file c.args.bytes.now + ((length file - length c.args.bytes.now) + (length c.args.bytes.now - length file)) ≡ c.in_ok-count.count + c.abs_diff.result = omega (arith, counted, rest, long) in
    ap Ok all)
