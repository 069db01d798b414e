use Rattle.std.proofs.Common.{◌≡◌, ◌≤◌, List, ℕ, length, length-drop, length-take, drop, take, Ok, refl, sym, ap, ◌∙◌, arith}
use Rattle.tree_disk.specs.Rows.{bytes_at}
use Rattle.tree_disk.proofs.StepLaws.{tests_answer, tests_value}
use Rattle.content_store.specs.Difference.{first_difference}
use Rattle.content_store.proofs.Differences.{behind_found_both, behind_longer, behind_on_both}
use Rattle.tree_disk.proofs.Deciding.{tests_next}
use Rattle.content_store.proofs.compare.pieces_of_files.Goals as goal

pub returns-in-Some-clause-tests : goal.returns-in-Some-clause-tests
returns-in-Some-clause-tests g c =
    let run = tests_next g.met.D.TreeDisk.laws c.pieces.invariant.so_far c.in_ok-found.ensures.tests in
    tests_answer run (λ tells. ap Ok (behind_found_both _ _ c.pieces.at _ c.in-Some.place (c.pieces.invariant.behind tells) (sym (tests_value run tells) ∙ c.in-Some.is)))

pub pieces-preserved : goal.pieces-preserved
pieces-preserved g c =
    let other = bytes_at (g.D.TreeDisk.disk.reads c.args.disk.now) c.args.other.now in
    let file = bytes_at (g.D.TreeDisk.disk.reads c.args.disk.now) c.args.path.now in
    let run = tests_next g.met.D.TreeDisk.laws c.pieces.invariant.so_far c.in_ok-found.ensures.tests in
    let sized : (l : List ℕ) → c.room_for-room.result ≤ length l → length (take c.room_for-room.result l) ≡ c.room_for-room.result = λ l le. omega (arith, length-take c.room_for-room.result l) in
    let long : length (take c.room_for-room.result c.pieces.own) ≡ c.room_for-room.result = sized c.pieces.own (omega (arith, c.room_for-room.ensures)) in
    record {
      so_far = tests_answer run (λ tells. refl);
      behind = λ tells. behind_on_both file other c.pieces.at c.room_for-room.result (c.pieces.invariant.behind tells)
          (omega (arith, c.room_for-room.ensures, length-drop c.pieces.at other, c.requires.other_size tells))
          (ap (λ (n : ℕ). first_difference (take n (drop c.pieces.at file)) (take n (drop c.pieces.at other))) (sym long) ∙ sym (tests_value run tells) ∙ c.in_default.is);
      within = omega (arith, c.room_for-room.ensures, c.pieces.invariant.within);
    }

pub returns-then-size-at-clause-tests : goal.returns-then-size-at-clause-tests
returns-then-size-at-clause-tests g c =
    tests_answer c.pieces.invariant.so_far (λ tells. ap Ok (behind_longer _ _ c.pieces.at (c.pieces.invariant.behind tells) (omega (arith, c.requires.other_size tells)) (omega (arith, c.requires.size tells))))
