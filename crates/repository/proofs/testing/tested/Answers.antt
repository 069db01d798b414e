use Rattle.std.proofs.Common.{arith}
use Rattle.repo_load.specs.tree-disk.Moments.{same_start, time_start}
use Rattle.repository.specs.Outcome.{committed_contents}
use Rattle.repository.proofs.Checking.{empty_list, full_list, made_of, none_tested}
use Rattle.repository.proofs.Ordering.{later_first, parts_stop}
use Rattle.repository.proofs.testing.tested.Goals as goal

pub returns-then-is_empty-clause-tested : goal.returns-then-is_empty-clause-tested
returns-then-is_empty-clause-tested g c =
    let empty = empty_list c.troves.ensures.value c.is_empty.ensures c.if-is_empty.true in record {
      later = omega arith;
      same = λ tells. record { answer = tt; same = same_start g.D.TreeDisk.disk c.args.disk.now; time = time_start g.met.D.TreeDisk.laws c.args.disk.now };
      ends = λ tells. record {
        made = made_of c.args.committed.now.troves g.change.parts c.args.parts.now c.in_ok-added.added.troves c.requires.1.1.0 c.in_ok-added.ensures.made;
        passed = none_tested c.args.committed.now (committed_contents c.args.committed.now.troves (g.D.TreeDisk.disk.reads c.args.disk.now)) g.change.contents c.in_ok-added.added.troves empty;
      };
    }

pub returns-then-is_empty-clause-joins : goal.returns-then-is_empty-clause-joins
returns-then-is_empty-clause-joins g c =
    let empty = empty_list c.troves.ensures.value c.is_empty.ensures c.if-is_empty.true in
    record { made = made_of c.args.committed.now.troves g.change.parts c.args.parts.now c.in_ok-added.added.troves c.requires.1.1.0 c.in_ok-added.ensures.made; refs = λ full. absurd (full empty); few = λ full. absurd (full empty) }

pub returns-clause-tested : goal.returns-clause-tested
returns-clause-tested g c =
    let checks = c.in_ok-check_troves.ensures.checks in
    record { later = checks.later; same = checks.same; ends = λ tells. record { made = made_of c.args.committed.now.troves g.change.parts c.args.parts.now c.in_ok-added.added.troves c.requires.1.1.0 c.in_ok-added.ensures.made; passed = checks.ends tells } }

pub returns-clause-joins : goal.returns-clause-joins
returns-clause-joins g c = record { made = made_of c.args.committed.now.troves g.change.parts c.args.parts.now c.in_ok-added.added.troves c.requires.1.1.0 c.in_ok-added.ensures.made; refs = λ full. c.in_ok-check_troves.ensures.refs; few = λ full. c.in_ok-check_troves.ensures.few }

pub returns-then-is_empty-clause-sound : goal.returns-then-is_empty-clause-sound
returns-then-is_empty-clause-sound g c tells full =
    absurd (full (empty_list c.troves.ensures.value c.is_empty.ensures c.if-is_empty.true))

pub returns-clause-sound : goal.returns-clause-sound
returns-clause-sound g c tells full = c.in_ok-check_troves.ensures.sound tells

pub returns-in_err-added-clause-first : goal.returns-in_err-added-clause-first
returns-in_err-added-clause-first g c tells =
    let k = c.args.committed.now in
    parts_stop k (g.D.TreeDisk.disk.reads c.args.disk.now) g.change c.args.parts.now _ c.from_residual.result
    c.requires.1.1.0 c.in_err-added.ensures.refused c.from_residual.ensures.1

pub returns-in_err-check_troves-clause-first : goal.returns-in_err-check_troves-clause-first
returns-in_err-check_troves-clause-first g c tells =
    let k = c.args.committed.now in
    later_first k (g.D.TreeDisk.disk.reads c.args.disk.now) g.change c.in_ok-added.added.troves _ c.from_residual-in_err-check_troves.result
    (made_of k.troves g.change.parts c.args.parts.now c.in_ok-added.added.troves c.requires.1.1.0 c.in_ok-added.ensures.made)
    (c.in_err-check_troves.ensures.first tells) c.from_residual-in_err-check_troves.ensures.1

pub check_troves-requires : goal.check_troves-requires
check_troves-requires g c = λ κs lives. (lives.0, (lives.1, (full_list c.troves.ensures.value c.is_empty.ensures c.if-is_empty.false, (c.requires.1.1.1.0, (c.requires.1.1.1.1.0, c.requires.1.1.1.1.1)))))
