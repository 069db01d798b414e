use Rattle.std.proofs.Common.{sym, ap, ◌∙◌, arith, rules}
use Rattle.std.specs.Option.{is_some}
use Rattle.cny_version.proofs.CountLoops.{count_no_room, still_some}
use Rattle.cny_version.proofs.count.is_count.Goals as goal

pub returns-then-room-eq0 : goal.returns-then-room-eq0
returns-then-room-eq0 c =
    sym (ap is_some (count_no_room c.loop-first.room c.loop-first.rest.now c.in-Some.first.now c.in-Some.after.now c.in-Some.ensures.pieces c.if-room-eq0.true)) ∙ c.loop-first.invariant.same

pub loop-first-preserved : goal.loop-first-preserved
loop-first-preserved c = record {
  utf8 = search rules;
  same = still_some c.loop-first.room c.in-Some-number._number c.loop-first.rest.now c.in-Some.first.now c.in-Some.after.now c.in-Some.ensures.pieces (omega arith) (sym c.in-Some-number.ensures)
      ∙ c.loop-first.invariant.same;
}
