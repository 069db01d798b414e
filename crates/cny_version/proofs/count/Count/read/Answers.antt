use Rattle.std.proofs.Common.{◌≡◌, ◌-◌, Some, sym, ap, ◌∙◌, arith, rules}
use Rattle.cny_version.specs.Reading.{number_found, pieces, count_found}
use Rattle.cny_version.proofs.CountLoops.{behind, count_no_room, still_behind}
use Rattle.cny_version.proofs.count.Count.read.Goals as goal

pub returns-then-room-eq0 : goal.returns-then-room-eq0
returns-then-room-eq0 c =
    sym c.loop-first.invariant.same
    ∙ ap (behind c.loop-first.numbers.items) (count_no_room c.loop-first.room c.loop-first.rest.now c.in-Some.first.now c.in-Some.after.now c.in-Some.ensures.pieces c.if-room-eq0.true)

pub loop-first-preserved : goal.loop-first-preserved
loop-first-preserved c =
    let found : number_found c.in-Some.first.now ≡ Some c.in_ok-number.number = grind arith in
    record {
      utf8 = search rules;
      same = ap (λ items. behind items (count_found (c.loop-first.room - 1) (pieces 46 c.in-Some.after.now))) c.in_ok-push.ensures.items
          ∙ still_behind c.loop-first.numbers.items c.loop-first.room c.in_ok-number.number c.loop-first.rest.now c.in-Some.first.now c.in-Some.after.now c.in-Some.ensures.pieces (omega arith) found
          ∙ c.loop-first.invariant.same;
    }
