use Rattle.std.proofs.Common.{◌≡◌, true, false, eqb, length, sym, arith}
use Rattle.cny_version.specs.Slices.{parts_of}
use Rattle.cny_version.proofs.VersionSteps.{no_first_slash, text_before_slash, no_second_slash, no_first_label, from_first_label}
use Rattle.cny_version.proofs.scan.first_label.Goals as goal

pub returns-in_default-clause-found : goal.returns-in_default-clause-found
returns-in_default-clause-found c = no_first_slash c.args.whole c.args.text.now c.in_default.ensures.pieces

pub returns-then-not-is_empty-clause-found : goal.returns-then-not-is_empty-clause-found
returns-then-not-is_empty-clause-found c =
    let some : eqb (length c.in-Some.before.now) 0 ≡ false = grind arith in
    text_before_slash c.args.whole c.args.text.now c.in-Some.before.now _ c.in-Some.ensures.pieces some

pub returns-in_default-cut-clause-found : goal.returns-in_default-cut-clause-found
returns-in_default-cut-clause-found c =
    let empty : eqb (length c.in-Some.before.now) 0 ≡ true = grind arith in
    no_second_slash c.args.whole c.args.text.now c.in-Some.before.now c.in-Some.rest.now c.in-Some.ensures.pieces empty c.in_default-cut.ensures.pieces

pub returns-in-Some-next-clause-found : goal.returns-in-Some-next-clause-found
returns-in-Some-next-clause-found c =
    let empty : eqb (length c.in-Some.before.now) 0 ≡ true = grind arith in
    from_first_label c.args.whole c.args.text.now c.in-Some.before.now c.in-Some.rest.now c.in-Some-cut.first.now c.in-Some-cut.rest.now (parts_of c.in-Some-next.label)
    c.in-Some.ensures.pieces empty c.in-Some-cut.ensures.pieces (sym c.in-Some-next.ensures.found)

pub returns-in-None-clause-found : goal.returns-in-None-clause-found
returns-in-None-clause-found c =
    let empty : eqb (length c.in-Some.before.now) 0 ≡ true = grind arith in
    no_first_label c.args.whole c.args.text.now c.in-Some.before.now c.in-Some.rest.now c.in-Some-cut.first.now c.in-Some-cut.rest.now
    c.in-Some.ensures.pieces empty c.in-Some-cut.ensures.pieces (sym c.in-None.ensures.found)
