use Rattle.sys_model.specs.Held.{held_in}
use Rattle.sys_model.proofs.Doubts.{before_least, next_served, none_left}
use Rattle.sys_model.proofs.doubting.first_unmet.Goals as goal

pub returns-in-Some-unmet_of-clause-some : goal.returns-in-Some-unmet_of-clause-some
returns-in-Some-unmet_of-clause-some c = record {
  name = c.in-Some.name;
  first = c.in-Some-unmet_of.ensures.some;
  before = before_least (held_in c.args.view.now) c.loop-name.doubted c.in-Some.name c.loop-name.invariant c.in-Some.ensures.least;
}

pub loop-name-preserved : goal.loop-name-preserved
loop-name-preserved c =
    next_served (held_in c.args.view.now) c.loop-name.doubted c.pop_first.new.self c.in-Some.name c.loop-name.invariant c.in-Some.ensures.removal c.in_default-unmet_of.ensures.none

pub returns-clause-none : goal.returns-clause-none
returns-clause-none c = none_left (held_in c.args.view.now) c.loop-name.doubted c.loop-name.invariant c.in_default.ensures.variant.1
