use Rattle.cny_base.proofs.Numbers.{form_back, value_back}
use Rattle.cny_base.proofs.number.decimal.Goals as goal

pub returns-clause-form : goal.returns-clause-form
returns-clause-form c small = form_back c.args.n small

pub returns-clause-back : goal.returns-clause-back
returns-clause-back c = value_back c.args.n c.ranges.n.fits
