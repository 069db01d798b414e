use Rattle.std.proofs.Common.{◌∙◌}
use Rattle.trove_stream.proofs.Names.{goes_on, other_front}
use Rattle.trove_stream.proofs.rules.is_component_of.Goals as goal

pub returns-in_default : goal.returns-in_default
returns-in_default c = other_front c.args.whole.now c.args.name.now c.in_default.ensures.cases

pub returns : goal.returns
returns c = c.begins_with_colon.ensures ∙ goes_on c.args.whole.now c.args.name.now c.in-Some.rest.now c.in-Some.ensures.cases.0 c.in-Some.ensures.cases.1
