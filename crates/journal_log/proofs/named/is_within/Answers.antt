use Rattle.std.proofs.Common.{sym, ap, ◌∙◌}
use Rattle.std.specs.Option.{option_copied}
use Rattle.journal_log.proofs.Naming.{not_within, whole_within, part_within}
use Rattle.journal_log.proofs.named.is_within.Goals as goal

pub returns-in_default : goal.returns-in_default
returns-in_default c = sym (not_within c.args.name.now c.args.path.now c.in_default.ensures.none)

pub returns-in-None : goal.returns-in-None
returns-in-None c = whole_within c.args.name.now c.in-Some.rest.now c.args.path.now c.in-Some.ensures.some (sym (ap option_copied c.in-None.is) ∙ c.first.ensures.value)

pub returns-in-Some-first : goal.returns-in-Some-first
returns-in-Some-first c = part_within c.args.name.now c.in-Some.rest.now c.args.path.now c.in-Some-first.byte.now c.in-Some.ensures.some (sym (ap option_copied c.in-Some-first.is) ∙ c.first.ensures.value)
