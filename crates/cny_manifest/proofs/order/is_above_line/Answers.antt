use Rattle.std.proofs.Common.{sym, ◌∙◌}
use Rattle.cny_manifest.specs.Body.{dep_line_cmp}
use Rattle.cny_manifest.proofs.Names.{last_above}
use Rattle.cny_manifest.proofs.order.is_above_line.Goals as goal

pub returns-in-Some : goal.returns-in-Some
returns-in-Some c = c.comes_before.ensures ∙ sym (last_above dep_line_cmp c.args.lines.now c.in-Some.last.now c.args.line.now c.in-Some.ensures.value)
