use Rattle.std.proofs.Common.{sym, ◌∙◌}
use Rattle.cny_manifest.proofs.Names.{last_path}
use Rattle.cny_manifest.proofs.order.is_above_path.Goals as goal

pub returns-in-Some : goal.returns-in-Some
returns-in-Some c = c.lt.ensures ∙ sym (last_path c.args.files.now c.in-Some.last.now c.args.path.now c.in-Some.ensures.value)
