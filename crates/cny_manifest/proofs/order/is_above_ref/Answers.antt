use Rattle.std.proofs.Common.{sym, ◌∙◌}
use Rattle.manifest_troves.specs.trove-parts.Order.{id_cmp}
use Rattle.cny_manifest.proofs.Names.{last_above}
use Rattle.cny_manifest.proofs.order.is_above_ref.Goals as goal

pub returns-in-Some : goal.returns-in-Some
returns-in-Some c = c.lt.ensures ∙ sym (last_above id_cmp c.args.refs.now c.in-Some.last.now c.args.id.now c.in-Some.ensures.value)
