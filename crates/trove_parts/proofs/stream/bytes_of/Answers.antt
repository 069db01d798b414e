use Rattle.std.proofs.Common.{subst, sym, ◌∙◌}
use Rattle.cny_version.specs.cny-base.StrField.{FitsStr}
use Rattle.trove_parts.proofs.IdFields.{flavor_fits}
use Rattle.trove_parts.proofs.stream.bytes_of.Goals as goal

pub put_str-requires-3 : goal.put_str-requires-3
put_str-requires-3 c = subst FitsStr (sym (c.as_bytes-3.ensures.value ∙ c.text-3.ensures.value)) (flavor_fits c.args.id.now.flavor c.text-3.ensures.flavor)
