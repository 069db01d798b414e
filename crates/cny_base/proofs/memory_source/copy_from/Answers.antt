use Rattle.std.proofs.Common.{◌≡◌, length, arith}
use Rattle.std.proofs.lemmas.Grind.{common_steps}
use Rattle.cny_base.proofs.FlowParts.{front_copied}
use Rattle.cny_base.proofs.memory_source.copy_from.Goals as goal

pub returns-clause-copied : goal.returns-clause-copied
returns-clause-copied c =
    let whole : length c.copy_from_slice.new.self ≡ c.min-count.result = grind (arith, common_steps) in
    front_copied c.args.bytes.now _ c.copy_from_slice.new.self c.args.at c.min-count.result _ c.copy_from_slice.ensures.after (omega arith) whole
