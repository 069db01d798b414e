use Rattle.std.proofs.Common.{arith}
use Rattle.local_db.specs.declared.format.Format.TheVariants.{Two}
use Rattle.local_db.proofs.writing.encode_within.Goals as goal

pub unreachable-requires : goal.unreachable-requires
unreachable-requires c =
    let given = rw c.in-Err-Refused.field-0-is at c.in-Err-Refused.ensures.refused in
    omega (arith, c.requires.short, given.1, c.distinct_databases.ensures.length Two c.args.db.now.installed c.args.db.now.oldest c.args.db.now.newest)
