use Rattle.std.proofs.Common.{[], refl, arith, ◌++◌}
use Rattle.std.specs.Int.{w32, to_be_bytes}
use Rattle.cny_stream.specs.Item.{item_bytes}
use Rattle.local_db.proofs.reading.numbers_at.Goals as goal

pub returns-in_default-clause-none : goal.returns-in_default-clause-none
returns-in_default-clause-none c oldest newest e =
    c.in_default.ensures.only 0x51 (to_be_bytes w32 oldest ++ to_be_bytes w32 newest) (item_bytes 0x5F []) refl (omega arith) e
