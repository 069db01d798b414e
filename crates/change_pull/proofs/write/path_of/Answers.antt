use Rattle.std.proofs.Common.{ap, Err, arith}
use Rattle.change_pull.proofs.Paths.{number_is_path}
use Rattle.change_pull.proofs.write.path_of.Goals as goal

pub unreachable-requires : goal.unreachable-requires
unreachable-requires c =
    let is = number_is_path c.args.dir.now c.in-Ok.number (rw c.text-text.ensures.value at c.text-text.ensures.path) c.requires (omega arith) in
    absurd (cc (is, c.in-Err-Bad.ensures.bad.0 (ap Err c.in-Err-Bad.field-0-is)))
