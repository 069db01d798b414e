use Rattle.std.proofs.Common.{◌≡◌, true, arith}
use Rattle.cny_dep.specs.Part.{is_flag}
use Rattle.cny_dep.proofs.PartBytes.{flag_utf8}
use Rattle.cny_dep.proofs.flag.Flag.read.Goals as goal

pub returns-in-Err-clause-bad : goal.returns-in-Err-clause-bad
returns-in-Err-clause-bad c =
    let is : is_flag c.args.bytes.now ≡ true = grind arith in
    absurd (c.in-Err.ensures.cases.0 (flag_utf8 c.args.bytes.now is))
