use Rattle.std.proofs.Common.{length, ap, arith}
use Rattle.cny_version.proofs.VersionSteps.{end_oversized}
use Rattle.cny_version.proofs.read.last_version.Goals as goal

pub returns-then-text-piece-gt-VERSION_LIMIT : goal.returns-then-text-piece-gt-VERSION_LIMIT
returns-then-text-piece-gt-VERSION_LIMIT c =
    end_oversized c.args.branch c.args.piece.now (omega (arith, ap length c.text.ensures.value, c.if-text-piece-gt-VERSION_LIMIT.true))
