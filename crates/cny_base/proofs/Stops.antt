-- Stops that are handed on.
use Rattle.cny_base.specs.declared.stop.Stop.{Stop}
use Rattle.std.proofs.Common.{Err, Result}

-- a put that stopped
abbrev pub stopped : {X : Type 0} → Stop → Result X Stop
stopped e = Err e
