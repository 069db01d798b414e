-- The first of two troves that is there.
use Rattle.std.specs.Prelude.{None, Option, Some}
use Rattle.trove_stream.specs.declared.parts.TroveParts.{TroveParts}

-- the first, or else the second
abbrev pub or_else : Option TroveParts → Option TroveParts → Option TroveParts
or_else None second = second
or_else (Some t) second = Some t
