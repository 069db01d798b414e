-- Streams tell troves apart.
use Rattle.std.proofs.Common.{◌≡◌}
use Rattle.trove_parts.specs.cny-stream.declared.encoding.Encoding.{Encoding}
use Rattle.trove_stream.specs.Stream.{stream_bytes}
use Rattle.trove_stream.specs.Trove.{IsTrove}
use Rattle.trove_stream.specs.declared.parts.TroveParts.{TroveParts}

-- no bytes are the streams of two troves, nor of two relative troves
abbrev pub TrovesDiffer : Type 0
TrovesDiffer = (one other : Encoding) (a b : TroveParts) → IsTrove a → IsTrove b → stream_bytes one a ≡ stream_bytes other b → a ≡ b
