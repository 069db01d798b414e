use Rattle.std.proofs.Common.{◌≡◌, ◌∙◌}
use Rattle.std.proofs.lemmas.Result.{IfOk-weaker}
use Rattle.trove_stream.specs.declared.parts.TroveParts.{TroveParts}
use Rattle.trove_stream.specs.Stream.{stream_bytes}
use Rattle.trove_stream.specs.Trove.{IsTrove}
use Rattle.trove_stream.proofs.reading.decode_as.Goals as goal

pub returns-clause-only : goal.returns-clause-only
returns-clause-only c =
    IfOk-weaker c.of_parts.result (λ t. t ≡ c.in_ok-parts.parts) (λ read. (trove : TroveParts) → IsTrove trove → c.args.bytes.now ≡ stream_bytes c.args.encoding trove → read ≡ trove)
    (λ read is trove good same. is ∙ c.in_ok-parts.ensures.only trove good.lists same) c.of_parts.ensures.value
