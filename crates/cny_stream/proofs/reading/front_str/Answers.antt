use Rattle.std.proofs.Common.{refl, arith, sym, ap, ◌∙◌}
use Rattle.std.specs.Option.{option_map}
use Rattle.cny_stream.specs.Reading.{str_front}
use Rattle.cny_stream.proofs.Fields.{no_front}
use Rattle.cny_stream.proofs.reading.front_str.Goals as goal

pub returns-in_err-span : goal.returns-in_err-span
returns-in_err-span c =
    ap (option_map (λ found. (found.value.now, found.rest.now))) c.from_residual.ensures
    ∙ sym (no_front c.args.bytes.now (str_front c.args.bytes.now) refl (λ i. omega (arith, c.type_inv.bytes i)) c.in_err-span.ensures.only)
