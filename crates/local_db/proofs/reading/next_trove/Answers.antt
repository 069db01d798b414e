use Rattle.std.proofs.Common.{[], Err, ap, refl, arith, ◌++◌}
use Rattle.std.specs.Int.{w32, to_be_bytes}
use Rattle.std.proofs.lemmas.Result.{err_from_is_err_and}
use Rattle.trove_stream.specs.cny-base.declared.text.TextFault.TheVariants.{Bad}
use Rattle.cny_stream.specs.Item.{item_bytes}
use Rattle.local_db.specs.Formats.{trove_text}
use Rattle.local_db.proofs.Found.{no_trove_here}
use Rattle.trove_stream.proofs.cny-dep.Faults.{handed_on}
use Rattle.local_db.proofs.reading.next_trove.Goals as goal

pub returns-in_default-clause-no_trove : goal.returns-in_default-clause-no_trove
returns-in_default-clause-no_trove c bad trove rest is told fits same = c.in_default.ensures.only 0x50 (trove_text c.args.format trove) rest refl fits same

pub returns-in_default-clause-no_end : goal.returns-in_default-clause-no_end
returns-in_default-clause-no_end c bad oldest newest e =
    c.in_default.ensures.only 0x51 (to_be_bytes w32 oldest ++ to_be_bytes w32 newest) (item_bytes 0x5F []) refl (omega arith) e

pub returns-in_err-trove-clause-no_trove : goal.returns-in_err-trove-clause-no_trove
returns-in_err-trove-clause-no_trove c h =
    let met = handed_on c.from_residual.result c.in_err-trove.field-0.0 Bad (err_from_is_err_and c.from_residual.result c.from_residual.ensures.1) h in
    let item = c.in-Ok.item in
    no_trove_here c.args.bytes.now c.args.at item.tag item.from item.to c.in-Ok.ensures.found c.args.format (λ t is. c.in_err-trove.ensures.bad (ap Err met) t is)
