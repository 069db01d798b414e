use Rattle.std.proofs.Common.{◌≡◌, ◌++◌, Err, ap}
use Rattle.std.proofs.lemmas.Result.{err_from_is_err_and}
use Rattle.trove_parts.specs.cny-base.declared.text.TextFault.TheVariants.{Bad}
use Rattle.cny_stream.specs.Item.{item_bytes}
use Rattle.trove_parts.specs.Id.{id_bytes}
use Rattle.trove_stream.proofs.RelStreamParts.{first_id, ids_to}
use Rattle.cny_dep.proofs.Faults.{handed_on}
use Rattle.trove_stream.proofs.rel_reading.take_ids.Goals as goal

pub returns-in_err-old-clause-bad : goal.returns-in_err-old-clause-bad
returns-in_err-old-clause-bad c h old fresh rest old_is fresh_is same =
    let met : c.in_err-old.field-0.0 ≡ Bad = handed_on c.from_residual.result c.in_err-old.field-0.0 Bad (err_from_is_err_and c.from_residual.result c.from_residual.ensures.1) h in
    c.in_err-old.ensures.bad (ap Err met) old (item_bytes 0x22 (id_bytes fresh) ++ rest) old_is (first_id c.args.bytes.now old fresh rest same)

pub returns-in_err-fresh-clause-bad : goal.returns-in_err-fresh-clause-bad
returns-in_err-fresh-clause-bad c h old fresh rest old_is fresh_is same =
    let met : c.in_err-fresh.field-0.0 ≡ Bad = handed_on c.from_residual-in_err-fresh.result c.in_err-fresh.field-0.0 Bad (err_from_is_err_and c.from_residual-in_err-fresh.result c.from_residual-in_err-fresh.ensures.1) h in
    let first = c.in_ok-old.ensures.only old (item_bytes 0x22 (id_bytes fresh) ++ rest) old_is (first_id c.args.bytes.now old fresh rest same) in
    c.in_err-fresh.ensures.bad (ap Err met) fresh rest fresh_is first.1

pub returns-clause-found : goal.returns-clause-found
returns-clause-found c =
    ids_to c.args.bytes.now c.in_ok-old.old.to c.in_ok-fresh.fresh.to c.in_ok-old.old.id c.in_ok-fresh.fresh.id c.in_ok-old.ensures.found c.in_ok-fresh.ensures.found

pub returns-clause-only : goal.returns-clause-only
returns-clause-only c old fresh rest old_is fresh_is same =
    let first = c.in_ok-old.ensures.only old (item_bytes 0x22 (id_bytes fresh) ++ rest) old_is (first_id c.args.bytes.now old fresh rest same) in
    let second = c.in_ok-fresh.ensures.only fresh rest fresh_is first.1 in
    (first.0, second.0, second.1)
