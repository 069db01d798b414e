use Rattle.std.proofs.Common.{◌≡◌, ◌++◌, drop, Err, ap}
use Rattle.std.proofs.lemmas.Result.{err_from_is_err_and}
use Rattle.trove_parts.specs.cny-base.declared.text.TextFault.TheVariants.{Bad}
use Rattle.trove_parts.specs.Id.{id_bytes}
use Rattle.trove_parts.specs.Items.{items_bytes}
use Rattle.trove_stream.proofs.RelStreamParts.{first_of_pair, second_of_pair, pair_at}
use Rattle.cny_dep.proofs.Faults.{handed_on}
use Rattle.trove_stream.proofs.rel_reading.take_changed_refs.Goals as goal

pub returns-in_err-gone-clause-bad : goal.returns-in_err-gone-clause-bad
returns-in_err-gone-clause-bad c h gone added rest gone_is added_is begins =
    let bytes = c.args.bytes.now in
    let from = drop c.args.at bytes in
    let met : c.in_err-gone.field-0.0 ≡ Bad = handed_on c.from_residual.result c.in_err-gone.field-0.0 Bad (err_from_is_err_and c.from_residual.result c.from_residual.ensures.1) h in
    c.in_err-gone.ensures.bad (ap Err met) gone (items_bytes id_bytes 0x26 added ++ rest) gone_is tt (first_of_pair id_bytes id_bytes 0x25 from gone added rest begins)

pub returns-in_err-added-clause-bad : goal.returns-in_err-added-clause-bad
returns-in_err-added-clause-bad c h gone added rest gone_is added_is begins =
    let bytes = c.args.bytes.now in
    let from = drop c.args.at bytes in
    let met : c.in_err-added.field-0.0 ≡ Bad = handed_on c.from_residual-in_err-added.result c.in_err-added.field-0.0 Bad (err_from_is_err_and c.from_residual-in_err-added.result c.from_residual-in_err-added.ensures.1) h in
    let first = c.in_ok-gone.ensures.only gone (items_bytes id_bytes 0x26 added ++ rest) gone_is (first_of_pair id_bytes id_bytes 0x25 from gone added rest begins) in
    c.in_err-added.ensures.bad (ap Err met) added rest added_is tt (second_of_pair id_bytes id_bytes 0x25 from (drop c.in_ok-gone.gone.to bytes) gone added rest begins first.1)

pub returns-clause-found : goal.returns-clause-found
returns-clause-found c =
    pair_at id_bytes id_bytes 0x25 c.args.bytes.now c.args.at c.in_ok-gone.gone.to c.in_ok-added.added.to c.in_ok-gone.gone.refs c.in_ok-added.added.refs
    c.in_ok-gone.ensures.found c.in_ok-added.ensures.found

pub returns-clause-only : goal.returns-clause-only
returns-clause-only c gone added rest gone_is added_is begins =
    let bytes = c.args.bytes.now in
    let from = drop c.args.at bytes in
    let first = c.in_ok-gone.ensures.only gone (items_bytes id_bytes 0x26 added ++ rest) gone_is (first_of_pair id_bytes id_bytes 0x25 from gone added rest begins) in
    let second = c.in_ok-added.ensures.only added rest added_is (second_of_pair id_bytes id_bytes 0x25 from (drop c.in_ok-gone.gone.to bytes) gone added rest begins first.1) in
    (first.0, second.0, second.1)
