use Rattle.std.proofs.Common.{◌≡◌, ◌∙◌, Err, ap}
use Rattle.std.proofs.lemmas.Result.{err_from_is_err_and}
use Rattle.trove_stream.specs.cny-base.declared.text.TextFault.TheVariants.{Bad}
use Rattle.local_db.specs.declared.db.Db.{Db}
use Rattle.local_db.specs.Database.{IsDatabaseFile}
use Rattle.local_db.proofs.Holding.{if_ok_map, passes_checks, read_is, text_in}
use Rattle.trove_stream.proofs.cny-dep.Faults.{handed_on}
use Rattle.local_db.proofs.reading.decode.Goals as goal

pub returns-in_err-parts-clause-bad : goal.returns-in_err-parts-clause-bad
returns-in_err-parts-clause-bad c h db file =
    let met = handed_on c.from_residual.result c.in_err-parts.field-0.0 Bad (err_from_is_err_and c.from_residual.result c.from_residual.ensures.1) h in
    c.in_err-parts.ensures.bad (ap Err met) db.installed db.oldest db.newest (text_in c.distinct_databases.ensures.length c.in-Some.format db c.args.bytes.now c.in-Some.ensures.some file)

pub returns-clause-bad : goal.returns-clause-bad
returns-clause-bad c h db file =
    let parts = c.in_ok-parts.parts in
    let passes = passes_checks c.distinct_databases.ensures.length c.distinct_troves.ensures.unique c.in-Some.format c.args.bytes.now c.in-Some.ensures.some parts.troves.items parts.oldest parts.newest c.in_ok-parts.ensures.value db file in
    c.checked.ensures.bad h passes.0 passes.1

pub returns-clause-only : goal.returns-clause-only
returns-clause-only c =
    let parts = c.in_ok-parts.parts in
    if_ok_map (λ (made : Db). made ≡ record { installed = parts.troves.items; oldest = parts.oldest; newest = parts.newest }) (λ (read : Db). (db : Db) → IsDatabaseFile db c.args.bytes.now → read ≡ db) c.checked.result
    (λ made is db file. is ∙ read_is c.distinct_databases.ensures.length c.distinct_troves.ensures.unique c.in-Some.format c.args.bytes.now c.in-Some.ensures.some parts.troves.items parts.oldest parts.newest c.in_ok-parts.ensures.value db file)
    c.checked.ensures.value
