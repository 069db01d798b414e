use Rattle.std.proofs.Common.{Err, List, ap, subst, sym}
use Rattle.std.proofs.lemmas.Result.{err_from_is_err_and}
use Rattle.trove_stream.specs.cny-base.declared.text.TextFault.TheVariants.{Bad}
use Rattle.trove_stream.specs.declared.parts.TroveParts.{TroveParts}
use Rattle.local_db.specs.Reading.{AreTrovesTo}
use Rattle.local_db.proofs.Texts.{last_of, no_troves, one_more}
use Rattle.trove_stream.proofs.cny-dep.Faults.{handed_on}
use Rattle.local_db.proofs.reading.troves_behind.Goals as goal

pub items-init : goal.items-init
items-init c = subst (λ (l : List TroveParts). AreTrovesTo c.args.format c.args.bytes.now l 8) (sym c.new-troves.ensures.items) (no_troves c.args.format c.args.bytes.now c.requires)

pub returns-in_err-next-clause-bad : goal.returns-in_err-next-clause-bad
returns-in_err-next-clause-bad c h troves oldest newest is =
    let met = handed_on c.from_residual.result c.in_err-next.field-0.0 Bad (err_from_is_err_and c.from_residual.result c.from_residual.ensures.1) h in
    c.in_err-next.ensures.no_end (ap Err met) oldest newest
    (last_of c.distinct_troves.ensures.unique c.args.format c.args.bytes.now c.items.troves.items troves c.items.at oldest newest c.items.invariant
    (c.in_err-next.ensures.no_trove (ap Err met)) is).1

pub items-preserved : goal.items-preserved
items-preserved c =
    let found = rw c.in-Some.is at c.in_ok-next.ensures.some in
    subst (λ (l : List TroveParts). AreTrovesTo c.args.format c.args.bytes.now l c.in-Some.next.to) (sym c.in_ok-push.ensures.items)
    (one_more c.args.format c.args.bytes.now c.items.troves.items c.items.at c.in-Some.next.trove c.in-Some.next.to c.items.invariant found)
