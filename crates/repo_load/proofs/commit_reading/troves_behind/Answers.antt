use Rattle.std.proofs.Common.{Err, ap, subst, sym}
use Rattle.std.proofs.lemmas.Result.{err_from_is_err_and}
use Rattle.repo_index.specs.cny-base.declared.text.TextFault.TheVariants.{Bad}
use Rattle.repo_load.specs.State.{Commit}
use Rattle.repo_load.specs.Reading.{AreTrovesOf, AreTrovesTo}
use Rattle.repo_load.proofs.TrovesRead.{ended, no_stream, no_troves, one_more}
use Rattle.repo_index.proofs.cny-dep.Faults.{handed_on}
use Rattle.repo_load.proofs.commit_reading.troves_behind.Goals as goal

pub items-init : goal.items-init
items-init c = subst (λ (l : Commit). AreTrovesTo c.args.bytes.now l 8) (sym c.new-troves.ensures.items) (no_troves c.args.bytes.now c.requires)

pub returns-in_err-next-clause-bad : goal.returns-in_err-next-clause-bad
returns-in_err-next-clause-bad c h troves is =
    let met = handed_on c.from_residual.result c.in_err-next.field-0.0 Bad (err_from_is_err_and c.from_residual.result c.from_residual.ensures.1) h in
    no_stream c.distinct_troves.ensures.unique c.args.bytes.now c.items.troves.items troves c.items.at c.items.invariant
    (c.in_err-next.ensures.no_trove (ap Err met)) (c.in_err-next.ensures.no_end (ap Err met)) is

pub returns-in_default-clause-value : goal.returns-in_default-clause-value
returns-in_default-clause-value c =
    let end = rw c.in_default.is at c.in_ok-next.ensures.none in
    subst (AreTrovesOf c.args.bytes.now) (sym c.new.ensures) (record {
      troves_are = c.items.invariant.troves_are;
      fits = c.items.invariant.fits;
      text = ended c.args.bytes.now c.items.troves.items c.items.at c.items.invariant end;
    })

pub items-preserved : goal.items-preserved
items-preserved c =
    let found = rw c.in-Some.is at c.in_ok-next.ensures.some in
    subst (λ (l : Commit). AreTrovesTo c.args.bytes.now l c.in-Some.next.to) (sym c.in_ok-push.ensures.items)
    (one_more c.args.bytes.now c.items.troves.items c.items.at c.in-Some.next.trove c.in-Some.next.to c.items.invariant found)
