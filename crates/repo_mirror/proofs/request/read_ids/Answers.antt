use Rattle.std.proofs.Common.{◌≡◌, ◌≤◌, Err, length, ap, sym, subst, arith}
use Rattle.std.proofs.lemmas.Result.{err_from_is_err_and}
use Rattle.change_set.specs.cny-base.declared.text.TextFault.TheVariants.{Bad}
use Rattle.change_set.specs.trove-parts.Refs.{AreRefs}
use Rattle.repo_mirror.proofs.ItemFaults.{met_is}
use Rattle.repo_mirror.proofs.IdLists.{no_next, no_others, one_more}
use Rattle.repo_mirror.proofs.request.read_ids.Goals as goal

pub returns-in_err-found-clause-bad : goal.returns-in_err-found-clause-bad
returns-in_err-found-clause-bad c = λ h all valid spelled.
    let met : c.in_err-found.field-0.0 ≡ Bad = met_is c.from_residual.result c.in_err-found.field-0.0 Bad (err_from_is_err_and c.from_residual.result c.from_residual.ensures.1) h in
    no_next c.args.bytes.now c.ids.ids.items c.ids.at c.ids.invariant (omega arith) (c.in_err-found.ensures.bad (ap Err met)) all valid spelled

pub ids-preserved : goal.ids-preserved
ids-preserved c =
    one_more c.args.bytes.now c.ids.ids.items c.ids.at c.in_ok-found.found.to c.in_ok-found.found.id c.push.new.self.items c.ids.invariant c.in_ok-found.ensures.found (omega arith) c.in_ok-found.ensures.only c.in_ok-push.ensures.items

pub returns-then-not-are_refs-clause-bad : goal.returns-then-not-are_refs-clause-bad
returns-then-not-are_refs-clause-bad c = λ h.
    let past : length c.args.bytes.now ≤ c.ids.at = omega arith in
    no_others c.args.bytes.now c.ids.ids.items c.ids.at c.ids.invariant past
    (λ are. let listed = c.are_refs.ensures.1 (subst AreRefs (sym c.as_slice.ensures.value) are) in absurd (cc (listed, c.if-not-are_refs.true)))
