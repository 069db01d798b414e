use Rattle.std.proofs.Common.{◌<◌, ◌≤◌, List, length, Err, sym, ap, subst, ◌∙◌, arith}
use Rattle.repo_index.proofs.cny-base.Passing.{err_is}
use Rattle.repo_index.specs.declared.catalogue.Catalogue.{Catalogue}
use Rattle.repo_index.specs.trove-parts.declared.id.TroveId.{TroveId}
use Rattle.repo_index.specs.trove-stream.declared.parts.TroveParts.{TroveParts}
use Rattle.dep_closure.specs.Slots.{IsClosedBy}
use Rattle.trove_spec.specs.AndThen.{EndsAs}
use Rattle.trove_spec.specs.Expansion.{IsUnexpanded}
use Rattle.sys_model.specs.Growing.{IsRoundOf}
use Rattle.sys_model.specs.Held.{held}
use Rattle.sys_model.specs.Rounds.{Completes}
use Rattle.sys_model.proofs.Advanced.{ended, reasons_of}
use Rattle.sys_model.proofs.Completed.{first_refused, last_refused, rounds_first, rounds_more, AreRounds}
use Rattle.sys_model.proofs.Gathering.{places_fit}
use Rattle.sys_model.proofs.completing.complete.Goals as goal

pub returns-in_err-round-clause-ends : goal.returns-in_err-round-clause-ends
returns-in_err-round-clause-ends c =
    let troves = c.args.catalogue.now.troves in
    let installed = c.args.installed.now in
    let config = c.args.config.now in
    let roots = c.args.roots.now in
    let f = c.in_err-round.field-0.0 in
    let known_are = ap (λ (k : Catalogue). k.troves) c.in_ok-known.ensures.catalogue in
    let is : IsUnexpanded troves roots f =
    subst (λ (ts : List TroveParts). IsUnexpanded ts roots f) known_are
    (subst (λ (l : List TroveId). IsUnexpanded c.in_ok-known.known.catalogue.now.troves l f) (c.as_slice.ensures.value ∙ c.in_ok-all.ensures) c.in_err-round.ensures.fault) in
    err_is (EndsAs (Completes troves installed config roots)) c.from_residual-in_err-round.result f c.from_residual-in_err-round.ensures.1 (first_refused troves installed config roots f is)

pub loop-round-init : goal.loop-round-init
loop-round-init c =
    let troves = c.in_ok-known.known.catalogue.now.troves in
    let installed = c.in_ok-known.known.installed.now in
    record {
      known = c.in_ok-known.ensures.known;
      is = subst (λ (l : List TroveId). IsRoundOf troves installed l c.in_ok-round.round) c.as_slice.ensures.value c.in_ok-round.ensures.value;
      rounds = subst (AreRounds troves installed c.args.config.now c.args.roots.now) (sym c.in_ok-all.ensures) (rounds_first troves installed c.args.config.now c.args.roots.now);
    }

pub returns-in_err-advance-clause-ends : goal.returns-in_err-advance-clause-ends
returns-in_err-advance-clause-ends c =
    let troves = c.in_ok-known.known.catalogue.now.troves in
    let installed = c.in_ok-known.known.installed.now in
    let config = c.args.config.now in
    let roots = c.args.roots.now in
    let f = c.in_err-advance.field-0.0 in
    let known_are = ap (λ (k : Catalogue). k.troves) c.in_ok-known.ensures.catalogue in
    let is : EndsAs (Completes troves installed config roots) (Err f) =
    last_refused troves installed config roots c.loop-round.all.items f c.loop-round.invariant.rounds c.in_err-advance.ensures.fault in
    err_is (EndsAs (Completes c.args.catalogue.now.troves c.args.installed.now config roots)) c.from_residual-in_err-advance.result f c.from_residual-in_err-advance.ensures.1
    (subst (λ (ts : List TroveParts). EndsAs (Completes ts c.args.installed.now config roots) (Err f)) known_are
    (subst (λ (i : List TroveParts). EndsAs (Completes troves i config roots) (Err f)) c.in_ok-known.ensures.installed is))

pub loop-round-smaller : goal.loop-round-smaller
loop-round-smaller c =
    let troves = c.in_ok-known.known.catalogue.now.troves in
    let old = c.loop-round.round.places in
    let new = c.advance.new.round.places in
    let is = c.in_ok-advance.ensures.round in
    let few : length new ≤ length troves = places_fit troves c.advance.new.roots.items new (length new) is.distinct is.gathered in
    let grown : length old < length new = c.in_ok-advance.ensures.grown c.if-branch.true in
    omega (arith, few, grown)

pub loop-round-preserved : goal.loop-round-preserved
loop-round-preserved c =
    let troves = c.in_ok-known.known.catalogue.now.troves in
    let installed = c.in_ok-known.known.installed.now in
    record {
      known = c.loop-round.invariant.known;
      is = c.in_ok-advance.ensures.round;
      rounds = rounds_more troves installed c.args.config.now c.args.roots.now c.loop-round.all.items c.advance.new.roots.items c.loop-round.invariant.rounds (c.in_ok-advance.ensures.added c.if-branch.true);
    }

pub returns-clause-ends : goal.returns-clause-ends
returns-clause-ends c =
    let troves = c.in_ok-known.known.catalogue.now.troves in
    let installed = c.in_ok-known.known.installed.now in
    let config = c.args.config.now in
    let roots = c.args.roots.now in
    let round = c.advance.new.round in
    let now = c.as_slice-2.result.now in
    let known_are = ap (λ (k : Catalogue). k.troves) c.in_ok-known.ensures.catalogue in
    let installed_are = c.in_ok-known.ensures.installed in
    let rounds : AreRounds troves installed config roots now =
    subst (AreRounds troves installed config roots) (sym (c.as_slice-2.ensures.value ∙ c.in_ok-advance.ensures.same c.if-branch.false)) c.loop-round.invariant.rounds in
    let is : IsRoundOf troves installed now round = subst (λ (l : List TroveId). IsRoundOf troves installed l round) (sym c.as_slice-2.ensures.value) c.in_ok-advance.ensures.round in
    ended c.args.catalogue.now.troves c.args.installed.now config now round
    (subst (λ (ts : List TroveParts). IsRoundOf ts c.args.installed.now now round) known_are (subst (λ (i : List TroveParts). IsRoundOf troves i now round) installed_are is)) roots c.expand.result
    (subst (λ (ts : List TroveParts). AreRounds ts c.args.installed.now config roots now) known_are (subst (λ (i : List TroveParts). AreRounds troves i config roots now) installed_are rounds))
    (subst (λ (ts : List TroveParts). IsClosedBy (held ts round.fresh round.kept)) known_are (c.in_ok-advance.ensures.closed c.if-branch.false)) c.expand.ensures.value c.expand.ensures.fault

pub returns-clause-reasons : goal.returns-clause-reasons
returns-clause-reasons c = reasons_of c.args.catalogue.now.troves c.args.installed.now c.args.config.now c.args.roots.now c.expand.result (returns-clause-ends c)
