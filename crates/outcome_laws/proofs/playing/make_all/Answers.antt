use Rattle.std.proofs.Common.{subst, List}
use Rattle.cny_version.proofs.cny-base.Passing.{err_is}
use Rattle.tree_memory.proofs.Changed.{front_and_rest}
use Rattle.outcome_laws.specs.Play.{HasPlayed}
use Rattle.outcome_laws.specs.declared.playing.Event.{Event}
use Rattle.outcome_laws.proofs.MadeEvents.{none_left, one_more, to_end, to_missed, ComesTo}
use Rattle.outcome_laws.proofs.playing.make_all.Goals as goal

pub returns-in_err-make : goal.returns-in_err-make
returns-in_err-make c =
    err_is (λ r. HasPlayed c.args.events.now r c.args.statuses.now c.make.new.statuses c.args.root.now c.make.new.root c.args.repo.now c.make.new.repo) c.from_residual.result c.in_err-make.field-0.0 c.from_residual.ensures.1
    (to_missed _ c.args.events.now c.event-item.result _ c.args.statuses.now c.loop-rest.statuses c.make.new.statuses c.args.root.now c.loop-rest.root c.make.new.root c.args.repo.now c.loop-rest.repo c.make.new.repo
    (subst (λ (l : List Event). ComesTo c.args.events.now l c.args.statuses.now c.loop-rest.statuses c.args.root.now c.loop-rest.root c.args.repo.now c.loop-rest.repo)
    (front_and_rest c.loop-rest.rest.now c.event-item.result c.in-len1-up.len_at_least c.event-item.is) c.loop-rest.invariant)
    c.in_err-make.ensures.err)

pub loop-rest-preserved : goal.loop-rest-preserved
loop-rest-preserved c =
    one_more c.args.events.now c.event-item.result _ c.args.statuses.now c.loop-rest.statuses c.make.new.statuses c.args.root.now c.loop-rest.root c.make.new.root c.args.repo.now c.loop-rest.repo c.make.new.repo
    (subst (λ (l : List Event). ComesTo c.args.events.now l c.args.statuses.now c.loop-rest.statuses c.args.root.now c.loop-rest.root c.args.repo.now c.loop-rest.repo)
    (front_and_rest c.loop-rest.rest.now c.event-item.result c.in-len1-up.len_at_least c.event-item.is) c.loop-rest.invariant)
    c.in_ok-make.ensures.ok

pub returns : goal.returns
returns c = to_end _ c.args.events.now c.args.statuses.now c.loop-rest.statuses c.args.root.now c.loop-rest.root c.args.repo.now c.loop-rest.repo
    (subst (λ (l : List Event). ComesTo c.args.events.now l c.args.statuses.now c.loop-rest.statuses c.args.root.now c.loop-rest.root c.args.repo.now c.loop-rest.repo)
    (none_left c.loop-rest.rest.now c.in_default.len_below) c.loop-rest.invariant)
