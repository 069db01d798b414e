use Rattle.std.proofs.Common.{◌≡◌, [], ◌∷◌, ◌++◌, length, take, ap, ◌∙◌, arith}
use Rattle.std.specs.Prelude.{IfErr}
use Rattle.repo_index.proofs.cny-base.Passing.{err_is}
use Rattle.repo_index.specs.trove-parts.declared.id.TroveId.{TroveId}
use Rattle.sys_model.specs.Advancing.{IsStopped}
use Rattle.sys_model.specs.Held.{IsHelpFor}
use Rattle.sys_model.proofs.Advanced.{adds_help, front_of, grows, named_of, some_is, stays_among, stopped_here, stopped_then, with_doubted}
use Rattle.sys_model.proofs.completing.advance.Goals as goal

pub help-requires-clause-view : goal.help-requires-clause-view
help-requires-clause-view c =
    let known = c.args.known.now in
    let round = c.args.round.now in
    record {
      named = named_of known.catalogue.now.troves round.places round.fresh c.requires.round.by_name;
      among = stays_among known.installed.now round.replaced.items round.kept c.requires.round.erased;
      comers = c.requires.known.comers;
      stayers = c.requires.known.stayers;
    }

pub returns-in_err-trove-clause-fault : goal.returns-in_err-trove-clause-fault
returns-in_err-trove-clause-fault c =
    let troves = c.args.known.now.catalogue.now.troves in
    let installed = c.args.known.now.installed.now in
    let roots = c.args.roots.now.items in
    err_is (λ r. IfErr r (IsStopped troves installed c.args.config.now roots)) c.from_residual.result c.in_err-trove.field-0.0 c.from_residual.ensures.1
    (stopped_here troves installed c.args.config.now roots c.args.round.now c.requires.round c.in_err-trove.field-0.0 c.in_err-trove.ensures.fault)

pub grow-requires-clause-before : goal.grow-requires-clause-before
grow-requires-clause-before c =
    let known = c.args.known.now in
    let roots = c.args.roots.now.items in
    let added = c.in_ok-copy.field-0 ∷ [] in
    let long : c.len-from.result ≡ length roots = omega (arith, c.len-from.ensures) in
    with_doubted known.catalogue.now.troves known.installed.now c.args.config.now roots c.args.round.now c.requires.round (take c.len-from.result c.as_slice.result.now) c.help.new.doubted
    (front_of roots added c.as_slice.result.now c.len-from.result long (c.as_slice.ensures.value ∙ c.in_ok-push.ensures.items)) c.in_ok-trove.ensures.served

pub returns-in_err-grow-clause-fault : goal.returns-in_err-grow-clause-fault
returns-in_err-grow-clause-fault c =
    let troves = c.args.known.now.catalogue.now.troves in
    let installed = c.args.known.now.installed.now in
    let config = c.args.config.now in
    let roots = c.args.roots.now.items in
    let round = c.args.round.now in
    let t = c.in-Some.trove.now in
    let help = some_is c.in_ok-trove.field-0 c.in-Some.trove (λ trove. IsHelpFor troves round.fresh round.kept config trove.now) c.in-Some.is c.in_ok-trove.ensures.some in
    let new_is : c.as_slice.result.now ≡ roots ++ t.id ∷ [] = c.as_slice.ensures.value ∙ c.in_ok-push.ensures.items ∙ ap (λ (id : TroveId). roots ++ id ∷ []) (c.in_ok-copy.ensures ∙ c.id.ensures.value) in
    err_is (λ r. IfErr r (IsStopped troves installed config roots)) c.from_residual-in_err-grow.result c.in_err-grow.field-0.0 c.from_residual-in_err-grow.ensures.1
    (stopped_then troves installed config roots round c.requires.round t c.as_slice.result.now c.in_err-grow.field-0.0 help new_is c.in_err-grow.ensures.fault)

pub returns-clause-added : goal.returns-clause-added
returns-clause-added c = λ _.
    let troves = c.args.known.now.catalogue.now.troves in
    let installed = c.args.known.now.installed.now in
    let config = c.args.config.now in
    let roots = c.args.roots.now.items in
    let round = c.args.round.now in
    let help = some_is c.in_ok-trove.field-0 c.in-Some.trove (λ trove. IsHelpFor troves round.fresh round.kept config trove.now) c.in-Some.is c.in_ok-trove.ensures.some in
    record {
      helper = c.in-Some.trove.now;
      adds = adds_help troves installed config roots round c.requires.round c.in-Some.trove.now help;
      new_is = c.in_ok-push.ensures.items ∙ ap (λ (id : TroveId). roots ++ id ∷ []) (c.in_ok-copy.ensures ∙ c.id.ensures.value);
    }

pub returns-clause-grown : goal.returns-clause-grown
returns-clause-grown c = λ _.
    let troves = c.args.known.now.catalogue.now.troves in
    let installed = c.args.known.now.installed.now in
    let config = c.args.config.now in
    let roots = c.args.roots.now.items in
    let round = c.args.round.now in
    let t = c.in-Some.trove.now in
    let help = some_is c.in_ok-trove.field-0 c.in-Some.trove (λ trove. IsHelpFor troves round.fresh round.kept config trove.now) c.in-Some.is c.in_ok-trove.ensures.some in
    let new_is : c.as_slice.result.now ≡ roots ++ t.id ∷ [] = c.as_slice.ensures.value ∙ c.in_ok-push.ensures.items ∙ ap (λ (id : TroveId). roots ++ id ∷ []) (c.in_ok-copy.ensures ∙ c.id.ensures.value) in
    grows troves installed config roots round c.requires.round t c.as_slice.result.now c.grow.new.self help new_is c.in_ok-grow.ensures.ok c.in_ok-grow.ensures.more
