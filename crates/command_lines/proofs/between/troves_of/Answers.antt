use Rattle.std.proofs.Common.{List, Contains, subst, ⊎_elim}
use Rattle.std.proofs.lemmas.List.Elements.{Contains-push_cases}
use Rattle.repository.specs.trove-stream.declared.parts.TroveParts.{TroveParts}
use Rattle.command_lines.proofs.between.troves_of.Goals as goal

pub loop-id-preserved : goal.loop-id-preserved
loop-id-preserved c = λ t h. ⊎_elim
    (λ there. c.loop-id.invariant t there)
    (λ last. subst (Contains c.args.catalogue.now.troves) last c.in_ok-trove.ensures)
    (Contains-push_cases c.loop-id.troves.items c.in_ok-trove.trove t (subst (λ (l : List TroveParts). Contains l t) c.in_ok-push.ensures.items h))
