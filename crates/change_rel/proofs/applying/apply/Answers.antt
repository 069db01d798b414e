use Rattle.std.proofs.Common.{Option, MatchOption, subst}
use Rattle.trove_stream.specs.declared.parts.TroveParts.{TroveParts}
use Rattle.trove_stream.specs.declared.rel.RelParts.{RelParts}
use Rattle.trove_stream.specs.Leads.{Leads, LeadsNowhere}
use Rattle.change_rel.proofs.applying.apply.Goals as goal

pub returns-in-Some-clause-only : goal.returns-in-Some-clause-only
returns-in-Some-clause-only c = λ fresh leads.
    c.one_result.ensures c.args.rel.now c.args.old.now c.in-Some.fresh fresh
    (subst (λ (r : RelParts). Leads r c.args.old.now c.in-Some.fresh) c.parts-parts.ensures.value
    (subst (λ (o : Option TroveParts). MatchOption o (LeadsNowhere c.parts-parts.result.now c.args.old.now) (Leads c.parts-parts.result.now c.args.old.now)) c.in-Some.is c.in_ok-fresh.ensures)) leads
