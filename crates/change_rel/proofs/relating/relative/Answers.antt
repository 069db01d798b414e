use Rattle.std.proofs.Common.{sym, subst}
use Rattle.trove_stream.specs.declared.rel.RelParts.{RelParts}
use Rattle.trove_stream.specs.Leads.{Leads}
use Rattle.change_rel.proofs.relating.relative.Goals as goal

pub returns-clause-only : goal.returns-clause-only
returns-clause-only c = λ other leads.
    c.one_relative.ensures c.args.old.now c.args.fresh.now c.in-Ok.rel other (subst (λ (r : RelParts). Leads r c.args.old.now c.args.fresh.now) (sym c.in-Ok.ensures.value) c.in_ok-parts.ensures) leads
