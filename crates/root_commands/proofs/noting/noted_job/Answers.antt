use Rattle.std.proofs.Common.{List, refl, subst}
use Rattle.cli_call.specs.trove-parts.declared.id.TroveId.{TroveId}
use Rattle.root_commands.specs.Noting.{LeadsThere}
use Rattle.root_commands.proofs.noting.noted_job.Goals as goal

pub returns : goal.returns
returns c = record {
  number = refl;
  changes =
      subst (λ (l : List TroveId). LeadsThere l c.args.job.now.after c.in_ok-changes.changes) c.get.ensures
      (subst (λ (l : List TroveId). LeadsThere c.get.result.now l c.in_ok-changes.changes) c.get-2.ensures c.in_ok-changes.ensures);
  paths = refl;
}
