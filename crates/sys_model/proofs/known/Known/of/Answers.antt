use Rattle.std.proofs.Common.{List, subst}
use Rattle.repo_index.specs.trove-stream.declared.parts.TroveParts.{TroveParts}
use Rattle.sys_model.specs.Providers.{AreNoted}
use Rattle.sys_model.proofs.known.Known.of.Goals as goal

pub returns-clause-known : goal.returns-clause-known
returns-clause-known c = record {
  comers = subst (λ (l : List TroveParts). AreNoted l c.in_ok-of.field-0) c.troves.ensures.value c.in_ok-of.ensures;
  stayers = subst (λ (l : List TroveParts). AreNoted l c.in_ok-of-2.field-0) c.troves-2.ensures.value c.in_ok-of-2.ensures;
}
