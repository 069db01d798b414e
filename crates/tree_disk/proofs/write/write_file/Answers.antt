use Rattle.std.proofs.Common.{refl}
use Rattle.tree_disk.proofs.StepLaws.{makes_then}
use Rattle.tree_disk.proofs.write.write_file.Goals as goal

pub returns-clause-makes : goal.returns-clause-makes
returns-clause-makes g c = makes_then c.in_ok-make_file.ensures (λ p none. absurd (cc none)) c.sync.ensures.makes (λ tells. refl)
