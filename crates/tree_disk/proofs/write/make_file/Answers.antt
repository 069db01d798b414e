use Rattle.tree_disk.proofs.StepLaws.{makes_then}
use Rattle.tree_disk.proofs.NewFile.{may_set_mode, with_file}
use Rattle.tree_disk.proofs.write.make_file.Goals as goal

pub set_mode-requires : goal.set_mode-requires
set_mode-requires g c tells = rw (c.in_ok-append.ensures.makes.ended tells) (may_set_mode _ _ _ (c.requires tells))

pub returns : goal.returns
returns g c = makes_then c.in_ok-append.ensures.makes (λ p own. own) c.set_mode.ensures.makes (λ tells. with_file _ _ _ _ (c.requires tells))
