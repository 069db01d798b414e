use Rattle.std.proofs.Common.{take}
use Rattle.sys_model.specs.Fit.{IsWished}
use Rattle.sys_model.proofs.Fits.{LastSoFar}
use Rattle.sys_model.proofs.helping.last_on.Given as goal

abbrev pub invariant-loop-place : goal.invariant-loop-place
invariant-loop-place l = LastSoFar (IsWished l.wish l.label) l.catalogue.troves (take l.place-index l.places) l.last
