use Rattle.std.proofs.Common.{take}
use Rattle.sys_model.specs.Growing.{HasNotedAll}
use Rattle.sys_model.proofs.noting.note_all.Given as goal

abbrev pub invariant-loop-place : goal.invariant-loop-place
invariant-loop-place l =
    HasNotedAll l.catalogue.troves l.installed (take l.place-index l.places) l.fn.fresh l.fresh l.fn.doubted l.doubted l.fn.replaced.items l.replaced.items
