use Rattle.std.proofs.Common.{Err, refl, ap, ◌∙◌}
use Rattle.root_edits.specs.Moved.{local_label}
use Rattle.root_edits.proofs.moving.local_label.Goals as goal

pub unreachable-requires : goal.unreachable-requires
unreachable-requires c = c.read.ensures.bad.0 (c.in-Err-Bad.is ∙ ap Err c.in-Err-Bad.field-0-is) (local_label, refl, refl)

pub returns-in-Ok : goal.returns-in-Ok
returns-in-Ok c = c.in-Ok.ensures.only local_label refl refl
