use Rattle.std.proofs.Common.{List, refl, subst, arith}
use Rattle.std.proofs.lemmas.List.{take_all}
use Rattle.cli_call.specs.trove-parts.declared.id.TroveId.{TroveId}
use Rattle.update_job.specs.Changes.{noted}
use Rattle.root_commands.specs.Noting.{HasTurned}
use Rattle.root_commands.proofs.Turning.{turned_next}
use Rattle.root_commands.proofs.noting.note_all.Goals as goal

pub loop-id-init : goal.loop-id-init
loop-id-init c = record { ordered = c.requires; turned = λ name. refl }

pub loop-id-preserved : goal.loop-id-preserved
loop-id-preserved c = record {
  ordered = c.in_ok-note.ensures.ordered;
  turned = λ name.
      turned_next c.args.came c.args.ids.now c.loop-id.id-index c.id-item.result name (omega arith) c.id-item.is (noted c.args.changes.now name) (noted c.loop-id.changes name) (noted c.note.new.changes name)
      (c.loop-id.invariant.turned name) (c.in_ok-note.ensures.noted name);
}

pub returns-clause-noted : goal.returns-clause-noted
returns-clause-noted c =
    subst (λ (l : List TroveId). HasTurned c.args.came l c.args.changes.now c.loop-id.changes) (take_all c.loop-id.id-index c.args.ids.now (omega arith)) c.loop-id.invariant.turned

pub returns-clause-ordered : goal.returns-clause-ordered
returns-clause-ordered c = c.loop-id.invariant.ordered
