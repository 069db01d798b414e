use Rattle.std.proofs.Common.{List, subst, arith}
use Rattle.std.proofs.lemmas.List.{take_all}
use Rattle.local_db.specs.trove-parts.declared.files.FileAt.{FileAt}
use Rattle.local_db.specs.trove-stream.declared.parts.TroveParts.{TroveParts}
use Rattle.job_record.specs.Recorded.{HasNoted, HasNotedAll}
use Rattle.job_record.proofs.Noted.{noted_all_none, noted_all_more}
use Rattle.job_record.proofs.recorded.note_troves.Goals as goal

pub loop-trove-init : goal.loop-trove-init
loop-trove-init c = noted_all_none c.args.changes.now c.args.marks.now

pub loop-trove-preserved : goal.loop-trove-preserved
loop-trove-preserved c =
    noted_all_more c.args.changes.now c.args.list.now c.loop-trove.trove-index c.trove-item.result c.args.marks.now c.loop-trove.marks c.note_files.new.marks (omega arith) c.trove-item.is
    c.loop-trove.invariant
    (subst (λ (l : List FileAt). HasNoted c.args.changes.now l c.loop-trove.marks c.note_files.new.marks) c.files.ensures.value c.in_ok-note_files.ensures)

pub returns : goal.returns
returns c =
    subst (λ (l : List TroveParts). HasNotedAll c.args.changes.now l c.args.marks.now c.loop-trove.marks) (take_all c.loop-trove.trove-index c.args.list.now (omega arith)) c.loop-trove.invariant
