use Rattle.std.proofs.Common.{List, subst, arith}
use Rattle.std.proofs.lemmas.List.{take_all}
use Rattle.local_db.specs.trove-parts.declared.files.FileAt.{FileAt}
use Rattle.job_record.specs.Recorded.{HasNoted}
use Rattle.job_record.proofs.Noted.{noted_none, noted_more}
use Rattle.job_record.proofs.recorded.note_files.Goals as goal

pub loop-file-init : goal.loop-file-init
loop-file-init c = noted_none c.args.changes.now c.args.marks.now

pub loop-file-preserved : goal.loop-file-preserved
loop-file-preserved c =
    noted_more c.args.changes.now c.args.files.now c.loop-file.file-index c.file-item.result c.args.marks.now c.loop-file.marks c.note_file.new.marks (omega arith) c.file-item.is
    c.loop-file.invariant c.in_ok-note_file.ensures

pub returns : goal.returns
returns c =
    subst (λ (l : List FileAt). HasNoted c.args.changes.now l c.args.marks.now c.loop-file.marks) (take_all c.loop-file.file-index c.args.files.now (omega arith)) c.loop-file.invariant
