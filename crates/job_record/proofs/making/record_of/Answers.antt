use Rattle.std.proofs.Common.{List, map, refl, sym, subst, ◌∙◌}
use Rattle.local_db.specs.declared.record.Delta.{Delta}
use Rattle.local_db.specs.RecordText.{delta_of}
use Rattle.local_db.specs.Record.{TakesBack}
use Rattle.local_db.specs.trove-stream.declared.parts.TroveParts.{TroveParts}
use Rattle.job_record.specs.Recorded.{AreMarks}
use Rattle.job_record.proofs.Records.{read_is}
use Rattle.job_record.proofs.making.record_of.Goals as goal

pub returns : goal.returns
returns c =
    let before = c.args.before.now in
    let after = c.args.after.now in
    let es = c.args.changes.now in
    let of_before = c.in_ok-marks_before.marks_before in
    let of_after = c.in_ok-marks_after.marks_after in
    read_is c.args.number (record { number = c.args.number; deltas = c.new.result; entries = c.new-2.result }) before after of_before of_after es c.requires.number c.requires.entries refl
    (subst (λ (us : List Delta). TakesBack (map delta_of us) after before) (sym c.new.ensures) c.in_ok-deltas.ensures)
    (subst (λ (l : List TroveParts). AreMarks es l of_before) c.troves.ensures.value c.in_ok-marks_before.ensures)
    (subst (λ (l : List TroveParts). AreMarks es l of_after) c.troves-2.ensures.value c.in_ok-marks_after.ensures)
    (c.new-2.ensures ∙ c.in_ok-told.ensures)
