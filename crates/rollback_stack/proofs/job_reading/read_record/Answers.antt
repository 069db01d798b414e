use Rattle.std.proofs.Common.{◌≡◌, IsTrue, sym, ◌∙◌, ap, subst}
use Rattle.std.specs.Prelude.{IfErr, IfOk}
use Rattle.std.specs.FinMap.{get}
use Rattle.job_record.specs.File.{record_read}
use Rattle.job_record.proofs.Files.{file_read, no_record_read}
use Rattle.local_db.specs.RecordText.{IsRecordText}
use Rattle.local_db.specs.declared.record.Record.{Record}
use Rattle.local_db.specs.Names.{record_file}
use Rattle.local_db.specs.Stores.{HoldsFile}
use Rattle.local_db.proofs.tree-disk.StepLaws.{tests_value}
use Rattle.local_db.specs.tree-disk.Tree.{Name}
use Rattle.local_db.specs.cny-base.Count.{Rose}
use Rattle.change_rel.proofs.cny-base.OptionValues.{same_path as some_bytes}
use Rattle.rollback_stack.specs.JobReading.{HoldsText, IsDamagedText, IsReadStop}
use Rattle.rollback_stack.proofs.JobsRead.{damaged_err, damaged_ok, if_ok_both}
use Rattle.rollback_stack.proofs.job_reading.read_record.Goals as goal

pub returns-clause-value : goal.returns-clause-value
returns-clause-value g c tells =
    let x = g.D.TreeDisk.disk.reads c.args.disk.now in
    let f = c.args.format in
    let n = c.args.number in
    let bytes = c.get.result.now in
    let tested = c.in_ok-bytes.ensures.tests in
    let run = tested.same tells in
    let seen = sym c.in-Some.is ∙ tests_value tested tells ∙ ap (λ (p : Name). record_read f (get x p)) c.in_ok-path.ensures in
    let file : HoldsFile x (record_file n) bytes = subst (HoldsFile x (record_file n)) (sym c.get.ensures) (file_read f (get x (record_file n)) c.in-Some.bytes (sym seen)) in
    let all = if_ok_both (λ (r : Record). IsRecordText f r bytes) (λ (r : Record). r.number ≡ n) (HoldsText f x n) c.record_of.result
    (λ r text number. record { bytes = bytes; file = file; text = text; number_is = number }) c.record_of.ensures.value c.record_of.ensures.number in
    record {
      answer = subst (λ r. IfOk r (HoldsText f x n)) (sym c.or_damaged.ensures) (damaged_ok (HoldsText f x n) c.in_ok-path.path c.record_of.result all);
      same = run.same;
      time = run.time;
    }

pub returns-in_default-clause-stops : goal.returns-in_default-clause-stops
returns-in_default-clause-stops g c tells =
    let x = g.D.TreeDisk.disk.reads c.args.disk.now in
    let f = c.args.format in
    let n = c.args.number in
    let seen = tests_value c.in_ok-bytes.ensures.tests tells ∙ ap (λ (p : Name). record_read f (get x p)) c.in_ok-path.ensures in
    (c.in_ok-path.ensures, λ r holds. no_record_read f (get x (record_file n)) r holds.bytes (sym seen ∙ c.in_default.is) holds.file holds.text)

pub returns-clause-stops : goal.returns-clause-stops
returns-clause-stops g c =
    let told = g.D.TreeDisk.disk.tells in
    let x = g.D.TreeDisk.disk.reads c.args.disk.now in
    let f = c.args.format in
    let n = c.args.number in
    let bytes = c.get.result.now in
    let rose = Rose (g.D.TreeDisk.disk.faults c.args.disk.now) (g.D.TreeDisk.disk.faults c.record_file.new.disk) in
    let file : IsTrue told → HoldsFile x (record_file n) bytes = λ tells. (
    let seen = sym c.in-Some.is ∙ tests_value c.in_ok-bytes.ensures.tests tells ∙ ap (λ (p : Name). record_read f (get x p)) c.in_ok-path.ensures in
    subst (HoldsFile x (record_file n)) (sym c.get.ensures) (file_read f (get x (record_file n)) c.in-Some.bytes (sym seen))) in
    subst (λ r. IfErr r (IsReadStop told (IsDamagedText f x n) rose)) (sym c.or_damaged.ensures)
    (damaged_err (IsReadStop told (IsDamagedText f x n) rose) c.in_ok-path.path c.record_of.result tt
    (λ bad tells. (
      c.in_ok-path.ensures,
      λ r holds. c.record_of.ensures.bad bad r
          (subst (IsRecordText f r) (some_bytes holds.bytes bytes (sym holds.file ∙ file tells)) holds.text) holds.number_is,
    )))
