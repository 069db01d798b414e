use Rattle.std.proofs.Common.{◌∙◌, ap, refl, sym, subst}
use Rattle.rollback_stack.specs.cny-base.Count.{Rose}
use Rattle.rollback_stack.specs.cny-base.declared.stop.Stop.TheVariants.{Memory}
use Rattle.update_job.specs.Changes.{AreChanges}
use Rattle.system_core.specs.Answers.{only_read}
use Rattle.system_core.specs.FixedDirs.{fixed_dirs}
use Rattle.system_core.specs.Job.{sources_of}
use Rattle.system_core.specs.Lists.{to_list}
use Rattle.system_core.proofs.AnswerLaws.{answer_stop, done_answer, tests_answer, write_answer}
use Rattle.system_core.proofs.JobLaws.{can_write, cause_of, memory_cause, memory_stop, stored, tested_cause, tests_stop, write_done, write_stop, written_cause}
use Rattle.job_targets.specs.Carrying.{whole_targets}
use Rattle.system_core.proofs.StagedWrites.{whole_paths}
use Rattle.system_core.proofs.TestLaws.{whole_run, whole_stop}
use Rattle.system_core.specs.Last.{db_after}
use Rattle.system_core.proofs.TreesMoved.{moves_since, nothing_read, written_moves}
use Rattle.job_targets.proofs.content-store.Sources.{keeps_start}
use Rattle.system_core.proofs.running.job.Goals as goal

pub returns-in_err-changes-clause-ends : goal.returns-in_err-changes-clause-ends
returns-in_err-changes-clause-ends g c tells s stores = memory_stop g.met.T.TreeDisk.laws _ c.args.list s c.args.root.now c.args.db.now c.from_residual.result c.from_residual.ensures.1

pub returns-in_err-changes-clause-answers : goal.returns-in_err-changes-clause-answers
returns-in_err-changes-clause-answers g c =
    answer_stop g.T.TreeDisk.disk (sources_of (g.I.Carries.listed c.args.carried.now (g.T.TreeDisk.disk.reads c.args.root.now)) (g.C.Contents.contents.answers c.args.far.now) c.args.options.now) (to_list c.args.list) c.args.db.now c.args.root.now c.args.root.now c.args.db.now Memory c.from_residual.result c.from_residual.ensures.1 tt

pub returns-in_err-changes-clause-causes : goal.returns-in_err-changes-clause-causes
returns-in_err-changes-clause-causes g c = memory_cause g.C.Contents.contents c.args.far.now c.args.far.now (Rose (g.T.TreeDisk.disk.faults c.args.root.now) (g.T.TreeDisk.disk.faults c.args.root.now)) c.from_residual.result c.from_residual.ensures.1

pub returns-in_err-changes-clause-searches : goal.returns-in_err-changes-clause-searches
returns-in_err-changes-clause-searches g c = keeps_start g.met.C.Contents.laws c.args.far.now

pub tested-requires-clause-changes : goal.tested-requires-clause-changes
tested-requires-clause-changes g c = subst (AreChanges c.args.db.now.installed c.args.list) (sym c.get.ensures) c.in_ok-changes.ensures

pub returns-in_err-made-clause-ends : goal.returns-in_err-made-clause-ends
returns-in_err-made-clause-ends g c tells s stores =
    tests_stop g.met.T.TreeDisk.laws tells _ c.args.db.now c.args.list c.requires.db.installed c.in_err-made.ensures.troves c.requires.allowed c.args.root.now (c.requires.ready tells) c.distinct_databases.ensures.unique s stores c.args.db.now
    c.in_err-made.field-0.0 c.from_residual-in_err-made.result c.from_residual-in_err-made.ensures.1 (whole_stop (sources_of (g.I.Carries.listed c.args.carried.now (g.T.TreeDisk.disk.reads c.args.root.now)) (g.C.Contents.contents.answers c.args.far.now) c.args.options.now) c.args.db.now.installed c.args.list c.in_err-made.field-0.0 c.in_err-made.ensures.gathers)

pub returns-in_err-made-clause-causes : goal.returns-in_err-made-clause-causes
returns-in_err-made-clause-causes g c =
    cause_of g.C.Contents.contents c.args.far.now c.tested.new.far (Rose (g.T.TreeDisk.disk.faults c.args.root.now) (g.T.TreeDisk.disk.faults c.tested.new.root)) c.in_err-made.field-0.0 c.from_residual-in_err-made.result c.from_residual-in_err-made.ensures.1 (tested_cause c.in_err-made.field-0.0 c.in_err-made.ensures.gathers)

pub write_targets-requires : goal.write_targets-requires
write_targets-requires g c = λ κs lives.
    let made = c.in_ok-made.ensures in (
      lives,
      (
        whole_paths (g.T.TreeDisk.disk.reads c.tested.new.root) c.in_ok-made.made.puts,
        (
          made.free,
          (
            made.means,
            (
              c.requires.db,
              (
                made.list,
                (
                  subst (AreChanges c.args.db.now.installed c.args.list) (sym c.get-2.ensures) c.in_ok-changes.ensures,
                  (made.targets, (λ tells. can_write g.T.TreeDisk.disk c.args.db.now c.args.root.now c.tested.new.root (c.requires.ready tells) (made.gathers.same tells) (whole_targets (g.T.TreeDisk.disk.reads c.tested.new.root) c.in_ok-made.made) (made.over tells))),
                ),
              ),
            ),
          ),
        ),
      ),
    )

pub returns-in_err-number-clause-ends : goal.returns-in_err-number-clause-ends
returns-in_err-number-clause-ends g c tells s stores =
    let at = stored g.met.T.TreeDisk.laws tells _ c.args.db.now c.args.list c.requires.db.installed c.in_ok-made.ensures.troves c.requires.allowed c.args.root.now (c.requires.ready tells) c.distinct_databases.ensures.unique s stores
    (whole_targets (g.T.TreeDisk.disk.reads c.tested.new.root) c.in_ok-made.made) (whole_run (sources_of (g.I.Carries.listed c.args.carried.now (g.T.TreeDisk.disk.reads c.args.root.now)) (g.C.Contents.contents.answers c.args.far.now) c.args.options.now) c.args.db.now.installed c.args.list c.in_ok-made.made (g.T.TreeDisk.disk.reads c.tested.new.root) (λ tells. (c.in_ok-made.ensures.gathers.same tells).same.reads) c.in_ok-made.ensures.gathers) in
    write_stop g.met.T.TreeDisk.laws tells _ c.args.db.now c.args.list c.requires.db.installed c.in_ok-made.ensures.troves c.requires.allowed c.args.root.now (c.requires.ready tells) c.distinct_databases.ensures.unique s stores
    (whole_targets (g.T.TreeDisk.disk.reads c.tested.new.root) c.in_ok-made.made) (whole_run (sources_of (g.I.Carries.listed c.args.carried.now (g.T.TreeDisk.disk.reads c.args.root.now)) (g.C.Contents.contents.answers c.args.far.now) c.args.options.now) c.args.db.now.installed c.args.list c.in_ok-made.made (g.T.TreeDisk.disk.reads c.tested.new.root) (λ tells. (c.in_ok-made.ensures.gathers.same tells).same.reads) c.in_ok-made.ensures.gathers) c.in_err-number.ensures.later c.in_ok-changes.changes c.in_ok-changes.ensures _ c.write_targets.new.db c.in_err-number.field-0.0 c.from_residual-in_err-number.result c.from_residual-in_err-number.ensures.1
    (c.in_err-number.ensures.ends tells s at) c.in_err-number.ensures.stops c.in_err-number.ensures.tested

pub returns-in_err-number-clause-causes : goal.returns-in_err-number-clause-causes
returns-in_err-number-clause-causes g c =
    cause_of g.C.Contents.contents c.args.far.now c.tested.new.far (Rose (g.T.TreeDisk.disk.faults c.args.root.now) (g.T.TreeDisk.disk.faults c.write_targets.new.root)) c.in_err-number.field-0.0 c.from_residual-in_err-number.result c.from_residual-in_err-number.ensures.1
    (written_cause g.C.Contents.contents c.args.far.now c.tested.new.far (g.T.TreeDisk.disk.faults c.args.root.now) (g.T.TreeDisk.disk.faults c.tested.new.root) (g.T.TreeDisk.disk.faults c.write_targets.new.root) g.T.TreeDisk.disk.tells c.args.db.now c.args.list (whole_targets (g.T.TreeDisk.disk.reads c.tested.new.root) c.in_ok-made.made).puts c.in_err-number.field-0.0 c.in_ok-made.ensures.gathers.later c.in_err-number.ensures.stops)

pub returns-clause-ends : goal.returns-clause-ends
returns-clause-ends g c tells s stores =
    let at = stored g.met.T.TreeDisk.laws tells _ c.args.db.now c.args.list c.requires.db.installed c.in_ok-made.ensures.troves c.requires.allowed c.args.root.now (c.requires.ready tells) c.distinct_databases.ensures.unique s stores
    (whole_targets (g.T.TreeDisk.disk.reads c.tested.new.root) c.in_ok-made.made) (whole_run (sources_of (g.I.Carries.listed c.args.carried.now (g.T.TreeDisk.disk.reads c.args.root.now)) (g.C.Contents.contents.answers c.args.far.now) c.args.options.now) c.args.db.now.installed c.args.list c.in_ok-made.made (g.T.TreeDisk.disk.reads c.tested.new.root) (λ tells. (c.in_ok-made.ensures.gathers.same tells).same.reads) c.in_ok-made.ensures.gathers) in
    write_done g.met.T.TreeDisk.laws tells _ c.args.db.now c.args.list c.requires.db.installed c.in_ok-made.ensures.troves c.requires.allowed c.args.root.now (c.requires.ready tells) c.distinct_databases.ensures.unique s stores
    (whole_targets (g.T.TreeDisk.disk.reads c.tested.new.root) c.in_ok-made.made) (whole_run (sources_of (g.I.Carries.listed c.args.carried.now (g.T.TreeDisk.disk.reads c.args.root.now)) (g.C.Contents.contents.answers c.args.far.now) c.args.options.now) c.args.db.now.installed c.args.list c.in_ok-made.made (g.T.TreeDisk.disk.reads c.tested.new.root) (λ tells. (c.in_ok-made.ensures.gathers.same tells).same.reads) c.in_ok-made.ensures.gathers) c.in_ok-number.ensures.later c.write_targets.new.db c.in_ok-changes.changes c.in_ok-number.number c.in_ok-changes.ensures
    (c.in_ok-number.ensures.ends tells s at) c.in_ok-number.ensures.answers (c.in_ok-number.ensures.again tells).holds

pub returns-clause-fixed : goal.returns-clause-fixed
returns-clause-fixed g c tells = c.in_ok-number.ensures.fixed tells ∙ ap fixed_dirs (c.in_ok-made.ensures.gathers.same tells).same.reads

pub returns-in_err-made-clause-answers : goal.returns-in_err-made-clause-answers
returns-in_err-made-clause-answers g c =
    let from = (sources_of (g.I.Carries.listed c.args.carried.now (g.T.TreeDisk.disk.reads c.args.root.now)) (g.C.Contents.contents.answers c.args.far.now) c.args.options.now) in
    answer_stop g.T.TreeDisk.disk from (to_list c.args.list) c.args.db.now c.args.root.now c.tested.new.root c.args.db.now c.in_err-made.field-0.0 c.from_residual-in_err-made.result c.from_residual-in_err-made.ensures.1
    (tests_answer from c.args.db.now c.args.list c.args.db.now c.in_err-made.field-0.0 (whole_stop (sources_of (g.I.Carries.listed c.args.carried.now (g.T.TreeDisk.disk.reads c.args.root.now)) (g.C.Contents.contents.answers c.args.far.now) c.args.options.now) c.args.db.now.installed c.args.list c.in_err-made.field-0.0 c.in_err-made.ensures.gathers) c.in_err-made.ensures.stops)

pub returns-in_err-number-clause-answers : goal.returns-in_err-number-clause-answers
returns-in_err-number-clause-answers g c =
    let from = (sources_of (g.I.Carries.listed c.args.carried.now (g.T.TreeDisk.disk.reads c.args.root.now)) (g.C.Contents.contents.answers c.args.far.now) c.args.options.now) in
    answer_stop g.T.TreeDisk.disk from (to_list c.args.list) c.args.db.now c.args.root.now c.write_targets.new.root c.write_targets.new.db c.in_err-number.field-0.0 c.from_residual-in_err-number.result c.from_residual-in_err-number.ensures.1
    (write_answer from c.args.db.now c.args.list (whole_targets (g.T.TreeDisk.disk.reads c.tested.new.root) c.in_ok-made.made) (whole_run (sources_of (g.I.Carries.listed c.args.carried.now (g.T.TreeDisk.disk.reads c.args.root.now)) (g.C.Contents.contents.answers c.args.far.now) c.args.options.now) c.args.db.now.installed c.args.list c.in_ok-made.made (g.T.TreeDisk.disk.reads c.tested.new.root) (λ tells. (c.in_ok-made.ensures.gathers.same tells).same.reads) c.in_ok-made.ensures.gathers) c.in_ok-made.ensures.passes c.write_targets.new.db _ c.in_err-number.field-0.0 c.in_err-number.ensures.stops c.in_err-number.ensures.tested)

pub returns-clause-answers : goal.returns-clause-answers
returns-clause-answers g c =
    done_answer (sources_of (g.I.Carries.listed c.args.carried.now (g.T.TreeDisk.disk.reads c.args.root.now)) (g.C.Contents.contents.answers c.args.far.now) c.args.options.now) c.args.db.now c.args.list (whole_targets (g.T.TreeDisk.disk.reads c.tested.new.root) c.in_ok-made.made) (whole_run (sources_of (g.I.Carries.listed c.args.carried.now (g.T.TreeDisk.disk.reads c.args.root.now)) (g.C.Contents.contents.answers c.args.far.now) c.args.options.now) c.args.db.now.installed c.args.list c.in_ok-made.made (g.T.TreeDisk.disk.reads c.tested.new.root) (λ tells. (c.in_ok-made.ensures.gathers.same tells).same.reads) c.in_ok-made.ensures.gathers) c.in_ok-made.ensures.passes c.write_targets.new.root c.write_targets.new.db c.in_ok-changes.changes c.in_ok-number.number
    c.in_ok-made.ensures.list c.in_ok-changes.ensures c.in_ok-number.ensures.answers c.in_ok-number.ensures.outer c.in_ok-number.ensures.tested
    (λ tells.
    let from = sources_of (g.I.Carries.listed c.args.carried.now (g.T.TreeDisk.disk.reads c.args.root.now)) (g.C.Contents.contents.answers c.args.far.now) c.args.options.now in
    let run = (whole_run (sources_of (g.I.Carries.listed c.args.carried.now (g.T.TreeDisk.disk.reads c.args.root.now)) (g.C.Contents.contents.answers c.args.far.now) c.args.options.now) c.args.db.now.installed c.args.list c.in_ok-made.made (g.T.TreeDisk.disk.reads c.tested.new.root) (λ tells. (c.in_ok-made.ensures.gathers.same tells).same.reads) c.in_ok-made.ensures.gathers) in
    moves_since g.met.T.TreeDisk.laws from (to_list c.args.list) c.args.db.now c.args.root.now c.tested.new.root c.write_targets.new.root (c.requires.ready tells) (run.same tells) (whole_targets (g.T.TreeDisk.disk.reads c.tested.new.root) c.in_ok-made.made).puts
    (db_after c.args.db.now c.args.list) (c.in_ok-number.ensures.moments tells))

pub returns-in_err-changes-clause-moments : goal.returns-in_err-changes-clause-moments
returns-in_err-changes-clause-moments g c tells = only_read (nothing_read g.met.T.TreeDisk.laws c.args.root.now)

pub returns-in_err-made-clause-moments : goal.returns-in_err-made-clause-moments
returns-in_err-made-clause-moments g c tells = only_read (c.in_err-made.ensures.gathers.same tells)

pub returns-in_err-number-clause-moments : goal.returns-in_err-number-clause-moments
returns-in_err-number-clause-moments g c tells =
    let run = (whole_run (sources_of (g.I.Carries.listed c.args.carried.now (g.T.TreeDisk.disk.reads c.args.root.now)) (g.C.Contents.contents.answers c.args.far.now) c.args.options.now) c.args.db.now.installed c.args.list c.in_ok-made.made (g.T.TreeDisk.disk.reads c.tested.new.root) (λ tells. (c.in_ok-made.ensures.gathers.same tells).same.reads) c.in_ok-made.ensures.gathers) in
    written_moves g.met.T.TreeDisk.laws (sources_of (g.I.Carries.listed c.args.carried.now (g.T.TreeDisk.disk.reads c.args.root.now)) (g.C.Contents.contents.answers c.args.far.now) c.args.options.now) (to_list c.args.list) c.args.db.now c.args.root.now c.tested.new.root c.write_targets.new.root
    (c.requires.ready tells) (run.same tells) c.args.list refl (whole_targets (g.T.TreeDisk.disk.reads c.tested.new.root) c.in_ok-made.made).puts ((whole_targets (g.T.TreeDisk.disk.reads c.tested.new.root) c.in_ok-made.made), refl, run.ends tells) c.in_ok-changes.changes c.in_ok-changes.ensures c.in_err-number.ensures.tested (c.in_err-number.ensures.moments tells)

pub returns-clause-moments : goal.returns-clause-moments
returns-clause-moments g c tells =
    let run = (whole_run (sources_of (g.I.Carries.listed c.args.carried.now (g.T.TreeDisk.disk.reads c.args.root.now)) (g.C.Contents.contents.answers c.args.far.now) c.args.options.now) c.args.db.now.installed c.args.list c.in_ok-made.made (g.T.TreeDisk.disk.reads c.tested.new.root) (λ tells. (c.in_ok-made.ensures.gathers.same tells).same.reads) c.in_ok-made.ensures.gathers) in
    written_moves g.met.T.TreeDisk.laws (sources_of (g.I.Carries.listed c.args.carried.now (g.T.TreeDisk.disk.reads c.args.root.now)) (g.C.Contents.contents.answers c.args.far.now) c.args.options.now) (to_list c.args.list) c.args.db.now c.args.root.now c.tested.new.root c.write_targets.new.root
    (c.requires.ready tells) (run.same tells) c.args.list refl (whole_targets (g.T.TreeDisk.disk.reads c.tested.new.root) c.in_ok-made.made).puts ((whole_targets (g.T.TreeDisk.disk.reads c.tested.new.root) c.in_ok-made.made), refl, run.ends tells) c.in_ok-changes.changes c.in_ok-changes.ensures c.in_ok-number.ensures.tested (c.in_ok-number.ensures.moments tells)
