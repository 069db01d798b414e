use Rattle.std.proofs.Common.{refl, sym, subst, arith}
use Rattle.job_targets.specs.Agree.{AllAgree}
use Rattle.rollback_stack.specs.job-record.Changed.{AreChangedNames}
use Rattle.rollback_stack.specs.Entries.{AreEntries}
use Rattle.local_db.specs.declared.db.Db.{Db}
use Rattle.system_core.specs.JobWriting.{MovesTrees}
use Rattle.system_core.specs.Last.{db_after}
use Rattle.system_core.proofs.TreesMoved.{no_targets, nothing_moves}
use Rattle.system_core.proofs.JobEnding.{can_put, job_from, pushed_stops, refused_job, refused_stops, stopped_answer, stopped_job, written_job}
use Rattle.system_core.proofs.job_writing.write_targets.Goals as goal

pub returns-in_err-job-clause-ends : goal.returns-in_err-job-clause-ends
returns-in_err-job-clause-ends g c tells s stores =
    refused_job g.met.T.TreeDisk.laws c.args.db.now c.args.list g.whole c.args.entries c.args.root.now (c.requires.1.1.1.1.1.1.1.1 tells) s stores _ c.from_residual.result c.from_residual.ensures.1

pub returns-in_err-job-clause-stops : goal.returns-in_err-job-clause-stops
returns-in_err-job-clause-stops g c =
    refused_stops g.T.TreeDisk.disk.tells _ c.args.db.now c.args.list g.whole _ c.from_residual.result c.from_residual.ensures.1 c.in_err-job.ensures.refused

pub returns-in_err-job-clause-answers : goal.returns-in_err-job-clause-answers
returns-in_err-job-clause-answers g c = stopped_answer c.args.db.now c.args.db.now c.args.list g.whole c.from_residual.result _ refl c.from_residual.ensures.1

pub returns-in_default-clause-again : goal.returns-in_default-clause-again
returns-in_default-clause-again g c tells =
    let can = c.requires.1.1.1.1.1.1.1.1 tells in
    record { flag_clear = can.flag_clear; synced = can.synced; pinned = can.pinned; holds = can.holds }

pub put_job-requires : goal.put_job-requires
put_job-requires g c = λ κs lives.
    let job = c.in-Some.job in
    let made = rw c.in-Some.is at c.in_ok-job.ensures.some in
    let next = made.next in
    let targets = c.requires.1.1.1.1.1.1.1.0 in (
      lives,
      (
        made.database,
        (
          omega (arith, next),
          (
            subst (AreChangedNames c.args.db.now.installed job.db.installed) (sym c.as_slice.ensures.value) made.names_are,
            (
              subst AreEntries (sym c.get.ensures) targets.entries,
              (
                subst AllAgree (sym c.get.ensures) targets.agree,
                (
                  c.requires.1.1.0,
                  (
                    c.requires.1.1.1.0,
                    (
                      made.text,
                      (λ tells. can_put c.args.db.now c.args.list g.whole c.args.entries job.names.items job.db job.bytes made g.met.T.TreeDisk.laws c.args.root.now (c.requires.1.1.1.1.1.1.1.1 tells) c.get.result.now c.get.ensures),
                    ),
                  ),
                ),
              ),
            ),
          ),
        ),
      ),
    )

pub returns-in_err-put_job-clause-ends : goal.returns-in_err-put_job-clause-ends
returns-in_err-put_job-clause-ends g c tells s stores =
    let job = c.in-Some.job in
    let is = (rw c.in-Some.is at c.in_ok-job.ensures.some) in
    let can = c.requires.1.1.1.1.1.1.1.1 tells in
    let from = job_from c.args.db.now c.args.list g.whole c.args.entries job.names.items job.db job.bytes is c.distinct_databases.ensures.unique
    (g.T.TreeDisk.disk.reads c.args.root.now) s can.holds stores in
    stopped_job c.args.db.now c.args.list g.whole c.args.entries job.names.items job.db job.bytes is g.met.T.TreeDisk.laws c.args.root.now can
    c.distinct_databases.ensures.unique c.put_job.new.root s stores _ _ c.from_residual-in_err-put_job.result c.from_residual-in_err-put_job.ensures.1 tells c.in_err-put_job.ensures.stops
    (c.in_err-put_job.ensures.goes tells s stores from)

pub returns-in_err-put_job-clause-stops : goal.returns-in_err-put_job-clause-stops
returns-in_err-put_job-clause-stops g c =
    pushed_stops g.T.TreeDisk.disk.tells _ c.args.db.now c.args.list g.whole _ c.from_residual-in_err-put_job.result c.from_residual-in_err-put_job.ensures.1 (rw c.in-Some.is at c.in_ok-job.ensures.passes) c.in_err-put_job.ensures.stops

pub returns-in_err-put_job-clause-answers : goal.returns-in_err-put_job-clause-answers
returns-in_err-put_job-clause-answers g c = stopped_answer c.args.db.now c.args.db.now c.args.list g.whole c.from_residual-in_err-put_job.result _ refl c.from_residual-in_err-put_job.ensures.1

pub returns-clause-ends : goal.returns-clause-ends
returns-clause-ends g c tells s stores =
    let job = c.in-Some.job in
    let is = (rw c.in-Some.is at c.in_ok-job.ensures.some) in
    let can = c.requires.1.1.1.1.1.1.1.1 tells in
    let from = job_from c.args.db.now c.args.list g.whole c.args.entries job.names.items job.db job.bytes is c.distinct_databases.ensures.unique
    (g.T.TreeDisk.disk.reads c.args.root.now) s can.holds stores in
    written_job c.args.db.now c.args.list g.whole c.args.entries job.names.items job.db job.bytes is g.met.T.TreeDisk.laws c.args.root.now can
    c.distinct_databases.ensures.unique c.put_job.new.root s stores job.db.newest refl (c.in_ok-put_job.ensures.goes tells s stores from)

pub returns-clause-answers : goal.returns-clause-answers
returns-clause-answers g c = let made = rw c.in-Some.is at c.in_ok-job.ensures.some in (made.next, made.db_is, (rw c.in-Some.is at c.in_ok-job.ensures.passes))

pub returns-clause-rules : goal.returns-clause-rules
returns-clause-rules g c = let made = rw c.in-Some.is at c.in_ok-job.ensures.some in made.database

pub returns-in_err-job-clause-moments : goal.returns-in_err-job-clause-moments
returns-in_err-job-clause-moments g c tells = nothing_moves g.met.T.TreeDisk.laws c.args.db.now (db_after c.args.db.now c.args.list) g.whole c.args.entries c.args.root.now (c.requires.1.1.1.1.1.1.1.1 tells)

pub returns-in_default-clause-moments : goal.returns-in_default-clause-moments
returns-in_default-clause-moments g c tells = nothing_moves g.met.T.TreeDisk.laws c.args.db.now (db_after c.args.db.now c.args.list) g.whole c.args.entries c.args.root.now (c.requires.1.1.1.1.1.1.1.1 tells)

pub returns-in_default-clause-outer : goal.returns-in_default-clause-outer
returns-in_default-clause-outer g c tells = no_targets g.T.TreeDisk.disk g.whole c.args.root.now (let none = rw c.in_default.is at c.in_ok-job.ensures.none in none.no_target)

pub returns-in_err-put_job-clause-moments : goal.returns-in_err-put_job-clause-moments
returns-in_err-put_job-clause-moments g c tells =
    let made = rw c.in-Some.is at c.in_ok-job.ensures.some in
    subst (λ (db : Db). MovesTrees g.T.TreeDisk.disk g.whole c.args.db.now db c.args.root.now c.put_job.new.root) made.db_is (c.in_err-put_job.ensures.moments tells c.args.db.now (c.requires.1.1.1.1.1.1.1.1 tells).holds)

pub returns-clause-moments : goal.returns-clause-moments
returns-clause-moments g c tells =
    let made = rw c.in-Some.is at c.in_ok-job.ensures.some in
    subst (λ (db : Db). MovesTrees g.T.TreeDisk.disk g.whole c.args.db.now db c.args.root.now c.put_job.new.root) made.db_is (c.in_ok-put_job.ensures.moments tells c.args.db.now (c.requires.1.1.1.1.1.1.1.1 tells).holds)
