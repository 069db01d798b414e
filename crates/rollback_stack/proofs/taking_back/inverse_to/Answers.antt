use Rattle.std.proofs.Common.{◌∙◌, List, ap, sym, subst}
use Rattle.job_targets.specs.cny-base.Count.{Rose}
use Rattle.rollback_stack.specs.Database.{db_below}
use Rattle.local_db.specs.declared.db.Db.{Db}
use Rattle.local_db.specs.Stores.{IsDatabase}
use Rattle.local_db.specs.declared.format.Format.TheVariants.{Two}
use Rattle.job_targets.proofs.tree-disk.Moments.{rose_before}
use Rattle.job_targets.specs.tree-disk.Tree.{Tree}
use Rattle.job_targets.specs.trove-stream.declared.parts.TroveParts.{TroveParts}
use Rattle.rollback_stack.specs.Inverse.{IsBackStop}
use Rattle.rollback_stack.specs.Wanting.{AreWanted}
use Rattle.rollback_stack.proofs.Later.{read_as, read_then}
use Rattle.change_rel.proofs.cny-base.Faults.{passed_on}
use Rattle.rollback_stack.proofs.Below.{database_below}
use Rattle.rollback_stack.proofs.TakenBack.{back_to, content_stop, job_stop, no_job}
use Rattle.rollback_stack.proofs.taking_back.inverse_to.Goals as goal

pub returns-in_err-check_number-clause-stops : goal.returns-in_err-check_number-clause-stops
returns-in_err-check_number-clause-stops g c =
    let told = g.D.TreeDisk.disk.tells in
    let x = g.D.TreeDisk.disk.reads c.args.disk.now in
    let rose = Rose (g.D.TreeDisk.disk.faults c.args.disk.now) (g.D.TreeDisk.disk.faults c.args.disk.now) in
    let e = c.in_err-check_number.field-0.0 in
    passed_on (IsBackStop told x c.args.db.now c.args.number rose) e c.from_residual.result
    (no_job told x c.args.db.now c.args.number rose e c.in_err-check_number.ensures.stops) c.from_residual.ensures.1

pub returns-in_err-back-clause-stops : goal.returns-in_err-back-clause-stops
returns-in_err-back-clause-stops g c =
    let told = g.D.TreeDisk.disk.tells in
    let x = g.D.TreeDisk.disk.reads c.args.disk.now in
    let rose = Rose (g.D.TreeDisk.disk.faults c.args.disk.now) (g.D.TreeDisk.disk.faults c.jobs_down_to.new.disk) in
    let e = c.in_err-back.field-0.0 in
    passed_on (IsBackStop told x c.args.db.now c.args.number rose) e c.from_residual-in_err-back.result
    (job_stop told x c.args.db.now c.args.number rose e c.in_ok-check_number.ensures.job c.in_err-back.ensures.stops) c.from_residual-in_err-back.ensures.1

pub returns-in_err-wants-clause-stops : goal.returns-in_err-wants-clause-stops
returns-in_err-wants-clause-stops g c =
    let told = g.D.TreeDisk.disk.tells in
    let faults = g.D.TreeDisk.disk.faults in
    let x = g.D.TreeDisk.disk.reads c.args.disk.now in
    let y = g.D.TreeDisk.disk.reads c.jobs_down_to.new.disk in
    let back = c.in_ok-back.back in
    let rose = Rose (faults c.jobs_down_to.new.disk) (faults c.old_nodes.new.disk) in
    let later = Rose (faults c.args.disk.now) (faults c.old_nodes.new.disk) in
    let e = c.in_err-wants.field-0.0 in
    passed_on (IsBackStop told x c.args.db.now c.args.number later) e c.from_residual-in_err-wants.result
    (content_stop told x y c.args.db.now c.args.number back.list.troves back.found rose later e c.in_ok-check_number.ensures.job (λ tells. (c.in_ok-back.ensures.value tells).answer)
    (λ r. rose_before (faults c.args.disk.now) (faults c.jobs_down_to.new.disk) (faults c.old_nodes.new.disk) c.in_ok-back.ensures.later r)
    (λ tells. (c.in_ok-back.ensures.value tells).same.reads) c.in_err-wants.ensures.stops) c.from_residual-in_err-wants.ensures.1

pub returns-clause-database : goal.returns-clause-database
returns-clause-database g c =
    let is = c.db_below-below.ensures ∙ ap (λ (l : List TroveParts). db_below c.args.db.now l c.args.number) c.in_ok-before.ensures in
    subst (λ (d : Db). IsDatabase Two d.installed d.oldest d.newest) (sym is)
    (database_below c.args.db.now c.in_ok-back.back.list.troves c.args.number c.requires.db.ends c.in_ok-check_number.ensures.job c.in_ok-back.ensures.installed c.in_ok-back.ensures.fits)

pub returns-clause-value : goal.returns-clause-value
returns-clause-value g c tells =
    let x = g.D.TreeDisk.disk.reads c.args.disk.now in
    let db = c.args.db.now in
    let n = c.args.number in
    let back = c.in_ok-back.back in
    let first = c.in_ok-back.ensures.value tells in
    let second = c.in_ok-wants.ensures.value tells in
    read_as (read_then g.met.D.TreeDisk.laws first second)
    (back_to x db n back.list.troves back.found c.in_ok-wants.wants c.want_no_records.new.wants _ c.in_ok-check_number.ensures.job first.answer
    (subst (λ (t : Tree). AreWanted t back.found c.in_ok-wants.wants) first.same.reads second.answer) c.in_ok-wants.ensures.ordered
    c.in_ok-want_no_records.ensures c.in_ok-puts.ensures.ordered c.in_ok-puts.ensures.puts
    (c.db_below-below.ensures ∙ ap (λ (l : List TroveParts). db_below db l n) c.in_ok-before.ensures))
