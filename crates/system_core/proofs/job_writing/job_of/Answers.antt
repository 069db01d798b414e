use Rattle.std.proofs.Common.{ap, subst}
use Rattle.local_db.specs.declared.format.Format.TheVariants.{Two}
use Rattle.local_db.specs.Formats.{Fits}
use Rattle.local_db.specs.declared.db.Db.{Db}
use Rattle.system_core.proofs.JobChanges.{same_lists, something}
use Rattle.system_core.proofs.JobEnding.{job_is, last_fault, passes_size}
use Rattle.system_core.proofs.StagedWrites.{none_meant, none_whole}
use Rattle.system_core.proofs.job_writing.job_of.Goals as goal

pub returns-then-is_nothing-clause-none : goal.returns-then-is_nothing-clause-none
returns-then-is_nothing-clause-none g c =
    let both = c.is_nothing.ensures.0 c.if-is_nothing.true in
    record {
      no_target = none_whole g.whole c.args.puts.now c.requires.0 both.0;
      same_list = same_lists c.distinct_troves.ensures.unique c.args.db.now.installed c.args.list c.requires.1.0.installed c.requires.1.1.0 c.args.changes.now c.requires.1.1.1 both.1;
    }

pub changed_names-requires-clause-before : goal.changed_names-requires-clause-before
changed_names-requires-clause-before g c = c.requires.1.0.installed

pub returns-in_err-bytes-clause-refused : goal.returns-in_err-bytes-clause-refused
returns-in_err-bytes-clause-refused g c =
    last_fault c.args.db.now c.args.list c.db_after-after.result.installed g.whole _ c.from_residual-in_err-bytes.result c.from_residual-in_err-bytes.ensures.1
    (λ nothing. something c.distinct_troves.ensures.unique c.args.db.now.installed c.args.list c.requires.1.0.installed c.requires.1.1.0 c.args.changes.now c.requires.1.1.1
    c.args.puts.now c.is_nothing.result c.is_nothing.ensures.0 c.is_nothing.ensures.1 c.if-is_nothing.false (none_meant g.whole c.args.puts.now c.requires.0 nothing.no_target) nothing.same_list)
    (ap (λ (d : Db). d.installed) c.db_after-after.ensures) c.in_err-bytes.ensures.refused

pub returns-clause-some : goal.returns-clause-some
returns-clause-some g c =
    job_is c.args.db.now c.args.list c.in_ok-names.names.items c.db_after-after.result c.in_ok-bytes.bytes c.db_after-after.ensures c.in_ok-bytes.ensures.room c.requires.1.0 c.requires.1.1.0
    c.in_ok-bytes.ensures.fits c.in_ok-names.ensures c.in_ok-bytes.ensures.value

pub returns-clause-passes : goal.returns-clause-passes
returns-clause-passes g c = record {
  short = passes_size c.args.list (subst (Fits Two) (ap (λ (d : Db). d.installed) c.db_after-after.ensures) c.in_ok-bytes.ensures.fits);
  something = λ nothing. something c.distinct_troves.ensures.unique c.args.db.now.installed c.args.list c.requires.1.0.installed c.requires.1.1.0 c.args.changes.now c.requires.1.1.1
      c.args.puts.now c.is_nothing.result c.is_nothing.ensures.0 c.is_nothing.ensures.1 c.if-is_nothing.false (none_meant g.whole c.args.puts.now c.requires.0 nothing.no_target) nothing.same_list;
  room = c.in_ok-bytes.ensures.room;
}
