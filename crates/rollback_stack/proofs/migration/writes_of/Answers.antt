use Rattle.std.proofs.Common.{List, ℕ, subst}
use Rattle.local_db.specs.Formats.{database_bytes}
use Rattle.local_db.specs.declared.format.Format.TheVariants.{Two}
use Rattle.job_targets.specs.tree-disk.Tree.{Name}
use Rattle.rollback_stack.specs.Migrated.{HasFile}
use Rattle.rollback_stack.proofs.Doubling.{fits_two}
use Rattle.rollback_stack.proofs.Later.{read_as}
use Rattle.rollback_stack.proofs.Rewriting.{writes_are}
use Rattle.rollback_stack.proofs.migration.writes_of.Goals as goal

pub encode_within-requires : goal.encode_within-requires
encode_within-requires g c = fits_two c.args.db.now.installed c.requires.fits

pub returns-clause-value : goal.returns-clause-value
returns-clause-value g c tells =
    let x = g.D.TreeDisk.disk.reads c.args.disk.now in
    let db = c.args.db.now in
    let none = c.new-wants.result in
    let first = c.want_file.new.wants in
    let run = c.in_ok-want_records.ensures.value tells in
    let file = subst (λ (p : Name). HasFile p (database_bytes Two db.installed db.oldest db.newest) none first) c.in_ok-path.ensures
    (subst (λ (b : List ℕ). HasFile c.in_ok-path.path b none first) c.in_ok-bytes.ensures.value c.in_ok-want_file.ensures) in
    read_as run (writes_are x db none first c.want_records.new.wants c.in_ok-puts.puts c.new-wants.ensures.empty file run.answer c.in_ok-puts.ensures.ordered c.in_ok-puts.ensures.puts)
