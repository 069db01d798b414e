use Rattle.std.proofs.Common.{arith}
use Rattle.std.specs.BTreeMap.{get}
use Rattle.std.specs.Cmp.Lexicographic.{slice_cmp}
use Rattle.std.specs.Ordering.{nat_cmp}
use Rattle.conflict_plan.proofs.Ahead.{file_noted}
use Rattle.conflict_plan.proofs.records.add_files.Goals as goal

pub loop-file-preserved : goal.loop-file-preserved
loop-file-preserved c = λ path.
    file_noted c.args.side c.args.name.now c.args.files.now c.loop-file.file-index c.file-item.result path
    (get (slice_cmp nat_cmp) c.args.records.now path) (get (slice_cmp nat_cmp) c.loop-file.records path) (get (slice_cmp nat_cmp) c.add_file.new.records path)
    (omega arith) c.file-item.is (c.loop-file.invariant path) (c.in_ok-add_file.ensures path)
