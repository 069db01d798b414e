use Rattle.std.proofs.Common.{◌<◌, length, false, Ok, is_some, ap, arith}
use Rattle.tree_disk.proofs.ClearLaws.{within_itself}
use Rattle.tree_disk.proofs.StepLaws.{tests_start}
use Rattle.content_store.specs.Store.{content_path, file_bytes}
use Rattle.content_store.proofs.Paths.{nothing_too_long}
use Rattle.content_store.proofs.getting.has.Goals as goal

pub returns-then-text-gt-LONGEST_DIR-clause-tests : goal.returns-then-text-gt-LONGEST_DIR-clause-tests
returns-then-text-gt-LONGEST_DIR-clause-tests g c =
    let path = content_path c.args.dir.now c.args.name.now in
    let far : 983 < length c.args.dir.now = omega (arith, ap length c.text.ensures.value) in
    tests_start g.met.D.TreeDisk.laws c.args.disk.now false (λ tells.
    ap (λ o. Ok (is_some (file_bytes o))) (nothing_too_long _ c.args.dir.now c.args.name.now path (g.met.D.TreeDisk.laws.reads_well_formed c.args.disk.now) far c.told-name (within_itself path)))
