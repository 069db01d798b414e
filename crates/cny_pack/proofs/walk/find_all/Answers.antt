use Rattle.std.proofs.Common.{List, ap, subst}
use Rattle.std.specs.BTreeMap.{is_at}
use Rattle.std.specs.Cmp.Lexicographic.{slice_cmp}
use Rattle.std.specs.Map.{lookup}
use Rattle.std.specs.Ordering.{nat_cmp}
use Rattle.tree_disk.specs.Tree.{Name}
use Rattle.tree_disk.specs.declared.disk.Look.{Look}
use Rattle.cny_pack.specs.Walk.{WentInto}
use Rattle.cny_pack.proofs.Walking.{finds_all}
use Rattle.cny_pack.proofs.walk.find_all.Goals as goal

pub returns-clause-found : goal.returns-clause-found
returns-clause-found g c tells =
    let tree = g.D.TreeDisk.disk.reads c.args.disk.now in
    finds_all tree c.new-seen.result c.walk.new.seen (g.met.D.TreeDisk.laws.reads_well_formed c.args.disk.now)
    (λ p. ap (λ (es : List (Name × Look)). lookup (is_at (slice_cmp nat_cmp p)) es) c.new-seen.ensures.empty)
    (subst (λ (p : Name). WentInto tree p c.new-seen.result c.walk.new.seen) c.in_ok-top.ensures.value (c.in_ok-walk.ensures.went tells))
