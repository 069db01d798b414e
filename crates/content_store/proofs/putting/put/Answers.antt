use Rattle.std.proofs.Common.{ap, sym, subst, ◌∙◌}
use Rattle.std.specs.Prelude.{IfErr}
use Rattle.std.specs.FinMap.{get}
use Rattle.tree_disk.specs.Tree.{Name}
use Rattle.content_store.specs.Store.{content_path, file_bytes}
use Rattle.content_store.specs.Outcome.{IsCollisionOf, PutStops}
use Rattle.content_store.proofs.Standing.{put_stands}
use Rattle.content_store.proofs.Deciding.{decided_tree, stops_passed}
use Rattle.content_store.proofs.putting.put.Goals as goal

pub returns-clause-stored : goal.returns-clause-stored
returns-clause-stored g c tells =
    ap (λ (p : Name). file_bytes (get (g.D.TreeDisk.disk.reads c.keep.new.disk) p)) (sym (c.in_ok-path.ensures.path ∙ ap (content_path c.args.dir.now) c.name-name.ensures))
    ∙ put_stands _ _ _ _ c.args.bytes.now (decided_tree c.in_ok-keep.ensures.decides tells)

pub returns-in_err-keep-clause-stops : goal.returns-in_err-keep-clause-stops
returns-in_err-keep-clause-stops g c =
    let r = c.from_residual-in_err-keep.result in
    let before = g.D.TreeDisk.disk.faults c.args.disk.now in
    let now = g.D.TreeDisk.disk.faults c.keep.new.disk in
    subst (λ (n : Name). IfErr r (PutStops (IsCollisionOf n) before now)) c.name-name.ensures
    (stops_passed (PutStops (IsCollisionOf c.name-name.result) before now) r c.in_err-keep.ensures.stops c.from_residual-in_err-keep.ensures.1)
