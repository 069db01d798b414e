use Rattle.std.proofs.Common.{subst}
use Rattle.std.specs.Prelude.{MatchResult}
use Rattle.repo_load.specs.trove-stream.FilesOf.{files_of}
use Rattle.repo_load.specs.tree-disk.Tree.{Name, Tree}
use Rattle.repo_load.proofs.LooksLaws.{looks_damage, looks_start}
use Rattle.repo_serve.specs.Wanted.{AreWanted, HasTwoSizes}
use Rattle.repo_serve.proofs.PutSets.{damaged_two}
use Rattle.repo_serve.proofs.sets.absolute.Goals as goal

pub returns-in_ok-content_path-in-Err : goal.returns-in_ok-content_path-in-Err
returns-in_ok-content_path-in-Err g c =
    let files = files_of c.args.troves.now in
    let two : HasTwoSizes files c.in-Err.name = subst (λ r. MatchResult r (λ wanted. AreWanted files wanted.items) (HasTwoSizes files)) c.in-Err.is c.in_ok-wanted.ensures in
    looks_damage {P = λ (tree : Tree) (x : Unit {0}). Unit {0}} {Q = λ (tree : Tree) (path : Name). ⊥} {x = tt} (looks_start g.met.D.TreeDisk.laws c.args.disk.now tt (λ tells. tt))
    (λ told u.
    damaged_two c.args.troves.now c.absolute_set.ensures.contents c.in-Err.name two (g.D.TreeDisk.disk.reads c.args.disk.now) c.in_ok-content_path-in-Err.field-0 c.in_ok-content_path-in-Err.ensures)
