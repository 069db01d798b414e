use Rattle.std.proofs.Common.{ℕ, List, [], Ok, get_or, arith, subst}
use Rattle.std.proofs.lemmas.List.Elements.{Contains-get_or}
use Rattle.repo_load.specs.Looks.{Looks}
use Rattle.repo_load.specs.tree-disk.Tree.{Tree}
use Rattle.repo_load.proofs.LooksLaws.{looks_answer, looks_start, looks_stop, looks_then}
use Rattle.repo_mirror.proofs.Lengthening.{take_whole}
use Rattle.repo_serve.specs.Wanted.{HasCarried, HasCarriedOne, IsOneOther, IsOther}
use Rattle.repo_serve.proofs.PutSets.{carried_more, none_carried}
use Rattle.repo_serve.proofs.carrying.carry_all.Goals as goal

pub carry-requires-clause-named : goal.carry-requires-clause-named
carry-requires-clause-named g c =
    let want : List ℕ × ℕ = get_or c.args.wanted.now c.loop-content.content-index ([], 0) in
    c.requires.named want.0 want.1 (Contains-get_or c.args.wanted.now c.loop-content.content-index ([], 0) c.loop-content-test.true)

pub carry-requires-clause-sized : goal.carry-requires-clause-sized
carry-requires-clause-sized g c =
    let want : List ℕ × ℕ = get_or c.args.wanted.now c.loop-content.content-index ([], 0) in
    c.requires.sized want.0 want.1 (Contains-get_or c.args.wanted.now c.loop-content.content-index ([], 0) c.loop-content-test.true)

pub carry-requires-clause-room : goal.carry-requires-clause-room
carry-requires-clause-room g c =
    let want : List ℕ × ℕ = get_or c.args.wanted.now c.loop-content.content-index ([], 0) in
    c.requires.room want.0 want.1 (Contains-get_or c.args.wanted.now c.loop-content.content-index ([], 0) c.loop-content-test.true)

pub loop-content-init : goal.loop-content-init
loop-content-init g c = looks_start g.met.D.TreeDisk.laws c.args.disk.now tt (λ tells. none_carried (g.D.TreeDisk.disk.reads c.args.disk.now) c.args.wanted.now c.args.out.now)

pub returns-in_err-carry : goal.returns-in_err-carry
returns-in_err-carry g c =
    let want : List ℕ × ℕ = get_or c.args.wanted.now c.loop-content.content-index ([], 0) in
    looks_then g.met.D.TreeDisk.laws c.loop-content.invariant
    (looks_stop {R = λ (tree : Tree) (x : Unit {0}). ⊥} {S = IsOther want.0 want.1} c.in_err-carry.ensures c.from_residual.ensures.1 (λ tells path p. p))
    (λ tells so_far z no. absurd no)
    (λ tells so_far path other. record { name = want.0; size = want.1; among = Contains-get_or c.args.wanted.now c.loop-content.content-index ([], 0) c.loop-content-test.true; other = other })

pub loop-content-preserved : goal.loop-content-preserved
loop-content-preserved g c =
    let want : List ℕ × ℕ = get_or c.args.wanted.now c.loop-content.content-index ([], 0) in
    looks_then g.met.D.TreeDisk.laws c.loop-content.invariant
    (looks_answer {R = λ (tree : Tree) (x : Unit {0}). HasCarriedOne want.0 want.1 tree c.loop-content.out c.carry.new.out} {S = IsOther want.0 want.1} {z = tt} c.in_ok-carry.ensures (λ tells p. p))
    (λ tells so_far z one.
    carried_more (g.D.TreeDisk.disk.reads c.args.disk.now) c.args.wanted.now c.loop-content.content-index c.args.out.now c.loop-content.out c.carry.new.out c.loop-content-test.true so_far one)
    (λ tells so_far path other. record { name = want.0; size = want.1; among = Contains-get_or c.args.wanted.now c.loop-content.content-index ([], 0) c.loop-content-test.true; other = other })

pub returns : goal.returns
returns g c =
    subst (λ (l : List (List ℕ × ℕ)). Looks {X = Unit {0}} g.D.TreeDisk.disk (λ (tree : Tree) (x : Unit {0}). HasCarried l tree c.args.out.now c.loop-content.out) (IsOneOther c.args.wanted.now) c.args.disk.now c.loop-content.disk (Ok tt))
    (take_whole c.args.wanted.now c.loop-content.content-index (omega arith)) c.loop-content.invariant
