use Rattle.std.proofs.Common.{◌<◌, length, ap, ◌∙◌, sym, arith}
use Rattle.tree_disk.specs.Clear.{is_within}
use Rattle.tree_disk.proofs.StepLaws.{makes_start}
use Rattle.content_store.specs.Store.{content_path}
use Rattle.content_store.proofs.Paths.{content_not_root, nothing_too_long, without_nothing}
use Rattle.content_store.proofs.Deciding.{cleared_bare}
use Rattle.content_store.proofs.getting.clear.Goals as goal

pub returns-then-text-gt-LONGEST_DIR-clause-makes : goal.returns-then-text-gt-LONGEST_DIR-clause-makes
returns-then-text-gt-LONGEST_DIR-clause-makes g c =
    let dir = c.args.dir.now in
    let name = c.args.name.now in
    let far : 983 < length c.args.dir.now = omega (arith, ap length c.text.ensures.value) in
    makes_start g.met.D.TreeDisk.laws (is_within (content_path dir name)) c.args.disk.now (tt {0}) (λ tells.
    without_nothing _ (content_path dir name) (λ q within. nothing_too_long _ dir name q (g.met.D.TreeDisk.laws.reads_well_formed c.args.disk.now) far c.told-name within))

pub returns-then-text-gt-LONGEST_DIR-clause-cleared : goal.returns-then-text-gt-LONGEST_DIR-clause-cleared
returns-then-text-gt-LONGEST_DIR-clause-cleared g c tells q within =
    let far : 983 < length c.args.dir.now = omega (arith, ap length c.text.ensures.value) in
    nothing_too_long _ c.args.dir.now c.args.name.now q (g.met.D.TreeDisk.laws.reads_well_formed c.args.disk.now) far c.told-name within

pub clear_tree-requires : goal.clear_tree-requires
clear_tree-requires g c is = content_not_root c.args.dir.now c.args.name.now c.in_ok-path.ensures.dir c.told-name (sym c.in_ok-path.ensures.path ∙ is)

pub returns-clause-cleared : goal.returns-clause-cleared
returns-clause-cleared g c tells = cleared_bare (content_path c.args.dir.now c.args.name.now) c.in_ok-path.ensures.path c.clear_tree.ensures tells
