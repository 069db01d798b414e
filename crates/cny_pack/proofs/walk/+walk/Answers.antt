use Rattle.std.proofs.Common.{ℕ, List, [], take, sym, ◌∙◌, subst}
use Rattle.std.specs.Prelude.{All}
use Rattle.std.proofs.lemmas.List.{get_or_default, take_all}
use Rattle.std.proofs.lemmas.List.Elements.{All-more, All-weaker}
use Rattle.tree_disk.specs.Tree.{Name, Tree}
use Rattle.tree_disk.proofs.StepLaws.{tests_value}
use Rattle.cny_pack.specs.Walk.{SawName, Went, WentInto, WentThrough}
use Rattle.cny_pack.proofs.Looking.{on_ok, looked, look_on}
use Rattle.cny_pack.proofs.Walking.{went_on, into_names, saw_later, to_other, to_dir}
use Rattle.cny_pack.proofs.walk.+walk.Goals as goal

pub walk-returns-clause-went : goal.walk-returns-clause-went
walk-returns-clause-went g t c tells =
    let listed = c.in_ok-names.ensures.tests in
    let tree = g.D.TreeDisk.disk.reads c.args.disk.now in
    let dir = c.args.dir.now in
    let names = c.get.result.now in
    on_ok c.visit_each.result
    (λ through. into_names tree dir names c.args.seen.now c.visit_each.new.seen (g.met.D.TreeDisk.laws.reads_well_formed c.args.disk.now) (c.get.ensures ∙ tests_value listed tells)
    (subst (λ (u : Tree). WentThrough u dir names c.args.seen.now c.visit_each.new.seen) (listed.same tells).same.reads through))
    (c.visit_each.ensures.went tells)

pub visit-returns-then-is_dir-clause-looks : goal.visit-returns-then-is_dir-clause-looks
visit-returns-then-is_dir-clause-looks g t c = look_on g.met.D.TreeDisk.laws c.in_ok-look.ensures.tests c.walk.ensures.looks

pub visit-returns-then-is_dir-clause-went : goal.visit-returns-then-is_dir-clause-went
visit-returns-then-is_dir-clause-went g t c tells =
    let seen = c.in_ok-look.ensures.tests in
    let tree = g.D.TreeDisk.disk.reads c.args.disk.now in
    let path = c.args.path in
    on_ok c.walk.result
    (λ into. to_dir tree path c.in_ok-look.look c.args.seen.now c.insert.new.self c.walk.new.seen c.in_ok-insert.ensures.updates.0 (tests_value seen tells)
    (sym c.is_nothing.ensures ∙ c.if-is_nothing.false) c.requires.not_root
    (subst (λ (p : Name). WentInto tree p c.insert.new.self c.walk.new.seen) c.in_ok-dir.ensures
    (subst (λ (u : Tree). WentInto u c.in_ok-dir.dir c.insert.new.self c.walk.new.seen) (seen.same tells).same.reads into)))
    (c.walk.ensures.went tells)

pub visit-returns-clause-went : goal.visit-returns-clause-went
visit-returns-clause-went g t c tells =
    let seen = c.in_ok-look.ensures.tests in
    let tree = g.D.TreeDisk.disk.reads c.args.disk.now in
    to_other tree c.args.path c.in_ok-look.look c.args.seen.now c.insert.new.self (g.met.D.TreeDisk.laws.reads_well_formed c.args.disk.now) c.in_ok-insert.ensures.updates.0 (tests_value seen tells)
    (sym c.is_nothing.ensures ∙ c.if-is_nothing.false) (sym c.is_dir-is_dir.ensures ∙ c.if-is_dir.false) c.requires.not_root

pub visit_each-loop-last-preserved : goal.visit_each-loop-last-preserved
visit_each-loop-last-preserved g t c =
    let tree = g.D.TreeDisk.disk.reads c.args.disk.now in
    let names = c.args.names.now in
    let dir = c.args.dir.now in
    let was = c.loop-last.invariant in
    let at = c.loop-last.last-index in
    record {
      looks = looked (tt {0}) (look_on g.met.D.TreeDisk.laws was.looks c.in_ok-visit_child.ensures.looks);
      went = λ tells.
          went_on tree c.args.seen.now c.loop-last.seen c.visit_child.new.seen (was.went tells)
          (subst (λ (u : Tree). Went u c.loop-last.seen c.visit_child.new.seen) (was.looks.same tells).same.reads (c.in_ok-visit_child.ensures.went tells).went);
      each = λ tells.
          let went = subst (λ (u : Tree). Went u c.loop-last.seen c.visit_child.new.seen) (was.looks.same tells).same.reads (c.in_ok-visit_child.ensures.went tells).went in
          let saw = subst (λ (u : Tree). SawName u c.visit_child.new.seen dir c.get.result.now) (was.looks.same tells).same.reads (c.in_ok-visit_child.ensures.went tells).saw in
          All-more (SawName tree c.visit_child.new.seen dir) names at [] c.loop-last-test.true
          (All-weaker (SawName tree c.loop-last.seen dir) (SawName tree c.visit_child.new.seen dir) (λ last. saw_later tree c.loop-last.seen c.visit_child.new.seen dir last went) (take at names) (was.each tells))
          (subst (λ (l : List ℕ). SawName tree c.visit_child.new.seen dir l) (c.get.ensures ∙ c.last-item.is ∙ get_or_default names at c.last-item.result [] c.loop-last-test.true) saw);
    }

pub visit_each-returns-clause-went : goal.visit_each-returns-clause-went
visit_each-returns-clause-went g t c tells =
    let tree = g.D.TreeDisk.disk.reads c.args.disk.now in
    record {
      went = c.loop-last.invariant.went tells;
      each = subst (λ (l : List (List ℕ)). All (SawName tree c.loop-last.seen c.args.dir.now) l) (take_all c.loop-last.last-index c.args.names.now c.loop-last-test.false) (c.loop-last.invariant.each tells);
    }
