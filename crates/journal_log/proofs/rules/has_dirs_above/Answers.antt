use Rattle.std.proofs.Common.{◌≡◌, ◌≢◌, ◌<◌, Bool, true, false, not, length, refl, sym, ap, ◌∙◌, subst}
use Rattle.std.specs.Str.{bytes_eq}
use Rattle.std.proofs.lemmas.Map.Text.{is_eq-slice_cmp}
use Rattle.tree_disk.specs.cny-base.Path.{is_path, parent, root}
use Rattle.tree_disk.specs.Tree.{Name}
use Rattle.tree_disk.specs.Laws.{same_means}
use Rattle.tree_disk.proofs.Laws.{same_itself}
use Rattle.journal_log.proofs.Walking.{WalksUp, walk_begins, walk_goes_on, walk_ends, walk_shortens}
use Rattle.journal_log.proofs.rules.has_dirs_above.Goals as goal

-- what the loop's test says
other : (above : Name) (t : Bool) → t ≡ not (bytes_eq above root) → t ≡ true → above ≢ root
other above t is h e = cc (h, is, ap not (ap (λ (n : Name). bytes_eq n root) e ∙ sym (is_eq-slice_cmp root root) ∙ same_itself root))

at_top : (above : Name) (t : Bool) → t ≡ not (bytes_eq above root) → t ≡ false → above ≡ root
at_top above t is h = same_means above root (is_eq-slice_cmp above root ∙ set (bytes_eq above root) (sym is ∙ h))
  where
    set : (b : Bool) → not b ≡ false → b ≡ true
    set true e = refl
    set false e = cc

pub loop-above-init : goal.loop-above-init
loop-above-init c =
    let text = c.text.ensures in
    let begins = walk_begins c.args.puts.now c.args.path.now c.requires.inner (subst (λ (n : Name). is_path n ≡ true) text.value text.path) in
    (c.parent_of-above.utf8, subst (WalksUp c.args.puts.now c.args.path.now) (ap parent (sym text.value) ∙ sym c.parent_of-above.ensures) begins)

pub loop-above-smaller : goal.loop-above-smaller
loop-above-smaller c =
    subst (λ (n : Name). length n < length c.loop-above.above.now) (sym c.parent_of-above-in-loop-above.ensures)
    (walk_shortens c.loop-above.above.now c.loop-above.invariant.1.path_is (other c.loop-above.above.now c.ne.result c.ne.ensures c.loop-above-test.true))

pub loop-above-preserved : goal.loop-above-preserved
loop-above-preserved c = (
  c.parent_of-above-in-loop-above.utf8,
  subst (WalksUp c.args.puts.now c.args.path.now) (sym c.parent_of-above-in-loop-above.ensures)
      (walk_goes_on c.args.puts.now c.args.path.now c.loop-above.above.now c.requires.inner (other c.loop-above.above.now c.ne.result c.ne.ensures c.loop-above-test.true)
      (c.is_dir_at.ensures.0 c.if-not-is_dir_at.false) c.loop-above.invariant.1),
)

pub returns : goal.returns
returns c =
    ((λ h. walk_ends c.args.puts.now c.args.path.now c.loop-above.above.now c.requires.inner (at_top c.loop-above.above.now c.ne.result c.ne.ensures c.loop-above-test.false) c.loop-above.invariant.1), λ dirs. refl)
