-- What a look that was seen says of the tree.
use Rattle.std.specs.Prelude.{◌≡◌, Bool, true, Option, Some, None, refl}
use Rattle.std.specs.FinMap.{get}
use Rattle.cny_base.specs.declared.node.Node.{Node}
use Rattle.cny_base.specs.declared.node.Node.TheVariants.{Dir, File, Link}
use Rattle.tree_disk.specs.Tree.{Name, Tree, is_dir, is_file}
use Rattle.tree_disk.specs.Rows.{seen_as, look_of}
use Rattle.tree_disk.specs.declared.disk.Look.{Look}
use Rattle.tree_disk.specs.Looks.{sees_nothing, sees_dir}
use Rattle.std.proofs.Common.{ap, sym, ◌∙◌, is_some, not, ◌||◌}

-- ---- by what stands there

seen_none : (o : Option Node) → sees_nothing (seen_as o) ≡ true → o ≡ None
seen_none None is = refl
seen_none (Some (Dir mode)) is = absurd (cc is)
seen_none (Some (File mode bytes)) is = absurd (cc is)
seen_none (Some (Link target)) is = absurd (cc is)

pub nothing_seen : (t : Tree) (p : Name) → sees_nothing (look_of t p) ≡ true → get t p ≡ None
nothing_seen t p is = seen_none (get t p) is

pub seen_dir : (o : Option Node) → sees_dir (seen_as o) ≡ is_dir o
seen_dir None = refl
seen_dir (Some (Dir mode)) = refl
seen_dir (Some (File mode bytes)) = refl
seen_dir (Some (Link target)) = refl

pub dir_seen : (t : Tree) (p : Name) → sees_dir (look_of t p) ≡ is_dir (get t p)
dir_seen t p = seen_dir (get t p)

-- by a test of what was seen
pub dir_told : (t : Tree) (p : Name) (seen : Look) (test b : Bool) → seen ≡ look_of t p → test ≡ sees_dir seen → test ≡ b → is_dir (get t p) ≡ b
dir_told t p seen test b is tested so = sym (dir_seen t p) ∙ ap sees_dir (sym is) ∙ sym tested ∙ so

pub nothing_grows : (o : Option Node) → o ≡ None → (not (is_some o) || is_file o) ≡ true
nothing_grows o is = ap (λ (x : Option Node). not (is_some x) || is_file x) is
