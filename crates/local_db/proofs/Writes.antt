-- Elements of lists, and the tree after a write set.
use Rattle.std.proofs.Common.{◌≡◌, ⊎_elim, Bool, true, false, List, [], ◌∷◌, Contains, ◌∙◌, subst}
use Rattle.std.specs.FinMap.{get}
use Rattle.tree_journal.specs.tree-disk.Tree.{Tree, put}
use Rattle.tree_journal.proofs.tree-disk.Laws.{get_put_here}
use Rattle.tree_journal.specs.journal-log.declared.put.Put.{Put}
use Rattle.tree_journal.specs.journal-log.WriteSet.{Rises}
use Rattle.tree_journal.specs.journal-log.Targets.{node_of, with_targets}
use Rattle.tree_journal.proofs.WriteSets.{first_not_later, with_targets_outside}
use Rattle.trove_stream.proofs.cny-base.Lists.{contains_cases, nothing_in}

pub not_both : {A : Type 0} (b : Bool) → b ≡ true → b ≡ false → A
not_both b is isnt = absurd (cc (is, isnt))

-- ---- elements of a list

-- ---- targets

-- ---- the tree with all targets

-- at a target stands what is wanted
pub with_targets_target : (puts : List Put) (tree : Tree) (p : Put) → Rises puts → Contains puts p → get (with_targets puts tree) p.path ≡ node_of p.want
with_targets_target [] tree p rises in' = absurd (nothing_in p in')
with_targets_target (r ∷ puts) tree p rises in' = ⊎_elim
    (λ is. subst (λ (x : Put). get (with_targets puts (put tree r.path (node_of r.want))) x.path ≡ node_of x.want) is
    (with_targets_outside puts (put tree r.path (node_of r.want)) r.path (first_not_later r puts rises) ∙ get_put_here tree r.path (node_of r.want)))
    (λ later. with_targets_target puts (put tree r.path (node_of r.want)) p rises.1 later)
    (contains_cases r p puts in')
