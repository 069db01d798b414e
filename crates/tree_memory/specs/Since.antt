-- What the changes since the last sync did.
use Rattle.std.specs.Prelude.{Bool, false, ◌||◌, not, List, [], ◌∷◌}
use Rattle.tree_nodes.specs.tree-disk.Tree.{Name, Tree}
use Rattle.tree_memory.specs.declared.change.Change.{Change}
use Rattle.tree_memory.specs.State.{names_of, settles, tree_after}

-- whether a name is one of these changes'
abbrev pub any_names : List Change → Name → Bool
any_names [] p = false
any_names (c ∷ cs) p = names_of c p || any_names cs p

-- whether nothing counts as synced by a change
abbrev pub keeps : Change → Bool
keeps c = not (settles c)

-- the tree after some changes
abbrev pub after_all : List Change → Tree → Tree
after_all [] t = t
after_all (c ∷ cs) t = after_all cs (tree_after c t)
