-- What readers see while a write set is put.
use Rattle.std.specs.Prelude.{◌≡◌, ◌⊎◌, Bool, true, false, not, List, Option, Some, None, if◌then◌else◌}
use Rattle.std.specs.List.{Contains}
use Rattle.std.specs.FinMap.{get}
use Rattle.journal_log.specs.cny-base.declared.node.Node.{Node}
use Rattle.journal_log.specs.tree-disk.Tree.{Name, Tree, is_dir}
use Rattle.journal_log.specs.declared.put.Put.{Put}
use Rattle.journal_log.specs.Own.{is_own}
use Rattle.tree_journal.specs.Passes.{obstructs}

-- No rename puts the one node in place of the other: just one of the two is a directory.
abbrev pub differ_in_kind : Option Node → Option Node → Bool
differ_in_kind None new = false
differ_in_kind (Some old) None = false
differ_in_kind (Some old) (Some new) = if is_dir (Some old) then not (is_dir (Some new)) else is_dir (Some new)

-- the node before, the node after, or nothing where no rename puts the one in place of the other
abbrev pub ShowsNode : Option Node → Option Node → Option Node → Type 0
ShowsNode before after shown = (shown ≡ before) ⊎ ((shown ≡ after) ⊎ ((shown ≡ None) × (differ_in_kind before after ≡ true)))

-- Readers see one of these at each name but the journal's own.
abbrev pub IsVisible : Name → Tree → Tree → Tree → Type 0
IsVisible base before after t = (q : Name) → is_own base q ≡ false → ShowsNode (get before q) (get after q) (get t q)

-- at each name but the journal's own they see the node of the one tree or of the other
abbrev pub IsBetween : Name → Tree → Tree → Tree → Type 0
IsBetween base before after t = (q : Name) → is_own base q ≡ false → (get t q ≡ get before q) ⊎ (get t q ≡ get after q)

-- one of the writes is at this name, and what stands there has to go before it is made
pub record IsObstructedAt (puts : List Put) (tree : Tree) (q : Name) : Type 0 where
  pub write : Put
  pub listed : Contains puts write
  pub here : q ≡ write.path
  pub obstructed : obstructs write.want (get tree q) ≡ true

-- at each name what stood there, or nothing where it had to go
abbrev pub IsPartCleared : List Put → Tree → Tree → Type 0
IsPartCleared puts tree t = (q : Name) → (get t q ≡ get tree q) ⊎ ((get t q ≡ None) × IsObstructedAt puts tree q)
