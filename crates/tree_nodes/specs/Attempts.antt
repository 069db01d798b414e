-- What a changing call does that tests by itself whether it is allowed.
use Rattle.std.specs.Prelude.{◌≡◌, Bool, false, ◌||◌, not, IsTrue, Option, is_some}
use Rattle.tree_disk.specs.cny-base.declared.node.Node.{Node}
use Rattle.tree_disk.specs.Tree.{Tree, is_file, is_link}

-- it is done where it is allowed, and nothing is changed where it isn't
pub record IsTried (can : Bool) (after old new : Tree) (did : Bool) : Type 0 where
  pub told : did ≡ can
  pub done : IsTrue did → new ≡ after
  pub refused : did ≡ false → new ≡ old

-- what a rename moves: a file or a link
abbrev pub can_leave : Option Node → Bool
can_leave o = is_file o || is_link o

-- over what a rename moves it: nothing, a file or a link
abbrev pub can_take : Option Node → Bool
can_take o = not (is_some o) || (is_file o || is_link o)
