-- How trees are told apart: facts about them have at most one proof.
use Rattle.std.specs.Prelude.{◌≡◌, ◌⊎◌, ℕ, Bool, List, refl}
use Rattle.std.proofs.Common.{inl, inr}
use Rattle.std.specs.Coded.{Coded, Coded-set, coded_ℕ, coded_bool, coded_list, coded×, coded⊎, code_by}
use Rattle.std.specs.FinMap as map
use Rattle.tree_disk.specs.cny-base.declared.node.Node.{Node}
use Rattle.tree_disk.specs.cny-base.declared.node.Node.TheVariants.{Dir, File, Link}
use Rattle.tree_disk.specs.Tree.{Tree, WellFormed}

abbrev pub parts_of : Node → ℕ ⊎ ((ℕ × List ℕ) ⊎ List ℕ)
parts_of (Dir mode) = inl mode
parts_of (File mode bytes) = inr (inl (mode, bytes))
parts_of (Link target) = inr (inr target)

abbrev pub node_of : ℕ ⊎ ((ℕ × List ℕ) ⊎ List ℕ) → Node
node_of (inl mode) = Dir mode
node_of (inr (inl file)) = File file.0 file.1
node_of (inr (inr target)) = Link target

pub parts_back : (node : Node) → node_of (parts_of node) ≡ node
parts_back (Dir mode) = refl
parts_back (File mode bytes) = refl
parts_back (Link target) = refl

abbrev pub node_code : Coded Node
node_code = code_by (ℕ ⊎ ((ℕ × List ℕ) ⊎ List ℕ)) (coded⊎ coded_ℕ (coded⊎ (coded× coded_ℕ (coded_list coded_ℕ)) (coded_list coded_ℕ))) parts_of node_of parts_back

abbrev pub tree_code : Coded Tree
tree_code = map.code (coded_list coded_ℕ) node_code

pub tree_set : (t u : Tree) → IsProp (t ≡ u)
tree_set = Coded-set tree_code

bool_set : (a b : Bool) → IsProp (a ≡ b)
bool_set = Coded-set coded_bool

pub WellFormed-prop : (t : Tree) → IsProp (WellFormed t)
WellFormed-prop t = λ a b i. record {
  paths = λ p h. bool_set _ _ (a.paths p h) (b.paths p h) i;
  root_stands = bool_set _ _ a.root_stands b.root_stands i;
  parents = λ p h. bool_set _ _ (a.parents p h) (b.parents p h) i;
  nodes = λ p. bool_set _ _ (a.nodes p) (b.nodes p) i;
}
