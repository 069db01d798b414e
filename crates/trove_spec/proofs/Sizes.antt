-- The size of the configuration file, by a look at it.
use Rattle.std.proofs.Common.{◌≡◌, ℕ, ◌<◌, ◌≤◌, Bool, true, List, length, Option, Some, None, Err, sym, ap, ◌∙◌, arith}
use Rattle.std.specs.Prelude.{nat_lt, nat_le, if◌then◌else◌}
use Rattle.std.specs.FinMap.{get}
use Rattle.std.proofs.lemmas.Bool.Decides.{nat_tests}
use Rattle.repo_index.specs.cny-base.declared.limits.TheConstants.{CONFIG_LIMIT}
use Rattle.repo_index.specs.cny-base.declared.node.Node.{Node}
use Rattle.repo_index.specs.cny-base.declared.node.Node.TheVariants as node
use Rattle.repo_index.specs.cny-base.declared.refusal.Refusal.TheVariants as refusal
use Rattle.repo_index.specs.cny-base.declared.refusal.What.{What}
use Rattle.repo_index.specs.cny-base.declared.refusal.What.TheVariants as what
use Rattle.tree_disk.specs.declared.disk.Look.{Look}
use Rattle.tree_disk.specs.Looks.{size_seen}
use Rattle.tree_disk.specs.Rows.{bytes_at, bytes_of, look_of, seen_as}
use Rattle.tree_disk.specs.Tree.{Tree}
use Rattle.tree_disk.specs.Whole.{whole_within}
use Rattle.trove_spec.specs.RootConfig.{config_file, config_path}
use Rattle.trove_spec.specs.RootFile.{within_limit}

-- a file of no more bytes than these is read whole
pub none_larger : (most : ℕ) (bytes : List ℕ) → length bytes ≤ most → whole_within most bytes ≡ None → ⊥
none_larger most bytes le is = absurd (cc (sym (ap (λ (b : Bool). if b then Some bytes else None) (within (length bytes) most le)) ∙ is))
  where
    within : (m n : ℕ) → m ≤ n → nat_le m n ≡ true
    within m n le = grind (arith, nat_tests)

sized : (o : Option Node) (size : ℕ) → size_seen (seen_as o) ≡ Some size → length (bytes_of o) ≡ size
sized None size is = absurd (cc is)
sized (Some (node.Dir mode)) size is = absurd (cc is)
sized (Some (node.File mode bytes)) size is = cc is
sized (Some (node.Link target)) size is = absurd (cc is)

-- a text of more bytes than the limit is too large
pub over : (what : What) (bytes : List ℕ) (size : ℕ) → length bytes ≡ size → CONFIG_LIMIT < size → within_limit what bytes ≡ Err (refusal.TooLarge what size)
over what bytes size is lt =
    ap (λ (b : Bool). if b then Err (refusal.TooLarge what (length bytes)) else Rattle.std.proofs.Common.Ok bytes) (above CONFIG_LIMIT (length bytes) (omega (arith, is, lt)))
    ∙ ap (λ (n : ℕ). Err (refusal.TooLarge what n)) is
  where
    above : (m n : ℕ) → m < n → nat_lt m n ≡ true
    above m n lt = grind (arith, nat_tests)

-- a file that is seen to have more bytes than the limit is too large
pub large_seen : (tree : Tree) (look : Look) (size : ℕ) → look ≡ look_of tree config_path → size_seen look ≡ Some size → CONFIG_LIMIT < size → config_file tree ≡ Err (refusal.TooLarge what.Config size)
large_seen tree look size seen is lt = over what.Config (bytes_at tree config_path) size (sized (get tree config_path) size (ap size_seen (sym seen) ∙ is)) lt
