-- Fingerprints by what was seen.
use Rattle.std.proofs.Common.{◌≡◌, ℕ, List, length, Option, Some, None, refl, sym, ◌∙◌, ap}
use Rattle.std.specs.Prelude.{unwrap_or}
use Rattle.std.specs.FinMap.{get}
use Rattle.sha1.specs.Sha1.{sha1}
use Rattle.tree_disk.specs.cny-base.declared.node.Node.{Node}
use Rattle.tree_disk.specs.cny-base.declared.node.Node.TheVariants as node
use Rattle.tree_disk.specs.declared.disk.Look.{Look}
use Rattle.tree_disk.specs.Tree.{Name, Tree}
use Rattle.tree_disk.specs.Rows.{bytes_at, bytes_of, look_of, seen_as}
use Rattle.tree_disk.specs.Looks.{size_seen}
use Rattle.tree_scan.specs.Looks.{mark_of_look}
use Rattle.tree_scan.specs.Marks.{fingerprint, fingerprint_at}

marked_file : (o : Option Node) (size : ℕ) → size_seen (seen_as o) ≡ Some size → mark_of_look (seen_as o) (sha1 (bytes_of o)) ≡ fingerprint o
marked_file None size is = absurd (cc is)
marked_file (Some (node.Dir mode)) size is = refl
marked_file (Some (node.File mode bytes)) size is = refl
marked_file (Some (node.Link target)) size is = refl

-- the fingerprint of a file that is seen
pub mark_of_file : (tree : Tree) (p : Name) (look : Look) (name : List ℕ) (size : ℕ) → look ≡ look_of tree p → size_seen look ≡ Some size
    → name ≡ sha1 (bytes_at tree p) → fingerprint_at tree p ≡ mark_of_look look name
mark_of_file tree p look name size seen is named =
    sym (ap (λ l. mark_of_look l name) seen ∙ ap (mark_of_look (look_of tree p)) named ∙ marked_file (get tree p) size (ap size_seen (sym seen) ∙ is))

or_zero_size : (o : Option Node) → unwrap_or (size_seen (seen_as o)) 0 ≡ length (bytes_of o)
or_zero_size None = refl
or_zero_size (Some (node.Dir mode)) = refl
or_zero_size (Some (node.File mode bytes)) = refl
or_zero_size (Some (node.Link target)) = refl

-- the size of what stands, and 0 where no file does
pub size_or_zero : (tree : Tree) (p : Name) → unwrap_or (size_seen (look_of tree p)) 0 ≡ length (bytes_at tree p)
size_or_zero tree p = or_zero_size (get tree p)
