-- The bytes that staged writes take from the tree.
use Rattle.std.specs.Prelude.{◌≡◌, ℕ, Bool, true, false, ◌&&◌, IsTrue, List, length, map, Option, Some, None, ◌==◌}
use Rattle.std.specs.List.{All}
use Rattle.std.specs.FinMap.{get}
use Rattle.std.specs.Str.{bytes_eq}
use Rattle.sha1.specs.Sha1.{sha1}
use Rattle.journal_log.specs.cny-base.Below.{is_below}
use Rattle.journal_log.specs.cny-base.declared.node.Node.{Node}
use Rattle.journal_log.specs.cny-base.declared.node.Node.TheVariants as node
use Rattle.journal_log.specs.tree-disk.Clear.{is_within}
use Rattle.journal_log.specs.tree-disk.Tree.{Name, Tree}
use Rattle.journal_log.specs.tree-disk.Rows.{bytes_at}
use Rattle.journal_log.specs.declared.put.Want.{Want}
use Rattle.journal_log.specs.declared.put.Want.TheVariants.{Nothing, Dir, File, Link, Staged}
use Rattle.journal_log.specs.declared.put.Put.{Put}
use Rattle.journal_log.specs.Own.{staged, staged_file}
use Rattle.journal_log.specs.Staged.{names_staged}
use Rattle.journal_log.specs.Targets.{with_targets}

-- a file with this size and SHA-1
abbrev pub is_content : Option Node → ℕ → List ℕ → Bool
is_content None size name = false
is_content (Some (node.Dir mode)) size name = false
is_content (Some (node.File mode bytes)) size name = length bytes == size && bytes_eq (sha1 bytes) name
is_content (Some (node.Link target)) size name = false

-- the file from which a write takes its bytes, if it does, stands with its size and SHA-1
abbrev pub has_content : Name → Tree → Want → Bool
has_content base tree Nothing = true
has_content base tree (Dir mode) = true
has_content base tree (File mode bytes) = true
has_content base tree (Link target) = true
has_content base tree (Staged mode number size name) = is_content (get tree (staged_file base number)) size name

-- the files of all staged writes stand so
abbrev pub AllStaged : Name → Tree → List Put → Type 0
AllStaged base tree puts = All (λ p. IsTrue (has_content base tree p.want)) puts

-- what is wanted, with the staged bytes in place of the name of their file
abbrev pub resolved : Name → Tree → Want → Want
resolved base tree Nothing = Nothing
resolved base tree (Dir mode) = Dir mode
resolved base tree (File mode bytes) = File mode bytes
resolved base tree (Link target) = Link target
resolved base tree (Staged mode number size name) = File mode (bytes_at tree (staged_file base number))

abbrev pub resolve : Name → Tree → Put → Put
resolve base tree p = record { path = p.path; want = resolved base tree p.want }

-- the tree with all targets, where staged writes take the bytes that stand in it
abbrev pub outcome : Name → List Put → Tree → Tree
outcome base puts tree = with_targets (map (resolve base tree) puts) tree

-- Below the directory of staged bytes nothing stands but the files that these writes name, and what lies below them.
abbrev pub HoldsNoOthers : Name → List Put → Tree → Type 0
HoldsNoOthers base puts tree = (q : Name) → IsTrue (is_below (staged base) q) → ((number : ℕ) → IsTrue (names_staged puts number) → is_within (staged_file base number) q ≡ false) → get tree q ≡ None
