-- The log that a tree holds.
use Rattle.std.proofs.Common.{◌≡◌, ℕ, List, Option, Some, None, sym, ◌∙◌, ap, subst}
use Rattle.std.specs.FinMap.{get}
use Rattle.journal_log.specs.cny-base.declared.node.Node.{Node}
use Rattle.journal_log.specs.cny-base.declared.node.Node.TheVariants as node
use Rattle.journal_log.specs.tree-disk.Tree.{Name, Tree}
use Rattle.journal_log.specs.declared.put.Put.{Put}
use Rattle.journal_log.specs.Own.{log}
use Rattle.journal_log.specs.LogBytes.{IsLogText}
use Rattle.tree_journal.specs.Found.{file_bytes, FindsLog}

file_of : (o : Option Node) (bytes : List ℕ) → Some bytes ≡ file_bytes o → (mode : ℕ) × (o ≡ Some (node.File mode bytes))
file_of None bytes is = absurd (cc is)
file_of (Some (node.Dir mode)) bytes is = absurd (cc is)
file_of (Some (node.File mode own)) bytes is = (mode, let same : own ≡ bytes = cc is in ap (λ (l : List ℕ). Some (node.File mode l)) same)
file_of (Some (node.Link target)) bytes is = absurd (cc is)

-- a file whose bytes are read as one log holds that one
pub finds_log : (base path : Name) (tree : Tree) (bytes : List ℕ) (puts : List Put) → path ≡ log base → Some bytes ≡ file_bytes (get tree path)
    → IsLogText base puts bytes → ((others : List Put) → IsLogText base others bytes → puts ≡ others) → FindsLog base tree (Some puts)
finds_log base path tree bytes puts at is text only =
    let found = file_of (get tree path) bytes is in
    let here : get tree (log base) ≡ Some (node.File found.0 bytes) = sym (ap (get tree) at) ∙ found.1 in (
      record { mode = found.0; bytes = bytes; file = here; text = text },
      λ others holds. let same : holds.bytes ≡ bytes = cc (holds.file, here) in sym (only others (subst (IsLogText base others) same holds.text)),
    )
