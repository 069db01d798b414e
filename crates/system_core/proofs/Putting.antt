-- The writes of a rollback may be put.
use Rattle.std.proofs.Common.{◌≡◌, ◌≢◌, ℕ, true, false, List, Option, Some, None, is_some, refl, sym, ◌∙◌, ap, subst}
use Rattle.std.specs.FinMap.{get}
use Rattle.std.specs.List.{list_all}
use Rattle.rollback_stack.specs.cny-base.declared.node.Node.{Node}
use Rattle.rollback_stack.specs.cny-base.declared.node.Node.TheVariants as node
use Rattle.rollback_stack.specs.content-store.Store.{content_path, file_bytes}
use Rattle.sha1.specs.Sha1.{sha1}
use Rattle.rollback_stack.specs.journal-log.declared.put.Want.{Want}
use Rattle.rollback_stack.specs.journal-log.declared.put.Want.TheVariants as want
use Rattle.rollback_stack.specs.journal-log.Targets.{node_of}
use Rattle.rollback_stack.specs.tree-disk.Nodes.{is_node-Dir}
use Rattle.rollback_stack.proofs.tree-disk.Nodes.{bytes-File, is_node-File, is_node-Link}
use Rattle.rollback_stack.specs.tree-disk.Tree.{Tree, WellFormed, is_byte, is_dir, may_stand}
use Rattle.rollback_stack.specs.tree-scan.Marks.{fingerprint}
use Rattle.job_targets.specs.Old.{IsSaved}
use Rattle.local_db.specs.MarkBytes.{IsMark}
use Rattle.local_db.specs.Names.{database, saved}
use Rattle.local_db.specs.Stores.{HoldsDatabase, absent, written}
use Rattle.local_db.specs.declared.format.Format.TheVariants.{Two}
use Rattle.local_db.specs.declared.db.Db.{Db}
use Rattle.system_core.proofs.JobEnding.{is_file_or_none as no_dir}

bytes_of_file : (n : Option Node) (bytes : List ℕ) → may_stand n ≡ true → file_bytes n ≡ Some bytes → list_all is_byte bytes ≡ true
bytes_of_file None bytes stands is = absurd (cc is)
bytes_of_file (Some (node.Dir mode)) bytes stands is = absurd (cc is)
bytes_of_file (Some (node.File mode b)) bytes stands is = let same : b ≡ bytes = cc is in subst (λ (l : List ℕ). list_all is_byte l ≡ true) same (bytes-File mode b stands)
bytes_of_file (Some (node.Link target)) bytes stands is = absurd (cc is)

-- what a job found, by its fingerprint and what it saved, is what a disk can hold
pub may_be : (x : Tree) (number : ℕ) (w : Want) → WellFormed x → IsMark (fingerprint (node_of w)) → IsSaved x number w → may_stand (node_of w) ≡ true
may_be x number want.Nothing well is_mark saved_ = refl
may_be x number (want.Dir mode) well is_mark saved_ = is_node-Dir mode is_mark
may_be x number (want.File mode bytes) well is_mark saved_ =
    is_node-File mode bytes is_mark.0 (bytes_of_file (get x (content_path (saved number) (sha1 bytes))) bytes (well.nodes (content_path (saved number) (sha1 bytes))) saved_)
may_be x number (want.Link target) well is_mark saved_ = is_node-Link target is_mark
may_be x number (want.Staged mode id size name) well is_mark saved_ = absurd saved_

pub not_none : (n : Option Node) (bytes : List ℕ) → file_bytes n ≡ Some bytes → n ≢ None
not_none n bytes is none = absurd (cc (sym is ∙ ap file_bytes none))

pub stands : (n : Option Node) → n ≢ None → is_some n ≡ true
stands None some = absurd (some refl)
stands (Some n) some = refl

pub there : (n : Option Node) → is_some n ≡ true → n ≢ None
there n some none = absurd (cc (some, none))

pub no_database_dir : (x : Tree) (db : Db) → HoldsDatabase Two x db.installed db.oldest db.newest → is_dir (get x database) ≡ false
no_database_dir x db (absent none list oldest newest) = ap is_dir none
no_database_dir x db (written is file) = no_dir (get x database) _ file
