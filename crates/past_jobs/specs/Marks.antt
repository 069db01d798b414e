-- What jobs are taken back from: the fingerprints at all paths.
use Rattle.std.specs.Prelude.{◌≡◌, ◌≢◌, ◌⊎◌, Bool, true, false, ◌||◌, if◌then◌else◌, List, [], ◌∷◌, ◌++◌, All}
use Rattle.std.specs.FinMap.{get}
use Rattle.std.specs.Ordering.{nat_cmp}
use Rattle.std.specs.Cmp.Lexicographic.{slice_cmp}
use Rattle.std.specs.declared.cmp.Ordering.TheVariants.{Less}
use Rattle.change_rel.specs.cny-base.Path.{parent}
use Rattle.change_rel.specs.cny-base.declared.refusal.Refusal.{Refusal}
use Rattle.change_rel.specs.cny-base.declared.refusal.Refusal.TheVariants.{Edited, Parent}
use Rattle.local_db.specs.tree-disk.Tree.{Name, Tree, same_name}
use Rattle.tree_scan.specs.declared.mark.Mark.{Mark}
use Rattle.tree_scan.specs.declared.mark.Mark.TheVariants.{Nothing}
use Rattle.tree_scan.specs.Marks.{fingerprint, is_dir}
use Rattle.local_db.specs.Record.{Entry}

-- a fingerprint for each name
abbrev pub Marks : Type 0
Marks = Name → Mark

abbrev pub marks_of : Tree → Marks
marks_of tree p = fingerprint (get tree p)

abbrev pub is_path_of : List Entry → Name → Bool
is_path_of [] p = false
is_path_of (e ∷ es) p = same_name p e.path || is_path_of es p

-- once a job with these entries is taken back
abbrev pub undone : List Entry → Marks → Marks
undone [] marks p = marks p
undone (e ∷ es) marks p = if same_name p e.path then e.was else undone es marks p

-- at this path the job made a directory, and a name outside its paths stands directly in it
abbrev pub HasForeignEntry : List Entry → Marks → Entry → Type 0
HasForeignEntry es marks e = (is_dir e.was ≡ false) × (is_dir e.now ≡ true)
    × ((q : Name) × (is_path_of es q ≡ false) × (parent q ≡ e.path) × (marks q ≢ Nothing))

-- what stands at the path of an entry isn't what the job left, or is a directory of it with a foreign entry
abbrev pub IsEdited : List Entry → Marks → Entry → Type 0
IsEdited es marks e = (marks e.path ≢ e.now) ⊎ HasForeignEntry es marks e

-- something stands at the path, and its parent is no directory
abbrev pub IsOrphan : Marks → Name → Type 0
IsOrphan marks q = (marks q ≢ Nothing) × (is_dir (marks (parent q)) ≡ false)

-- A job with these entries can be taken back: none is edited, and no path of the result lacks its directory.
pub record CanUndo (es : List Entry) (marks : Marks) : Type 0 where
  pub unedited : All (λ e. IsEdited es marks e → ⊥) es
  pub no_orphan : (q : Name) → IsOrphan (undone es marks) q → ⊥

-- the first entry, in path order, that is edited
pub record IsFirstEdited (es : List Entry) (marks : Marks) (path : Name) : Type 0 where
  pub front : List Entry
  pub first : Entry
  pub rest : List Entry
  pub split : es ≡ front ++ first ∷ rest
  pub path_is : path ≡ first.path
  pub unedited : All (λ e. IsEdited es marks e → ⊥) front
  pub edited : IsEdited es marks first

-- no entry is edited, and this is the first path of the result that lacks its directory
pub record IsFirstOrphan (es : List Entry) (marks : Marks) (path : Name) : Type 0 where
  pub unedited : All (λ e. IsEdited es marks e → ⊥) es
  pub orphan : IsOrphan (undone es marks) path
  pub first : (q : Name) → slice_cmp nat_cmp q path ≡ Less → IsOrphan (undone es marks) q → ⊥

-- why a job with these entries isn't taken back
abbrev pub IsUndoRefusal : List Entry → Marks → Refusal → Type 0
IsUndoRefusal es marks (Edited path) = IsFirstEdited es marks path
IsUndoRefusal es marks (Parent path) = IsFirstOrphan es marks path
IsUndoRefusal es marks _ = ⊥
