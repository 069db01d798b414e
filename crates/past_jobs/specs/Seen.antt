-- Whether a job can be taken back, as it is tested: on what the disk holds and what earlier undoings found.
use Rattle.std.specs.Prelude.{Bool, true, not, ◌&&◌, ◌||◌, if◌then◌else◌, List, [], ◌∷◌, Option, Some, None, Result, Ok, Err}
use Rattle.std.specs.BTreeMap.{BTreeMap, get}
use Rattle.std.specs.List.{list_any}
use Rattle.std.specs.Ordering.{nat_cmp}
use Rattle.std.specs.Cmp.Lexicographic.{slice_cmp}
use Rattle.change_rel.specs.cny-base.Below.{begins_with}
use Rattle.change_rel.specs.cny-base.Path.{join, parent}
use Rattle.change_rel.specs.cny-base.declared.refusal.Refusal.{Refusal}
use Rattle.change_rel.specs.cny-base.declared.refusal.Refusal.TheVariants.{Edited, Parent}
use Rattle.local_db.specs.tree-disk.Rows.{is_dir_at}
use Rattle.local_db.specs.tree-disk.Tree.{Name, Tree, children, is_child}
use Rattle.tree_scan.specs.declared.mark.Mark.{Mark}
use Rattle.tree_scan.specs.Marks.{fingerprint_at, is_dir, is_nothing, same_mark}
use Rattle.local_db.specs.Record.{Entry}
use Rattle.past_jobs.specs.declared.found.FoundMark.{FoundMark}
use Rattle.past_jobs.specs.declared.obstacles.Obstacle.{Obstacle}
use Rattle.past_jobs.specs.declared.obstacles.Obstacle.TheVariants as obstacle
use Rattle.past_jobs.specs.Marks.{Marks, undone, is_path_of}

abbrev pub FoundMarks : Type 0
FoundMarks = BTreeMap Name FoundMark

abbrev pub mark_or : Option FoundMark → Mark → Mark
mark_or None mark = mark
mark_or (Some f) mark = f.mark

-- the fingerprint at a path after the earlier undoings
abbrev pub mark_seen : FoundMarks → Tree → Marks
mark_seen found tree p = mark_or (get (slice_cmp nat_cmp) found p) (fingerprint_at tree p)

-- ---- foreign names

abbrev pub stays : Option FoundMark → Bool
stays None = true
stays (Some f) = not (is_nothing f.mark)

-- a name that stands on the disk is foreign to the job
abbrev pub is_foreign : FoundMarks → List Entry → Name → Bool
is_foreign found es p = stays (get (slice_cmp nat_cmp) found p) && not (is_path_of es p)

-- one of the names directly in the directory on the disk is foreign to the job
abbrev pub has_foreign_on_disk : FoundMarks → List Entry → Tree → Name → Bool
has_foreign_on_disk found es tree dir = is_dir_at tree dir && list_any (λ last. is_foreign found es (join dir last)) (children tree dir)

-- an earlier undoing puts this name directly into the directory, whose text its own begins with, and it is foreign to the job
abbrev pub is_foreign_put : List Entry → Name → Name × FoundMark → Bool
is_foreign_put es dir at = is_child dir at.0 && (not (is_nothing at.1.mark) && not (is_path_of es at.0))

abbrev pub has_foreign_put : FoundMarks → List Entry → Name → Bool
has_foreign_put found es dir = list_any (λ at. begins_with dir at.0 && is_foreign_put es dir at) found.entries

-- the job made a directory there
abbrev pub makes_dir : Entry → Bool
makes_dir e = not (is_dir e.was) && is_dir e.now

abbrev pub has_foreign : FoundMarks → List Entry → Tree → Entry → Bool
has_foreign found es tree e = makes_dir e && (has_foreign_put found es e.path || has_foreign_on_disk found es tree e.path)

-- ---- edited paths

abbrev pub is_edited : FoundMarks → List Entry → Tree → Entry → Bool
is_edited found es tree e = not (same_mark (mark_seen found tree e.path) e.now) || has_foreign found es tree e

-- ---- paths without a directory

abbrev pub is_dir_after : FoundMarks → List Entry → Tree → Name → Bool
is_dir_after found es tree p = is_dir (undone es (mark_seen found tree) p)

abbrev pub is_orphan : FoundMarks → List Entry → Tree → Entry → Bool
is_orphan found es tree e = not (is_nothing e.was) && not (is_dir_after found es tree (parent e.path))

-- ---- both

-- the test of an entry of the job for what may stand in the way
abbrev pub test_of : Obstacle → FoundMarks → List Entry → Tree → Entry → Bool
test_of obstacle.Edited = is_edited
test_of obstacle.Orphan = is_orphan

-- the path of the first of these entries that passes the test
abbrev pub first_path : (Entry → Bool) → List Entry → Option Name
first_path test [] = None
first_path test (e ∷ more) = if test e then Some e.path else first_path test more

abbrev pub edited_or : Option Name → Option Name → Result Unit Refusal
edited_or (Some path) orphan = Err (Edited path)
edited_or None (Some path) = Err (Parent path)
edited_or None None = Ok tt

abbrev pub undo_tested : FoundMarks → List Entry → Tree → Result Unit Refusal
undo_tested found es tree = edited_or (first_path (is_edited found es tree) es) (first_path (is_orphan found es tree) es)
