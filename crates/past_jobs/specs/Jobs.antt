-- Jobs that are taken back one after the other.
use Rattle.std.specs.Prelude.{◌≡◌, ℕ, ◌-◌, List, [], ◌∷◌, IsTrue, Option, Some, None, is_some, if◌then◌else◌}
use Rattle.std.specs.BTreeMap.{BTreeMap, IsOrdered, get}
use Rattle.std.specs.Ordering.{nat_cmp}
use Rattle.std.specs.Cmp.Lexicographic.{slice_cmp}
use Rattle.change_rel.specs.cny-base.Path.{is_path}
use Rattle.local_db.specs.tree-disk.Tree.{Name, same_name}
use Rattle.tree_scan.specs.declared.mark.Mark.{Mark}
use Rattle.tree_scan.specs.declared.mark.Mark.TheVariants.{Nothing}
use Rattle.local_db.specs.Record.{Entry}
use Rattle.past_jobs.specs.declared.found.FoundMark.{FoundMark}
use Rattle.past_jobs.specs.Marks.{Marks, undone, is_path_of, CanUndo}

-- once jobs with these entries are taken back, one after the other
abbrev pub undone_all : List (List Entry) → Marks → Marks
undone_all [] marks = marks
undone_all (es ∷ more) marks = undone_all more (undone es marks)

-- each can be taken back when its turn comes
abbrev pub CanUndoAll : List (List Entry) → Marks → Type 0
CanUndoAll [] marks = Unit {0}
CanUndoAll (es ∷ more) marks = CanUndo es marks × CanUndoAll more (undone es marks)

abbrev pub older : Option ℕ → Option ℕ → Option ℕ
older None one = one
older (Some n) one = Some n

-- the number of the oldest of the jobs that has the path, where one has; they are numbered from this one down
abbrev pub oldest_with : ℕ → List (List Entry) → Name → Option ℕ
oldest_with number [] p = None
oldest_with number (es ∷ more) p = older (oldest_with (number - 1) more p) (if is_path_of es p then Some number else None)

abbrev pub found_mark : Option ℕ → Mark → Option FoundMark
found_mark None mark = None
found_mark (Some number) mark = Some (record { number = number; mark = mark })

-- The map is that of these jobs, numbered from this one down: at each path that one of them has, the number of the oldest of
-- those, and what it found there. Its keys are paths, in their order.
pub record AreFound (newest : ℕ) (jobs : List (List Entry)) (found : BTreeMap Name FoundMark) : Type 0 where
  pub gives : (p : Name) → get (slice_cmp nat_cmp) found p ≡ found_mark (oldest_with newest jobs p) (undone_all jobs (λ q. Nothing) p)
  pub paths : (p : Name) → IsTrue (is_some (get (slice_cmp nat_cmp) found p)) → IsTrue (is_path p)
  pub ordered : IsOrdered (slice_cmp nat_cmp) found

-- ---- the map with one more job

abbrev pub noted : ℕ → Entry → (Name → Option FoundMark) → Name → Option FoundMark
noted number e f p = if same_name e.path p then Some (record { number = number; mark = e.was }) else f p

-- one entry after the other
abbrev pub noted_all : ℕ → List Entry → (Name → Option FoundMark) → Name → Option FoundMark
noted_all number [] f = f
noted_all number (e ∷ es) f = noted_all number es (noted number e f)
