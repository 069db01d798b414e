-- The first path of the result whose parent isn't a directory, by what is planned of each path.
use Rattle.std.specs.Prelude.{◌≡◌, ℕ, Bool, true, false, not, ◌&&◌, ◌||◌, if◌then◌else◌, List, [], ◌∷◌, Option, Some, None, is_some}
use Rattle.std.specs.Cmp.Lexicographic.{slice_cmp}
use Rattle.std.specs.Ordering.{nat_cmp, is_lt}
use Rattle.trove_stream.specs.cny-base.Path.{join, parent, root}
use Rattle.trove_stream.specs.cny-stream.declared.record.FileRec.{FileRec}
use Rattle.trove_stream.specs.cny-stream.Record as records
use Rattle.tree_scan.specs.tree-disk.Rows.{is_dir_at}
use Rattle.tree_scan.specs.tree-disk.Tree.{Name, Tree, children, same_name}
use Rattle.tree_scan.specs.Marks.{fingerprint_at, is_dir}
use Rattle.conflict_plan.specs.declared.making.Fate.{Fate}
use Rattle.conflict_plan.specs.declared.making.Fate.TheVariants.{Gone, Dir, Other}
use Rattle.conflict_plan.specs.declared.planned.Planned.{Planned}
use Rattle.conflict_plan.specs.Making.{fate_at, is_gone}

abbrev pub IsSeenPlan : Tree → Planned → Type 0
IsSeenPlan tree x = x.was ≡ fingerprint_at tree x.path

abbrev pub is_dir_fate : Option Fate → Bool → Bool
is_dir_fate None stands = stands
is_dir_fate (Some Gone) stands = false
is_dir_fate (Some Dir) stands = true
is_dir_fate (Some Other) stands = false

-- the parent of a path is a directory in the result
abbrev pub has_way : List Planned → Tree → Name → Bool
has_way plan tree path = same_name path root || is_dir_fate (fate_at plan (parent path)) (is_dir_at tree (parent path))

-- the path of the first of these names directly below a path that doesn't go
abbrev pub first_remaining : List Planned → Name → List (List ℕ) → Option Name
first_remaining plan path [] = None
first_remaining plan path (last ∷ names) = if is_gone (fate_at plan (join path last)) then first_remaining plan path names else Some (join path last)

abbrev pub wants_dir : Option FileRec → Bool
wants_dir None = false
wants_dir (Some rec) = records.is_dir rec

-- a directory stands at the path that isn't to be one
abbrev pub leaves_dir : Planned → Bool
leaves_dir x = is_dir x.was && not (wants_dir x.want)

-- the first name directly below a directory that isn't to be one, and that remains
abbrev pub left_below : List Planned → Tree → Planned → Option Name
left_below plan tree x = if leaves_dir x then first_remaining plan x.path (children tree x.path) else None

-- the first path that is left without a directory above by what is planned of this one
abbrev pub orphan_by : List Planned → Tree → Planned → Option Name
orphan_by plan tree x = if (is_some x.want && not (has_way plan tree x.path)) then Some x.path else left_below plan tree x

abbrev pub lesser : Option Name → Option Name → Option Name
lesser None other = other
lesser (Some one) None = Some one
lesser (Some one) (Some other) = if is_lt (slice_cmp nat_cmp other one) then Some other else Some one

-- the least of them, by what is planned of each of these
abbrev pub least_orphan : List Planned → Tree → List Planned → Option Name
least_orphan plan tree [] = None
least_orphan plan tree (x ∷ xs) = lesser (least_orphan plan tree xs) (orphan_by plan tree x)
