-- A plan in the making: what its paths become, by their names.
use Rattle.std.specs.Prelude.{◌≡◌, ℕ, Bool, true, false, not, ◌&&◌, ◌||◌, if◌then◌else◌, List, [], ◌∷◌, Option, Some, None, is_some}
use Rattle.std.specs.BTreeMap.{BTreeMap, get}
use Rattle.std.specs.BTreeSet.{BTreeSet, contains}
use Rattle.std.specs.Cmp.Lexicographic.{slice_cmp}
use Rattle.std.specs.List.{list_any}
use Rattle.std.specs.Ordering.{nat_cmp}
use Rattle.trove_stream.specs.cny-base.Path.{join}
use Rattle.trove_stream.specs.cny-stream.declared.record.FileRec.{FileRec}
use Rattle.trove_stream.specs.cny-stream.declared.record.FileRec.TheVariants as rec
use Rattle.tree_scan.specs.tree-disk.Tree.{Name, Tree, children, is_child, same_name}
use Rattle.conflict_plan.specs.declared.making.Fate.{Fate}
use Rattle.conflict_plan.specs.declared.making.Fate.TheVariants.{Gone, Dir, Other}
use Rattle.conflict_plan.specs.declared.planned.Planned.{Planned}

abbrev pub fate_of : Option FileRec → Fate
fate_of None = Gone
fate_of (Some (rec.Dir mode owner)) = Dir
fate_of (Some (rec.File mode owner flags size name)) = Other
fate_of (Some (rec.Link target)) = Other

-- what becomes of a path; none where it isn't planned
abbrev pub fate_at : List Planned → Name → Option Fate
fate_at [] path = None
fate_at (x ∷ plan) path = if same_name x.path path then Some (fate_of x.want) else fate_at plan path

-- it is directly below the path, and is to stand
abbrev pub makes_in : Planned → Name → Bool
makes_in x path = is_some x.want && is_child path x.path

abbrev pub has_made : List Planned → Name → Bool
has_made [] path = false
has_made (x ∷ plan) path = makes_in x path || has_made plan path

-- the map and the set are those of a plan
pub record IsPlanOf (plan : List Planned) (fates : BTreeMap (List ℕ) Fate) (made_in : BTreeSet (List ℕ)) : Type 0 where
  pub fates_are : (path : Name) → get (slice_cmp nat_cmp) fates path ≡ fate_at plan path
  pub made_are : (path : Name) → contains (slice_cmp nat_cmp) made_in path ≡ has_made plan path

abbrev pub is_gone : Option Fate → Bool
is_gone (Some Gone) = true
is_gone _ = false

-- a name directly below a directory remains: one that stands and doesn't go, or one that is made
abbrev pub child_remains : List Planned → Tree → Name → Bool
child_remains plan tree path = list_any (λ last. not (is_gone (fate_at plan (join path last)))) (children tree path) || has_made plan path
