-- What a walk over a tree sees.
--
-- It keeps what stands at each path that it has come to. Where it has gone into a directory it has come to each name directly below it,
-- and of the directories that it came to on the way it has gone into each. So it has come to all that stands below.
use Rattle.std.specs.Prelude.{◌≡◌, ◌≢◌, ℕ, true, false, List, All, Option, Some, is_some, Bool, Result, Ok}
use Rattle.std.specs.BTreeMap.{BTreeMap, get}
use Rattle.std.specs.Cmp.Lexicographic.{slice_cmp}
use Rattle.std.specs.FinMap as tree
use Rattle.std.specs.Ordering.{nat_cmp}
use Rattle.tree_disk.specs.cny-base.Path.{join, parent, root}
use Rattle.tree_disk.specs.cny-base.declared.stop.Stop.{Stop}
use Rattle.tree_disk.specs.Disk.{DiskModel}
use Rattle.tree_disk.specs.Rows.{look_of}
use Rattle.tree_disk.specs.Steps.{Tests}
use Rattle.tree_disk.specs.Tree.{Name, Tree}
use Rattle.tree_disk.specs.declared.disk.Look.{Look}

-- A run that only reads the disk, whatever it finds, and is never refused.
abbrev pub OnlyLooks : {D X : Type 0} → DiskModel D → D → D → Result X Stop → Type 0
OnlyLooks {X = X} disk old new result = Tests disk (λ (x : X). tt {0}) (λ tree. Ok (tt {0})) old new result

-- what was seen, by the paths
abbrev pub Found : Type 0
Found = BTreeMap Name Look

abbrev pub seen_at : Found → Name → Option Look
seen_at seen p = get (slice_cmp nat_cmp) seen p

-- whether the walk has come to the path
abbrev pub has_seen : Found → Name → Bool
has_seen seen p = is_some (seen_at seen p)

-- whether something stands at the path
abbrev pub stands : Tree → Name → Bool
stands t p = is_some (tree.get t p)

-- What was seen at a path is what stands there, and the path isn't `/`.
abbrev pub AreSights : Tree → Found → Type 0
AreSights t seen = (p : Name) (look : Look) → seen_at seen p ≡ Some look → (look ≡ look_of t p) × (stands t p ≡ true) × (p ≢ root)

-- All that stands directly below the path was seen.
abbrev pub SawBelow : Tree → Found → Name → Type 0
SawBelow t seen dir = (p : Name) → stands t p ≡ true → p ≢ root → parent p ≡ dir → has_seen seen p ≡ true

-- What was seen before was seen, and below each path that is new all was seen.
pub record Went (t : Tree) (old new : Found) : Type 0 where
  pub sights : AreSights t old → AreSights t new
  pub grows : (p : Name) → has_seen old p ≡ true → has_seen new p ≡ true
  pub below : (p : Name) → has_seen old p ≡ false → has_seen new p ≡ true → SawBelow t new p

-- after a walk into a directory
pub record WentInto (t : Tree) (dir : Name) (old new : Found) : Type 0 where
  pub went : Went t old new
  pub all : SawBelow t new dir

-- after a walk to a path, and into it where it is a directory
pub record WentTo (t : Tree) (path : Name) (old new : Found) : Type 0 where
  pub went : Went t old new
  pub itself : stands t path ≡ true → has_seen new path ≡ true

-- the name below the directory was seen, where it stands
abbrev pub SawName : Tree → Found → Name → List ℕ → Type 0
SawName t seen dir last = stands t (join dir last) ≡ true → join dir last ≢ root → has_seen seen (join dir last) ≡ true

-- after a walk to this name below a directory
pub record WentBy (t : Tree) (dir : Name) (last : List ℕ) (old new : Found) : Type 0 where
  pub went : Went t old new
  pub saw : SawName t new dir last

-- after a walk to these names below a directory
pub record WentThrough (t : Tree) (dir : Name) (names : List (List ℕ)) (old new : Found) : Type 0 where
  pub went : Went t old new
  pub each : All (SawName t new dir) names

-- All that stands was seen, but `/`, and nothing else.
pub record FindsAll (t : Tree) (seen : Found) : Type 0 where
  pub sights : AreSights t seen
  pub all : (p : Name) → stands t p ≡ true → p ≢ root → has_seen seen p ≡ true
