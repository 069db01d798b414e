-- What can be in a manifest.
use Rattle.std.specs.Prelude.{◌≡◌, ℕ, Bool, true, false, not, ◌&&◌, nat_lt, is_some, if◌then◌else◌, List, map, Option, Some, None}
use Rattle.std.specs.List.{filter}
use Rattle.tree_disk.specs.cny-base.Reserved.{is_forbidden}
use Rattle.tree_disk.specs.cny-base.declared.limits.TheConstants.{CONTENT_LIMIT}
use Rattle.tree_disk.specs.Looks.{sees_nothing, sees_dir, size_seen}
use Rattle.tree_disk.specs.Rows.{look_of}
use Rattle.tree_disk.specs.Tree.{Name, Tree}
use Rattle.tree_disk.specs.declared.disk.Look.{Look}
use Rattle.cny_pack.specs.declared.plan.Sight.{Sight}
use Rattle.cny_pack.specs.declared.stop.PackStop.{PackStop}
use Rattle.cny_pack.specs.declared.stop.PackStop.TheVariants as pack
use Rattle.cny_pack.specs.declared.stop.Unfit.{Unfit}
use Rattle.cny_pack.specs.declared.stop.Unfit.TheVariants.{TooLarge, Reserved}

-- a file with more bytes than a content may have
abbrev pub unfit_by_size : Option ℕ → Option Unfit
unfit_by_size None = None
unfit_by_size (Some size) = if nat_lt CONTENT_LIMIT size then Some (TooLarge size) else None

-- No trove may record the path, or the file is too large.
abbrev pub unfit_of : List ℕ → Look → Option Unfit
unfit_of path look = if is_forbidden path (sees_dir look) then Some Reserved else unfit_by_size (size_seen look)

-- something that can be in a manifest
abbrev pub fits : Name × Look → Bool
fits seen = not (is_some (unfit_of seen.0 seen.1)) && not (sees_nothing seen.1)

abbrev pub sight_of : Name × Look → Sight
sight_of seen = record { path = seen.0; look = seen.1 }

-- what can be in a manifest, of what was seen
abbrev pub sights_of : List (Name × Look) → List Sight
sights_of seen = map sight_of (filter fits seen)

abbrev pub IsFit : Name × Look → Type 0
IsFit seen = unfit_of seen.0 seen.1 ≡ None

-- it can be in a manifest
abbrev pub CanStand : Sight → Type 0
CanStand sight = fits (sight.path, sight.look) ≡ true

-- it stands there as it was seen
abbrev pub IsAsSeen : Tree → Sight → Type 0
IsAsSeen t sight = sight.look ≡ look_of t sight.path

-- it can't be in a manifest, and isn't to be left out
abbrev pub RefusesOne : Name → Look → Bool → PackStop → Type 0
RefusesOne path look skip (pack.Unfit at why) = (at ≡ path) × (unfit_of path look ≡ Some why) × (skip ≡ false)
RefusesOne path look skip pack.Memory = Unit {0}
RefusesOne path look skip _ = ⊥
