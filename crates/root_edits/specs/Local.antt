-- The change set of the local changes: it leads from the installed troves that one of them reaches to troves of what stands.
use Rattle.std.specs.Prelude.{◌≡◌, ◌⊎◌, ℕ, List, [], ◌∷◌, flat_map, Option, Some, None}
use Rattle.std.specs.Option.{option_map, option_or}
use Rattle.update_job.specs.cny-base.declared.refusal.Refusal.{Refusal}
use Rattle.update_job.specs.cny-base.declared.refusal.Refusal.TheVariants as refusal
use Rattle.update_job.specs.cny-base.declared.refusal.What.TheVariants as what
use Rattle.update_job.specs.cny-base.declared.stop.Stop.{Stop}
use Rattle.update_job.specs.cny-base.declared.stop.Stop.TheVariants as stop
use Rattle.update_job.specs.trove-parts.declared.files.FileAt.{FileAt}
use Rattle.update_job.specs.trove-stream.declared.parts.TroveParts.{TroveParts}
use Rattle.change_rel.specs.trove-stream.Leads.{Leads}
use Rattle.update_job.specs.change-set.declared.change.Part.{Part}
use Rattle.update_job.specs.change-set.declared.change.Part.TheVariants.{Whole, Relative}
use Rattle.update_job.specs.change-set.declared.change.Carried.{Carried}
use Rattle.update_job.specs.change-set.declared.change.ChangeSet.{ChangeSet}
use Rattle.manifest_troves.specs.Contents.{contents_of, first_collision}
use Rattle.update_job.specs.trove-stream.Installed.{IsNameless}
use Rattle.tree_scan.specs.tree-disk.Tree.{Tree}
use Rattle.root_edits.specs.Moved.{local_id, too_long, AreLocalRefs}
use Rattle.root_edits.specs.Reached.{AreReached}
use Rattle.root_edits.specs.Standing.{Sight, sights, local_contents, local_files, too_large}

-- ---- new troves

-- The new trove of an installed one, beside the troves that move with it, by what is seen at its paths: the local id, the files that
-- stand, and the references that are left; what it requires and provides stays.
pub record IsLocalTrove (troves : List TroveParts) (seen : List Sight) (t fresh : TroveParts) : Type 0 where
  pub id : fresh.id ≡ local_id t.id
  pub files : fresh.files ≡ local_files seen
  pub refs : AreLocalRefs troves t fresh.refs
  pub required : fresh.requires_ ≡ t.requires_
  pub provided : fresh.provides ≡ t.provides

-- the part leads from the trove to its new one
abbrev pub IsLocalPart : List TroveParts → List Sight → TroveParts → Part → Type 0
IsLocalPart troves seen t (Relative rel) = (fresh : TroveParts) × IsLocalTrove troves seen t fresh × Leads rel t fresh
IsLocalPart troves seen t (Whole trove) = ⊥

-- a part of each of the troves, in their order
abbrev pub AreLocalParts : List TroveParts → Tree → List TroveParts → List Part → Type 0
AreLocalParts all tree [] parts = parts ≡ []
AreLocalParts all tree (t ∷ troves) parts = (part : Part) × (rest : List Part) × IsLocalPart all (sights tree t.files) t part × AreLocalParts all tree troves rest × (parts ≡ part ∷ rest)

-- ---- all troves

-- what the troves record, trove by trove
abbrev pub records : List TroveParts → List FileAt
records troves = flat_map (λ (t : TroveParts). t.files) troves

-- what stands there
abbrev pub all_sights : Tree → List TroveParts → List Sight
all_sights tree troves = sights tree (records troves)

-- the contents that are carried, trove by trove and path by path
abbrev pub all_contents : Tree → List TroveParts → List Carried
all_contents tree troves = local_contents (all_sights tree troves)

abbrev pub collision_of : List ℕ × ℕ → Refusal
collision_of c = refusal.Collision c.0 c.1

-- the refusal of the first content that differs from one before it of the same name
abbrev pub collision : List Carried → Option Refusal
collision contents = option_map collision_of (first_collision contents)

-- Each test is made of all troves before the next one.
abbrev pub first_refusal : Tree → List TroveParts → Option Refusal
first_refusal tree troves = option_or (too_long troves) (option_or (too_large (all_sights tree troves)) (collision (all_contents tree troves)))

-- ---- the answer

-- A trove of the name is installed; and of the troves that it reaches no test refuses any, the parts lead to their new troves, and
-- the contents are those that are carried, each name once, in the order of their bytes.
pub record IsLocal (list : List TroveParts) (name : List ℕ) (tree : Tree) (set : ChangeSet) : Type 0 where
  pub installed : IsNameless name list → ⊥
  pub troves : List TroveParts
  pub reached : AreReached list name troves
  pub unrefused : first_refusal tree troves ≡ None
  pub parts : AreLocalParts troves tree troves set.parts
  pub contents : set.contents ≡ contents_of (all_contents tree troves)

-- no trove of the name is installed
pub record IsNotInstalled (list : List TroveParts) (name : List ℕ) (refused : Refusal) : Type 0 where
  pub missing : IsNameless name list
  pub refusal_is : refused ≡ refusal.NotInstalled name

-- the first refusal of the troves that are reached
pub record IsRefusedTrove (list : List TroveParts) (name : List ℕ) (tree : Tree) (refused : Refusal) : Type 0 where
  pub installed : IsNameless name list → ⊥
  pub troves : List TroveParts
  pub reached : AreReached list name troves
  pub refusal_is : first_refusal tree troves ≡ Some refused

abbrev pub IsLocalRefusal : List TroveParts → List ℕ → Tree → Refusal → Type 0
IsLocalRefusal list name tree refused = IsNotInstalled list name refused ⊎ IsRefusedTrove list name tree refused

-- ---- on every disk, also on one that tells nothing

-- a trove of the name is installed, and of those that it reaches no version would be too long
pub record PassesVersions (list : List TroveParts) (name : List ℕ) : Type 0 where
  pub installed : IsNameless name list → ⊥
  pub troves : List TroveParts
  pub reached : AreReached list name troves
  pub short : too_long troves ≡ None

-- one of them would be, and this is the refusal of the first
pub record IsTooLongTrove (list : List TroveParts) (name : List ℕ) (refused : Refusal) : Type 0 where
  pub installed : IsNameless name list → ⊥
  pub troves : List TroveParts
  pub reached : AreReached list name troves
  pub refusal_is : too_long troves ≡ Some refused

-- The refusals that the list alone decides come exactly so. Behind them come those of a file that is too large and of a collision, and no
-- other.
abbrev pub IsLocalAnswer : List TroveParts → List ℕ → Refusal → Type 0
IsLocalAnswer list name (refusal.NotInstalled missing) = IsNotInstalled list name (refusal.NotInstalled missing)
IsLocalAnswer list name (refusal.TooLarge what.Version size) = IsTooLongTrove list name (refusal.TooLarge what.Version size)
IsLocalAnswer list name (refusal.TooLarge what.Local size) = PassesVersions list name
IsLocalAnswer list name (refusal.Collision hash at) = PassesVersions list name
IsLocalAnswer list name _ = ⊥

-- so refused; or a fault behind them, or want of memory
abbrev pub IsLocalStop : List TroveParts → List ℕ → Stop → Type 0
IsLocalStop list name (stop.Refused why) = IsLocalAnswer list name why
IsLocalStop list name stop.Failed = PassesVersions list name
IsLocalStop list name stop.Memory = Unit {0}
IsLocalStop list name (stop.Damaged path) = ⊥
IsLocalStop list name stop.FarFailed = ⊥
IsLocalStop list name (stop.FarDamaged path) = ⊥
