-- The installed list that a model wants: what its lines make of the empty list, one after the other.
use Rattle.std.specs.Prelude.{◌≡◌, ℕ, List, [], ◌∷◌, map, unwrap_or, Result, Ok, Err}
use Rattle.repo_index.specs.cny-base.declared.refusal.Refusal.{Refusal}
use Rattle.repo_index.specs.cny-base.declared.refusal.Refusal.TheVariants as refusal
use Rattle.repo_index.specs.trove-stream.declared.parts.TroveParts.{TroveParts}
use Rattle.repo_index.specs.trove-stream.Installed.{trove_of, IsNameless}
use Rattle.update_job.specs.Lists.{IsUpdated, IsErased}
use Rattle.trove_spec.specs.declared.config.Config.{Config}
use Rattle.trove_spec.specs.declared.given.GivenSpec.{GivenSpec}
use Rattle.trove_spec.specs.declared.spec.Spec.{Spec}
use Rattle.trove_spec.specs.AndThen.{AndThen}
use Rattle.trove_spec.specs.Meant.{Expands}
use Rattle.sys_model.specs.declared.directive.ModelLine.{ModelLine}
use Rattle.sys_model.specs.declared.directive.ModelLine.TheVariants.{Install, Update, Erase}

-- ---- what a line makes of a list

-- These troves are put in, as an update does.
abbrev pub PutsIn : List TroveParts → List TroveParts → Result (List TroveParts) Refusal → Type 0
PutsIn list found (Ok new) = IsUpdated list found new
PutsIn list found (Err refused) = ⊥

-- the trove of its name among these or, where there is none, the trove itself
abbrev pub in_place_of : List TroveParts → TroveParts → TroveParts
in_place_of found t = unwrap_or (trove_of t.id.name found) t

-- Each of these troves whose name is in the list takes that name's place.
abbrev pub Replaces : List TroveParts → List TroveParts → Result (List TroveParts) Refusal → Type 0
Replaces list found result = result ≡ Ok (map (in_place_of found) list)

-- The trove of this name is erased, or the list has none.
abbrev pub TakesOut : List TroveParts → List ℕ → Result (List TroveParts) Refusal → Type 0
TakesOut list name (Ok new) = IsErased list (name ∷ []) new × (IsNameless name list → ⊥)
TakesOut list name (Err refused) = (refused ≡ refusal.NotInstalled name) × IsNameless name list

-- a specification with its text
abbrev pub given : Spec → List ℕ → GivenSpec
given spec text = record { spec = spec; text = text }

-- what the line makes of the list, or why it fails: first its specification is resolved and expanded
abbrev pub Makes : List TroveParts → Config → List TroveParts → ModelLine → Result (List TroveParts) Refusal → Type 0
Makes troves config list (Install spec text) = AndThen (Expands troves config (given spec text)) (PutsIn list)
Makes troves config list (Update spec text) = AndThen (Expands troves config (given spec text)) (Replaces list)
Makes troves config list (Erase name) = TakesOut list name

-- ---- what the lines make of it

-- what the lines make of the list, one after the other, or why the first that fails does
abbrev pub MakesAll : List TroveParts → Config → List ModelLine → List TroveParts → Result (List TroveParts) Refusal → Type 0
MakesAll troves config [] list result = result ≡ Ok list
MakesAll troves config (line ∷ lines) list result = AndThen (Makes troves config list line) (MakesAll troves config lines) result

-- the list that the lines want, or the refusal of the first that fails
abbrev pub Wants : List TroveParts → Config → List ModelLine → Result (List TroveParts) Refusal → Type 0
Wants troves config lines result = MakesAll troves config lines [] result
