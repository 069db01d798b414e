-- The list of a round by names: what comes, and the installed troves that stay.
use Rattle.std.specs.Prelude.{◌≡◌, ◌⊎◌, ℕ, IsTrue, List, Contains, Option, Some, None, slice_get}
use Rattle.std.specs.BTreeSet as set
use Rattle.std.specs.BTreeSet.{BTreeSet}
use Rattle.std.specs.Cmp.Lexicographic.{slice_cmp}
use Rattle.std.specs.Ordering.{nat_cmp}
use Rattle.cny_dep.specs.Dep.{dep_text}
use Rattle.repo_index.specs.cny-base.declared.refusal.Fault.{Fault}
use Rattle.repo_index.specs.cny-base.declared.refusal.Fault.TheVariants as fault
use Rattle.repo_index.specs.cny-base.declared.refusal.Refusal.{Refusal}
use Rattle.repo_index.specs.cny-base.declared.refusal.Refusal.TheVariants as refusal
use Rattle.repo_index.specs.trove-stream.declared.parts.TroveParts.{TroveParts}
use Rattle.repo_index.specs.trove-stream.Installed.{trove_of}
use Rattle.dep_closure.specs.Slots.{IsServed, IsServedBefore, IsFirstAt}
use Rattle.trove_spec.specs.declared.config.Config.{Config}
use Rattle.sys_model.specs.declared.view.View.{View}
use Rattle.sys_model.specs.declared.view.Unmet.{Unmet}
use Rattle.sys_model.specs.Candidate.{IsChosen, HasNoChoice}
use Rattle.sys_model.specs.Fit.{Fresh, place_of, IsFit}
use Rattle.sys_model.specs.Providers.{AreNoted}

-- the trove at the place, where there is one, or else the other
abbrev pub held_by : List TroveParts → Option ℕ → Option TroveParts → Option TroveParts
held_by troves None other = other
held_by troves (Some place) other = slice_get troves place

-- the trove of a name: the one that comes, or else the one that stays
abbrev pub held : List TroveParts → Fresh → List TroveParts → List ℕ → Option TroveParts
held troves fresh kept name = held_by troves (place_of fresh name) (trove_of name kept)

-- the same of what is looked at
abbrev pub held_in : View → List ℕ → Option TroveParts
held_in view = held view.catalogue.now.troves view.fresh.now view.kept.now

-- What comes stands under its name.
abbrev pub AreNamed : List TroveParts → Fresh → Type 0
AreNamed troves fresh = (name : List ℕ) (place : ℕ) (t : TroveParts) → place_of fresh name ≡ Some place → slice_get troves place ≡ Some t → t.id.name ≡ name

-- The indices are those of the repository and of the installed troves, of which some stay.
pub record IsView (view : View) : Type 0 where
  pub named : AreNamed view.catalogue.now.troves view.fresh.now
  pub among : (t : TroveParts) → Contains view.kept.now t → Contains view.installed.now t
  pub comers : AreNoted view.catalogue.now.troves view.comers.now
  pub stayers : AreNoted view.installed.now view.stayers.now

-- the first requirement of a trove that isn't met, and the trove
abbrev pub IsFirstOf : (List ℕ → Option TroveParts) → List ℕ → Unmet → Type 0
IsFirstOf troves name unmet = IsFirstAt troves name unmet.trove.now unmet.require.now

-- Each trove of a name that isn't among these has its requirements met.
abbrev pub AreServedBut : (List ℕ → Option TroveParts) → BTreeSet (List ℕ) → Type 0
AreServedBut troves doubted = (name : List ℕ) → IsServed troves name ⊎ IsTrue (set.contains (slice_cmp nat_cmp) doubted name)

-- the first trove by name that has a requirement which isn't met
pub record IsFirstIn (troves : List ℕ → Option TroveParts) (unmet : Unmet) : Type 0 where
  pub name : List ℕ
  pub first : IsFirstOf troves name unmet
  pub before : (other : List ℕ) → IsServedBefore troves (Some name) other

-- ---- help

-- the trove that is added for the first requirement that isn't met
pub record IsHelpFor (troves : List TroveParts) (fresh : Fresh) (kept : List TroveParts) (config : Config) (t : TroveParts) : Type 0 where
  pub unmet : Unmet
  pub first : IsFirstIn (held troves fresh kept) unmet
  pub chosen : IsChosen (IsFit config.flavor fresh unmet.require.now) config.labels troves t

-- the refusal of that requirement, where there is none to add
pub record IsNoHelp (troves : List TroveParts) (fresh : Fresh) (kept : List TroveParts) (config : Config) (refused : Refusal) : Type 0 where
  pub unmet : Unmet
  pub first : IsFirstIn (held troves fresh kept) unmet
  pub none : HasNoChoice (IsFit config.flavor fresh unmet.require.now) config.labels troves
  pub refusal_is : refused ≡ refusal.Unmet unmet.trove.now.id.name (dep_text unmet.require.now)

-- that, or want of memory
abbrev pub IsNoHelpOrMemory : List TroveParts → Fresh → List TroveParts → Config → Fault → Type 0
IsNoHelpOrMemory troves fresh kept config (fault.Refused refused) = IsNoHelp troves fresh kept config refused
IsNoHelpOrMemory troves fresh kept config fault.Memory = Unit {0}
