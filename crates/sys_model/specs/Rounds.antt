-- An update that completes itself, round by round.
use Rattle.std.specs.Prelude.{◌≡◌, ◌⊎◌, List, [], ◌∷◌, ◌++◌, map, Contains, None, Result, Ok, Err}
use Rattle.cny_dep.specs.Dep.{Dependency, dep_text}
use Rattle.repo_index.specs.cny-base.declared.refusal.Refusal.{Refusal}
use Rattle.repo_index.specs.cny-base.declared.refusal.Refusal.TheVariants.{Unmet}
use Rattle.repo_index.specs.trove-parts.declared.id.TroveId.{TroveId}
use Rattle.repo_index.specs.trove-stream.declared.parts.TroveParts.{TroveParts}
use Rattle.dep_closure.specs.Closed.{IsClosed, IsFirstUnmet}
use Rattle.trove_spec.specs.declared.config.Config.{Config}
use Rattle.trove_spec.specs.Expansion.{IsExpansion, IsOfOneName, IsReached, first_of_same_name}
use Rattle.update_job.specs.Lists.{IsUpdated}
use Rattle.sys_model.specs.Candidate.{IsCandidate, IsChosen, HasNoChoice}

-- ---- a round

-- what the roots of the round reach, no two of one name, and the installed list with that put in, as an update does
pub record IsRound (troves installed : List TroveParts) (roots : List TroveId) (found list : List TroveParts) : Type 0 where
  pub expansion : IsExpansion troves roots found
  pub one_each : first_of_same_name found ≡ None
  pub updated : IsUpdated installed found list

-- the list of the round isn't closed, and this is the first trove that has a requirement which isn't met, and its first one
pub record IsOpen (troves installed : List TroveParts) (roots : List TroveId) (found : List TroveParts) (trove : TroveParts) (require : Dependency) : Type 0 where
  pub list : List TroveParts
  pub round : IsRound troves installed roots found list
  pub unmet : IsFirstUnmet list trove require

-- ---- rounds

-- The list of the round isn't closed, and this trove is chosen for the first requirement that isn't met.
pub record Adds (troves installed : List TroveParts) (config : Config) (roots : List TroveId) (t : TroveParts) : Type 0 where
  pub found : List TroveParts
  pub trove : TroveParts
  pub require : Dependency
  pub open_ : IsOpen troves installed roots found trove require
  pub chosen : IsChosen (IsCandidate config.flavor found require) config.labels troves t

-- the roots and the ids of these troves
abbrev pub with_added : List TroveId → List TroveParts → List TroveId
with_added roots added = roots ++ map (λ (t : TroveParts). t.id) added

-- One round after the other adds these troves to the roots.
abbrev pub AreAdded : List TroveParts → List TroveParts → Config → List TroveId → List TroveParts → Type 0
AreAdded troves installed config roots [] = Unit {0}
AreAdded troves installed config roots (t ∷ added) = Adds troves installed config roots t × AreAdded troves installed config (roots ++ t.id ∷ []) added

-- ---- the last round

-- Nothing can be added for the first requirement that isn't met, and so this is refused.
pub record IsHelpless (troves installed : List TroveParts) (config : Config) (roots : List TroveId) (refused : Refusal) : Type 0 where
  pub found : List TroveParts
  pub trove : TroveParts
  pub require : Dependency
  pub open_ : IsOpen troves installed roots found trove require
  pub none : HasNoChoice (IsCandidate config.flavor found require) config.labels troves
  pub refusal_is : refused ≡ Unmet trove.id.name (dep_text require)

-- The last round: its list is closed; or its roots reach two troves of one name; or it has a requirement for which nothing can be added.
abbrev pub EndsRound : List TroveParts → List TroveParts → Config → List TroveId → Result (List TroveParts) Refusal → Type 0
EndsRound troves installed config roots (Ok found) = (list : List TroveParts) × IsRound troves installed roots found list × IsClosed list
EndsRound troves installed config roots (Err refused) = IsOfOneName troves roots refused ⊎ IsHelpless troves installed config roots refused

-- From these roots the rounds lead to the troves of the first round whose list is closed, or to a refusal.
pub record Completes (troves installed : List TroveParts) (config : Config) (roots : List TroveId) (result : Result (List TroveParts) Refusal) : Type 0 where
  pub added : List TroveParts
  pub are : AreAdded troves installed config roots added
  pub ends : EndsRound troves installed config (with_added roots added) result

-- ---- why a trove is there

-- The trove was chosen in some round for a requirement that wasn't met, and it reaches this id.
pub record IsHelp (troves installed : List TroveParts) (config : Config) (id : TroveId) : Type 0 where
  pub roots : List TroveId
  pub helper : TroveParts
  pub adds : Adds troves installed config roots helper
  pub reached : IsReached troves (helper.id ∷ []) id

-- Each of these troves is reached from the roots, or from one that was chosen for a requirement that wasn't met.
abbrev pub HasReasons : List TroveParts → List TroveParts → Config → List TroveId → List TroveParts → Type 0
HasReasons troves installed config roots found = (t : TroveParts) → Contains found t → IsReached troves roots t.id ⊎ IsHelp troves installed config t.id
