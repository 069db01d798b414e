-- How an update by specifications follows from the job of the troves that they reach.
use Rattle.std.proofs.Common.{◌≡◌, Bool, ℕ, ◌+◌, ◌<◌, List, [], ◌∷◌, ◌++◌, length, take, drop, get_or, Result, Ok, Err, refl, sym, ◌∙◌, ap, subst, inl, inr, ⊎_elim, arith}
use Rattle.std.specs.Prelude.{IsTrue, Contains}
use Rattle.std.proofs.lemmas.List.{take_more}
use Rattle.std.proofs.lemmas.List.Elements.{All-contains, All-contains_itself, All-weaker, Contains-append_cases}
use Rattle.cli_call.specs.cny-base.declared.options.Options.{Options}
use Rattle.cli_call.specs.cny-base.declared.refusal.Fault.{Fault}
use Rattle.cli_call.specs.cny-base.declared.refusal.Fault.TheVariants as fault
use Rattle.cli_call.specs.cny-base.declared.refusal.Refusal.{Refusal}
use Rattle.cli_call.specs.tree-disk.Disk.{DiskModel}
use Rattle.cli_call.specs.trove-parts.declared.id.TroveId.{TroveId}
use Rattle.cli_call.specs.trove-stream.declared.parts.TroveParts.{TroveParts}
use Rattle.trove_spec.specs.declared.config.Config.{Config}
use Rattle.trove_spec.specs.Expansion.{IsExpansion, IsUnexpanded}
use Rattle.trove_spec.specs.RootConfig.{HasConfig}
use Rattle.repo_index.specs.Catalogue.{AreCommitted, CatalogueParts}
use Rattle.repo_load.specs.State.{troves_of, AreFollowing, Commit}
use Rattle.repo_load.specs.Loading.{IsCatalogue}
use Rattle.cli_call.specs.Command.{Disks, AreReady, StandsFor}
use Rattle.cli_call.specs.cny-laws.State.{tree_of, Effect, State}
use Rattle.cli_call.specs.system-core.Lists.{AllPathsAllowed}
use Rattle.trove_spec.specs.declared.given.GivenSpec.{GivenSpec}
use Rattle.trove_spec.specs.AndThen.{AndThen, EndsAs}
use Rattle.trove_spec.specs.Meant.{Means}
use Rattle.cli_call.proofs.ReadingEnds.{configuration, file_at, troves_are, CatalogueIs}
use Rattle.root_commands.specs.Update.{UpdatesTo}
use Rattle.root_commands.proofs.ComingEnds.{same_installed}
use Rattle.cli_call.proofs.system-core.Held.{OneDatabase}
use Rattle.root_commands.specs.UpdateSpecs.{AreMeant, BringAll, MeanAll, ReachAll, UpdatesFrom}
use Rattle.update_job.specs.trove-stream.Forbidden.{IsAllowed}
use Rattle.local_db.proofs.cny-base.Lists.{split_at}

-- ---- one specification after another

module _ (troves : List TroveParts) (config : Config) where
  pub meant_push : (givens : List GivenSpec) (ids : List TroveId) (given : GivenSpec) (id : TroveId) → AreMeant troves config givens ids → Means troves config given (Ok id) → AreMeant troves config (givens ++ given ∷ []) (ids ++ id ∷ [])
  meant_push [] [] given id are one = (one, tt)
  meant_push [] (x ∷ ids) given id are one = absurd are
  meant_push (g ∷ givens) [] given id are one = absurd are
  meant_push (g ∷ givens) (x ∷ ids) given id are one = (are.0, meant_push givens ids given id are.1 one)

  pub meant_more : (givens : List GivenSpec) (i : ℕ) (given : GivenSpec) (ids : List TroveId) (id : TroveId) → i < length givens → given ≡ get_or givens i given
      → AreMeant troves config (take i givens) ids → Means troves config given (Ok id) → AreMeant troves config (take (i + 1) givens) (ids ++ id ∷ [])
  meant_more givens i given ids id within is are one =
      subst (λ (l : List GivenSpec). AreMeant troves config l (ids ++ id ∷ [])) (sym (take_more givens i given within ∙ ap (λ (g : GivenSpec). take i givens ++ g ∷ []) (sym is)))
      (meant_push (take i givens) ids given id are one)

  pub first_unmeant : (givens : List GivenSpec) (i : ℕ) (given : GivenSpec) (ids : List TroveId) (e : Fault) → i < length givens → given ≡ get_or givens i given
      → AreMeant troves config (take i givens) ids → EndsAs (Means troves config given) (Err e) → EndsAs (MeanAll troves config givens) (Err e)
  first_unmeant givens i given ids (fault.Refused refused) within is are refuses =
      record { front = take i givens; ids = ids; given = given; behind = drop (i + 1) givens; is = split_at i givens given within is; meant = are; refuses = refuses }
  first_unmeant givens i given ids fault.Memory within is are refuses = tt

-- ---- what they reach

pub unreached : (troves : List TroveParts) (ids : List TroveId) (f : Fault) → IsUnexpanded troves ids f → EndsAs (ReachAll troves ids) (Err f)
unreached troves ids (fault.Refused refused) is = is
unreached troves ids fault.Memory is = tt

-- a test's refusal
pub refused_as : {A : Type 0} (Test : Result A Refusal → Type 0) (f : Fault) → EndsAs Test (Err f) → (refused : Refusal) → f ≡ fault.Refused refused → Test (Err refused)
refused_as Test f ends refused is = subst (λ (e : Fault). EndsAs Test (Err e)) is ends

-- ---- on a state with these lists and this configuration

module _ (s : State) (committed installed : List TroveParts) (same_committed : committed ≡ troves_of s.repository.commits) (same_list : installed ≡ s.root.installed) (options : Options) (resolve : Bool) (givens : List GivenSpec) (config : Config) (configured : HasConfig (tree_of s.root) (Ok config)) where
  pub unmeant_on : (refused : Refusal) → MeanAll committed config givens (Err refused) → UpdatesFrom options resolve givens s (Err refused)
  unmeant_on refused is = inl (record {
    value = config;
    found = configured;
    rest = inr (record { refusal = refused; refused = subst (λ (t : List TroveParts). MeanAll t config givens (Err refused)) same_committed is; is = refl });
  })

  module _ (ids : List TroveId) (meant : MeanAll committed config givens (Ok ids)) where
    then : (outcome : Result Effect Refusal) → AndThen (BringAll resolve (troves_of s.repository.commits) s.root.installed config ids) (λ (troves : List TroveParts). UpdatesTo options [] troves s) outcome → UpdatesFrom options resolve givens s outcome
    then outcome is = inl (record {
      value = config;
      found = configured;
      rest = inl (record { value = ids; found = subst (λ (t : List TroveParts). MeanAll t config givens (Ok ids)) same_committed meant; rest = is });
    })

    -- what was sought of the lists at hand is so of those of the state
    brought : (found : Result (List TroveParts) Refusal) → BringAll resolve committed installed config ids found → BringAll resolve (troves_of s.repository.commits) s.root.installed config ids found
    brought found is =
        subst (λ (t : List TroveParts). BringAll resolve t s.root.installed config ids found) same_committed
        (subst (λ (list : List TroveParts). BringAll resolve committed list config ids found) same_list is)

    pub unbrought_on : (refused : Refusal) → BringAll resolve committed installed config ids (Err refused) → UpdatesFrom options resolve givens s (Err refused)
    unbrought_on refused is = then (Err refused) (inr (record { refusal = refused; refused = brought (Err refused) is; is = refl }))

    pub updated_on : (troves : List TroveParts) → BringAll resolve committed installed config ids (Ok troves) → (outcome : Result Effect Refusal) → UpdatesTo options [] troves s outcome → UpdatesFrom options resolve givens s outcome
    updated_on troves is outcome updates = then outcome (inl (record { value = troves; found = brought (Ok troves) is; rest = updates }))

-- ---- by a state that the disks store

module _ {T P : Type 0} {root_disk : DiskModel T} {repo_disk : DiskModel P} (law : CatalogueIs) (database : OneDatabase) (options : Options) (resolve : Bool) (givens : List GivenSpec) (old : Disks T P) (ready : AreReady root_disk repo_disk old)
    (config : Config) (has : IsTrue root_disk.tells → HasConfig (root_disk.reads old.root) (Ok config)) (root_told : IsTrue root_disk.tells) (told : IsTrue repo_disk.tells) (s : State) (stands : StandsFor root_disk repo_disk old s) where
  troves_is : old.opened.catalogue.troves ≡ troves_of s.repository.commits
  troves_is = troves_are law old ready told s stands

  installed_is : old.opened.db.installed ≡ s.root.installed
  installed_is = same_installed database old ready root_told s stands

  configured : HasConfig (tree_of s.root) (Ok config)
  configured = file_at configuration old (Ok config) (has root_told) s stands

  pub none_meant : (refused : Refusal) → MeanAll old.opened.catalogue.troves config givens (Err refused) → UpdatesFrom options resolve givens s (Err refused)
  none_meant refused is = unmeant_on s old.opened.catalogue.troves old.opened.db.installed troves_is installed_is options resolve givens config configured refused is

  module _ (ids : List TroveId) (meant : MeanAll old.opened.catalogue.troves config givens (Ok ids)) where
    pub none_brought : (refused : Refusal) → BringAll resolve old.opened.catalogue.troves old.opened.db.installed config ids (Err refused) → UpdatesFrom options resolve givens s (Err refused)
    none_brought refused is = unbrought_on s old.opened.catalogue.troves old.opened.db.installed troves_is installed_is options resolve givens config configured ids meant refused is

    pub all_updated : (troves : List TroveParts) → BringAll resolve old.opened.catalogue.troves old.opened.db.installed config ids (Ok troves) → (outcome : Result Effect Refusal) → UpdatesTo options [] troves s outcome → UpdatesFrom options resolve givens s outcome
    all_updated troves is outcome updates = updated_on s old.opened.catalogue.troves old.opened.db.installed troves_is installed_is options resolve givens config configured ids meant troves is outcome updates

-- ---- committed troves record no forbidden path

committed_allowed : (before : List TroveParts) (commits : List Commit) → AreFollowing before commits → (t : TroveParts) → Contains (troves_of commits) t → IsAllowed t
committed_allowed before [] following t among = let within = among.1 in absurd (omega (arith, within))
committed_allowed before (troves ∷ commits) following t among = ⊎_elim
    (λ (first : Contains troves t). All-contains IsAllowed troves t following.0.allowed first)
    (λ (later : Contains (troves_of commits) t). committed_allowed (before ++ troves) commits following.1 t later)
    (Contains-append_cases troves (troves_of commits) t among)

pub all_allowed : (catalogue : CatalogueParts) → IsCatalogue catalogue → (found : List TroveParts) → AreCommitted catalogue.troves found → AllPathsAllowed found
all_allowed catalogue rules found are = All-weaker (Contains found) IsAllowed
    (λ (t : TroveParts) (among : Contains found t). committed_allowed [] rules.commits rules.rules.following t
    (subst (λ (c : CatalogueParts). Contains c.troves t) rules.is (are t among)))
    found (All-contains_itself found)

pub reached_allowed : (catalogue : CatalogueParts) → IsCatalogue catalogue → (ids : List TroveId) (found : List TroveParts) → IsExpansion catalogue.troves ids found → AllPathsAllowed found
reached_allowed catalogue rules ids found is = all_allowed catalogue rules found is.there
