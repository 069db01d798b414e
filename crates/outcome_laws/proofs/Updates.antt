-- `install`, `update`, `sync` and `erase` have one outcome.
use Rattle.std.proofs.Common.{◌≡◌, ◌<◌, ◌≤◌, ⊎_elim, ℕ, Bool, List, [], ◌∷◌, ◌++◌, take, slice_get, Contains, Option, Some, None, Ok, Err, refl, sym, ap, ◌∙◌, subst, arith}
use Rattle.std.proofs.lemmas.Bool.{cases_lt}
use Rattle.std.proofs.lemmas.List.{length-take}
use Rattle.std.proofs.lemmas.Option.{same_Some}
use Rattle.conary_cli.specs.cli-call.cny-base.declared.options.Options.{Options}
use Rattle.conary_cli.specs.cli-call.cny-base.declared.refusal.Refusal.{Refusal}
use Rattle.conary_cli.specs.cli-call.cny-base.declared.refusal.Refusal.TheVariants as refusal
use Rattle.conary_cli.specs.cli-call.trove-parts.Id.{id_text_of}
use Rattle.conary_cli.specs.cli-call.trove-parts.declared.id.TroveId.{TroveId}
use Rattle.conary_cli.specs.cli-call.trove-stream.declared.parts.TroveParts.{TroveParts}
use Rattle.conary_cli.specs.cli-call.change-set.declared.change.Carried.{Carried}
use Rattle.conary_cli.specs.cli-call.change-set.declared.change.ChangeSet.{ChangeSet}
use Rattle.conary_cli.specs.cli-call.change-set.declared.change.Part.{Part}
use Rattle.conary_cli.specs.cli-call.local-db.SystemState.{IsSystemState}
use Rattle.conary_cli.specs.cli-call.system-core.Job.{no_answers, sources_of}
use Rattle.conary_cli.specs.cli-call.system-core.Lists.{to_erased, to_list, to_updated}
use Rattle.conary_cli.specs.cli-call.cny-laws.State.{RootState, State, tree_of}
use Rattle.cny_manifest.specs.declared.made.Made.{Made}
use Rattle.repo_load.specs.State.{troves_of}
use Rattle.trove_spec.specs.declared.config.Config.{Config}
use Rattle.trove_spec.specs.RootConfig.{HasConfig}
use Rattle.conary_cli.specs.root-commands.sys-model.declared.model.Model.{Model}
use Rattle.conary_cli.specs.root-commands.sys-model.RootModel.{HasModel}
use Rattle.conary_cli.specs.root-commands.sys-model.Wanted.{Wants}
use Rattle.trove_spec.proofs.OneConfig.{OneLabel}
use Rattle.update_job.specs.Lists.{IsSecond, IsUpdated}
use Rattle.update_job.specs.Made.{AreMade, IsFirstRefused}
use Rattle.change_rel.proofs.cny-base.Lists.{contains_at, place_in}
use Rattle.update_job.proofs.Mapped.{one_named}
use Rattle.trove_spec.specs.declared.given.GivenSpec.{GivenSpec}
use Rattle.trove_spec.specs.AndThen.{AndThen}
use Rattle.trove_spec.specs.Meant.{Means}
use Rattle.conary_cli.specs.root-commands.Erase.{erase}
use Rattle.conary_cli.specs.root-commands.Install.{first_reserved, install, InstallsMade, UnlessReserved}
use Rattle.conary_cli.specs.root-commands.Update.{answers_of, update_input, Comes, UpdatesBy, UpdatesTo}
use Rattle.conary_cli.specs.root-commands.Syncing.{sync, AdoptsList, AdoptsWanted, SyncsWith}
use Rattle.conary_cli.specs.root-commands.UpdateSpecs.{update_specs, AreMeant, BringAll, IsFirstUnmeant, MeanAll}
use Rattle.outcome_laws.specs.OneOutcome.{AtMostOne, HasOneOutcome, IsState}
use Rattle.outcome_laws.proofs.Configurations.{configured_once}
use Rattle.outcome_laws.proofs.JobOutcomes.{PlanLaws, StepLaws, job_once}
use Rattle.outcome_laws.proofs.Jobs.{erased_once, updated_once}
use Rattle.outcome_laws.proofs.Listings.{missing_once, never_missing, take_get}
use Rattle.outcome_laws.proofs.Meanings.{means_once}
use Rattle.outcome_laws.proofs.Completions.{bring_once}
use Rattle.outcome_laws.proofs.Models.{modelled_once, wants_once}
use Rattle.repo_shadow.proofs.OneMove.{OneExpansion}
use Rattle.outcome_laws.proofs.Splits.{Cuts, same, earlier, later, cuts}
use Rattle.outcome_laws.proofs.Tests.{with_shared, and_then_once, SetLaws, set_once, ManifestLaws, manifest_once}

-- ---- the list that follows

erases_once : (list : List TroveParts) (names : List (List ℕ)) → StepLaws (to_erased list names)
erases_once list names = record {
  leads = λ a b h g. erased_once list names a b h.1 g.1;
  refuses = missing_once list names;
  apart = λ after why h g. never_missing list names why h.0 g;
}

-- what stands among the first items of a list stands among more of them
more_taken : {A : Type 0} (xs : List A) (m n : ℕ) (x : A) → m ≤ n → Contains (take m xs) x → Contains (take n xs) x
more_taken {A} xs m n x most in' =
    let at = place_in (take m xs) x in' in
    let low : at.0 < m = omega (arith, length-take m xs, at.1) in
    contains_at (take n xs) at.0 x (take_get n at.0 xs (omega (arith, low, most)) ∙ sym (take_get m at.0 xs low) ∙ at.2)

module _ (come : List TroveParts) where
  second_before : (p q : Refusal) (h : IsSecond come p) (g : IsSecond come q) → h.place < g.place → ⊥
  second_before p q h g less = h.differs (g.first h.earlier h.trove
      (more_taken come h.place g.place h.earlier (omega (arith, less)) h.before)
      (contains_at (take g.place come) h.place h.trove (take_get g.place h.place come less ∙ h.there)) h.same_name)

  second_once : AtMostOne (IsSecond come)
  second_once p q h g = h.refusal_is ∙ ap (λ (t : TroveParts). refusal.Exists (id_text_of t.id)) trove ∙ sym g.refusal_is
    where
      place : h.place ≡ g.place
      place = ⊎_elim
          (λ less. absurd (second_before p q h g less))
          (λ most. ⊎_elim (λ less. absurd (second_before q p g h less)) (λ also. omega (arith, most, also)) (cases_lt g.place h.place))
          (cases_lt h.place g.place)

      trove : h.trove ≡ g.trove
      trove = same_Some h.trove g.trove (sym h.there ∙ ap (slice_get come) place ∙ g.there)

  all_taken : (n : ℕ) (t : TroveParts) → Contains (take n come) t → Contains come t
  all_taken n t in' =
      let at = place_in (take n come) t in' in
      let low : at.0 < n = omega (arith, length-take n come, at.1) in
      contains_at come at.0 t (sym (take_get n at.0 come low) ∙ at.2)

  never_second : (list new : List TroveParts) (why : Refusal) → IsUpdated list come new → IsSecond come why → ⊥
  never_second list new why h g =
      let one = place_in new g.earlier (h.fresh g.earlier (all_taken g.place g.earlier g.before)) in
      let two = place_in new g.trove (h.fresh g.trove (contains_at come g.place g.trove g.there)) in
      g.differs (one_named new h.rising one.0 two.0 g.earlier g.trove one.2 two.2 g.same_name)

updates_once : (list come : List TroveParts) → StepLaws (to_updated list come)
updates_once list come = record {
  leads = updated_once list come;
  refuses = second_once come;
  apart = λ new why h g. never_second come list new why h g;
}

-- ---- jobs

-- Parts make one row of troves of installed ones, or are refused for one reason, and never both.
pub record PartLaws : Type 0 where
  pub one : (installed : List TroveParts) (parts : List Part) (a b : List TroveParts) → AreMade installed parts a → AreMade installed parts b → a ≡ b
  pub one_refusal : (installed : List TroveParts) (parts : List Part) (a b : Refusal) → IsFirstRefused installed parts a → IsFirstRefused installed parts b → a ≡ b
  pub apart : (installed : List TroveParts) (parts : List Part) (troves : List TroveParts) (refusal : Refusal) → AreMade installed parts troves → IsFirstRefused installed parts refusal → ⊥

none_once : (name : List ℕ) → AtMostOne (no_answers name)
none_once name a b h g = h ∙ sym g

module _ (plans : PlanLaws) where
  pub erase_once : (names : List (List ℕ)) (options : Options) → HasOneOutcome (erase names options)
  erase_once names options = with_shared (erase names options)
      (λ s input state. job_once plans (sources_of [] no_answers options) none_once s.root state.root (to_erased s.root.installed names) (erases_once s.root.installed names))

  installs_once : (options : Options) (s : RootState) → IsSystemState s → (made : Made) (path : Option (List ℕ)) → AtMostOne (UnlessReserved path (InstallsMade options made s))
  installs_once options s system made None = job_once plans (sources_of made.contents no_answers options) none_once s system (to_updated s.installed made.troves) (updates_once s.installed made.troves)
  installs_once options s system made (Some path) = λ a b h g. h ∙ sym g

  pub install_once : ManifestLaws → (options : Options) → HasOneOutcome (install options)
  install_once laws options = with_shared (install options) (λ s input state.
      manifest_once laws input (λ (made : Made). UnlessReserved (first_reserved made.troves) (InstallsMade options made s.root))
      (λ made. installs_once options s.root state.root made (first_reserved made.troves)))

  updates_to_once : (options : Options) (carried : List Carried) (troves : List TroveParts) (s : State) → IsState s → AtMostOne (UpdatesTo options carried troves s)
  updates_to_once options carried troves s state = job_once plans (sources_of carried (answers_of s.repository.contents) options) (λ name a b h g. h ∙ sym g) s.root state.root
      (to_updated s.root.installed troves) (updates_once s.root.installed troves)

  -- ---- `update` by a change set

  comes_once : PartLaws → (installed : List TroveParts) (parts : List Part) → AtMostOne (Comes installed parts)
  comes_once laws installed parts (Ok a) (Ok b) h g = let is = laws.one installed parts a b h g in λ i. Ok (is i)
  comes_once laws installed parts (Ok a) (Err q) h g = absurd (laws.apart installed parts a q h g)
  comes_once laws installed parts (Err p) (Ok b) h g = absurd (laws.apart installed parts b p g h)
  comes_once laws installed parts (Err p) (Err q) h g = let is = laws.one_refusal installed parts p q h g in λ i. Err (is i)

  pub update_input_once : SetLaws → PartLaws → (options : Options) → HasOneOutcome (update_input options)
  update_input_once set_laws laws options = with_shared (update_input options) (λ s input state.
      set_once set_laws input (λ (set : ChangeSet). UpdatesBy options set s)
      (λ set. and_then_once (Comes s.root.installed set.parts) (λ (troves : List TroveParts). UpdatesTo options set.contents troves s)
      (comes_once laws s.root.installed set.parts)
      (λ troves. updates_to_once options set.contents troves s state)))

  -- ---- `update` of specifications

  module _ (troves : List TroveParts) (config : Config) where
    all_meant_once : (givens : List GivenSpec) → AtMostOne (AreMeant troves config givens)
    all_meant_once [] [] [] h g = refl
    all_meant_once [] [] (j ∷ b) h g = absurd g
    all_meant_once [] (i ∷ a) b h g = absurd h
    all_meant_once (given ∷ givens) [] b h g = absurd h
    all_meant_once (given ∷ givens) (i ∷ a) [] h g = absurd g
    all_meant_once (given ∷ givens) (i ∷ a) (j ∷ b) h g =
        let first : i ≡ j = cc (means_once troves config given (Ok i) (Ok j) h.0 g.0) in
        let rest : a ≡ b = all_meant_once givens a b h.1 g.1 in
        ap (λ (x : TroveId). x ∷ a) first ∙ ap (λ (l : List TroveId). j ∷ l) rest

    never_unmeant : (front : List GivenSpec) (given : GivenSpec) (behind : List GivenSpec) (ids : List TroveId) (why : Refusal) → AreMeant troves config (front ++ given ∷ behind) ids → Means troves config given (Err why) → ⊥
    never_unmeant [] given behind [] why h g = h
    never_unmeant [] given behind (i ∷ ids) why h g = absurd (cc (means_once troves config given (Ok i) (Err why) h.0 g))
    never_unmeant (x ∷ front) given behind [] why h g = h
    never_unmeant (x ∷ front) given behind (i ∷ ids) why h g = never_unmeant front given behind ids why h.1 g

    unmeant_once : (givens : List GivenSpec) → AtMostOne (IsFirstUnmeant troves config givens)
    unmeant_once givens p q h g = by (cuts h.front g.front h.given g.given h.behind g.behind (sym h.is ∙ g.is))
      where
        by : Cuts h.front g.front h.given g.given h.behind g.behind → p ≡ q
        by (same fronts ones rests) = cc (means_once troves config g.given (Err p) (Err q) (subst (λ (x : GivenSpec). Means troves config x (Err p)) ones h.refuses) g.refuses)
        by (earlier more at rests) = absurd (never_unmeant h.front h.given more g.ids p (subst (λ (l : List GivenSpec). AreMeant troves config l g.ids) at g.meant) h.refuses)
        by (later more at rests) = absurd (never_unmeant g.front g.given more h.ids q (subst (λ (l : List GivenSpec). AreMeant troves config l h.ids) at h.meant) g.refuses)

    mean_all_once : (givens : List GivenSpec) → AtMostOne (MeanAll troves config givens)
    mean_all_once givens (Ok a) (Ok b) h g = let is = all_meant_once givens a b h g in λ i. Ok (is i)
    mean_all_once givens (Ok a) (Err q) h g = absurd (never_unmeant g.front g.given g.behind a q (subst (λ (l : List GivenSpec). AreMeant troves config l a) g.is h) g.refuses)
    mean_all_once givens (Err p) (Ok b) h g = absurd (never_unmeant h.front h.given h.behind b p (subst (λ (l : List GivenSpec). AreMeant troves config l b) h.is g) h.refuses)
    mean_all_once givens (Err p) (Err q) h g = let is = unmeant_once givens p q h g in λ i. Err (is i)

  pub update_specs_once : OneLabel → OneExpansion → (options : Options) (resolve : Bool) (givens : List GivenSpec) → HasOneOutcome (update_specs options resolve givens)
  update_specs_once one_label one_expansion options resolve givens = with_shared (update_specs options resolve givens) (λ s input state.
      and_then_once (HasConfig (tree_of s.root))
      (λ (config : Config). AndThen (MeanAll (troves_of s.repository.commits) config givens) (λ (ids : List TroveId). AndThen (BringAll resolve (troves_of s.repository.commits) s.root.installed config ids) (λ (troves : List TroveParts). UpdatesTo options [] troves s)))
      (configured_once one_label (tree_of s.root))
      (λ config. and_then_once (MeanAll (troves_of s.repository.commits) config givens)
      (λ (ids : List TroveId). AndThen (BringAll resolve (troves_of s.repository.commits) s.root.installed config ids) (λ (troves : List TroveParts). UpdatesTo options [] troves s))
      (mean_all_once (troves_of s.repository.commits) config givens)
      (λ ids. and_then_once (BringAll resolve (troves_of s.repository.commits) s.root.installed config ids) (λ (troves : List TroveParts). UpdatesTo options [] troves s)
      (bring_once one_expansion (troves_of s.repository.commits) s.root.installed config resolve ids)
      (λ troves. updates_to_once options [] troves s state))))

  -- ---- `sync`

  adopts_once : (options : Options) (list : List TroveParts) (s : State) → IsState s → AtMostOne (AdoptsList options list s)
  adopts_once options list s state = job_once plans (sources_of [] (answers_of s.repository.contents) options) (λ name a b h g. h ∙ sym g) s.root state.root
      (to_list list) (record { leads = λ a b h g. h ∙ sym g; refuses = λ a b h g. absurd h; apart = λ new why h g. g })

  pub sync_once : OneLabel → OneExpansion → (options : Options) → HasOneOutcome (sync options)
  sync_once one_label one_expansion options = with_shared (sync options) (λ s input state.
      and_then_once (HasConfig (tree_of s.root)) (λ (config : Config). SyncsWith options config s)
      (configured_once one_label (tree_of s.root))
      (λ config. and_then_once (HasModel (tree_of s.root)) (λ (model : Model). AdoptsWanted options config model s)
      (modelled_once one_label (tree_of s.root))
      (λ model. and_then_once (Wants (troves_of s.repository.commits) config model.lines) (λ (list : List TroveParts). AdoptsList options list s)
      (wants_once one_expansion (troves_of s.repository.commits) config model.lines)
      (λ list. adopts_once options list s state))))
