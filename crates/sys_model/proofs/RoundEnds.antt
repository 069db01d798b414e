-- How a round ends: its list is closed, or a trove is added, or none can be.
use Rattle.std.proofs.Common.{◌≡◌, ℕ, List, take, Option}
use Rattle.std.proofs.lemmas.List.Elements.{All-weaker}
use Rattle.cny_dep.specs.Dep.{Dependency, dep_text}
use Rattle.cny_dep.specs.declared.parts.Parts.{Parts}
use Rattle.cny_version.specs.Label.{LabelParts}
use Rattle.repo_index.specs.cny-base.declared.refusal.Refusal.{Refusal}
use Rattle.repo_index.specs.cny-base.declared.refusal.Refusal.TheVariants as refusal
use Rattle.repo_index.specs.trove-parts.declared.id.TroveId.{TroveId}
use Rattle.repo_index.specs.trove-stream.declared.parts.TroveParts.{TroveParts}
use Rattle.dep_closure.specs.Closed.{IsClosed, IsFirstUnmet}
use Rattle.dep_closure.specs.Slots.{IsClosedBy}
use Rattle.dep_closure.proofs.Edited.{closed_listed, first_listed}
use Rattle.trove_spec.specs.declared.config.Config.{Config}
use Rattle.trove_spec.specs.Reached.{ArePlacesReached}
use Rattle.sys_model.specs.declared.round.Round.{Round}
use Rattle.sys_model.specs.declared.view.Unmet.{Unmet}
use Rattle.sys_model.specs.Candidate.{HasNoChoice, IsCandidate, IsChosen, IsForNone}
use Rattle.sys_model.specs.Fit.{IsFit}
use Rattle.sys_model.specs.Growing.{IsRoundOf}
use Rattle.sys_model.specs.Held.{held, IsFirstIn}
use Rattle.sys_model.specs.Rounds.{Adds, IsHelpless, IsOpen, IsRound}
use Rattle.sys_model.proofs.Gathering.{gathered_all}
use Rattle.sys_model.proofs.RoundLists as lists

-- ---- choices by tests that say the same

module _ (IsOn Other : LabelParts → TroveParts → Type 0) (to : (label : LabelParts) (t : TroveParts) → IsOn label t → Other label t) (back : (label : LabelParts) (t : TroveParts) → Other label t → IsOn label t)
    (labels : List LabelParts) (troves : List TroveParts) where
  none_also : (label : LabelParts) → IsForNone (IsOn label) troves → IsForNone (Other label) troves
  none_also label none t among is = none t among (back label t is)

  pub no_choice_also : HasNoChoice IsOn labels troves → HasNoChoice Other labels troves
  no_choice_also none = All-weaker (λ (label : LabelParts). IsForNone (IsOn label) troves) (λ (label : LabelParts). IsForNone (Other label) troves) none_also labels none

  pub chosen_also : (t : TroveParts) → IsChosen IsOn labels troves t → IsChosen Other labels troves t
  chosen_also t is = record {
    number = is.number;
    label = is.label;
    there = is.there;
    last = record {
      place = is.last.place;
      there = is.last.there;
      is = to is.label t is.last.is;
      none_later = λ later u less at one. is.last.none_later later u less at (back is.label u one);
    };
    none_before = All-weaker (λ (label : LabelParts). IsForNone (IsOn label) troves) (λ (label : LabelParts). IsForNone (Other label) troves) none_also (take is.number labels) is.none_before;
  }

-- ---- the round

module _ (troves installed : List TroveParts) (roots : List TroveId) (round : Round) (is : IsRoundOf troves installed roots round) where
  reached : ArePlacesReached troves roots round.places
  reached = gathered_all troves roots round.places is.distinct is.gathered

  abbrev found : List TroveParts
  found = lists.found troves installed roots round.places round.fresh round.replaced.items round.kept reached is.by_name is.replaced is.erased

  abbrev list : List TroveParts
  list = lists.list troves installed roots round.places round.fresh round.replaced.items round.kept reached is.by_name is.replaced is.erased

  abbrev standing : List ℕ → Option TroveParts
  standing = held troves round.fresh round.kept

  whole : IsRound troves installed roots found list
  whole = lists.is_round troves installed roots round.places round.fresh round.replaced.items round.kept reached is.by_name is.replaced is.erased

  first : (unmet : Unmet) → IsFirstIn standing unmet → IsFirstUnmet list unmet.trove.now unmet.require.now
  first unmet one =
      first_listed list (lists.list_rises troves installed roots round.places round.fresh round.replaced.items round.kept reached is.by_name is.replaced is.erased) standing
      (lists.list_by troves installed roots round.places round.fresh round.replaced.items round.kept reached is.by_name is.replaced is.erased)
      (lists.named_standing troves installed roots round.places round.fresh round.replaced.items round.kept reached is.by_name is.replaced is.erased) one.name one.before unmet.trove.now
      unmet.require.now one.first

  open_of : (unmet : Unmet) → IsFirstIn standing unmet → IsOpen troves installed roots found unmet.trove.now unmet.require.now
  open_of unmet one = record { list = list; round = whole; unmet = first unmet one }

  to_candidate : (system : Parts) (require : Dependency) (label : LabelParts) (t : TroveParts) → IsFit system round.fresh require label t → IsCandidate system found require label t
  to_candidate system require label t fit = record {
    on = fit.on;
    fits = fit.fits;
    fresh = λ u among named.
        lists.is_nameless troves installed roots round.places round.fresh round.replaced.items round.kept reached is.by_name is.replaced is.erased t.id.name fit.is_new u among named;
    provides = fit.provides;
  }

  to_fit : (system : Parts) (require : Dependency) (label : LabelParts) (t : TroveParts) → IsCandidate system found require label t → IsFit system round.fresh require label t
  to_fit system require label t one = record {
    on = one.on;
    fits = one.fits;
    is_new = lists.is_absent troves installed roots round.places round.fresh round.replaced.items round.kept reached is.by_name is.replaced is.erased t.id.name one.fresh;
    provides = one.provides;
  }

  pub adds_of : (config : Config) (unmet : Unmet) (t : TroveParts) → IsFirstIn standing unmet → IsChosen (IsFit config.flavor round.fresh unmet.require.now) config.labels troves t
      → Adds troves installed config roots t
  adds_of config unmet t one chosen = record {
    found = found;
    trove = unmet.trove.now;
    require = unmet.require.now;
    open_ = open_of unmet one;
    chosen = chosen_also (IsFit config.flavor round.fresh unmet.require.now) (IsCandidate config.flavor found unmet.require.now) (to_candidate config.flavor unmet.require.now) (to_fit config.flavor unmet.require.now)
        config.labels troves t chosen;
  }

  pub helpless_of : (config : Config) (unmet : Unmet) (refused : Refusal) → IsFirstIn standing unmet → HasNoChoice (IsFit config.flavor round.fresh unmet.require.now) config.labels troves
      → refused ≡ refusal.Unmet unmet.trove.now.id.name (dep_text unmet.require.now) → IsHelpless troves installed config roots refused
  helpless_of config unmet refused one none refusal_is = record {
    found = found;
    trove = unmet.trove.now;
    require = unmet.require.now;
    open_ = open_of unmet one;
    none = no_choice_also (IsFit config.flavor round.fresh unmet.require.now) (IsCandidate config.flavor found unmet.require.now) (to_candidate config.flavor unmet.require.now) (to_fit config.flavor unmet.require.now)
        config.labels troves none;
    refusal_is = refusal_is;
  }

  -- where all are closed by their names, the list is
  pub closed_round : IsClosedBy standing → (found' : List TroveParts) × (list' : List TroveParts) × IsRound troves installed roots found' list' × IsClosed list'
  closed_round closed = (
    found,
    list,
    whole,
    closed_listed list (lists.list_rises troves installed roots round.places round.fresh round.replaced.items round.kept reached is.by_name is.replaced is.erased) standing
        (lists.list_by troves installed roots round.places round.fresh round.replaced.items round.kept reached is.by_name is.replaced is.erased) closed,
  )
