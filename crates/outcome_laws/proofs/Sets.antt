-- One change set leads from some troves to others; `changeset` has one outcome.
use Rattle.std.proofs.Common.{◌≡◌, List, Option, Result, Ok, Err, sym, ap, ◌∙◌, subst}
use Rattle.conary_cli.specs.cli-call.cny-base.declared.refusal.Refusal.{Refusal}
use Rattle.conary_cli.specs.cli-call.trove-stream.declared.parts.TroveParts.{TroveParts}
use Rattle.conary_cli.specs.cli-call.change-set.declared.change.ChangeSet.{ChangeSet}
use Rattle.conary_cli.specs.cli-call.cny-laws.State.{Effect, State, tree_of}
use Rattle.repo_load.specs.State.{troves_of, RepositoryState}
use Rattle.repository.proofs.SetLaws.{OneRelative, one_contents, one_parts}
use Rattle.trove_spec.specs.declared.config.Config.{Config}
use Rattle.trove_spec.specs.RootConfig.{HasConfig}
use Rattle.trove_spec.proofs.OneConfig.{OneLabel}
use Rattle.trove_spec.specs.declared.given.GivenSpec.{GivenSpec}
use Rattle.trove_spec.specs.AndThen.{AndThen}
use Rattle.trove_spec.specs.Meant.{Expands, ExpandsFrom}
use Rattle.conary_cli.specs.repo-commands.Sending.{IsSetAnswered, IsSent, changeset}
use Rattle.outcome_laws.specs.OneOutcome.{AtMostOne, HasOneOutcome}
use Rattle.outcome_laws.proofs.Tests.{done, refused, with_shared, and_then_once}
use Rattle.outcome_laws.proofs.Configurations.{configured_once}
use Rattle.outcome_laws.proofs.Meanings.{expands_once, expands_from_once}
use Rattle.repo_shadow.proofs.OneMove.{OneExpansion}

-- ---- the set that is answered

pub effect_once : (x y : Effect) → x.change ≡ y.change → x.out ≡ y.out → x ≡ y
effect_once x y change out = λ i. record { change = change i; out = out i }

answer_once : (set : ChangeSet) → AtMostOne (IsSetAnswered set)
answer_once set (Ok x) (Ok y) h g = ap done (effect_once x y (h.0 ∙ sym g.0) (h.1.0.text ∙ sym g.1.0.text))
answer_once set (Ok x) (Err q) h g = absurd (cc (sym h.1.1 ∙ g))
answer_once set (Err p) (Ok y) h g = absurd (cc (sym g.1.1 ∙ h))
answer_once set (Err p) (Err q) h g = let same : p ≡ q = cc (sym h ∙ g) in ap refused same

sent_once : OneRelative → (r : RepositoryState) (old fresh : List TroveParts) → AtMostOne (IsSent r old fresh)
sent_once one r old fresh a b h g =
    let parts = one_parts one old fresh h.set.parts g.set.parts h.between.parts g.between.parts in
    let contents = one_contents r.contents old fresh h.set.contents g.set.contents h.between.contents g.between.contents h.held g.held in
    let same : h.set ≡ g.set = λ i. record { parts = parts i; contents = contents i } in
    answer_once g.set a b (subst (λ (set : ChangeSet). IsSetAnswered set a) same h.answered) g.answered

-- ---- `changeset`

module _ (one_label : OneLabel) (one_expansion : OneExpansion) (one_relative : OneRelative) (from : Option GivenSpec) (to : GivenSpec) where
  abbrev Behind : State → Config → Result Effect Refusal → Type 0
  Behind s config = AndThen (ExpandsFrom (troves_of s.repository.commits) config from) (λ (old : List TroveParts).
      AndThen (Expands (troves_of s.repository.commits) config to) (λ (fresh : List TroveParts). IsSent s.repository old fresh))

  behind_once : (s : State) (config : Config) → AtMostOne (Behind s config)
  behind_once s config = and_then_once (ExpandsFrom (troves_of s.repository.commits) config from)
      (λ (old : List TroveParts). AndThen (Expands (troves_of s.repository.commits) config to) (λ (fresh : List TroveParts). IsSent s.repository old fresh))
      (expands_from_once one_expansion (troves_of s.repository.commits) config from)
      (λ old. and_then_once (Expands (troves_of s.repository.commits) config to) (λ (fresh : List TroveParts). IsSent s.repository old fresh)
      (expands_once one_expansion (troves_of s.repository.commits) config to)
      (λ fresh. sent_once one_relative s.repository old fresh))

  pub sending_once : HasOneOutcome (changeset from to)
  sending_once = with_shared (changeset from to) (λ s input state. and_then_once (HasConfig (tree_of s.root)) (Behind s) (configured_once one_label (tree_of s.root)) (behind_once s))
