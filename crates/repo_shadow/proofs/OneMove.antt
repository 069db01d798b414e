-- What a root reaches is moved in one way, or refused for one reason.
use Rattle.std.proofs.Common.{◌≡◌, List, [], ◌∷◌, inl, inr, sym, ap, ◌∙◌}
use Rattle.std.proofs.lemmas.Option.{none-some, same_Some}
use Rattle.repo_index.specs.cny-base.declared.refusal.Refusal.{Refusal}
use Rattle.repo_index.specs.cny-base.declared.refusal.Refusal.TheVariants as refusal
use Rattle.cny_version.specs.Label.{LabelParts}
use Rattle.repo_index.specs.trove-parts.declared.id.TroveId.{TroveId}
use Rattle.repo_index.specs.trove-parts.Id.{id_text_of}
use Rattle.repo_index.specs.trove-stream.declared.parts.TroveParts.{TroveParts}
use Rattle.trove_spec.specs.Expansion.{IsExpansion, first_of_same_name}
use Rattle.repo_shadow.specs.declared.way.Way.{Way}
use Rattle.repo_shadow.specs.Moved.{moved_troves, first_refusal, IsMovedExpansion, IsMoveRefusal}

-- some roots have at most one expansion
abbrev pub OneExpansion : Type 0
OneExpansion = (troves : List TroveParts) (roots : List TroveId) (found other : List TroveParts) → IsExpansion troves roots found → IsExpansion troves roots other → found ≡ other

module _ (one_expansion : OneExpansion) (way : Way) (label : LabelParts) (troves : List TroveParts) (root : TroveId) where
  pub one_made : (a b : List TroveParts) → IsMovedExpansion way label troves root a → IsMovedExpansion way label troves root b → a ≡ b
  one_made a b first second =
      first.made_is ∙ ap (moved_troves way label) (one_expansion troves (root ∷ []) first.moving second.moving first.expansion second.expansion) ∙ sym second.made_is

  pub made_unrefused : (made : List TroveParts) (refused : Refusal) → IsMovedExpansion way label troves root made → IsMoveRefusal way label troves root refused → ⊥
  made_unrefused made refused is (inl named) =
      none-some named.id (sym is.once ∙ ap first_of_same_name (one_expansion troves (root ∷ []) is.moving named.found is.expansion named.expansion) ∙ named.first)
  made_unrefused made refused is (inr tested) =
      none-some refused (sym is.unrefused ∙ ap (first_refusal way label troves) (one_expansion troves (root ∷ []) is.moving tested.moving is.expansion tested.expansion) ∙ tested.refusal_is)

  pub one_refusal : (a b : Refusal) → IsMoveRefusal way label troves root a → IsMoveRefusal way label troves root b → a ≡ b
  one_refusal a b (inl first) (inl second) =
      let same : first_of_same_name first.found ≡ first_of_same_name second.found = ap first_of_same_name (one_expansion troves (root ∷ []) first.found second.found first.expansion second.expansion) in
      let ids : first.id ≡ second.id = same_Some first.id second.id (sym first.first ∙ same ∙ second.first) in
      first.refusal_is ∙ ap (λ (id : TroveId). refusal.Exists (id_text_of id)) ids ∙ sym second.refusal_is
  one_refusal a b (inl first) (inr second) =
      absurd (none-some first.id (sym second.once ∙ ap first_of_same_name (one_expansion troves (root ∷ []) second.moving first.found second.expansion first.expansion) ∙ first.first))
  one_refusal a b (inr first) (inl second) =
      absurd (none-some second.id (sym first.once ∙ ap first_of_same_name (one_expansion troves (root ∷ []) first.moving second.found first.expansion second.expansion) ∙ second.first))
  one_refusal a b (inr first) (inr second) =
      same_Some a b
      (sym first.refusal_is ∙ ap (first_refusal way label troves) (one_expansion troves (root ∷ []) first.moving second.moving first.expansion second.expansion) ∙ second.refusal_is)
