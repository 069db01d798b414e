use Rattle.std.proofs.Common.{◌≡◌, ℕ, ◌+◌, ◌<◌, true, false, List, ◌∷◌, length, drop, Some, sym, ap, ◌∙◌, arith}
use Rattle.std.proofs.lemmas.List.{at_drop_more}
use Rattle.repo_index.specs.cny-base.declared.refusal.Refusal.TheVariants as refusal
use Rattle.repo_index.specs.trove-parts.declared.id.TroveId.{TroveId}
use Rattle.repo_shadow.specs.Moved.{is_taken, taken}
use Rattle.repo_shadow.proofs.Refusals.{next_free, next_taken}
use Rattle.repo_shadow.proofs.refusing.refuse_taken.Goals as goal

pub loop-id-preserved : goal.loop-id-preserved
loop-id-preserved c =
    let troves = c.args.catalogue.now.troves in
    let ids = c.args.ids.now in
    let i = c.loop-id.id-index in
    let x = c.id-item.result in
    let rest = drop (i + 1) ids in
    let within : i < length ids = omega arith in
    let free : is_taken troves x ≡ false = sym c.is_taken.ensures ∙ c.if-is_taken.false in
    let here : taken troves (drop i ids) ≡ taken troves (x ∷ rest) = at_drop_more (taken troves) ids i x within ∙ ap (λ (id : TroveId). taken troves (id ∷ rest)) (sym c.id-item.is) in
    sym (next_free troves x rest free) ∙ sym here ∙ c.loop-id.invariant

pub returns-then-is_taken-clause-fault : goal.returns-then-is_taken-clause-fault
returns-then-is_taken-clause-fault c =
    let troves = c.args.catalogue.now.troves in
    let ids = c.args.ids.now in
    let i = c.loop-id.id-index in
    let x = c.id-item.result in
    let rest = drop (i + 1) ids in
    let within : i < length ids = omega arith in
    let passes : is_taken troves x ≡ true = sym c.is_taken.ensures ∙ c.if-is_taken.true in
    let here : taken troves (drop i ids) ≡ taken troves (x ∷ rest) = at_drop_more (taken troves) ids i x within ∙ ap (λ (id : TroveId). taken troves (id ∷ rest)) (sym c.id-item.is) in
    sym c.loop-id.invariant ∙ here ∙ next_taken troves x rest passes ∙ ap (λ (text : List ℕ). Some (refusal.Exists text)) (sym c.in_ok-id_text.ensures.value)
