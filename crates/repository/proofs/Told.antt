-- What is told of new troves, one after another.
use Rattle.std.proofs.Common.{◌≡◌, ℕ, ◌+◌, ◌<◌, List, [], ◌∷◌, ◌++◌, length, get_or, take, All, Option, Some, None, refl, sym, ap, ◌∙◌, subst}
use Rattle.std.specs.List.{cons_option}
use Rattle.std.proofs.lemmas.List.{take_more}
use Rattle.std.proofs.lemmas.List.Elements.{All-push}
use Rattle.repo_load.specs.trove-stream.declared.parts.TroveParts.{TroveParts}
use Rattle.repo_load.specs.trove-stream.Trove.{IsTrove}
use Rattle.change_set.specs.declared.change.Part.{Part}
use Rattle.change_set.specs.declared.change.Part.TheVariants.{Whole, Relative}
use Rattle.change_set.specs.ChangeSet.{IsPart}
use Rattle.repository.specs.Between.{old_trove_of, ArePartsBetween, IsPartOf}

-- one trove more
pub parts_push : (old xs : List TroveParts) (t : TroveParts) (parts : List Part) (part : Option Part) → ArePartsBetween old xs parts → IsPartOf (old_trove_of old t) t part → ArePartsBetween old (xs ++ t ∷ []) (parts ++ cons_option part [])
parts_push old [] t parts part so_far is = (part, [], is, refl, ap (λ (l : List Part). l ++ cons_option part []) so_far)
parts_push old (x ∷ xs) t parts part so_far is = (
  so_far.0,
  so_far.1 ++ cons_option part [],
  so_far.2,
  parts_push old xs t so_far.1 part so_far.3 is,
  ap (λ (l : List Part). l ++ cons_option part []) so_far.4 ∙ joined so_far.0 so_far.1 (cons_option part []),
)
  where
    joined : (p : Option Part) (rest more : List Part) → cons_option p rest ++ more ≡ cons_option p (rest ++ more)
    joined None rest more = refl
    joined (Some q) rest more = refl

pub parts_more : (old fresh : List TroveParts) (i : ℕ) (t : TroveParts) (parts new : List Part) → i < length fresh → t ≡ get_or fresh i t → ArePartsBetween old (take i fresh) parts
    → ((part : Option Part) × IsPartOf (old_trove_of old t) t part × (new ≡ parts ++ cons_option part [])) → ArePartsBetween old (take (i + 1) fresh) new
parts_more old fresh i t parts new within is so_far pushed =
    let front : take (i + 1) fresh ≡ take i fresh ++ t ∷ [] = take_more fresh i t within ∙ ap (λ (u : TroveParts). take i fresh ++ u ∷ []) (sym is) in
    subst (λ (l : List TroveParts). ArePartsBetween old l new) (sym front)
    (subst (ArePartsBetween old (take i fresh ++ t ∷ [])) (sym pushed.2) (parts_push old (take i fresh) t parts pushed.0 so_far pushed.1))

-- a part of a trove is a part
pub part_valid : (o : Option TroveParts) (fresh : TroveParts) (part : Part) → IsTrove fresh → IsPartOf o fresh (Some part) → IsPart part
part_valid (Some old) fresh (Relative rel) trove is = is.rel_is
part_valid (Some old) fresh (Whole t) trove is = absurd is
part_valid None fresh (Relative rel) trove is = absurd is
part_valid None fresh (Whole t) trove is = subst IsTrove (sym is) trove

pub valid_push : (parts new : List Part) (part : Part) → new ≡ parts ++ part ∷ [] → IsPart part → All IsPart parts → All IsPart new
valid_push parts new part is valid all = subst (λ (l : List Part). All IsPart l) (sym is) (All-push IsPart parts part all valid)
