-- Parts make one row of troves, or are refused for one reason.
use Rattle.std.proofs.Common.{◌≡◌, inl, inr, List, [], ◌∷◌, sym, ◌∙◌, subst}
use Rattle.std.specs.List.{AllByRecursion}
use Rattle.std.proofs.lemmas.List.Elements.{All-head, All-tail}
use Rattle.change_set.specs.cny-base.declared.refusal.Refusal.{Refusal}
use Rattle.change_set.specs.trove-stream.declared.parts.TroveParts.{TroveParts}
use Rattle.change_set.specs.declared.change.Part.{Part}
use Rattle.update_job.specs.Allowed.{AreAllowed, IsReserved}
use Rattle.update_job.specs.Made.{AreMade, base_in, IsFirstRefused, IsMade, IsPartRefused}
use Rattle.change_set.specs.Makes.{MakeTroves}
use Rattle.change_set.proofs.Making.{lacks_none, lacks_once, make_once, makes_once}
use Rattle.update_job.proofs.Firsts.{none_fails, one_first}
use Rattle.update_job.proofs.Reserved.{allowed_apart, reserved_once}
use Rattle.change_rel.proofs.Unique.{LeadsToOne}
use Rattle.change_rel.specs.trove-stream.Forbidden.{IsAllowed}

module _ (one : LeadsToOne) (installed : List TroveParts) where
  pub made_once : (parts : List Part) (a b : List TroveParts) → AreMade installed parts a → AreMade installed parts b → a ≡ b
  made_once parts a b x y = make_once one (base_in installed) parts a b x.make y.make

  -- ---- one part

  -- the part makes a trove that is allowed
  abbrev Passes : Part → Type 0
  Passes part = (t : TroveParts) × IsMade installed part t

  -- the part is refused
  abbrev Fails : Part → Type 0
  Fails part = (refusal : Refusal) × IsPartRefused installed part refusal

  part_apart : (part : Part) → Passes part → Fails part → ⊥
  part_apart part (t, made) (refusal, inl lacks) = lacks_none (base_in installed) part t refusal made.0 lacks
  part_apart part (t, made) (refusal, inr r) =
      allowed_apart t refusal made.1 (subst (λ (u : TroveParts). IsReserved u refusal) (makes_once one (base_in installed) part r.trove t r.makes made.0) r.reserved)

  part_once : (part : Part) (a b : Refusal) → IsPartRefused installed part a → IsPartRefused installed part b → a ≡ b
  part_once part a b (inl x) (inl y) = lacks_once (base_in installed) part a b x y
  part_once part a b (inl x) (inr y) = absurd (lacks_none (base_in installed) part y.trove a y.makes x)
  part_once part a b (inr x) (inl y) = absurd (lacks_none (base_in installed) part x.trove b x.makes y)
  part_once part a b (inr x) (inr y) =
      reserved_once y.trove a b (subst (λ (t : TroveParts). IsReserved t a) (makes_once one (base_in installed) part x.trove y.trove x.makes y.makes) x.reserved) y.reserved

  -- ---- the first of several

  each_passes : (parts : List Part) (troves : List TroveParts) → MakeTroves (base_in installed) parts troves → AreAllowed troves → AllByRecursion Passes parts
  each_passes [] [] make allowed = tt
  each_passes [] (t ∷ troves) make allowed = absurd make
  each_passes (p ∷ parts) [] make allowed = absurd make
  each_passes (p ∷ parts) (t ∷ troves) make allowed = ((t, (make.0, All-head IsAllowed t troves allowed)), each_passes parts troves make.1 (All-tail IsAllowed t troves allowed))

  pub made_apart : (parts : List Part) (troves : List TroveParts) (refusal : Refusal) → AreMade installed parts troves → IsFirstRefused installed parts refusal → ⊥
  made_apart parts troves refusal made x =
      none_fails Passes Fails part_apart x.front x.part x.behind (subst (AllByRecursion Passes) x.is (each_passes parts troves made.make made.allowed)) (refusal, x.refused)

  pub first_once : (parts : List Part) (a b : Refusal) → IsFirstRefused installed parts a → IsFirstRefused installed parts b → a ≡ b
  first_once parts a b x y =
      let same : x.part ≡ y.part =
      one_first Passes Fails part_apart x.front y.front x.part y.part x.behind y.behind (sym x.is ∙ y.is)
      (each_passes x.front x.troves x.made.make x.made.allowed) (each_passes y.front y.troves y.made.make y.made.allowed) (a, x.refused) (b, y.refused) in
      part_once y.part a b (subst (λ (p : Part). IsPartRefused installed p a) same x.refused) y.refused
