-- What parts make, one after another: one row of troves, or none.
use Rattle.std.proofs.Common.{◌≡◌, List, [], ◌∷◌, ◌++◌, Option, refl, sym, ◌∙◌, ap, subst}
use Rattle.trove_stream.specs.cny-base.declared.refusal.Refusal.{Refusal}
use Rattle.trove_stream.specs.Leads.{Leads}
use Rattle.trove_stream.specs.declared.rel.RelParts.{RelParts}
use Rattle.trove_stream.specs.declared.parts.TroveParts.{TroveParts}
use Rattle.trove_stream.proofs.cny-base.OptionValues.{same_some}
use Rattle.change_set.specs.declared.change.Part.{Part}
use Rattle.change_set.specs.declared.change.Part.TheVariants.{Whole, Relative}
use Rattle.change_set.specs.Makes.{IsLedTo, LacksTrove, MakesTrove, MakeTroves}

module _ (base_of : RelParts → Option TroveParts) where
  pub make_push : (parts : List Part) (troves : List TroveParts) (part : Part) (trove : TroveParts) → MakeTroves base_of parts troves → MakesTrove base_of part trove
      → MakeTroves base_of (parts ++ part ∷ []) (troves ++ trove ∷ [])
  make_push [] [] part trove make one = (one, tt)
  make_push [] (t ∷ troves) part trove make one = absurd make
  make_push (p ∷ parts) [] part trove make one = absurd make
  make_push (p ∷ parts) (t ∷ troves) part trove make one = (make.0, make_push parts troves part trove make.1 one)

  pub lacks_none : (part : Part) (t : TroveParts) (refusal : Refusal) → MakesTrove base_of part t → LacksTrove base_of part refusal → ⊥
  lacks_none (Whole trove) t refusal makes lacks = absurd lacks
  lacks_none (Relative rel) t refusal makes lacks = lacks.none t makes

  pub lacks_once : (part : Part) (a b : Refusal) → LacksTrove base_of part a → LacksTrove base_of part b → a ≡ b
  lacks_once (Whole trove) a b x y = absurd x
  lacks_once (Relative rel) a b x y = x.refused ∙ sym y.refused

-- where a relative trove leads to one trove at most
module _ (one : (rel : RelParts) (old a b : TroveParts) → Leads rel old a → Leads rel old b → a ≡ b) (base_of : RelParts → Option TroveParts) where
  led_once : (rel : RelParts) (a b : TroveParts) → IsLedTo base_of rel a → IsLedTo base_of rel b → a ≡ b
  led_once rel a b x y =
      let base : x.base ≡ y.base = same_some x.base y.base (sym x.stands ∙ y.stands) in
      one rel y.base a b (subst (λ (t : TroveParts). Leads rel t a) base x.leads) y.leads

  pub makes_once : (part : Part) (a b : TroveParts) → MakesTrove base_of part a → MakesTrove base_of part b → a ≡ b
  makes_once (Whole trove) a b x y = x ∙ sym y
  makes_once (Relative rel) a b x y = led_once rel a b x y

  pub make_once : (parts : List Part) (a b : List TroveParts) → MakeTroves base_of parts a → MakeTroves base_of parts b → a ≡ b
  make_once [] [] [] x y = refl
  make_once [] [] (u ∷ b) x y = absurd y
  make_once [] (t ∷ a) b x y = absurd x
  make_once (p ∷ parts) [] b x y = absurd x
  make_once (p ∷ parts) (t ∷ a) [] x y = absurd y
  make_once (p ∷ parts) (t ∷ a) (u ∷ b) x y =
      let first = makes_once p t u x.0 y.0 in
      let rest = make_once parts a b x.1 y.1 in
      ap (λ (v : TroveParts). v ∷ a) first ∙ ap (λ (l : List TroveParts). u ∷ l) rest
