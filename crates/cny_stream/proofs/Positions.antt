-- What a push gives, by the position at which it was made.
use Rattle.std.proofs.Common.{◌≡◌, ℕ, ◌<◌, List, [], ◌∷◌, ◌++◌, length, take, get_or, refl, sym, subst, arith}
use Rattle.cny_stream.specs.declared.cutter.Cutter.{Cutter}
use Rattle.cny_stream.specs.declared.cutter.Event.{Event}
use Rattle.cny_stream.specs.declared.cutter.Place.TheVariants as place
use Rattle.cny_stream.specs.Cut.{Position, InMagic, InHead, InValue, Stands, Pushed, PushedMagic, PushedHead, PushedValue}

take_one : (bytes : List ℕ) → 0 < length bytes → take 1 bytes ≡ get_or bytes 0 0 ∷ []
take_one [] some = absurd (omega arith)
take_one (b ∷ bytes) some = refl

module _ (magic tags : List ℕ) (old new : Cutter) (whole piece : List ℕ) (event : Event) where
  pub in_magic : (position : Position) → old.place ≡ place.Magic → 0 < length piece
      → ((front : List ℕ) → Stands magic old whole (InMagic front) → PushedMagic magic new whole front (get_or piece 0 0 ∷ []) event)
      → Stands magic old whole position → Pushed magic tags new whole position (take 1 piece) event
  in_magic (InMagic front) is some pushed at = subst (λ (taken : List ℕ). PushedMagic magic new whole front taken event) (sym (take_one piece some)) (pushed front at)
  in_magic (InHead front) is some pushed at = let other = at.is_at.place in absurd (cc)
  in_magic (InValue tag len value) is some pushed at = let other = at.is_at.place in absurd (cc)

  pub in_head : (position : Position) → old.place ≡ place.Head → 0 < length piece
      → ((front : List ℕ) → Stands magic old whole (InHead front) → PushedHead magic tags new whole front (get_or piece 0 0 ∷ []) event)
      → Stands magic old whole position → Pushed magic tags new whole position (take 1 piece) event
  in_head (InMagic front) is some pushed at = let other = at.is_at.place in absurd (cc)
  in_head (InHead front) is some pushed at = subst (λ (taken : List ℕ). PushedHead magic tags new whole front taken event) (sym (take_one piece some)) (pushed front at)
  in_head (InValue tag len value) is some pushed at = let other = at.is_at.place in absurd (cc)

  pub in_value : (position : Position) (taken : List ℕ) → old.place ≡ place.Value
      → ((value : List ℕ) (tag len : ℕ) → Stands magic old whole (InValue tag len value) → PushedValue magic new whole tag len (value ++ taken) event)
      → Stands magic old whole position → Pushed magic tags new whole position taken event
  in_value (InMagic front) taken is pushed at = let other = at.is_at.place in absurd (cc)
  in_value (InHead front) taken is pushed at = let other = at.is_at.place in absurd (cc)
  in_value (InValue tag len value) taken is pushed at = pushed value tag len at
