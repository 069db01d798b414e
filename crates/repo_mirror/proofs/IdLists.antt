-- Ids that stand one behind the other.
use Rattle.std.proofs.Common.{◌≡◌, ℕ, ◌-◌, ◌<◌, ◌≤◌, List, [], ◌∷◌, ◌++◌, length, drop, All, refl, sym, ap, ◌∙◌, subst, arith, append_assoc, append-nil, length-append, length-drop}
use Rattle.std.specs.Int.{w16, to_be_bytes}
use Rattle.std.proofs.lemmas.Grind.{flat_map-append}
use Rattle.change_set.specs.cny-base.StrField.{str}
use Rattle.change_set.specs.trove-parts.Order.{flavor_of, version_of}
use Rattle.change_set.specs.trove-parts.declared.id.TroveId.{TroveId}
use Rattle.change_set.specs.trove-parts.Id.{id_bytes, IsIdAt, IsTroveId}
use Rattle.change_set.specs.trove-parts.Refs.{AreRefs}
use Rattle.change_set.proofs.cny-base.Lists.{all_at}
use Rattle.repo_mirror.specs.Requests.{ids_bytes}

-- the ids that go on behind these
pub record GoesOn (bytes : List ℕ) (ids : List TroveId) (at : ℕ) (all : List TroveId) : Type 0 where
  pub rest : List TroveId
  pub is : all ≡ ids ++ rest
  pub spelled : drop at bytes ≡ ids_bytes rest

-- these ids were read up to `at`, and no others stand there
pub record AreReadTo (bytes : List ℕ) (ids : List TroveId) (at : ℕ) : Type 0 where
  pub within : at ≤ length bytes
  pub spelled : bytes ≡ ids_bytes ids ++ drop at bytes
  pub only : (all : List TroveId) → AreRefs all → bytes ≡ ids_bytes all → GoesOn bytes ids at all

at_end : (bytes : List ℕ) (at : ℕ) → length bytes ≤ at → drop at bytes ≡ []
at_end bytes at past = empty (drop at bytes) (omega (arith, length-drop at bytes))
  where
    empty : (l : List ℕ) → length l ≡ 0 → l ≡ []
    empty [] h = refl
    empty (x ∷ l) h = absurd (omega (arith, h))

pub begun : (bytes : List ℕ) (ids : List TroveId) → ids ≡ [] → AreReadTo bytes ids 0
begun bytes ids none = record {
  within = omega arith;
  spelled = sym (ap (λ (l : List TroveId). ids_bytes l ++ bytes) none);
  only = λ all valid is. record { rest = all; is = sym (ap (λ (l : List TroveId). l ++ all) none); spelled = is };
}

id_long : (id : TroveId) (rest : List ℕ) → length rest < length (id_bytes id ++ rest)
id_long id rest = omega (arith, length-append (id_bytes id) rest, some id)
  where
    some : (id : TroveId) → 0 < length (id_bytes id)
    some id =
        omega (arith, length-append (str id.name) (str (version_of id) ++ str (flavor_of id)), length-append (to_be_bytes w16 (length id.name)) id.name)

-- an id is no shorter than a byte
pub goes_on : (bytes : List ℕ) (at to : ℕ) (id : TroveId) → IsIdAt bytes at id to → at ≤ length bytes → length bytes - to < length bytes - at
goes_on bytes at to id is within =
    let here = ap length is.spelled in
    let long = id_long id (drop to bytes) in
    let front = length-drop at bytes in
    let back = length-drop to bytes in
    omega (arith, here, long, front, back)

pub one_more : (bytes : List ℕ) (ids : List TroveId) (at to : ℕ) (id : TroveId) (new : List TroveId) → AreReadTo bytes ids at → IsIdAt bytes at id to → at < length bytes
    → ((other : TroveId) (rest : List ℕ) → IsTroveId other → drop at bytes ≡ id_bytes other ++ rest → (id ≡ other) × (drop to bytes ≡ rest)) → new ≡ ids ++ id ∷ [] → AreReadTo bytes new to
one_more bytes ids at to id new so_far is some only new_is = record {
  within = is.within;
  spelled =
      so_far.spelled ∙ ap (λ (l : List ℕ). ids_bytes ids ++ l) is.spelled ∙ sym (append_assoc (ids_bytes ids) (id_bytes id) (drop to bytes))
      ∙ ap (λ (l : List ℕ). (ids_bytes ids ++ l) ++ drop to bytes) (sym (append-nil (id_bytes id)))
      ∙ ap (λ (l : List ℕ). l ++ drop to bytes) (sym (flat_map-append id_bytes ids (id ∷ [])) ∙ ap ids_bytes (sym new_is));
  only = λ all valid spelled. next all valid (so_far.only all valid spelled);
}
  where
    next : (all : List TroveId) → AreRefs all → GoesOn bytes ids at all → GoesOn bytes new to all
    next all valid on = by on.rest on.is on.spelled
      where
        by : (rest : List TroveId) → all ≡ ids ++ rest → drop at bytes ≡ ids_bytes rest → GoesOn bytes new to all
        by [] is_all spelled = absurd (omega (arith, ap length spelled, length-drop at bytes))
        by (other ∷ rest) is_all spelled =
            let other_is : IsTroveId other = all_at IsTroveId ids other rest (subst (λ (l : List TroveId). All IsTroveId l) is_all valid.valid) in
            let same = only other (ids_bytes rest) other_is spelled in
            record {
              rest = rest;
              is = is_all ∙ ap (λ (i : TroveId). ids ++ i ∷ rest) (sym same.0) ∙ sym (append_assoc ids (id ∷ []) rest) ∙ ap (λ (l : List TroveId). l ++ rest) (sym new_is);
              spelled = same.1;
            }

nothing : (rest : List TroveId) → ids_bytes rest ≡ [] → rest ≡ []
nothing [] is = refl
nothing (id ∷ rest) is = absurd (omega (arith, ap length is, id_long id (ids_bytes rest)))

-- all of them were read
pub all_read : (bytes : List ℕ) (ids : List TroveId) (at : ℕ) → AreReadTo bytes ids at → length bytes ≤ at → bytes ≡ ids_bytes ids
all_read bytes ids at so_far past =
    so_far.spelled ∙ ap (λ (l : List ℕ). ids_bytes ids ++ l) (at_end bytes at past) ∙ append-nil (ids_bytes ids)

-- and no others
pub no_others : (bytes : List ℕ) (ids : List TroveId) (at : ℕ) → AreReadTo bytes ids at → length bytes ≤ at → (AreRefs ids → ⊥) → (all : List TroveId) → AreRefs all → bytes ≡ ids_bytes all → ⊥
no_others bytes ids at so_far past bad all valid spelled =
    let on = so_far.only all valid spelled in
    let none = nothing on.rest (sym on.spelled ∙ at_end bytes at past) in
    bad (subst AreRefs (on.is ∙ ap (λ (l : List TroveId). ids ++ l) none ∙ append-nil ids) valid)

-- no id begins where others are read
pub no_next : (bytes : List ℕ) (ids : List TroveId) (at : ℕ) → AreReadTo bytes ids at → at < length bytes
    → ((id : TroveId) (rest : List ℕ) → IsTroveId id → drop at bytes ≡ id_bytes id ++ rest → ⊥) → (all : List TroveId) → AreRefs all → bytes ≡ ids_bytes all → ⊥
no_next bytes ids at so_far some none all valid spelled = by on.rest on.is on.spelled
  where
    on : GoesOn bytes ids at all
    on = so_far.only all valid spelled

    by : (rest : List TroveId) → all ≡ ids ++ rest → drop at bytes ≡ ids_bytes rest → ⊥
    by [] is rest_is = omega (arith, ap length rest_is, length-drop at bytes)
    by (id ∷ rest) is rest_is = none id (ids_bytes rest) (all_at IsTroveId ids id rest (subst (λ (l : List TroveId). All IsTroveId l) is valid.valid)) rest_is
