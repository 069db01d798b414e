-- Changes in a map by the names of their troves, and the list of such a map.
use Rattle.std.proofs.Common.{◌≡◌, ℕ, zero, suc, ◌+◌, ◌<◌, ◌≤◌, ◌⊎◌, ⊎_elim, inl, inr, Bool, true, false, cond, List, [], ◌∷◌, length, get_or, take, slice_get, Contains, true≢false, Option, Some, None, refl, sym, ap, subst, ◌∙◌, arith}
use Rattle.std.specs.BTreeMap.{IsOrdered, values, is_at}
use Rattle.std.specs.Cmp.Lexicographic.{slice_cmp, nat_list_cmp_total, bytes_decides}
use Rattle.std.specs.Str.{bytes_eq}
use Rattle.std.specs.List.{AllByRecursion}
use Rattle.std.specs.List.Sorted.{IsStrictlySortedBy}
use Rattle.std.specs.Map.{lookup, keys_of, values_of}
use Rattle.std.specs.Ordering.{nat_cmp}
use Rattle.std.specs.declared.cmp.Ordering.TheVariants.{Less}
use Rattle.std.proofs.lemmas.List.{take_all}
use Rattle.std.proofs.lemmas.Map.Entries.{place_from_lookup, btree_map_get_place}
use Rattle.std.proofs.lemmas.Option.{slice_get-get_or, slice_get_within, same_Some, none-some}
use Rattle.change_set.specs.trove-stream.Installed.{IsRising, IsNameless, IsPlaceOf, trove_of}
use Rattle.change_set.specs.trove-stream.declared.parts.TroveParts.{TroveParts}
use Rattle.update_job.specs.declared.comparing.Change.{Change}
use Rattle.update_job.specs.ByName.{same}
use Rattle.update_job.specs.Changes.{name_of, by_change, IsLost, IsReplaced, IsFresh, AreChanges, Noted, noted, HasNoted, NotesOne, IsOf, NotesAll}
use Rattle.update_job.proofs.Elements.{in_more, more_in, next_in}
use Rattle.update_job.proofs.Mapped.{same_means, same_from, one_named}
use Rattle.change_rel.proofs.cny-base.Lists.{contains_at, nothing_in, place_in}
use Rattle.change_rel.proofs.trove-stream.Places.{first_or_later}

-- ---- items of the first part of a list

taken_first : {A : Type 0} (x v : A) (xs ys : List A) → (Contains xs v → Contains ys v) → Contains (x ∷ xs) v → Contains (x ∷ ys) v
taken_first {A} x v xs ys rest h = at h.0 h.1 h.2
  where
    at : (k : ℕ) → k < length (x ∷ xs) → get_or (x ∷ xs) k v ≡ v → Contains (x ∷ ys) v
    at zero within is = (0, omega arith, is)
    at (suc k) within is = let later = rest (k, omega (arith, within), is) in (suc later.0, omega (arith, later.1), later.2)

take_in : {A : Type 0} (n : ℕ) (xs : List A) (v : A) → Contains (take n xs) v → Contains xs v
take_in zero xs v h = absurd (nothing_in v h)
take_in (suc n) [] v h = absurd (nothing_in v h)
take_in (suc n) (x ∷ xs) v h = taken_first x v (take n xs) xs (λ later. take_in n xs v later) h

-- ---- one change more

put_same : (b : Bool) (c : Change) (before now : Option Change) → now ≡ cond b (Some c) before → b ≡ true → now ≡ Some c
put_same b c before now is equal = is ∙ ap (λ (x : Bool). cond x (Some c) before) equal

put_other : (b : Bool) (c : Change) (before now : Option Change) → now ≡ cond b (Some c) before → b ≡ false → now ≡ before
put_other b c before now is other = is ∙ ap (λ (x : Bool). cond x (Some c) before) other

pub notes_none : (Is : TroveParts → Change → Type 0) (old : Noted) → NotesAll Is [] old old
notes_none Is old = record {
  all = λ name c is. absurd (nothing_in is.trove is.among);
  from = λ name c is. inl is;
  kept = λ name c is none. is;
}

module _ (Is : TroveParts → Change → Type 0) (one : (t : TroveParts) (c d : Change) → Is t c → Is t d → c ≡ d) (list : List TroveParts) (rises : IsRising list) (i : ℕ) (t : TroveParts) (old before now : Noted)
    (within : i < length list) (is : t ≡ get_or list i t) (so_far : NotesAll Is (take i list) old before) where
  of_more : (name : List ℕ) (c : Change) → IsOf Is (take i list) name c → IsOf Is (take (i + 1) list) name c
  of_more name c of = record { trove = of.trove; among = more_in list i t t within is of.trove of.among; named = of.named; change_is = of.change_is }

  of_last : (name : List ℕ) (c : Change) → t.id.name ≡ name → Is t c → IsOf Is (take (i + 1) list) name c
  of_last name c named change = record { trove = t; among = next_in list i t t within is; named = named; change_is = change }

  in_list : (u : TroveParts) → Contains (take (i + 1) list) u → Contains list u
  in_list u among = take_in (i + 1) list u among

  same_trove : (u : TroveParts) → Contains list u → t.id.name ≡ u.id.name → t ≡ u
  same_trove u among names =
      let at = place_in list u among in
      one_named list rises i at.0 t u (slice_get-get_or list i t within ∙ ap (λ (v : TroveParts). Some v) (sym is)) at.2 names

  module _ (change : Change) (change_is : Is t change) (puts : HasNoted t.id.name change before now) where
    all_one : (name : List ℕ) (c : Change) → IsOf Is (take (i + 1) list) name c → (b : Bool) → same t.id.name name ≡ b → noted now name ≡ Some c
    all_one name c of true equal =
        let own : t ≡ of.trove = same_trove of.trove (in_list of.trove of.among) (same_means t.id.name name equal ∙ sym of.named) in
        let alike : change ≡ c = one t change c change_is (subst (λ (v : TroveParts). Is v c) (sym own) of.change_is) in
        put_same (same t.id.name name) change (noted before name) (noted now name) (puts name) equal ∙ ap (λ (x : Change). Some x) alike
    all_one name c of false other =
        put_other (same t.id.name name) change (noted before name) (noted now name) (puts name) other
        ∙ ⊎_elim
        (λ earlier. so_far.all name c (record { trove = of.trove; among = earlier; named = of.named; change_is = of.change_is }))
        (λ last. absurd (true≢false (sym (same_from t.id.name name (ap (λ (v : TroveParts). v.id.name) last ∙ of.named)) ∙ other)))
        (in_more list i t t within is of.trove of.among)

    from_one : (name : List ℕ) (c : Change) → noted now name ≡ Some c → (b : Bool) → same t.id.name name ≡ b → (noted old name ≡ Some c) ⊎ IsOf Is (take (i + 1) list) name c
    from_one name c some true equal =
        let alike : change ≡ c = same_Some change c (sym (put_same (same t.id.name name) change (noted before name) (noted now name) (puts name) equal) ∙ some) in
        inr (of_last name c (same_means t.id.name name equal) (subst (Is t) alike change_is))
    from_one name c some false other = ⊎_elim
        (λ there. inl there)
        (λ of. inr (of_more name c of))
        (so_far.from name c (sym (put_other (same t.id.name name) change (noted before name) (noted now name) (puts name) other) ∙ some))

    kept_one : (name : List ℕ) (c : Change) → noted old name ≡ Some c → ((d : Change) → IsOf Is (take (i + 1) list) name d → ⊥) → (b : Bool) → same t.id.name name ≡ b → noted now name ≡ Some c
    kept_one name c some none true equal = absurd (none change (of_last name change (same_means t.id.name name equal) change_is))
    kept_one name c some none false other =
        put_other (same t.id.name name) change (noted before name) (noted now name) (puts name) other ∙ so_far.kept name c some (λ d of. none d (of_more name d of))

    with_one : NotesAll Is (take (i + 1) list) old now
    with_one = record {
      all = λ name c of. all_one name c of (same t.id.name name) refl;
      from = λ name c some. from_one name c some (same t.id.name name) refl;
      kept = λ name c some none. kept_one name c some none (same t.id.name name) refl;
    }

  module _ (never : (c : Change) → Is t c → ⊥) (alike : (name : List ℕ) → noted now name ≡ noted before name) where
    with_none : NotesAll Is (take (i + 1) list) old now
    with_none = record {
      all = λ name c of.
          alike name
          ∙ ⊎_elim
          (λ earlier. so_far.all name c (record { trove = of.trove; among = earlier; named = of.named; change_is = of.change_is }))
          (λ last. absurd (never c (subst (λ (v : TroveParts). Is v c) (sym last) of.change_is)))
          (in_more list i t t within is of.trove of.among);
      from = λ name c some. ⊎_elim (λ there. inl there) (λ of. inr (of_more name c of)) (so_far.from name c (sym (alike name) ∙ some));
      kept = λ name c some none. alike name ∙ so_far.kept name c some (λ d of. none d (of_more name d of));
    }

  pub notes_more : NotesOne (Is t) t.id.name before now → NotesAll Is (take (i + 1) list) old now
  notes_more step = ⊎_elim (λ made. with_one made.0 made.1 made.2) (λ left. with_none left.0 left.1) step

-- what was noted so far
pub record NotedSoFar (Is : TroveParts → Change → Type 0) (list : List TroveParts) (old new : Noted) : Type 0 where
  pub ordered : IsOrdered (slice_cmp nat_cmp) new
  pub all : NotesAll Is list old new

pub note_next : (Is : TroveParts → Change → Type 0) → ((t : TroveParts) (c d : Change) → Is t c → Is t d → c ≡ d) → (list : List TroveParts) → IsRising list → (i : ℕ) (t : TroveParts) (old before now : Noted)
    → i < length list → t ≡ get_or list i t → NotedSoFar Is (take i list) old before → NotesOne (Is t) t.id.name before now → IsOrdered (slice_cmp nat_cmp) now → NotedSoFar Is (take (i + 1) list) old now
note_next Is one list rises i t old before now within is so_far step ordered = record { ordered = ordered; all = notes_more Is one list rises i t old before now within is so_far.all step }

-- ---- the trove of a name

pub nameless_from : (list : List TroveParts) (name : List ℕ) → trove_of name list ≡ None → IsNameless name list
nameless_from [] name none t h is = absurd (nothing_in t h)
nameless_from (x ∷ list) name none t h is = at (λ rest later. nameless_from list name rest t later is) (bytes_eq x.id.name name) refl
  where
    at : (trove_of name list ≡ None → Contains list t → ⊥) → (b : Bool) → bytes_eq x.id.name name ≡ b → ⊥
    at rest true equal = none-some x (sym none ∙ ap (λ (c : Bool). cond c (Some x) (trove_of name list)) equal)
    at rest false other = ⊎_elim
        (λ same_one. true≢false (sym ((bytes_decides x.id.name name).1 (ap (λ (v : TroveParts). v.id.name) same_one ∙ is)) ∙ other))
        (λ later. rest (sym (ap (λ (c : Bool). cond c (Some x) (trove_of name list)) other) ∙ none) later)
        (first_or_later x t list h)

pub found_in : (list : List TroveParts) (name : List ℕ) (t : TroveParts) → trove_of name list ≡ Some t → Contains list t × (t.id.name ≡ name)
found_in [] name t some = absurd (none-some t some)
found_in (x ∷ list) name t some = at (λ later. found_in list name t later) (bytes_eq x.id.name name) refl
  where
    at : (trove_of name list ≡ Some t → Contains list t × (t.id.name ≡ name)) → (b : Bool) → bytes_eq x.id.name name ≡ b → Contains (x ∷ list) t × (t.id.name ≡ name)
    at rest true equal =
        let one : x ≡ t = same_Some x t (sym (ap (λ (c : Bool). cond c (Some x) (trove_of name list)) equal) ∙ some) in
        ((0, omega arith, one), sym (ap (λ (v : TroveParts). v.id.name) one) ∙ (bytes_decides x.id.name name).0 equal)
    at rest false other =
        let later = rest (sym (ap (λ (c : Bool). cond c (Some x) (trove_of name list)) other) ∙ some) in
        ((suc later.0.0, omega (arith, later.0.1), later.0.2), later.1)

pub never_lost : (after : List TroveParts) (t : TroveParts) (place : ℕ) → IsPlaceOf t.id.name after place → (c : Change) → IsLost after t c → ⊥
never_lost after t place at c lost = lost.none at.trove (contains_at after place at.trove at.there) at.named

-- the same trove stood there before
pub never_fresh : (before : List TroveParts) → IsRising before → (t : TroveParts) → trove_of t.id.name before ≡ Some t → (c : Change) → IsFresh before t c → ⊥
never_fresh before rises t some c is =
    let here = found_in before t.id.name t some in ⊎_elim
    (λ new. new.0 t here.0 refl)
    (λ replaced. (
    let other = replaced.0 in
    let i = place_in before other.was other.there in
    let j = place_in before t here.0 in
    other.differs (one_named before rises i.0 j.0 other.was t i.2 j.2 other.same_name)))
    is

-- ---- a trove has one change

pub one_lost : (after : List TroveParts) (t : TroveParts) (c d : Change) → IsLost after t c → IsLost after t d → c ≡ d
one_lost after t c d first second = first.change_is ∙ sym second.change_is

replaced_named : (before : List TroveParts) (t : TroveParts) → IsNameless t.id.name before → IsReplaced before t → ⊥
replaced_named before t none other = none other.was other.there other.same_name

pub one_fresh : (before : List TroveParts) (t : TroveParts) (c d : Change) → IsFresh before t c → IsFresh before t d → c ≡ d
one_fresh before t c d first second = ⊎_elim
    (λ new. ⊎_elim (λ also. new.1 ∙ sym also.1) (λ other. absurd (replaced_named before t new.0 other.0)) second)
    (λ replaced. ⊎_elim (λ new. absurd (replaced_named before t new.0 replaced.0)) (λ also. replaced.1 ∙ sym also.1) second)
    first

-- ---- the list of a map

-- an entry has the name of its change as its key
abbrev pub HasNames : List (List ℕ × Change) → Type 0
HasNames es = (i : ℕ) (k : List ℕ) (c : Change) → slice_get es i ≡ Some (k, c) → name_of c ≡ k

pub above : (name : List ℕ) (es : List (List ℕ × Change)) → AllByRecursion (λ (k : List ℕ). slice_cmp nat_cmp name k ≡ Less) (keys_of es) → HasNames es
    → AllByRecursion (λ (c : Change). slice_cmp nat_cmp name (name_of c) ≡ Less) (values_of es)
above name [] all named = tt
above name (e ∷ es) all named = (ap (slice_cmp nat_cmp name) (named 0 e.0 e.1 refl) ∙ all.0, above name es all.1 (λ i k c is. named (suc i) k c is))

pub rises_by : (es : List (List ℕ × Change)) → IsStrictlySortedBy (slice_cmp nat_cmp) (keys_of es) → HasNames es → IsStrictlySortedBy by_change (values_of es)
unfolding IsStrictlySortedBy
rises_by [] sorted named = tt
rises_by (e ∷ es) sorted named = (
  subst (λ (n : List ℕ). AllByRecursion (λ (c : Change). slice_cmp nat_cmp n (name_of c) ≡ Less) (values_of es)) (sym (named 0 e.0 e.1 refl)) (above e.0 es sorted.0 (λ i k c is. named (suc i) k c is)),
  rises_by es sorted.1 (λ i k c is. named (suc i) k c is),
)

pub value_place : (es : List (List ℕ × Change)) (i : ℕ) (c : Change) → slice_get (values_of es) i ≡ Some c → (k : List ℕ) × (slice_get es i ≡ Some (k, c))
value_place [] i c is = (let within = slice_get_within [] i c is in absurd (omega (arith, within)))
value_place (e ∷ es) zero c is = (e.0, ap (λ (w : Change). Some (e.0, w)) (same_Some e.1 c is))
value_place (e ∷ es) (suc i) c is = value_place es i c is

pub value_at : (es : List (List ℕ × Change)) (i : ℕ) (k : List ℕ) (c : Change) → slice_get es i ≡ Some (k, c) → slice_get (values_of es) i ≡ Some c
value_at [] i k c is = (let within = slice_get_within [] i (k, c) is in absurd (omega (arith, within)))
value_at (e ∷ es) zero k c is = ap (λ (w : List ℕ × Change). Some w.1) (same_Some e (k, c) is)
value_at (e ∷ es) (suc i) k c is = value_at es i k c is

-- ---- the end of a list

pub noted_whole : (Is : TroveParts → Change → Type 0) (troves : List TroveParts) (n : ℕ) (old new : Noted) → length troves ≤ n → NotedSoFar Is (take n troves) old new → NotesAll Is troves old new
noted_whole Is troves n old new past so_far = subst (λ (l : List TroveParts). NotesAll Is l old new) (take_all n troves past) so_far.all

-- ---- all changes

module _ (before after : List TroveParts) (empty middle m : Noted) (none : empty.entries ≡ []) (lost : NotesAll (IsLost after) before empty middle) (fresh : NotesAll (IsFresh before) after middle m)
    (ordered : IsOrdered (slice_cmp nat_cmp) m) where
  none_in : (name : List ℕ) (c : Change) → noted empty name ≡ Some c → ⊥
  none_in name c some = none-some c (ap (lookup (is_at (slice_cmp nat_cmp name))) (sym none) ∙ some)

  lost_name : (t : TroveParts) (c : Change) → IsLost after t c → name_of c ≡ t.id.name
  lost_name t c is = ap name_of is.change_is

  fresh_name : (t : TroveParts) (c : Change) → IsFresh before t c → name_of c ≡ t.id.name
  fresh_name t c is = ⊎_elim (λ new. ap name_of new.1) (λ replaced. ap name_of replaced.1) is

  is_one : (name : List ℕ) (c : Change) → noted m name ≡ Some c → IsOf (IsLost after) before name c ⊎ IsOf (IsFresh before) after name c
  is_one name c some = ⊎_elim
      (λ earlier. ⊎_elim (λ never. absurd (none_in name c never)) (λ of. inl of) (lost.from name c earlier))
      (λ of. inr of)
      (fresh.from name c some)

  named : (name : List ℕ) (c : Change) → noted m name ≡ Some c → name_of c ≡ name
  named name c some = ⊎_elim (λ of. lost_name of.trove c of.change_is ∙ of.named) (λ of. fresh_name of.trove c of.change_is ∙ of.named) (is_one name c some)

  entries_named : HasNames m.entries
  entries_named i k c is = named k c (btree_map_get_place nat_list_cmp_total m i k c ordered is)

  value_in : (name : List ℕ) (c : Change) → noted m name ≡ Some c → Contains (values m) c
  value_in name c some =
      let at = place_from_lookup (is_at (slice_cmp nat_cmp name)) m.entries c some in
      contains_at (values m) at.0 c (value_at m.entries at.0 at.1 c at.2)

  pub changes_of : AreChanges before after (values m)
  changes_of = record {
    rising = rises_by m.entries ordered entries_named;
    each = λ c among. (
        let at = place_in (values m) c among in
        let entry = value_place m.entries at.0 c at.2 in
        ⊎_elim
        (λ of. inl (of.trove, of.among, of.change_is))
        (λ of. inr (of.trove, of.among, of.change_is))
        (is_one entry.0 c (btree_map_get_place nat_list_cmp_total m at.0 entry.0 c ordered entry.1)));
    all = λ c is. ⊎_elim
        (λ gone. value_in gone.0.id.name c
        (fresh.kept gone.0.id.name c (lost.all gone.0.id.name c (record { trove = gone.0; among = gone.1; named = refl; change_is = gone.2 })) (λ d of. gone.2.none of.trove of.among of.named)))
        (λ come. value_in come.0.id.name c (fresh.all come.0.id.name c (record { trove = come.0; among = come.1; named = refl; change_is = come.2 })))
        is;
  }
