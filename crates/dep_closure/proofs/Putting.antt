-- Slots into which troves are put, one after another.
use Rattle.std.proofs.Common.{◌≡◌, ℕ, ◌+◌, ◌<◌, Bool, true, false, cond, ◌||◌, List, [], ◌∷◌, ◌++◌, length, get_or, take, IsSome, Option, Some, None, is_some, refl, sym, ap, ◌∙◌, subst, inl, inr, ⊎_elim, ◌⊎◌, true≢false}
use Rattle.std.proofs.lemmas.List.{take_more}
use Rattle.std.specs.BTreeMap.{IsOrdered, is_at}
use Rattle.std.specs.Cmp.{both_ways}
use Rattle.std.specs.Cmp.Lexicographic.{slice_cmp}
use Rattle.std.specs.List.{list_any}
use Rattle.std.specs.Ordering.{nat_cmp}
use Rattle.std.specs.Str.{bytes_eq}
use Rattle.std.proofs.lemmas.Map.Keys.{sorted_head, sorted_tail}
use Rattle.trove_stream.specs.Installed.{by_name, IsRising, trove_of}
use Rattle.trove_stream.specs.declared.parts.TroveParts.{TroveParts}
use Rattle.dep_closure.specs.Slots.{Slots, slot, slot_or, put_slot, held, held_after}
use Rattle.dep_closure.proofs.Names.{same, same_means, same_itself}
use Rattle.trove_stream.proofs.cny-base.ByteLists.{bytes_itself, bytes_mean}
use Rattle.trove_stream.proofs.Names.{found_other, none_named}

-- a later trove of a name takes the place of an earlier one
abbrev pub put_all : List TroveParts → Option (Option TroveParts) → List ℕ → Option (Option TroveParts)
put_all [] before name = before
put_all (t ∷ ts) before name = put_all ts (cond (same t.id.name name) (Some (Some t)) before) name

pub put_all-push : (ts : List TroveParts) (t : TroveParts) (before : Option (Option TroveParts)) (name : List ℕ)
    → put_all (ts ++ t ∷ []) before name ≡ cond (same t.id.name name) (Some (Some t)) (put_all ts before name)
put_all-push [] t before name = refl
put_all-push (u ∷ ts) t before name = put_all-push ts t (cond (same u.id.name name) (Some (Some u)) before) name

same_bytes : (x y : List ℕ) → same x y ≡ false → bytes_eq x y ≡ false
same_bytes x y other = at (bytes_eq x y) refl
  where
    at : (b : Bool) → bytes_eq x y ≡ b → b ≡ false
    at true is = absurd (cc (ap (same x) (sym (bytes_mean x y is)) ∙ same_itself x, other))
    at false is = refl

-- in a rising list no name comes twice
pub put_rising : (list : List TroveParts) → IsRising list → (before : Option (Option TroveParts)) (name : List ℕ) → put_all list before name ≡ put_slot (trove_of name list) before
put_rising [] rises before name = refl
put_rising (t ∷ ts) rises before name = at (λ other. put_rising ts (sorted_tail by_name t ts rises) other name) (same t.id.name name) refl
  where
    at : ((other : Option (Option TroveParts)) → put_all ts other name ≡ put_slot (trove_of name ts) other) → (b : Bool) → same t.id.name name ≡ b
        → put_all ts (cond b (Some (Some t)) before) name ≡ put_slot (trove_of name (t ∷ ts)) before
    at rest true is =
        let named : t.id.name ≡ name = same_means t.id.name name is in
        let none : trove_of name ts ≡ None = ap (λ (n : List ℕ). trove_of n ts) (sym named) ∙ none_named t.id.name ts (sorted_head by_name t ts rises) in
        let own : bytes_eq t.id.name name ≡ true = ap (λ (n : List ℕ). bytes_eq n name) named ∙ bytes_itself name in
        rest (Some (Some t))
        ∙ ap (λ (o : Option TroveParts). put_slot o (Some (Some t))) none
        ∙ ap (λ (b : Bool). put_slot (cond b (Some t) (trove_of name ts)) before) (sym own)
    at rest false is = rest before ∙ ap (λ (o : Option TroveParts). put_slot o before) (sym (found_other t ts name (same_bytes t.id.name name is)))

pub same_flips : (x y : List ℕ) → same x y ≡ bytes_eq y x
same_flips x y =
    both_ways (same x y) (bytes_eq y x)
    (λ h. ap (λ (n : List ℕ). bytes_eq n x) (sym (same_means x y h)) ∙ bytes_itself x)
    (λ h. ap (same x) (bytes_mean y x h) ∙ same_itself x)

pub same_straight : (x y : List ℕ) → same x y ≡ bytes_eq x y
same_straight x y =
    both_ways (same x y) (bytes_eq x y)
    (λ h. ap (bytes_eq x) (sym (same_means x y h)) ∙ bytes_itself x)
    (λ h. ap (same x) (sym (bytes_mean x y h)) ∙ same_itself x)

-- what was put so far
pub record PutSoFar (old new : Slots) (list : List TroveParts) : Type 0 where
  pub ordered : IsOrdered (slice_cmp nat_cmp) new
  pub put : (name : List ℕ) → slot new name ≡ put_all list (slot old name) name

-- one trove more is put
pub put_more : (old before now : Slots) (list : List TroveParts) (i : ℕ) (t copy : TroveParts) (key : List ℕ) → i < length list → t ≡ get_or list i t → PutSoFar old before (take i list)
    → key ≡ t.id.name → copy ≡ t → ((name : List ℕ) → slot now name ≡ cond (same key name) (Some (Some copy)) (slot before name)) → IsOrdered (slice_cmp nat_cmp) now
    → PutSoFar old now (take (i + 1) list)
put_more old before now list i t copy key within is so_far is_key is_copy updated ordered = record {
  ordered = ordered;
  put = λ name.
      updated name
      ∙ ap (λ (k : List ℕ). cond (same k name) (Some (Some copy)) (slot before name)) is_key
      ∙ ap (λ (u : TroveParts). cond (same t.id.name name) (Some (Some u)) (slot before name)) is_copy
      ∙ ap (λ (o : Option (Option TroveParts)). cond (same t.id.name name) (Some (Some t)) o) (so_far.put name)
      ∙ sym (put_all-push (take i list) t (slot old name) name)
      ∙ ap (λ (u : TroveParts). put_all (take i list ++ u ∷ []) (slot old name) name) is
      ∙ ap (λ (l : List TroveParts). put_all l (slot old name) name) (sym (take_more list i t within));
}

-- what was emptied so far
pub record TakenSoFar (old new : Slots) (names : List (List ℕ)) : Type 0 where
  pub ordered : IsOrdered (slice_cmp nat_cmp) new
  pub taken : (name : List ℕ) → slot new name ≡ cond (list_any (bytes_eq name) names) (Some None) (slot old name)

pub taken_more : (b c : Bool) (before : Option (Option TroveParts)) → cond b (Some None) (cond c (Some None) before) ≡ cond (c || (b || false)) (Some None) before
taken_more true true before = refl
taken_more true false before = refl
taken_more false true before = refl
taken_more false false before = refl

pub any-push : (test : List ℕ → Bool) (names : List (List ℕ)) (name : List ℕ) → list_any test (names ++ name ∷ []) ≡ (list_any test names || (test name || false))
any-push test [] name = refl
any-push test (n ∷ names) name = at (test n) (any-push test names name)
  where
    at : (b : Bool) → list_any test (names ++ name ∷ []) ≡ (list_any test names || (test name || false)) → (b || list_any test (names ++ name ∷ [])) ≡ ((b || list_any test names) || (test name || false))
    at true is = refl
    at false is = is

-- one name more is emptied
pub taken_one : (old before now : Slots) (names : List (List ℕ)) (i : ℕ) (name key : List ℕ) → i < length names → name ≡ get_or names i name → TakenSoFar old before (take i names)
    → key ≡ name → ((other : List ℕ) → slot now other ≡ cond (same key other) (Some None) (slot before other)) → IsOrdered (slice_cmp nat_cmp) now
    → TakenSoFar old now (take (i + 1) names)
taken_one old before now names i name key within is so_far is_key updated ordered = record {
  ordered = ordered;
  taken = λ other.
      updated other
      ∙ ap (λ (k : List ℕ). cond (same k other) (Some None) (slot before other)) is_key
      ∙ ap (λ (o : Option (Option TroveParts)). cond (same name other) (Some None) o) (so_far.taken other)
      ∙ ap (λ (b : Bool). cond b (Some None) (cond (list_any (bytes_eq other) (take i names)) (Some None) (slot old other))) (same_flips name other)
      ∙ taken_more (bytes_eq other name) (list_any (bytes_eq other) (take i names)) (slot old other)
      ∙ ap (λ (b : Bool). cond b (Some None) (slot old other)) (sym (any-push (bytes_eq other) (take i names) name))
      ∙ ap (λ (n : List ℕ). cond (list_any (bytes_eq other) (take i names ++ n ∷ [])) (Some None) (slot old other)) is
      ∙ ap (λ (l : List (List ℕ)). cond (list_any (bytes_eq other) l) (Some None) (slot old other)) (sym (take_more names i name within));
}

-- ---- slots for edits

-- which slots are made so far
pub record RoomSoFar (old new : Slots) (all left : List (List ℕ)) : Type 0 where
  pub ordered : IsOrdered (slice_cmp nat_cmp) new
  pub alike : (name : List ℕ) → held new name ≡ held old name
  pub made : (name : List ℕ) → list_any (is_at (slice_cmp nat_cmp name)) all ≡ true → (list_any (is_at (slice_cmp nat_cmp name)) left ≡ true) ⊎ IsSome (slot new name)

pub room_more : (old before now : Slots) (all left rest : List (List ℕ)) (key : List ℕ) → RoomSoFar old before all left → left ≡ key ∷ rest → IsOrdered (slice_cmp nat_cmp) now
    → IsSome (slot now key) → ((name : List ℕ) → IsSome (slot before name) → IsSome (slot now name)) → ((name : List ℕ) → held now name ≡ held before name) → RoomSoFar old now all rest
room_more old before now all left rest key so_far is ordered own kept alike = record {
  ordered = ordered;
  alike = λ name. alike name ∙ so_far.alike name;
  made = λ name among. ⊎_elim (λ in_left. by name (same name key) refl (sym (ap (list_any (is_at (slice_cmp nat_cmp name))) is) ∙ in_left)) (λ some. inr (kept name some)) (so_far.made name among);
}
  where
    by : (name : List ℕ) (b : Bool) → same name key ≡ b → (same name key || list_any (is_at (slice_cmp nat_cmp name)) rest) ≡ true → (list_any (is_at (slice_cmp nat_cmp name)) rest ≡ true) ⊎ IsSome (slot now name)
    by name true equal in_left = inr (subst (λ (n : List ℕ). IsSome (slot now n)) (sym (same_means name key equal)) own)
    by name false other in_left = inl (sym (ap (λ (b : Bool). b || list_any (is_at (slice_cmp nat_cmp name)) rest) other) ∙ in_left)

pub no_slot : (o : Option (Option TroveParts)) → is_some o ≡ false → o ≡ None
no_slot None h = refl
no_slot (Some s) h = absurd (cc)

-- ---- edits, one after another

-- what edits are made so far
pub record MadeSoFar (old edits slots left : Slots) : Type 0 where
  pub ordered : IsOrdered (slice_cmp nat_cmp) slots
  pub there : (name : List ℕ) → IsSome (slot left name) → IsSome (slot slots name)
  pub kept : (name : List ℕ) → IsSome (slot old name) → IsSome (slot slots name)
  pub made : (name : List ℕ) → held_after slots left name ≡ held_after old edits name

made_one : (b : Bool) (before_left now_left before now : Option (Option TroveParts)) (edit : Option TroveParts) → now_left ≡ cond b None before_left → (b ≡ true → before_left ≡ Some edit)
    → now ≡ cond b (Some edit) before → slot_or now_left (slot_or now None) ≡ slot_or before_left (slot_or before None)
made_one true before_left now_left before now edit is_left was is_now =
    ap (λ (l : Option (Option TroveParts)). slot_or l (slot_or now None)) is_left ∙ ap (λ (o : Option (Option TroveParts)). slot_or o None) is_now
    ∙ ap (λ (o : Option (Option TroveParts)). slot_or o (slot_or before None)) (sym (was refl))
made_one false before_left now_left before now edit is_left was is_now =
    ap (λ (l : Option (Option TroveParts)). slot_or l (slot_or now None)) is_left ∙ ap (λ (o : Option (Option TroveParts)). slot_or before_left (slot_or o None)) is_now

still_some : (b : Bool) (before now : Option (Option TroveParts)) (edit : Option TroveParts) → now ≡ cond b (Some edit) before → IsSome before → IsSome now
still_some true before now edit is some = ap is_some is
still_some false before now edit is some = ap is_some is ∙ some

was_some : (b : Bool) (before now : Option (Option TroveParts)) → now ≡ cond b None before → IsSome now → IsSome before
was_some true before now is some = absurd (true≢false (sym some ∙ ap is_some is))
was_some false before now is some = sym (ap is_some is) ∙ some

-- one edit more is made
pub made_more : (old edits slots left now rest : Slots) (key : List ℕ) (edit : Option TroveParts) → MadeSoFar old edits slots left → slot left key ≡ Some edit
    → ((name : List ℕ) → slot rest name ≡ cond (same key name) None (slot left name)) → ((name : List ℕ) → slot now name ≡ cond (bytes_eq key name) (Some edit) (slot slots name))
    → IsOrdered (slice_cmp nat_cmp) now → MadeSoFar old edits now rest
made_more old edits slots left now rest key edit so_far was taken put ordered = record {
  ordered = ordered;
  there = λ name some. still_some (bytes_eq key name) (slot slots name) (slot now name) edit (put name) (so_far.there name (was_some (same key name) (slot left name) (slot rest name) (taken name) some));
  kept = λ name some. still_some (bytes_eq key name) (slot slots name) (slot now name) edit (put name) (so_far.kept name some);
  made = λ name.
      made_one (same key name) (slot left name) (slot rest name) (slot slots name) (slot now name) edit (taken name)
      (λ equal. ap (slot left) (sym (same_means key name equal)) ∙ was)
      (put name ∙ ap (λ (b : Bool). cond b (Some edit) (slot slots name)) (sym (same_straight key name)))
      ∙ so_far.made name;
}

-- a slot without a trove, where none was, holds nothing
pub held_none : (b : Bool) (before now : Option (Option TroveParts)) → now ≡ cond b (Some None) before → (b ≡ true → before ≡ None) → slot_or now None ≡ slot_or before None
held_none true before now is was = ap (λ (o : Option (Option TroveParts)). slot_or o None) is ∙ ap (λ (o : Option (Option TroveParts)). slot_or o None) (sym (was refl))
held_none false before now is was = ap (λ (o : Option (Option TroveParts)). slot_or o None) is
