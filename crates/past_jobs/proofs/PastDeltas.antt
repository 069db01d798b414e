-- What deltas make of a list.
use Rattle.std.proofs.Common.{◌≡◌, ⊎_elim, inl, inr, Bool, true, false, cond, ◌||◌, List, [], ◌∷◌, ◌++◌, map, Option, Some, None, is_some, option_to_list, Contains, refl, sym, ap, ◌∙◌, subst, append_assoc, append-nil}
use Rattle.std.specs.Cmp.Lexicographic.{slice_cmp}
use Rattle.std.specs.List.{AllByRecursion}
use Rattle.std.specs.List.Sorted.{IsStrictlySortedBy}
use Rattle.std.specs.Ordering.{nat_cmp}
use Rattle.std.specs.Str.{bytes_eq}
use Rattle.std.specs.declared.cmp.Ordering.TheVariants.{Less}
use Rattle.std.proofs.lemmas.List.Elements.{All-contains, All-from_recursion}
use Rattle.std.proofs.lemmas.Map.Keys.{sorted_head, sorted_tail}
use Rattle.std.proofs.lemmas.Option.{none-some}
use Rattle.local_db.specs.trove-parts.declared.id.TroveId.{TroveId}
use Rattle.local_db.specs.trove-stream.declared.parts.TroveParts.{TroveParts}
use Rattle.local_db.specs.tree-disk.Tree.{Name, same_name}
use Rattle.local_db.specs.trove-stream.Installed.{IsRising, trove_of}
use Rattle.local_db.specs.Record as state
use Rattle.local_db.specs.Record.{delta_at, TakesBackAt, TakesBack}
use Rattle.local_db.specs.declared.record.Delta.{Delta}
use Rattle.local_db.specs.declared.record.Delta.TheVariants.{Came, Was, Turned}
use Rattle.local_db.specs.RecordText.{delta_of, name_of}
use Rattle.local_db.specs.RecordText as text
use Rattle.local_db.specs.tree-disk.Laws.{same_means}
use Rattle.local_db.proofs.tree-disk.Laws.{same_itself}
use Rattle.past_jobs.specs.Table.{has_delta, TurnsTo, AreMade, id_of, ids_at}
use Rattle.past_jobs.proofs.Names.{same_flips}
use Rattle.local_db.proofs.OneResult.{OneLed}
use Rattle.change_rel.proofs.cny-base.ByteLists.{bytes_mean, not_less_itself}
use Rattle.change_rel.proofs.trove-stream.Names.{contained, found_first, found_other, is_there, one_list}
use Rattle.change_rel.specs.trove-stream.Either.{or_else}
use Rattle.change_rel.proofs.cny-base.Lists.{contains_cases as first_or_later, nothing_in}

-- ---- one delta

-- the trove that a delta makes has the delta's name
turn_named : (u : Delta) (a : Option TroveParts) (b : TroveParts) → TakesBackAt (Some (delta_of u)) a (Some b) → b.id.name ≡ name_of u
turn_named (Came id) None b h = absurd h
turn_named (Came id) (Some t) b h = absurd h
turn_named (Was old) None b h = ap (λ (t : TroveParts). t.id.name) h
turn_named (Was old) (Some t) b h = ap (λ (t : TroveParts). t.id.name) h.0
turn_named (Turned rel) None b h = absurd h
turn_named (Turned rel) (Some t) b h = ap (λ (id : TroveId). id.name) h.to ∙ sym h.rel_is.together.one_name

-- a delta changes the trove of its name
pub turn_differs : (u : state.Delta) (a b : Option TroveParts) → TakesBackAt (Some u) a b → a ≡ b → ⊥
turn_differs (state.came id) None b h e = h
turn_differs (state.came id) (Some t) None h e = none-some t (sym e)
turn_differs (state.came id) (Some t) (Some b) h e = h
turn_differs (state.was old) None None h e = h
turn_differs (state.was old) None (Some b) h e = none-some b e
turn_differs (state.was old) (Some t) None h e = h
turn_differs (state.was old) (Some t) (Some b) h e = h.2 (let one : t ≡ b = cc e in one ∙ h.0)
turn_differs (state.turned rel) None b h e = h
turn_differs (state.turned rel) (Some t) None h e = h
turn_differs (state.turned rel) (Some t) (Some b) h e = h.rel_is.together.two_ids (sym h.from ∙ ap (λ (t : TroveParts). t.id) (let one : t ≡ b = cc e in one) ∙ h.to)

module _ (led : OneLed) where
  pub one_back : (u : state.Delta) (t b c : Option TroveParts) → TakesBackAt (Some u) t b → TakesBackAt (Some u) t c → b ≡ c
  one_back (state.came id) None b c h g = absurd h
  one_back (state.came id) (Some t) None None h g = refl
  one_back (state.came id) (Some t) None (Some c) h g = absurd g
  one_back (state.came id) (Some t) (Some b) c h g = absurd h
  one_back (state.was old) None None c h g = absurd h
  one_back (state.was old) None (Some b) None h g = absurd g
  one_back (state.was old) None (Some b) (Some c) h g = ap (λ (t : TroveParts). Some t) (h ∙ sym g)
  one_back (state.was old) (Some t) None c h g = absurd h
  one_back (state.was old) (Some t) (Some b) None h g = absurd g
  one_back (state.was old) (Some t) (Some b) (Some c) h g = ap (λ (t : TroveParts). Some t) (h.0 ∙ sym g.0)
  one_back (state.turned rel) None b c h g = absurd h
  one_back (state.turned rel) (Some t) None c h g = absurd h
  one_back (state.turned rel) (Some t) (Some b) None h g = absurd g
  one_back (state.turned rel) (Some t) (Some b) (Some c) h g = ap (λ (t : TroveParts). Some t) (led rel t b c h g)

-- ---- one delta more

pub has_push : (us : List Delta) (u : Delta) (name : Name) → has_delta (us ++ u ∷ []) name ≡ (has_delta us name || same_name name (name_of u))
has_push [] u name = at (same_name name (name_of u))
  where
    at : (b : Bool) → is_some (cond b (Some (delta_of u)) None) ≡ b
    at true = refl
    at false = refl
has_push (v ∷ us) u name = at (same_name name (name_of v)) (has_push us u name)
  where
    at : (b : Bool) → has_delta (us ++ u ∷ []) name ≡ (has_delta us name || same_name name (name_of u))
        → is_some (cond b (Some (delta_of v)) (delta_at (map delta_of (us ++ u ∷ [])) name)) ≡ (is_some (cond b (Some (delta_of v)) (delta_at (map delta_of us) name)) || same_name name (name_of u))
    at true rest = refl
    at false rest = rest

-- which troves are left
pub left_push : (us : List Delta) (u : Delta) (name : Name) (base now next : Option TroveParts) → now ≡ cond (has_delta us name) None base → next ≡ cond (same_name (name_of u) name) None now
    → next ≡ cond (has_delta (us ++ u ∷ []) name) None base
left_push us u name base now next so_far step =
    step ∙ ap (cond (same_name (name_of u) name) None) so_far ∙ at (has_delta us name) (same_name (name_of u) name)
    ∙ ap (λ (b : Bool). cond b None base) (ap (λ (b : Bool). has_delta us name || b) (sym (same_flips (name_of u) name)) ∙ sym (has_push us u name))
  where
    at : (a b : Bool) → cond b None (cond a None base) ≡ cond (a || b) None base
    at true true = refl
    at true false = refl
    at false true = refl
    at false false = refl

pub made_push : (after : List TroveParts) (us : List Delta) (made : List TroveParts) (u : Delta) (b : Option TroveParts) → AreMade after us made → TurnsTo after u b → AreMade after (us ++ u ∷ []) (made ++ option_to_list b)
made_push after [] made u None h turn = inl (turn, ap (λ (l : List TroveParts). l ++ []) h)
made_push after [] made u (Some b) h turn = inr (b, [], ap (λ (l : List TroveParts). l ++ b ∷ []) h, turn, refl)
made_push after (v ∷ us) made u b h turn = ⊎_elim
    (λ none. inl (none.0, made_push after us made u b none.1 turn))
    (λ some. inr (some.0, some.1 ++ option_to_list b, ap (λ (l : List TroveParts). l ++ option_to_list b) some.2, some.3, made_push after us some.1 u b some.4 turn))
    h

pub ids_push : (list : List TroveParts) (us : List Delta) (u : Delta) → ids_at list (us ++ u ∷ []) ≡ ids_at list us ++ id_of (trove_of (name_of u) list)
ids_push list [] u = append-nil (id_of (trove_of (name_of u) list))
ids_push list (v ∷ us) u = ap (λ (l : List TroveId). id_of (trove_of (name_of v) list) ++ l) (ids_push list us u) ∙ sym (append_assoc (id_of (trove_of (name_of v) list)) (ids_at list us) (id_of (trove_of (name_of u) list)))

-- ---- the delta of a name

none_of : (name : Name) (us : List Delta) → AllByRecursion (λ (v : Delta). slice_cmp nat_cmp name (name_of v) ≡ Less) us → delta_at (map delta_of us) name ≡ None
none_of name [] above = refl
none_of name (v ∷ us) above = at (same_name name (name_of v)) refl (none_of name us above.1)
  where
    at : (b : Bool) → same_name name (name_of v) ≡ b → delta_at (map delta_of us) name ≡ None → cond b (Some (delta_of v)) (delta_at (map delta_of us) name) ≡ None
    at true is rest = absurd (not_less_itself name (ap (slice_cmp nat_cmp name) (same_means name (name_of v) is) ∙ above.0))
    at false is rest = rest

own_delta : (u : Delta) (us : List Delta) → delta_at (map delta_of (u ∷ us)) (name_of u) ≡ Some (delta_of u)
own_delta u us = ap (λ (b : Bool). cond b (Some (delta_of u)) (delta_at (map delta_of us) (name_of u))) (same_itself (name_of u))

pub delta_of_name : (us : List Delta) → IsStrictlySortedBy text.by_name us → (u : Delta) → Contains us u → delta_at (map delta_of us) (name_of u) ≡ Some (delta_of u)
delta_of_name [] rises u u_in = absurd (nothing_in u u_in)
delta_of_name (v ∷ us) rises u u_in = ⊎_elim
    (λ here. subst (λ (w : Delta). delta_at (map delta_of (v ∷ us)) (name_of w) ≡ Some (delta_of w)) here (own_delta v us))
    (λ behind. at (same_name (name_of u) (name_of v)) refl behind (delta_of_name us (sorted_tail text.by_name v us rises) u behind))
    (first_or_later v u us u_in)
  where
    at : (b : Bool) → same_name (name_of u) (name_of v) ≡ b → Contains us u → delta_at (map delta_of us) (name_of u) ≡ Some (delta_of u) → cond b (Some (delta_of v)) (delta_at (map delta_of us) (name_of u)) ≡ Some (delta_of u)
    at true is behind rest =
        let less : slice_cmp nat_cmp (name_of v) (name_of u) ≡ Less = All-contains (λ (w : Delta). text.by_name v w ≡ Less) us u (All-from_recursion (λ (w : Delta). text.by_name v w ≡ Less) us (sorted_head text.by_name v us rises)) behind in
        absurd (not_less_itself (name_of v) (ap (slice_cmp nat_cmp (name_of v)) (sym (same_means (name_of u) (name_of v) is)) ∙ less))
    at false is behind rest = rest

-- ---- what the deltas made

abbrev pub TurnsAt : Option state.Delta → Option TroveParts → Option TroveParts → Type 0
TurnsAt None after made = made ≡ None
TurnsAt (Some u) after made = TakesBackAt (Some u) after made

pub made_each : (after : List TroveParts) (us : List Delta) (made : List TroveParts) → IsStrictlySortedBy text.by_name us → AreMade after us made
    → (name : Name) → TurnsAt (delta_at (map delta_of us) name) (trove_of name after) (trove_of name made)
made_each after [] made rises h name = ap (trove_of name) h
made_each after (u ∷ us) made rises h name = ⊎_elim
    (λ none. quiet none.0 (made_each after us made (sorted_tail text.by_name u us rises) none.1 name) (same_name name (name_of u)) refl)
    (λ some. loud some.0 some.1 some.2 some.3 (made_each after us some.1 (sorted_tail text.by_name u us rises) some.4 name) (same_name name (name_of u)) refl)
    h
  where
    gone : name ≡ name_of u → delta_at (map delta_of us) name ≡ None
    gone is = ap (delta_at (map delta_of us)) is ∙ none_of (name_of u) us (sorted_head text.by_name u us rises)

    quiet : TurnsTo after u None → TurnsAt (delta_at (map delta_of us) name) (trove_of name after) (trove_of name made) → (b : Bool) → same_name name (name_of u) ≡ b → TurnsAt (cond b (Some (delta_of u)) (delta_at (map delta_of us) name)) (trove_of name after) (trove_of name made)
    quiet turn tail true is =
        let names : name ≡ name_of u = same_means name (name_of u) is in
        let none : trove_of name made ≡ None = subst (λ (d : Option state.Delta). TurnsAt d (trove_of name after) (trove_of name made)) (gone names) tail in
        subst (TakesBackAt (Some (delta_of u)) (trove_of name after)) (sym none) (subst (λ (n : Name). TakesBackAt (Some (delta_of u)) (trove_of n after) None) (sym names) turn)
    quiet turn tail false is = tail

    loud : (t : TroveParts) (list : List TroveParts) → made ≡ t ∷ list → TurnsTo after u (Some t) → TurnsAt (delta_at (map delta_of us) name) (trove_of name after) (trove_of name list) → (b : Bool) → same_name name (name_of u) ≡ b → TurnsAt (cond b (Some (delta_of u)) (delta_at (map delta_of us) name)) (trove_of name after) (trove_of name made)
    loud t list is turn tail true here =
        let names : name ≡ name_of u = same_means name (name_of u) here in
        let own : t.id.name ≡ name = turn_named u (trove_of (name_of u) after) t turn ∙ sym names in
        let some : trove_of name made ≡ Some t = ap (trove_of name) is ∙ ap (λ (n : Name). trove_of n (t ∷ list)) (sym own) ∙ found_first t list in
        subst (TakesBackAt (Some (delta_of u)) (trove_of name after)) (sym some) (subst (λ (n : Name). TakesBackAt (Some (delta_of u)) (trove_of n after) (Some t)) (sym names) turn)
    loud t list is turn tail false off =
        subst (TurnsAt (delta_at (map delta_of us) name) (trove_of name after)) (sym (ap (trove_of name) is ∙ found_other t list name (apart (bytes_eq t.id.name name) refl))) tail
      where
        apart : (b : Bool) → bytes_eq t.id.name name ≡ b → b ≡ false
        apart true so =
            let names : name ≡ name_of u = sym (bytes_mean t.id.name name so) ∙ turn_named u (trove_of (name_of u) after) t turn in
            let on : same_name name (name_of u) ≡ true = ap (same_name name) (sym names) ∙ same_itself name in absurd (cc (on, off))
        apart false so = refl

made_above : (name : Name) (after : List TroveParts) (us : List Delta) (made : List TroveParts) → AllByRecursion (λ (v : Delta). slice_cmp nat_cmp name (name_of v) ≡ Less) us → AreMade after us made
    → AllByRecursion (λ (t : TroveParts). slice_cmp nat_cmp name t.id.name ≡ Less) made
made_above name after [] made above h = subst (AllByRecursion (λ (t : TroveParts). slice_cmp nat_cmp name t.id.name ≡ Less)) (sym h) tt
made_above name after (u ∷ us) made above h = ⊎_elim
    (λ none. made_above name after us made above.1 none.1)
    (λ some. subst (AllByRecursion (λ (t : TroveParts). slice_cmp nat_cmp name t.id.name ≡ Less)) (sym some.2)
    (ap (slice_cmp nat_cmp name) (turn_named u (trove_of (name_of u) after) some.0 some.3) ∙ above.0, made_above name after us some.1 above.1 some.4))
    h

pub made_rises : (after : List TroveParts) (us : List Delta) (made : List TroveParts) → IsStrictlySortedBy text.by_name us → AreMade after us made → IsRising made
unfolding IsStrictlySortedBy
made_rises after [] made rises h = subst IsRising (sym h) tt
made_rises after (u ∷ us) made rises h = ⊎_elim
    (λ none. made_rises after us made rises.1 none.1)
    (λ some. subst IsRising (sym some.2) (
      subst (λ (n : Name). AllByRecursion (λ (t : TroveParts). slice_cmp nat_cmp n t.id.name ≡ Less) some.1) (sym (turn_named u (trove_of (name_of u) after) some.0 some.3)) (made_above (name_of u) after us some.1 rises.0 some.4),
      made_rises after us some.1 rises.1 some.4,
    ))
    h

-- ---- the list before

above_mapped : (v : Delta) (us : List Delta) → AllByRecursion (λ (w : Delta). text.by_name v w ≡ Less) us → AllByRecursion (λ (w : state.Delta). state.delta_cmp (delta_of v) w ≡ Less) (map delta_of us)
above_mapped v [] all = tt
above_mapped v (u ∷ us) all = (all.0, above_mapped v us all.1)

pub deltas_rise : (us : List Delta) → IsStrictlySortedBy text.by_name us → IsStrictlySortedBy state.delta_cmp (map delta_of us)
unfolding IsStrictlySortedBy
deltas_rise [] rises = tt
deltas_rise (u ∷ us) rises = (above_mapped u us rises.0, deltas_rise us rises.1)

module _ (after : List TroveParts) (us : List Delta) (made : List TroveParts) (rises : IsStrictlySortedBy text.by_name us) (h : AreMade after us made) where
  pub taken_back : (list : List TroveParts) → ((name : Name) → trove_of name list ≡ or_else (trove_of name made) (cond (has_delta us name) None (trove_of name after))) → TakesBack (map delta_of us) after list
  taken_back list is = record { rising = deltas_rise us rises; each = λ name. at name (delta_at (map delta_of us) name) refl (made_each after us made rises h name) }
    where
      stays : (o : Option TroveParts) → or_else o None ≡ o
      stays None = refl
      stays (Some t) = refl

      at : (name : Name) (d : Option state.Delta) → delta_at (map delta_of us) name ≡ d → TurnsAt (delta_at (map delta_of us) name) (trove_of name after) (trove_of name made) → TakesBackAt (delta_at (map delta_of us) name) (trove_of name after) (trove_of name list)
      at name None none turns =
          let nothing : trove_of name made ≡ None = subst (λ (d : Option state.Delta). TurnsAt d (trove_of name after) (trove_of name made)) none turns in
          subst (λ (d : Option state.Delta). TakesBackAt d (trove_of name after) (trove_of name list)) (sym none)
          (is name ∙ ap (λ (o : Option TroveParts). or_else o (cond (has_delta us name) None (trove_of name after))) nothing ∙ ap (λ (d : Option state.Delta). cond (is_some d) None (trove_of name after)) none)
      at name (Some u) some turns =
          subst (λ (d : Option state.Delta). TakesBackAt d (trove_of name after) (trove_of name list)) (sym some)
          (subst (TakesBackAt (Some u) (trove_of name after)) (sym (is name ∙ ap (λ (d : Option state.Delta). or_else (trove_of name made) (cond (is_some d) None (trove_of name after))) some ∙ stays (trove_of name made)))
          (subst (λ (d : Option state.Delta). TurnsAt d (trove_of name after) (trove_of name made)) some turns))

  module _ (led : OneLed) (before : List TroveParts) (back : TakesBack (map delta_of us) after before) where
    pub made_before : (t : TroveParts) → Contains made t → Contains before t
    made_before t t_in =
        let own : trove_of t.id.name made ≡ Some t = contained made (made_rises after us made rises h) t t_in in
        at own (delta_at (map delta_of us) t.id.name) refl (made_each after us made rises h t.id.name) (back.each t.id.name)
      where
        at : trove_of t.id.name made ≡ Some t → (d : Option state.Delta) → delta_at (map delta_of us) t.id.name ≡ d → TurnsAt (delta_at (map delta_of us) t.id.name) (trove_of t.id.name after) (trove_of t.id.name made)
            → TakesBackAt (delta_at (map delta_of us) t.id.name) (trove_of t.id.name after) (trove_of t.id.name before) → Contains before t
        at own None none turns backs = absurd (none-some t (sym (subst (λ (d : Option state.Delta). TurnsAt d (trove_of t.id.name after) (trove_of t.id.name made)) none turns) ∙ own))
        at own (Some u) some turns backs =
            is_there before t.id.name t
            (sym (one_back led u (trove_of t.id.name after) (trove_of t.id.name made) (trove_of t.id.name before)
            (subst (λ (d : Option state.Delta). TurnsAt d (trove_of t.id.name after) (trove_of t.id.name made)) some turns)
            (subst (λ (d : Option state.Delta). TakesBackAt d (trove_of t.id.name after) (trove_of t.id.name before)) some backs)) ∙ own)

    pub left_before : (t : TroveParts) → cond (has_delta us t.id.name) None (trove_of t.id.name after) ≡ Some t → Contains before t
    left_before t left = at (delta_at (map delta_of us) t.id.name) refl (back.each t.id.name)
      where
        at : (d : Option state.Delta) → delta_at (map delta_of us) t.id.name ≡ d → TakesBackAt (delta_at (map delta_of us) t.id.name) (trove_of t.id.name after) (trove_of t.id.name before) → Contains before t
        at None none backs =
            is_there before t.id.name t
            (subst (λ (d : Option state.Delta). TakesBackAt d (trove_of t.id.name after) (trove_of t.id.name before)) none backs
            ∙ sym (ap (λ (d : Option state.Delta). cond (is_some d) None (trove_of t.id.name after)) none) ∙ left)
        at (Some u) some backs = absurd (none-some t (sym (ap (λ (d : Option state.Delta). cond (is_some d) None (trove_of t.id.name after)) some) ∙ left))

-- the deltas lead back to one list
pub one_before : OneLed → (us : List Delta) (after a b : List TroveParts) → IsRising a → IsRising b → TakesBack (map delta_of us) after a → TakesBack (map delta_of us) after b → a ≡ b
one_before led us after a b a_rises b_rises one other = one_list a b a_rises b_rises
    (λ name. at (delta_at (map delta_of us) name) (trove_of name after) (trove_of name a) (trove_of name b) (one.each name) (other.each name))
  where
    at : (d : Option state.Delta) (t x y : Option TroveParts) → TakesBackAt d t x → TakesBackAt d t y → x ≡ y
    at None t x y h g = h ∙ sym g
    at (Some u) t x y h g = one_back led u t x y h g
