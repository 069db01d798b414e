-- The list after a job as the changed list before it.
use Rattle.std.proofs.Common.{◌≡◌, ℕ, ◌+◌, ◌<◌, Bool, true, false, cond, ◌||◌, List, [], ◌∷◌, ◌++◌, length, get_or, take, All, Contains, Option, Some, None, option_to_list, Result, Ok, Err, refl, sym, ap, subst, ◌∙◌, ⊎_elim, inl, inr, true≢false}
use Rattle.std.specs.Prelude.{IfErr, OnOk}
use Rattle.std.specs.Cmp.Lexicographic.{slice_cmp, bytes_decides}
use Rattle.std.specs.List.{list_any, AllByRecursion}
use Rattle.std.specs.List.Sorted.{IsStrictlySortedBy}
use Rattle.std.specs.Ordering.{nat_cmp}
use Rattle.std.specs.Str.{bytes_eq}
use Rattle.std.specs.declared.cmp.Ordering.TheVariants.{Less}
use Rattle.std.proofs.lemmas.List.{flat_map_more, map_more, take_more}
use Rattle.std.proofs.lemmas.List.Elements.{All-contains}
use Rattle.rollback_stack.specs.cny-base.declared.refusal.Fault.{Fault}
use Rattle.rollback_stack.specs.cny-base.declared.refusal.Fault.TheVariants.{Refused, Memory}
use Rattle.rollback_stack.specs.cny-stream.declared.encoding.Encoding.{Encoding}
use Rattle.rollback_stack.specs.cny-stream.declared.encoding.Encoding.TheVariants.{Compact}
use Rattle.rollback_stack.specs.trove-stream.Installed.{IsNameless, IsRising, trove_of}
use Rattle.rollback_stack.specs.trove-stream.declared.parts.TroveParts.{TroveParts}
use Rattle.rollback_stack.specs.trove-stream.Stream.{stream_bytes, trove_bytes}
use Rattle.rollback_stack.specs.trove-stream.Trove.{IsTrove}
use Rattle.dep_closure.specs.Changed.{IsChanged, RefusesChange, trove_after}
use Rattle.dep_closure.specs.Closed.{IsClosed, IsUnmetOrMemory}
use Rattle.dep_closure.specs.Slots.{listed}
use Rattle.dep_closure.proofs.Names.{listed_rises, either}
use Rattle.update_job.specs.declared.comparing.Change.{Change}
use Rattle.update_job.specs.declared.comparing.Change.TheVariants.{Installed, Updated, Erased}
use Rattle.update_job.specs.Changes.{AreChanges, IsChange, by_change, name_of}
use Rattle.update_job.proofs.Noting.{nameless_from}
use Rattle.system_core.specs.Changing.{names_changed, troves_named}
use Rattle.local_db.proofs.cny-base.ByteLists.{bytes_mean}
use Rattle.local_db.proofs.trove-stream.Names.{found_first, found_other, is_named, is_there}
use Rattle.update_job.specs.trove-stream.Either.{or_else}
use Rattle.local_db.proofs.cny-base.Lists.{contains_cases as first_or_later, nothing_in}
use Rattle.local_db.proofs.cny-base.Bools.{or_right as or_true}

-- ---- one more of them

pub names_more : (changes : List Change) (i : ℕ) (x : Change) (name : List ℕ) → i < length changes → x ≡ get_or changes i x → name ≡ name_of x
    → names_changed (take i changes) ++ name ∷ [] ≡ names_changed (take (i + 1) changes)
names_more changes i x name within is named =
    ap (λ (n : List ℕ). names_changed (take i changes) ++ n ∷ []) (named ∙ ap name_of is) ∙ sym (map_more name_of changes i x within)

pub troves_more : (list : List TroveParts) (names : List (List ℕ)) (i : ℕ) (x : List ℕ) → i < length names → x ≡ get_or names i x
    → troves_named list (take i names) ++ option_to_list (trove_of x list) ≡ troves_named list (take (i + 1) names)
troves_more list names i x within is =
    flat_map_more (λ (name : List ℕ). option_to_list (trove_of name list)) [] (take i names) x
    ∙ ap (troves_named list) (sym (take_more names i x within ∙ ap (λ (y : List ℕ). take i names ++ y ∷ []) (sym is)))

-- ---- what the list has of some names

module _ (troves : List ℕ → Option TroveParts) (named : (name : List ℕ) (t : TroveParts) → troves name ≡ Some t → t.id.name ≡ name) where
  other_one : (n : List ℕ) (names : List (List ℕ)) (name : List ℕ) (t : TroveParts) → trove_of name (listed troves names) ≡ cond (list_any (bytes_eq name) names) (troves name) None
      → troves n ≡ Some t → bytes_eq name n ≡ false → (b : Bool) → bytes_eq t.id.name name ≡ b
      → trove_of name (t ∷ listed troves names) ≡ cond (list_any (bytes_eq name) names) (troves name) None
  other_one n names name t rest is other true own = absurd (true≢false (sym ((bytes_decides name n).1 (sym (bytes_mean t.id.name name own) ∙ named n t is)) ∙ other))
  other_one n names name t rest is other false apart = found_other t (listed troves names) name apart ∙ rest

  one_more : (n : List ℕ) (names : List (List ℕ)) (name : List ℕ) → trove_of name (listed troves names) ≡ cond (list_any (bytes_eq name) names) (troves name) None
      → (o : Option TroveParts) (b : Bool) → troves n ≡ o → bytes_eq name n ≡ b
      → trove_of name (option_to_list o ++ listed troves names) ≡ cond (b || list_any (bytes_eq name) names) (troves name) None
  one_more n names name rest None true is equal = rest ∙ either troves named (list_any (bytes_eq name) names) (troves name) (ap troves (bytes_mean name n equal) ∙ is)
  one_more n names name rest None false is equal = rest
  one_more n names name rest (Some t) true is equal =
      let own : t.id.name ≡ name = named n t is ∙ sym (bytes_mean name n equal) in
      ap (λ (m : List ℕ). trove_of m (t ∷ listed troves names)) (sym own) ∙ found_first t (listed troves names) ∙ sym is ∙ ap troves (sym (bytes_mean name n equal))
  one_more n names name rest (Some t) false is equal = other_one n names name t rest is equal (bytes_eq t.id.name name) refl

  -- a name finds its trove exactly where it is one of the names
  found_among : (names : List (List ℕ)) (name : List ℕ) → trove_of name (listed troves names) ≡ cond (list_any (bytes_eq name) names) (troves name) None
  found_among [] name = refl
  found_among (n ∷ names) name = one_more n names name (found_among names name) (troves n) (bytes_eq name n) refl refl

-- ---- the names of changes

above : (name : List ℕ) (changes : List Change) → AllByRecursion (λ (c : Change). slice_cmp nat_cmp name (name_of c) ≡ Less) changes
    → AllByRecursion (λ (n : List ℕ). slice_cmp nat_cmp name n ≡ Less) (names_changed changes)
above name [] all = tt
above name (c ∷ changes) all = (all.0, above name changes all.1)

pub names_rise : (changes : List Change) → IsStrictlySortedBy by_change changes → IsStrictlySortedBy (slice_cmp nat_cmp) (names_changed changes)
unfolding IsStrictlySortedBy
names_rise [] sorted = tt
names_rise (c ∷ changes) sorted = (above (name_of c) changes sorted.0, names_rise changes sorted.1)

any_named : (changes : List Change) (name : List ℕ) (c : Change) → Contains changes c → name_of c ≡ name → list_any (bytes_eq name) (names_changed changes) ≡ true
any_named [] name c among named = absurd (nothing_in c among)
any_named (d ∷ changes) name c among named = ⊎_elim
    (λ here. ap (λ (b : Bool). b || list_any (bytes_eq name) (names_changed changes)) ((bytes_decides name (name_of d)).1 (sym named ∙ ap name_of (sym here))))
    (λ later. or_true (bytes_eq name (name_of d)) (list_any (bytes_eq name) (names_changed changes)) (any_named changes name c later named))
    (first_or_later d c changes among)

pub come_rises : (before list : List TroveParts) (changes : List Change) → AreChanges before list changes → IsRising (troves_named list (names_changed changes))
come_rises before list changes are = listed_rises (λ (name : List ℕ). trove_of name list) (is_named list) (names_changed changes) (names_rise changes are.rising)

-- ---- the one list to which the changes lead

or_none : (o : Option TroveParts) → o ≡ or_else o None
or_none None = refl
or_none (Some t) = refl

-- no two troves have one stream
abbrev pub AreDistinct : Type 0
AreDistinct = (one other : Encoding) (a b : TroveParts) → IsTrove a → IsTrove b → stream_bytes one a ≡ stream_bytes other b → a ≡ b

module _ (distinct : AreDistinct) (before list : List TroveParts) (changes : List Change) (are : AreChanges before list changes) (olds : All IsTrove before) (news : All IsTrove list) where
  module _ (name : List ℕ) (other : list_any (bytes_eq name) (names_changed changes) ≡ false) where
    never : (c : Change) → name_of c ≡ name → IsChange before list c → ⊥
    never c named is = true≢false (sym (any_named changes name c (are.all c is) named) ∙ other)

    installed : (t : TroveParts) → trove_of name list ≡ Some t → trove_of name before ≡ None → ⊥
    installed t is was =
        let named : t.id.name ≡ name = is_named list name t is in
        never (Installed t.id) named (inr (t, is_there list name t is, inl (subst (λ (n : List ℕ). IsNameless n before) (sym named) (nameless_from before name was), refl)))

    erased : (u : TroveParts) → trove_of name list ≡ None → trove_of name before ≡ Some u → ⊥
    erased u is was =
        let named : u.id.name ≡ name = is_named before name u was in
        never (Erased u.id) named (inl (u, is_there before name u was, record { none = subst (λ (n : List ℕ). IsNameless n list) (sym named) (nameless_from list name is); change_is = refl }))

    updated : (t u : TroveParts) → trove_of name list ≡ Some t → trove_of name before ≡ Some u → (b : Bool) → bytes_eq (trove_bytes u) (trove_bytes t) ≡ b → t ≡ u
    updated t u is was true equal =
        sym (distinct Compact Compact u t (All-contains IsTrove before u olds (is_there before name u was)) (All-contains IsTrove list t news (is_there list name t is)) (bytes_mean (trove_bytes u) (trove_bytes t) equal))
    updated t u is was false apart = absurd (never (Updated t.id) (is_named list name t is) (inr (
      t,
      is_there list name t is,
      inr (
        record {
          was = u;
          there = is_there before name u was;
          same_name = is_named before name u was ∙ sym (is_named list name t is);
          differs = λ same. true≢false (sym ((bytes_decides (trove_bytes u) (trove_bytes t)).1 (ap trove_bytes same)) ∙ apart);
        },
        refl,
      ),
    )))

    -- a name without a change finds what it found
    stays : (o p : Option TroveParts) → trove_of name list ≡ o → trove_of name before ≡ p → o ≡ p
    stays None None is was = refl
    stays (Some t) None is was = absurd (installed t is was)
    stays None (Some u) is was = absurd (erased u is was)
    stays (Some t) (Some u) is was = ap (λ (v : TroveParts). Some v) (updated t u is was (bytes_eq (trove_bytes u) (trove_bytes t)) refl)

  after : (name : List ℕ) (b : Bool) → list_any (bytes_eq name) (names_changed changes) ≡ b
      → trove_of name list ≡ or_else (cond b (trove_of name list) None) (cond b None (trove_of name before))
  after name true is = or_none (trove_of name list)
  after name false is = stays name is (trove_of name list) (trove_of name before) refl refl

  each_name : (name : List ℕ) → trove_of name list ≡ trove_after (names_changed changes) (troves_named list (names_changed changes)) before name
  each_name name =
      let any = list_any (bytes_eq name) (names_changed changes) in
      after name any refl
      ∙ ap (λ (o : Option TroveParts). or_else o (cond any None (trove_of name before))) (sym (found_among (λ (n : List ℕ). trove_of n list) (is_named list) (names_changed changes) name))

  changed_list : IsRising list → IsChanged (names_changed changes) (troves_named list (names_changed changes)) before list
  changed_list rises = record { rising = rises; each = each_name }

  pub changed_so : IsRising list → (gone : List (List ℕ)) (come old : List TroveParts) → gone ≡ names_changed changes → come ≡ troves_named list (names_changed changes) → old ≡ before → IsChanged gone come old list
  changed_so rises gone come old gone_is come_is old_is =
      subst (λ (l : List TroveParts). IsChanged gone come l list) (sym old_is)
      (subst (λ (l : List TroveParts). IsChanged gone l before list) (sym come_is) (subst (λ (l : List (List ℕ)). IsChanged l (troves_named list (names_changed changes)) before list) (sym gone_is) (changed_list rises)))

-- ---- what is answered of a changed list

-- a change leads to one list
abbrev pub IsOneChanged : Type 0
IsOneChanged = (gone : List (List ℕ)) (come old new other : List TroveParts) → IsChanged gone come old new → IsChanged gone come old other → new ≡ other

module _ (one : IsOneChanged) (gone : List (List ℕ)) (come old list : List TroveParts) (changed : IsChanged gone come old list) where
  pub closed_after : {T : Type 0} (r : Result T Fault) (new : List TroveParts) → OnOk r (IsChanged gone come old new) → OnOk r (IsClosed new) → OnOk r (IsClosed list)
  closed_after (Ok x) new made closed = subst IsClosed (one gone come old new list made changed) closed
  closed_after (Err e) new made closed = tt

  refused : (e : Fault) → RefusesChange gone come old e → IsUnmetOrMemory list e
  refused (Refused why) is = subst (λ (l : List TroveParts). IsUnmetOrMemory l (Refused why)) (one gone come old is.0 list is.1 changed) is.2
  refused Memory is = tt

  pub unmet_after : {T : Type 0} (r : Result T Fault) → IfErr r (RefusesChange gone come old) → IfErr r (IsUnmetOrMemory list)
  unmet_after (Ok x) is = tt
  unmet_after (Err e) is = refused e is
