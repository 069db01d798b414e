-- Edits of a list that is closed.
use Rattle.std.proofs.Common.{◌≡◌, ℕ, ◌<◌, Bool, true, false, cond, IsTrue, IsSome, List, length, get_or, take, Option, Some, None, is_some, String, All, Contains, refl, sym, ap, ◌∙◌, subst, inl, inr, ⊎_elim, arith}
use Rattle.std.specs.BTreeMap.{BTreeMap, IsOrdered, is_at, keys}
use Rattle.std.specs.BTreeSet.{BTreeSet}
use Rattle.std.specs.Cmp.Lexicographic.{slice_cmp}
use Rattle.std.specs.List.{list_any}
use Rattle.std.specs.Ordering.{nat_cmp}
use Rattle.std.specs.Str.{bytes_eq}
use Rattle.std.specs.declared.cmp.Ordering.TheVariants.{Less}
use Rattle.std.proofs.lemmas.List.{get_or-take, get_or_default, length-take-le}
use Rattle.std.proofs.lemmas.List.Elements.{All-contains, All-weaker, Contains-get_or}
use Rattle.std.proofs.lemmas.Map.Keys.{Less-from_sorted}
use Rattle.std.proofs.lemmas.Option.{slice_get-get_or}
use Rattle.trove_stream.specs.Installed.{by_name, IsRising, trove_of}
use Rattle.trove_stream.specs.cny-base.declared.refusal.Fault.{Fault}
use Rattle.trove_stream.specs.cny-base.declared.refusal.Fault.TheVariants.{Refused, Memory}
use Rattle.cny_dep.specs.Dep.{Dependency}
use Rattle.trove_stream.specs.declared.parts.TroveParts.{TroveParts}
use Rattle.dep_closure.specs.Closed.{provides_of, IsMet, IsClosed, HasAllMet, IsFirstUnmet, IsUnmetOrMemory}
use Rattle.dep_closure.specs.Changed.{trove_after, IsChanged, RefusesChange}
use Rattle.dep_closure.specs.Slots.{Slots, slot, slot_or, put_slot, held, held_after, listed, all_held, IsMetBy, IsClosedBy, IsFirstAt, IsUnmetAt, notes, IsNoted, AreNoted, IsKept, IsBefore, IsServedBefore, IsNoLoss, AreHarmless, IsPassed, IsFaulty}
use Rattle.dep_closure.proofs.Meeting.{as_good}
use Rattle.dep_closure.proofs.Names.{listed_rises, look_up, is_key}
use Rattle.dep_closure.proofs.Noted.{still_noted}
use Rattle.trove_stream.proofs.Names.{contained, is_named, is_there, one_list}
use Rattle.trove_stream.specs.Either.{or_else}

-- ---- closed by names, and as a list

module _ (list : List TroveParts) (rises : IsRising list) (troves : List ℕ → Option TroveParts) (found : (name : List ℕ) → trove_of name list ≡ troves name) where
  in_list : (require : Dependency) → IsMetBy troves require → IsMet list require
  in_list require m = record { trove = m.trove; there = is_there list m.name m.trove (found m.name ∙ m.there); by = m.by }

  by_names : (require : Dependency) → IsMet list require → IsMetBy troves require
  by_names require m = record { name = m.trove.id.name; trove = m.trove; there = sym (found m.trove.id.name) ∙ contained list rises m.trove m.there; by = m.by }

  held_at : (k : ℕ) (d : TroveParts) → k < length list → troves (get_or list k d).id.name ≡ Some (get_or list k d)
  held_at k d within = sym (found (get_or list k d).id.name) ∙ contained list rises (get_or list k d) (Contains-get_or list k d within)

  pub closed_listed : IsClosedBy troves → IsClosed list
  closed_listed closed = λ k d within.
      let t : TroveParts = get_or list k d in
      All-weaker (IsMetBy troves) (IsMet list) in_list t.requires_ (closed t.id.name t (held_at k d within))

  pub closed_by_names : IsClosed list → IsClosedBy troves
  closed_by_names closed = λ name t there.
      All-weaker (IsMet list) (IsMetBy troves) by_names t.requires_ (All-contains (HasAllMet list) list t closed (is_there list name t (found name ∙ there)))

  module _ (named : (name : List ℕ) (t : TroveParts) → troves name ≡ Some t → t.id.name ≡ name) (name : List ℕ) (served : (other : List ℕ) → IsServedBefore troves (Some name) other) where
    -- the troves before the place of the name have their requirements met
    met_before : (place : ℕ) (t : TroveParts) → place < length list → get_or list place t ≡ t → t.id.name ≡ name → All (HasAllMet list) (take place list)
    met_before place t within is own = λ k d below.
        let before : k < place = subst (λ (n : ℕ). k < n) (length-take-le place list (omega (arith, within))) below in
        let u : TroveParts = get_or list k d in
        let there : (get_or list place d).id.name ≡ name = ap (λ (v : TroveParts). v.id.name) (get_or_default list place d t within ∙ is) ∙ own in
        let less : slice_cmp nat_cmp u.id.name name ≡ Less = ap (slice_cmp nat_cmp u.id.name) (sym there) ∙ Less-from_sorted by_name list k place d rises before within in
        subst (HasAllMet list) (sym (get_or-take place list k d before))
        (All-weaker (IsMetBy troves) (IsMet list) in_list u.requires_
        (served u.id.name less u (held_at k d (omega (arith, before, within)))))

    pub first_listed : (trove : TroveParts) (require : Dependency) → IsFirstAt troves name trove require → IsFirstUnmet list trove require
    first_listed trove require at =
        let within : Contains list trove = is_there list name trove (found name ∙ at.there) in
        record {
          place = within.0;
          there = slice_get-get_or list within.0 trove within.1 ∙ ap (λ (t : TroveParts). Some t) within.2;
          met = met_before within.0 trove within.1 within.2 (named name trove at.there);
          first = record {
            number = at.first.number;
            there = at.first.there;
            met = All-weaker (IsMetBy troves) (IsMet list) in_list (take at.first.number trove.requires_) at.first.met;
            unmet = λ m. at.first.unmet (by_names require m);
          };
        }

    pub first_fault : (fault : Fault) → IsUnmetAt troves name fault → IsUnmetOrMemory list fault
    first_fault (Refused refusal) (trove, require, at, is) = (trove, require, first_listed trove require at, is)
    first_fault Memory unmet = tt

-- ---- harmless edits

module _ {Y : Type 0} (slots edits : Slots) (requirers providers : BTreeMap (String Y) (BTreeSet (List ℕ))) (known : Bool) (kept : IsKept slots requirers providers known) (is : IsTrue known) (bound : Option (List ℕ))
    (harmless : AreHarmless slots edits requirers bound) where
  -- a requirement of a trove before the bound that was met
  still_met : (name : List ℕ) (t : TroveParts) → held_after slots edits name ≡ Some t → IsBefore bound name → (k : ℕ) (d : Dependency) → k < length t.requires_
      → IsTrue (notes requirers (get_or t.requires_ k d).name name) → (m : IsMetBy (held slots) (get_or t.requires_ k d)) → (s : Option (Option TroveParts)) → slot edits m.name ≡ s
      → IsMetBy (held_after slots edits) (get_or t.requires_ k d)
  still_met name t there before k d within noted m None e = record {
    name = m.name;
    trove = m.trove;
    there = ap (λ (s : Option (Option TroveParts)). slot_or s (held slots m.name)) e ∙ m.there;
    by = m.by;
  }
  still_met name t there before k d within noted m (Some edit) e = ⊎_elim
      (λ met. as_good (held_after slots edits) m.by.provide (get_or t.requires_ k d) met m.by.satisfies)
      (λ served. served name (subst (λ (n : List ℕ). IsTrue (notes requirers n name)) (sym m.by.satisfies.name) noted) before t there k d within)
      (All-contains (IsNoLoss (held_after slots edits) requirers bound) (provides_of m.trove) m.by.provide ((harmless m.name (ap is_some e)).goes m.trove m.there) m.by.provided)

  served : (name : List ℕ) (t : TroveParts) → held_after slots edits name ≡ Some t → IsBefore bound name → (s : Option (Option TroveParts)) → slot edits name ≡ s → All (IsMetBy (held_after slots edits)) t.requires_
  served name t there before (Some edit) e = (harmless name (ap is_some e)).comes before t there
  served name t there before None e =
      let was : held slots name ≡ Some t = sym (ap (λ (s : Option (Option TroveParts)). slot_or s (held slots name)) e) ∙ there in
      λ k d within.
      let m : IsMetBy (held slots) (get_or t.requires_ k d) = kept.closed is name t was k d within in
      still_met name t there before k d within (kept.noted name t was k d within) m (slot edits m.name) refl

  pub served_before : (name : List ℕ) → IsServedBefore (held_after slots edits) bound name
  served_before name before t there = served name t there before (slot edits name) refl

-- ---- all troves

some_slot : (o : Option (Option TroveParts)) → IsSome (slot_or o None) → IsSome o
some_slot None h = absurd (cc)
some_slot (Some s) h = refl

some_either : (o p : Option (Option TroveParts)) → (IsSome o → IsSome p) → IsSome (slot_or o (slot_or p None)) → IsSome p
some_either None p made h = some_slot p h
some_either (Some s) p made h = made refl

pub held_rises : {Y : Type 0} (slots : Slots) (requirers providers : BTreeMap (String Y) (BTreeSet (List ℕ))) (known : Bool) → IsKept slots requirers providers known → IsRising (all_held slots)
held_rises slots requirers providers known kept = listed_rises (held slots) kept.provided.named (keys slots) kept.ordered

pub held_found : {Y : Type 0} (slots : Slots) (requirers providers : BTreeMap (String Y) (BTreeSet (List ℕ))) (known : Bool) → IsKept slots requirers providers known → (name : List ℕ) → trove_of name (all_held slots) ≡ held slots name
held_found slots requirers providers known kept name =
    look_up (held slots) kept.provided.named (keys slots) name (λ some. is_key (is_at (slice_cmp nat_cmp name)) slots.entries (some_slot (slot slots name) some))

-- a list that is held under the same names is the same
pub same_held : (list : List TroveParts) → IsRising list → {Y : Type 0} (slots : Slots) (requirers providers : BTreeMap (String Y) (BTreeSet (List ℕ))) (known : Bool) → IsKept slots requirers providers known
    → ((name : List ℕ) → trove_of name list ≡ held slots name) → all_held slots ≡ list
same_held list rises slots requirers providers known kept found =
    one_list (all_held slots) list (held_rises slots requirers providers known kept) rises (λ name. held_found slots requirers providers known kept name ∙ sym (found name))

-- ---- the changed list

after_is : (o : Option TroveParts) (b : Bool) (mine other : Option TroveParts) → mine ≡ other → slot_or (put_slot o (cond b (Some None) None)) mine ≡ or_else o (cond b None other)
after_is None true mine other e = refl
after_is None false mine other e = e
after_is (Some t) b mine other e = refl

-- what the edits of a change are
abbrev pub AreEdits : List (List ℕ) → List TroveParts → Slots → Type 0
AreEdits gone come edits = (name : List ℕ) → slot edits name ≡ put_slot (trove_of name come) (cond (list_any (bytes_eq name) gone) (Some None) None)

named_either : (gone : List (List ℕ)) (come old : List TroveParts) (name : List ℕ) (t : TroveParts) (o : Option TroveParts) (b : Bool) → trove_of name come ≡ o → or_else o (cond b None (trove_of name old)) ≡ Some t → t.id.name ≡ name
named_either gone come old name t None true is there = absurd (cc)
named_either gone come old name t None false is there = is_named old name t there
named_either gone come old name t (Some u) b is there = is_named come name t (is ∙ there)

module _ {Y : Type 0} (gone : List (List ℕ)) (come : List TroveParts) (slots edits : Slots) (requirers providers : BTreeMap (String Y) (BTreeSet (List ℕ))) (known : Bool)
    (kept : IsKept slots requirers providers known) (are : AreEdits gone come edits) where
  pub after_change : (name : List ℕ) → held_after slots edits name ≡ trove_after gone come (all_held slots) name
  after_change name =
      ap (λ (s : Option (Option TroveParts)). slot_or s (held slots name)) (are name)
      ∙ after_is (trove_of name come) (list_any (bytes_eq name) gone) (held slots name) (trove_of name (all_held slots)) (sym (held_found slots requirers providers known kept name))

  pub named_after : (name : List ℕ) (t : TroveParts) → held_after slots edits name ≡ Some t → t.id.name ≡ name
  named_after name t there =
      named_either gone come (all_held slots) name t (trove_of name come) (list_any (bytes_eq name) gone) refl (sym (after_change name) ∙ there)

  -- the list that the edits make, where each has a slot
  pub list_after : ((name : List ℕ) → IsSome (slot edits name) → IsSome (slot slots name)) → IsChanged gone come (all_held slots) (listed (held_after slots edits) (keys slots))
  list_after made = record {
    rising = listed_rises (held_after slots edits) named_after (keys slots) kept.ordered;
    each = λ name.
        look_up (held_after slots edits) named_after (keys slots) name (λ some. is_key (is_at (slice_cmp nat_cmp name)) slots.entries (some_either (slot edits name) (slot slots name) (made name) some))
        ∙ after_change name;
  }

  -- ---- what is noted of the troves after the change

  module _ (index : BTreeMap (String Y) (BTreeSet (List ℕ))) (deps : TroveParts → List Dependency) (before : (name : List ℕ) (t : TroveParts) → held slots name ≡ Some t → IsNoted index name (deps t))
      (coming : All (λ (t : TroveParts). IsNoted index t.id.name (deps t)) come) where
    noted_either : (name : List ℕ) (t : TroveParts) (o : Option TroveParts) (b : Bool) → trove_of name come ≡ o → or_else o (cond b None (trove_of name (all_held slots))) ≡ Some t → IsNoted index name (deps t)
    noted_either name t None true is there = absurd (cc)
    noted_either name t None false is there = before name t (sym (held_found slots requirers providers known kept name) ∙ there)
    noted_either name t (Some u) b is there =
        subst (λ (n : List ℕ). IsNoted index n (deps t)) (is_named come name t (is ∙ there)) (All-contains (λ (t : TroveParts). IsNoted index t.id.name (deps t)) come t coming (is_there come name t (is ∙ there)))

    noted_after : (name : List ℕ) (t : TroveParts) → held_after slots edits name ≡ Some t → IsNoted index name (deps t)
    noted_after name t there = noted_either name t (trove_of name come) (list_any (bytes_eq name) gone) refl (sym (after_change name) ∙ there)

  pub provided_after : All (λ (t : TroveParts). IsNoted providers t.id.name (provides_of t)) come → AreNoted (held_after slots edits) providers
  provided_after coming = record { named = named_after; noted = noted_after providers provides_of kept.provided.noted coming }

  -- ---- closed or not

  module _ (made : (name : List ℕ) → IsSome (slot edits name) → IsSome (slot slots name)) where
    found_after : (name : List ℕ) → trove_of name (listed (held_after slots edits) (keys slots)) ≡ held_after slots edits name
    found_after name = (list_after made).each name ∙ sym (after_change name)

    -- the edits make a closed list
    pub closed_passed : IsPassed slots edits requirers known → IsClosedBy (held_after slots edits)
    closed_passed (inl closed) = closed_by_names (listed (held_after slots edits) (keys slots)) (list_after made).rising (held_after slots edits) found_after closed
    closed_passed (inr (is, harmless)) = λ name. served_before slots edits requirers providers known kept is None harmless name tt

    -- the fault is that of the list which the edits make
    pub faulty : (fault : Fault) → IsFaulty slots edits requirers known fault → IsUnmetOrMemory (listed (held_after slots edits) (keys slots)) fault
    faulty fault (inl unmet) = unmet
    faulty fault (inr (is, (name, unmet, harmless))) =
        first_fault (listed (held_after slots edits) (keys slots)) (list_after made).rising (held_after slots edits) found_after named_after name
        (served_before slots edits requirers providers known kept is (Some name) harmless) fault unmet

  -- ---- slots in which the edits were made

  module _ (requiring : All (λ (t : TroveParts). IsNoted requirers t.id.name t.requires_) come) (coming : All (λ (t : TroveParts). IsNoted providers t.id.name (provides_of t)) come) (new : Slots)
      (ordered : IsOrdered (slice_cmp nat_cmp) new) (made : (name : List ℕ) → held new name ≡ held_after slots edits name)
      (has_slots : (name : List ℕ) → IsSome (slot edits name) → IsSome (slot slots name)) (passed : IsPassed slots edits requirers known) where
    pub kept_after : IsKept new requirers providers true
    kept_after = record {
      ordered = ordered;
      provided = record {
        named = λ name t there. named_after name t (sym (made name) ∙ there);
        noted = λ name t there. noted_after providers provides_of kept.provided.noted coming name t (sym (made name) ∙ there);
      };
      noted = λ name t there. noted_after requirers (λ (u : TroveParts). u.requires_) kept.noted requiring name t (sym (made name) ∙ there);
      closed = λ _ name t there.
          All-weaker (IsMetBy (held_after slots edits)) (IsMetBy (held new)) (λ require m. record { name = m.name; trove = m.trove; there = made m.name ∙ m.there; by = m.by }) t.requires_
          (closed_passed has_slots passed name t (sym (made name) ∙ there));
    }

    pub changed_after : IsChanged gone come (all_held slots) (all_held new)
    changed_after = record {
      rising = held_rises new requirers providers true kept_after;
      each = λ name. held_found new requirers providers true kept_after name ∙ made name ∙ after_change name;
    }

    pub closed_change : IsClosed (all_held new)
    closed_change = closed_listed (all_held new) (held_rises new requirers providers true kept_after) (held new) (held_found new requirers providers true kept_after) (kept_after.closed refl)

pub refuses : (gone : List (List ℕ)) (come old new : List TroveParts) (fault : Fault) → IsChanged gone come old new → IsUnmetOrMemory new fault → RefusesChange gone come old fault
refuses gone come old new (Refused refusal) changed unmet = (new, changed, unmet)
refuses gone come old new Memory changed unmet = tt

-- ---- slots of a list

pub held_of : (o : Option TroveParts) (s : Option (Option TroveParts)) → s ≡ None → slot_or (put_slot o s) None ≡ o
held_of None s is = ap (λ (p : Option (Option TroveParts)). slot_or p None) is
held_of (Some t) s is = refl

module _ {Y : Type 0} (list : List TroveParts) (slots : Slots) (found : (name : List ℕ) → held slots name ≡ trove_of name list) where
  noted_of : (index : BTreeMap (String Y) (BTreeSet (List ℕ))) (deps : TroveParts → List Dependency) → All (λ (t : TroveParts). IsNoted index t.id.name (deps t)) list
      → (name : List ℕ) (t : TroveParts) → held slots name ≡ Some t → IsNoted index name (deps t)
  noted_of index deps noted name t there =
      subst (λ (n : List ℕ). IsNoted index n (deps t)) (is_named list name t (sym (found name) ∙ there))
      (All-contains (λ (t : TroveParts). IsNoted index t.id.name (deps t)) list t noted (is_there list name t (sym (found name) ∙ there)))

  pub kept_of : (requirers providers : BTreeMap (String Y) (BTreeSet (List ℕ))) (known : Bool) → IsRising list → IsOrdered (slice_cmp nat_cmp) slots
      → All (λ (t : TroveParts). IsNoted requirers t.id.name t.requires_) list → All (λ (t : TroveParts). IsNoted providers t.id.name (provides_of t)) list → (IsTrue known → IsClosed list)
      → IsKept slots requirers providers known
  kept_of requirers providers known rises ordered requiring providing closed = record {
    ordered = ordered;
    provided = record {
      named = λ name t there. is_named list name t (sym (found name) ∙ there);
      noted = noted_of providers provides_of providing;
    };
    noted = noted_of requirers (λ (u : TroveParts). u.requires_) requiring;
    closed = λ is. closed_by_names list rises (held slots) (λ name. sym (found name)) (closed is);
  }

-- slots that hold the same, and indices that grew
module _ {Y : Type 0} (slots new : Slots) (requirers more providers others : BTreeMap (String Y) (BTreeSet (List ℕ))) (known : Bool) (kept : IsKept slots requirers providers known)
    (ordered : IsOrdered (slice_cmp nat_cmp) new) (alike : (name : List ℕ) → held new name ≡ held slots name)
    (requiring : (dep name : List ℕ) → IsTrue (notes requirers dep name) → IsTrue (notes more dep name))
    (providing : (dep name : List ℕ) → IsTrue (notes providers dep name) → IsTrue (notes others dep name)) where
  pub still_kept : IsKept new more others known
  still_kept = record {
    ordered = ordered;
    provided = record {
      named = λ name t there. kept.provided.named name t (sym (alike name) ∙ there);
      noted = λ name t there. still_noted providers others providing name (provides_of t) (kept.provided.noted name t (sym (alike name) ∙ there));
    };
    noted = λ name t there. still_noted requirers more requiring name t.requires_ (kept.noted name t (sym (alike name) ∙ there));
    closed = λ is name t there.
        All-weaker (IsMetBy (held slots)) (IsMetBy (held new)) (λ require m. record { name = m.name; trove = m.trove; there = alike m.name ∙ m.there; by = m.by }) t.requires_
        (kept.closed is name t (sym (alike name) ∙ there));
  }

  pub still_held : all_held new ≡ all_held slots
  still_held =
      same_held (all_held slots) (held_rises slots requirers providers known kept) new more others known still_kept
      (λ name. held_found slots requirers providers known kept name ∙ sym (alike name))
