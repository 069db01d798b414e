-- The changes between two lists, by the ids of the troves that differ.
use Rattle.std.proofs.Common.{◌≡◌, ◌≢◌, ℕ, ⊎_elim, inl, inr, Bool, true, false, cond, true≢false, List, [], ◌∷◌, Contains, Option, Some, None, refl, sym, ap, subst, ◌∙◌}
use Rattle.std.specs.BTreeMap.{IsOrdered, values, is_at}
use Rattle.std.specs.Cmp.Lexicographic.{slice_cmp, nat_list_cmp_total}
use Rattle.std.specs.Ordering.{nat_cmp}
use Rattle.std.specs.Str.{bytes_eq}
use Rattle.std.proofs.lemmas.List.Elements.{All-contains}
use Rattle.std.proofs.lemmas.Map.Entries.{place_from_lookup, btree_map_get_place}
use Rattle.std.proofs.lemmas.Option.{same_Some, none-some}
use Rattle.std.proofs.lemmas.Slice.Eq.{bytes_eq-Decides}
use Rattle.cli_call.specs.trove-parts.declared.id.TroveId.{TroveId}
use Rattle.cli_call.specs.trove-stream.declared.parts.TroveParts.{TroveParts}
use Rattle.cli_call.specs.trove-stream.Installed.{IsNameless, IsRising, trove_of}
use Rattle.cli_call.proofs.trove-stream.Places.{missed}
use Rattle.cli_call.specs.past-jobs.Past.{AreChangedIds, IsChanged}
use Rattle.cli_call.proofs.job-record.Keyed.{found_is}
use Rattle.update_job.specs.declared.comparing.Change.{Change}
use Rattle.update_job.specs.declared.comparing.Change.TheVariants.{Installed, Updated, Erased}
use Rattle.update_job.specs.Changes.{name_of, AreChanges, IsChange, IsLost, IsReplaced, Noted, noted}
use Rattle.update_job.proofs.Noting.{nameless_from, HasNames, rises_by, value_at, value_place}
use Rattle.root_commands.specs.Noting.{id_by_name, turned}
use Rattle.local_db.proofs.trove-stream.Names.{contained, is_named, is_there}
use Rattle.local_db.proofs.cny-base.Lists.{contains_at, nothing_in, place_in, contains_cases}

-- ---- the list of a map

-- ---- ids of the troves that differ

none_with : (ids : List TroveId) (name : List ℕ) (id : TroveId) → id_by_name name ids ≡ None → Contains ids id → id.name ≡ name → ⊥
none_with [] name id none among named = nothing_in id among
none_with (x ∷ ids) name id none among named = at (bytes_eq x.name name) refl none (none_with ids name id)
  where
    at : (b : Bool) → bytes_eq x.name name ≡ b → cond b (Some x) (id_by_name name ids) ≡ None → (id_by_name name ids ≡ None → Contains ids id → id.name ≡ name → ⊥) → ⊥
    at true here is rest = none-some x (sym is)
    at false off is rest = ⊎_elim
        (λ first. true≢false (sym ((bytes_eq-Decides x.name name).1 (ap (λ (i : TroveId). i.name) first ∙ named)) ∙ off))
        (λ later. rest is later named)
        (contains_cases x id ids among)

-- the id of this name is that of a trove of the list, which the other list doesn't have so
record IsHere (list other : List TroveParts) (name : List ℕ) (id : TroveId) : Type 0 where
  trove : TroveParts
  there : trove_of name list ≡ Some trove
  is : trove.id ≡ id
  differs : trove_of name list ≢ trove_of name other

module _ (list other : List TroveParts) (ids : List TroveId) (are : AreChangedIds list other ids) (name : List ℕ) where
  here : (id : TroveId) → id_by_name name ids ≡ Some id → IsHere list other name id
  here id some =
      let found = found_is (λ (i : TroveId). i.name) ids name id some in
      let their = All-contains (λ (i : TroveId). (t : TroveParts) × (trove_of i.name list ≡ Some t) × (t.id ≡ i)) ids id are.theirs found.0 in
      let changed = All-contains (λ (i : TroveId). IsChanged i.name list other) ids id are.changed found.0 in
      record {
        trove = their.0;
        there = ap (λ (n : List ℕ). trove_of n list) (sym found.1) ∙ their.1;
        is = their.2;
        differs = subst (λ (n : List ℕ). trove_of n list ≢ trove_of n other) found.1 changed.differs;
      }

  none_here : id_by_name name ids ≡ None → trove_of name list ≢ trove_of name other → trove_of name list ≡ None
  none_here none differs = at (trove_of name list) refl
    where
      at : (o : Option TroveParts) → trove_of name list ≡ o → trove_of name list ≡ None
      at None is = is
      at (Some t) is =
          let named = is_named list name t is in
          let changed = subst (λ (n : List ℕ). trove_of n list ≢ trove_of n other) (sym named) differs in
          absurd (none_with ids name t.id none (are.all t (is_there list name t is) (record { differs = changed })) named)

  some_here : (t : TroveParts) → trove_of name list ≡ Some t → trove_of name list ≢ trove_of name other → id_by_name name ids ≡ Some t.id
  some_here t there differs = at (id_by_name name ids) refl
    where
      at : (o : Option TroveId) → id_by_name name ids ≡ o → id_by_name name ids ≡ Some t.id
      at None is = absurd (none-some t (sym (none_here is differs) ∙ there))
      at (Some id) is =
          let found = here id is in
          is ∙ ap (λ (i : TroveId). Some i) (sym found.is) ∙ ap (λ (u : TroveParts). Some u.id) (same_Some found.trove t (sym found.there ∙ there))

  not_here : trove_of name list ≡ None → id_by_name name ids ≡ None
  not_here none = at (id_by_name name ids) refl
    where
      at : (o : Option TroveId) → id_by_name name ids ≡ o → id_by_name name ids ≡ None
      at None is = is
      at (Some id) is = let found = here id is in absurd (none-some found.trove (sym none ∙ found.there))

-- ---- all changes

abbrev Is : (before after : List TroveParts) (name : List ℕ) (c : Change) → Type 0
Is before after name c = IsChange before after c × (name_of c ≡ name)

module _ (m : Noted) (ordered : IsOrdered (slice_cmp nat_cmp) m) (was now : List TroveId) (noted_is : (name : List ℕ) → noted m name ≡ turned true (id_by_name name now) (turned false (id_by_name name was) None))
    (before after : List TroveParts) (rising : IsRising before) (after_rising : IsRising after) (were : AreChangedIds before after was) (are : AreChangedIds after before now) where
  module _ (name : List ℕ) (c : Change) where
    lost : (w : TroveId) → id_by_name name was ≡ Some w → id_by_name name now ≡ None → Erased w ≡ c → Is before after name c
    lost w first none is =
        let old = here before after was were name w first in
        let named = is_named before name old.trove old.there in
        let gone = none_here after before now are name none (λ same. old.differs (sym same)) in (
          inl (
            old.trove,
            is_there before name old.trove old.there,
            record {
              none = subst (λ (n : List ℕ). IsNameless n after) (sym named) (nameless_from after name gone);
              change_is = sym is ∙ ap (λ (i : TroveId). Erased i) (sym old.is);
            },
          ),
          ap name_of (sym is) ∙ ap (λ (i : TroveId). i.name) (sym old.is) ∙ named,
        )

    come : (n : TroveId) → id_by_name name was ≡ None → id_by_name name now ≡ Some n → Installed n ≡ c → Is before after name c
    come n none second is =
        let new = here after before now are name n second in
        let named = is_named after name new.trove new.there in
        let fresh = none_here before after was were name none (λ same. new.differs (sym same)) in (
          inr (
            new.trove,
            is_there after name new.trove new.there,
            inl (
              subst (λ (k : List ℕ). IsNameless k before) (sym named) (nameless_from before name fresh),
              sym is ∙ ap (λ (i : TroveId). Installed i) (sym new.is),
            ),
          ),
          ap name_of (sym is) ∙ ap (λ (i : TroveId). i.name) (sym new.is) ∙ named,
        )

    replaced : (w n : TroveId) → id_by_name name was ≡ Some w → id_by_name name now ≡ Some n → Updated n ≡ c → Is before after name c
    replaced w n first second is =
        let old = here before after was were name w first in
        let new = here after before now are name n second in
        let named = is_named after name new.trove new.there in (
          inr (
            new.trove,
            is_there after name new.trove new.there,
            inr (
              record {
                was = old.trove;
                there = is_there before name old.trove old.there;
                same_name = is_named before name old.trove old.there ∙ sym named;
                differs = λ same. old.differs (old.there ∙ ap (λ (t : TroveParts). Some t) same ∙ sym new.there);
              },
              sym is ∙ ap (λ (i : TroveId). Updated i) (sym new.is),
            ),
          ),
          ap name_of (sym is) ∙ ap (λ (i : TroveId). i.name) (sym new.is) ∙ named,
        )

    is_one : noted m name ≡ Some c → Is before after name c
    is_one some = at (id_by_name name was) (id_by_name name now) refl refl (sym (noted_is name) ∙ some)
      where
        at : (a b : Option TroveId) → id_by_name name was ≡ a → id_by_name name now ≡ b → turned true b (turned false a None) ≡ Some c → Is before after name c
        at None None first second is = absurd (none-some c is)
        at (Some w) None first second is = lost w first second (same_Some (Erased w) c is)
        at None (Some n) first second is = come n first second (same_Some (Installed n) c is)
        at (Some w) (Some n) first second is = replaced w n first second (same_Some (Updated n) c is)

  noted_as : (name : List ℕ) (a b : Option TroveId) → id_by_name name was ≡ a → id_by_name name now ≡ b → noted m name ≡ turned true b (turned false a None)
  noted_as name a b first second = noted_is name ∙ ap (λ (o : Option TroveId). turned true (id_by_name name now) (turned false o None)) first ∙ ap (λ (o : Option TroveId). turned true o (turned false a None)) second

  nothing_of : (list : List TroveParts) (name : List ℕ) (t : TroveParts) (other : Option TroveParts) → other ≡ Some t → trove_of name list ≡ None → other ≢ trove_of name list
  nothing_of list name t other some none same = none-some t (sym none ∙ sym same ∙ some)

  all_lost : (t : TroveParts) (c : Change) → Contains before t → IsLost after t c → noted m t.id.name ≡ Some c
  all_lost t c among is =
      let there = contained before rising t among in
      let none = missed after t.id.name is.none in
      let differs = nothing_of after t.id.name t (trove_of t.id.name before) there none in
      noted_as t.id.name (Some t.id) None (some_here before after was were t.id.name t there differs) (not_here after before now are t.id.name none) ∙ ap (λ (d : Change). Some d) (sym is.change_is)

  all_come : (t : TroveParts) (c : Change) → Contains after t → IsNameless t.id.name before → c ≡ Installed t.id → noted m t.id.name ≡ Some c
  all_come t c among nameless is =
      let there = contained after after_rising t among in
      let none = missed before t.id.name nameless in
      let differs = nothing_of before t.id.name t (trove_of t.id.name after) there none in
      noted_as t.id.name None (Some t.id) (not_here before after was were t.id.name none) (some_here after before now are t.id.name t there differs) ∙ ap (λ (d : Change). Some d) (sym is)

  all_replaced : (t : TroveParts) (c : Change) → Contains after t → IsReplaced before t → c ≡ Updated t.id → noted m t.id.name ≡ Some c
  all_replaced t c among old is =
      let there = contained after after_rising t among in
      let first : trove_of t.id.name before ≡ Some old.was = ap (λ (n : List ℕ). trove_of n before) (sym old.same_name) ∙ contained before rising old.was old.there in
      let differs : trove_of t.id.name before ≢ trove_of t.id.name after = λ same. old.differs (same_Some old.was t (sym first ∙ same ∙ there)) in
      noted_as t.id.name (Some old.was.id) (Some t.id) (some_here before after was were t.id.name old.was first differs) (some_here after before now are t.id.name t there (λ same. differs (sym same)))
      ∙ ap (λ (d : Change). Some d) (sym is)

  entries_named : HasNames m.entries
  entries_named i k c is = (is_one k c (btree_map_get_place nat_list_cmp_total m i k c ordered is)).1

  value_in : (name : List ℕ) (c : Change) → noted m name ≡ Some c → Contains (values m) c
  value_in name c some =
      let at = place_from_lookup (is_at (slice_cmp nat_cmp name)) m.entries c some in
      contains_at (values m) at.0 c (value_at m.entries at.0 at.1 c at.2)

  pub changes_between : AreChanges before after (values m)
  changes_between = record {
    rising = rises_by m.entries ordered entries_named;
    each = λ c among. (
        let at = place_in (values m) c among in
        let entry = value_place m.entries at.0 c at.2 in
        (is_one entry.0 c (btree_map_get_place nat_list_cmp_total m at.0 entry.0 c ordered entry.1)).0);
    all = λ c is. ⊎_elim
        (λ gone. value_in gone.0.id.name c (all_lost gone.0 c gone.1 gone.2))
        (λ fresh. value_in fresh.0.id.name c (⊎_elim
        (λ new. all_come fresh.0 c fresh.1 new.0 new.1)
        (λ old. all_replaced fresh.0 c fresh.1 old.0 old.1)
        fresh.2))
        is;
  }
