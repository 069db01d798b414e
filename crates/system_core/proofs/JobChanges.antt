-- The names that a job changes, by the changes from one list to the other.
use Rattle.std.proofs.Common.{◌≡◌, ⊎_elim, inl, inr, Bool, true, false, ◌||◌, List, [], ◌∷◌, IsTrue, Option, Some, None, Contains, refl, sym, ◌∙◌, ap, subst}
use Rattle.std.specs.Prelude.{◌≢◌}
use Rattle.std.specs.Str.{bytes_eq}
use Rattle.std.proofs.lemmas.Bool.{cases_Bool, false≢true}
use Rattle.std.proofs.lemmas.Slice.Eq.{bytes_eq-Decides}
use Rattle.std.proofs.lemmas.List.Elements.{All-contains}
use Rattle.rollback_stack.specs.cny-stream.declared.encoding.Encoding.TheVariants.{Explicit}
use Rattle.rollback_stack.specs.trove-stream.Installed.{trove_of}
use Rattle.rollback_stack.proofs.trove-stream.Places.{found, missed}
use Rattle.rollback_stack.specs.trove-stream.declared.parts.TroveParts.{TroveParts}
use Rattle.rollback_stack.specs.trove-stream.Stream.{stream_bytes}
use Rattle.rollback_stack.specs.trove-stream.Trove.{IsTrove}
use Rattle.rollback_stack.specs.journal-log.declared.put.Put.{Put}
use Rattle.rollback_stack.specs.tree-disk.Tree.{Name, same_name}
use Rattle.rollback_stack.specs.tree-disk.Laws.{same_means}
use Rattle.rollback_stack.proofs.tree-disk.Laws.{same_itself}
use Rattle.update_job.specs.declared.comparing.Change.{Change}
use Rattle.update_job.specs.declared.comparing.Change.TheVariants.{Installed, Updated, Erased}
use Rattle.update_job.specs.Changes.{name_of, AreChanges, IsChange, IsFresh, IsLost}
use Rattle.update_job.proofs.Noting.{found_in, nameless_from}
use Rattle.local_db.specs.Installed.{IsInstalled}
use Rattle.local_db.specs.SystemState.{is_listed}
use Rattle.rollback_stack.specs.job-record.Changed.{AreChangedNames}
use Rattle.system_core.specs.Changing.{names_changed}
use Rattle.system_core.proofs.ListChanges.{AreDistinct, names_rise}
use Rattle.local_db.proofs.trove-stream.Names.{one_list}
use Rattle.local_db.proofs.cny-base.Lists.{contains_cases, contains_first, contains_rest, nothing_in}
use Rattle.local_db.proofs.Sorted.{in_listed as listed_from, listed_in as listed_is}
use Rattle.local_db.proofs.cny-base.Bools.{or_left, or_right}
use Rattle.local_db.proofs.cny-base.OptionValues.{same_some as some_same}

-- ---- the names of the changes

pub record ChangeOf (changes : List Change) (name : Name) : Type 0 where
  pub change : Change
  pub there : Contains changes change
  pub named : name_of change ≡ name

listed : (changes : List Change) (name : Name) → is_listed (names_changed changes) name ≡ true → ChangeOf changes name
listed [] name is = absurd (cc is)
listed (c ∷ changes) name is = by (same_name name (name_of c)) refl (listed changes name)
  where
    by : (b : Bool) → same_name name (name_of c) ≡ b → (is_listed (names_changed changes) name ≡ true → ChangeOf changes name) → ChangeOf (c ∷ changes) name
    by true here rest = record { change = c; there = contains_first c changes; named = sym (same_means name (name_of c) here) }
    by false other rest =
        let more = rest (sym (ap (λ (b : Bool). b || is_listed (names_changed changes) name) other) ∙ is) in
        record { change = more.change; there = contains_rest c more.change changes more.there; named = more.named }

is_listed-from : (changes : List Change) (c : Change) → Contains changes c → is_listed (names_changed changes) (name_of c) ≡ true
is_listed-from [] c in' = absurd (nothing_in c in')
is_listed-from (d ∷ changes) c in' = ⊎_elim
    (λ (same : d ≡ c). or_left (same_name (name_of c) (name_of d)) _ (ap (λ (e : Change). same_name (name_of c) (name_of e)) same ∙ same_itself (name_of c)))
    (λ (later : Contains changes c). or_right (same_name (name_of c) (name_of d)) _ (is_listed-from changes c later))
    (contains_cases d c changes in')

-- ---- what changes

module _ (distinct : AreDistinct) (before after : List TroveParts) (was : IsInstalled before) (now : IsInstalled after) (changes : List Change) (are : AreChanges before after changes) where
  lost_differs : (t : TroveParts) (c : Change) → Contains before t → IsLost after t c → trove_of (name_of c) before ≢ trove_of (name_of c) after
  lost_differs t c in' lost same =
      let at : name_of c ≡ t.id.name = ap name_of lost.change_is in
      let there : trove_of (name_of c) before ≡ Some t = found before was.rising t in' (name_of c) (sym at) in
      let gone : trove_of (name_of c) after ≡ None = ap (λ (n : Name). trove_of n after) at ∙ missed after t.id.name lost.none in
      absurd (cc (there, gone, same))

  fresh_differs : (t : TroveParts) (c : Change) → Contains after t → IsFresh before t c → trove_of (name_of c) before ≢ trove_of (name_of c) after
  fresh_differs t c in' (inl come) same =
      let at : name_of c ≡ t.id.name = ap name_of come.1 in
      let there : trove_of (name_of c) after ≡ Some t = found after now.rising t in' (name_of c) (sym at) in
      let none : trove_of (name_of c) before ≡ None = ap (λ (n : Name). trove_of n before) at ∙ missed before t.id.name come.0 in
      absurd (cc (there, none, same))
  fresh_differs t c in' (inr other) same =
      let at : name_of c ≡ t.id.name = ap name_of other.1 in
      let there : trove_of (name_of c) after ≡ Some t = found after now.rising t in' (name_of c) (sym at) in
      let old : trove_of (name_of c) before ≡ Some other.0.was = found before was.rising other.0.was other.0.there (name_of c) (other.0.same_name ∙ sym at) in
      other.0.differs (some_same other.0.was t (sym old ∙ same ∙ there))

  change_differs : (c : Change) → Contains changes c → trove_of (name_of c) before ≢ trove_of (name_of c) after
  change_differs c in' = ⊎_elim
      (λ lost. lost_differs lost.0 c lost.1 lost.2)
      (λ fresh. fresh_differs fresh.0 c fresh.1 fresh.2)
      (are.each c in')

  pub differs_at : (name : Name) → is_listed (names_changed changes) name ≡ true → trove_of name before ≢ trove_of name after
  differs_at name is =
      let c = listed changes name is in
      subst (λ (n : Name). trove_of n before ≢ trove_of n after) c.named (change_differs c.change c.there)

  noted : (name : Name) (c : Change) → IsChange before after c → name_of c ≡ name → is_listed (names_changed changes) name ≡ true
  noted name c is named = ap (is_listed (names_changed changes)) (sym named) ∙ is_listed-from changes c (are.all c is)

  unlisted : {A : Type 0} (name : Name) (c : Change) → IsChange before after c → name_of c ≡ name → is_listed (names_changed changes) name ≡ false → A
  unlisted name c is named out = absurd (false≢true (sym out ∙ noted name c is named))

  same_troves : (name : Name) → is_listed (names_changed changes) name ≡ false → (t u : TroveParts) → trove_of name before ≡ Some t → trove_of name after ≡ Some u → t ≡ u
  same_troves name out t u t_is u_is =
      let there = found_in before name t t_is in
      let here = found_in after name u u_is in
      ⊎_elim
      (λ (one : bytes_eq (stream_bytes Explicit t) (stream_bytes Explicit u) ≡ true). distinct Explicit Explicit t u (All-contains IsTrove before t was.troves there.0) (All-contains IsTrove after u now.troves here.0)
      ((bytes_eq-Decides (stream_bytes Explicit t) (stream_bytes Explicit u)).0 one))
      (λ (other : bytes_eq (stream_bytes Explicit t) (stream_bytes Explicit u) ≡ false). unlisted name (Updated u.id)
      (inr (
        u,
        here.0,
        inr (
          record {
            was = t;
            there = there.0;
            same_name = there.1 ∙ sym here.1;
            differs = λ e. false≢true (sym other ∙ (bytes_eq-Decides (stream_bytes Explicit t) (stream_bytes Explicit u)).1 (ap (stream_bytes Explicit) e));
          },
          refl,
        ),
      ))
      here.1 out)
      (cases_Bool (bytes_eq (stream_bytes Explicit t) (stream_bytes Explicit u)))

  both_same : (name : Name) → is_listed (names_changed changes) name ≡ false → (a b : Option TroveParts) → trove_of name before ≡ a → trove_of name after ≡ b → a ≡ b
  both_same name out None None a_is b_is = refl
  both_same name out (Some t) None a_is b_is =
      let there = found_in before name t a_is in
      unlisted name (Erased t.id) (inl (t, there.0, record { none = λ u u_in u_is. nameless_from after name b_is u u_in (u_is ∙ there.1); change_is = refl })) there.1 out
  both_same name out None (Some u) a_is b_is =
      let here = found_in after name u b_is in
      unlisted name (Installed u.id) (inr (u, here.0, inl (λ t t_in t_is. nameless_from before name a_is t t_in (t_is ∙ here.1), refl))) here.1 out
  both_same name out (Some t) (Some u) a_is b_is = ap Some (same_troves name out t u a_is b_is)

  pub same_at : (name : Name) → is_listed (names_changed changes) name ≡ false → trove_of name before ≡ trove_of name after
  same_at name out = both_same name out (trove_of name before) (trove_of name after) refl refl

  pub changed_names : AreChangedNames before after (names_changed changes)
  changed_names = record {
    rising = names_rise changes are.rising;
    changed = λ name there. record { differs = differs_at name (listed_from (names_changed changes) name there) };
    others = λ name none. ⊎_elim
        (λ (is : is_listed (names_changed changes) name ≡ true). absurd (none (listed_is (names_changed changes) name is)))
        (λ (out : is_listed (names_changed changes) name ≡ false). same_at name out)
        (cases_Bool (is_listed (names_changed changes) name));
  }

  -- without a change the lists are one
  pub same_lists : changes ≡ [] → after ≡ before
  same_lists none = one_list after before now.rising was.rising (λ name. sym (same_at name (ap (λ (l : List Change). is_listed (names_changed l) name) none)))

  -- and where there is one they aren't
  pub other_lists : (c : Change) (rest : List Change) → changes ≡ c ∷ rest → after ≡ before → ⊥
  other_lists c rest is same = change_differs c (subst (λ (l : List Change). Contains l c) (sym is) (contains_first c rest)) (ap (trove_of (name_of c)) (sym same))

  -- so with a target or a change the job changes something
  pub something : (puts : List Put) (nothing : Bool) → (IsTrue nothing → (puts ≡ []) × (changes ≡ [])) → ((puts ≡ []) × (changes ≡ []) → IsTrue nothing) → nothing ≡ false → puts ≡ [] → after ≡ before → ⊥
  something puts nothing means from no' no_target same = by changes refl
    where
      by : (l : List Change) → changes ≡ l → ⊥
      by [] is = absurd (cc (no', from (no_target, is)))
      by (c ∷ rest) is = other_lists c rest is same
