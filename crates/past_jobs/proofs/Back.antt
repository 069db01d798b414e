-- A list that is taken back, as its maps hold it.
use Rattle.std.proofs.Common.{◌≡◌, ℕ, ◌<◌, ◌≤◌, Bool, true, false, cond, List, map, length, Option, Some, None, is_some, All, Contains, refl, sym, ap, ◌∙◌, subst, arith}
use Rattle.std.specs.List.Sorted.{IsStrictlySortedBy}
use Rattle.std.proofs.lemmas.List.Elements.{All-contains}
use Rattle.std.proofs.lemmas.Option.{none-some}
use Rattle.local_db.specs.trove-stream.declared.parts.TroveParts.{TroveParts}
use Rattle.local_db.specs.trove-stream.Forbidden.{first_forbidden}
use Rattle.local_db.specs.trove-stream.Trove.{IsTrove}
use Rattle.local_db.specs.tree-disk.Tree.{Name}
use Rattle.local_db.specs.trove-stream.Installed.{IsRising, trove_of}
use Rattle.local_db.specs.declared.format.Format.{Format}
use Rattle.local_db.specs.Formats.{database_bytes, limit, TroveCanTell}
use Rattle.local_db.specs.Record as state
use Rattle.local_db.specs.Record.{delta_at, TakesBack}
use Rattle.local_db.specs.declared.record.Delta.{Delta}
use Rattle.local_db.specs.RecordText.{delta_of}
use Rattle.local_db.specs.RecordText as text
use Rattle.past_jobs.specs.Past.{IsPast, AreChangedIds}
use Rattle.past_jobs.specs.Table.{Marks, Troves, trove_at, troves_of, IsIndexed, IsHeld, IsSound, MayJoin, has_delta, AreMade, ids_at}
use Rattle.past_jobs.proofs.Maps.{found_in, rises_in, database_length}
use Rattle.past_jobs.proofs.Sound.{sound_part, joins_part}
use Rattle.past_jobs.proofs.PastDeltas.{TurnsAt, one_back, made_each, made_rises, taken_back, made_before, left_before, one_before}
use Rattle.past_jobs.proofs.ChangedIds.{ids_after, ids_before, turned_to, made_ids}
use Rattle.local_db.proofs.OneResult.{OneLed}
use Rattle.change_rel.proofs.trove-stream.Names.{contained, is_there}
use Rattle.change_rel.specs.trove-stream.Either.{or_else}
use Rattle.change_rel.proofs.cny-base.Lists.{all_from as all_of}

pub sound_held : (f : Format) (troves : Troves) (m : Marks) (len : ℕ) → IsHeld f troves m len → IsSound f (troves_of troves)
sound_held f troves m len held = record { installed = held.installed; told = held.fits.told }

pub sound_past : (f : Format) (us : List Delta) (after before : List TroveParts) → IsPast f us after before → IsSound f before
sound_past f us after before past = record { installed = past.list; told = past.fits.told }

module _ (f : Format) (old left : Troves) (m m1 : Marks) (len len1 : ℕ) (us : List Delta) (made : List TroveParts)
    (held : IsHeld f old m len) (rises : IsStrictlySortedBy text.by_name us) (left_is : IsIndexed f left m1 len1)
    (lefts : (name : Name) → trove_at left name ≡ cond (has_delta us name) None (trove_at old name)) (h : AreMade (troves_of old) us made) where
  old_found : (name : Name) → trove_at old name ≡ trove_of name (troves_of old)
  old_found name = found_in f old m len held.indexed name

  left_found : (t : TroveParts) → Contains (troves_of left) t → cond (has_delta us t.id.name) None (trove_of t.id.name (troves_of old)) ≡ Some t
  left_found t t_in =
      ap (cond (has_delta us t.id.name) None) (sym (old_found t.id.name)) ∙ sym (lefts t.id.name)
      ∙ found_in f left m1 len1 left_is t.id.name ∙ contained (troves_of left) (rises_in f left m1 len1 left_is) t t_in

  left_in_old : (t : TroveParts) → Contains (troves_of left) t → Contains (troves_of old) t
  left_in_old t t_in = at (has_delta us t.id.name) (left_found t t_in)
    where
      at : (b : Bool) → cond b None (trove_of t.id.name (troves_of old)) ≡ Some t → Contains (troves_of old) t
      at true e = absurd (none-some t e)
      at false e = is_there (troves_of old) t.id.name t e

  pub sound_left : IsSound f (troves_of left)
  sound_left = sound_part f (troves_of old) (troves_of left) (sound_held f old m len held) (rises_in f left m1 len1 left_is) left_in_old

  pub rising_made : IsRising made
  rising_made = made_rises (troves_of old) us made rises h

  pub absent_made : All (λ (t : TroveParts). trove_at left t.id.name ≡ None) made
  absent_made = all_of (λ (t : TroveParts). trove_at left t.id.name ≡ None) made
      (λ t t_in. at t (contained made rising_made t t_in) (delta_at (map delta_of us) t.id.name) refl (made_each (troves_of old) us made rises h t.id.name))
    where
      at : (t : TroveParts) → trove_of t.id.name made ≡ Some t → (d : Option state.Delta) → delta_at (map delta_of us) t.id.name ≡ d → TurnsAt (delta_at (map delta_of us) t.id.name) (trove_of t.id.name (troves_of old)) (trove_of t.id.name made) → trove_at left t.id.name ≡ None
      at t own None none turns = absurd (none-some t (sym (subst (λ (d : Option state.Delta). TurnsAt d (trove_of t.id.name (troves_of old)) (trove_of t.id.name made)) none turns) ∙ own))
      at t own (Some d) some turns = lefts t.id.name ∙ ap (λ (d : Option state.Delta). cond (is_some d) None (trove_at old t.id.name)) some

  pub all_made : OneLed → (before : List TroveParts) → TakesBack (map delta_of us) (troves_of old) before → All (Contains before) made
  all_made led before back = all_of (Contains before) made (made_before (troves_of old) us made rises h led before back)

  pub all_left : OneLed → (before : List TroveParts) → TakesBack (map delta_of us) (troves_of old) before → All (Contains before) (troves_of left)
  all_left led before back = all_of (Contains before) (troves_of left) (λ t t_in. left_before (troves_of old) us made rises h led before back t (left_found t t_in))

  module _ (new : Troves) (m2 : Marks) (len2 : ℕ) (new_is : IsIndexed f new m2 len2) (sound : IsSound f (troves_of new))
      (news : (name : Name) → trove_at new name ≡ or_else (trove_of name made) (trove_at left name)) where
    pub back_new : TakesBack (map delta_of us) (troves_of old) (troves_of new)
    back_new = taken_back (troves_of old) us made rises h (troves_of new)
        (λ name. sym (found_in f new m2 len2 new_is name) ∙ news name ∙ ap (or_else (trove_of name made)) (lefts name ∙ ap (cond (has_delta us name) None) (old_found name)))

    one_new : OneLed → (before : List TroveParts) → IsPast f us (troves_of old) before → troves_of new ≡ before
    one_new led before past = one_before led us (troves_of old) (troves_of new) before (rises_in f new m2 len2 new_is) past.list.rising back_new past.back

    counted : length (database_bytes f (troves_of new) 0 0) ≡ len2
    counted = database_length f (troves_of new) ∙ sym new_is.counted

    past_new : len2 ≤ limit f → IsPast f us (troves_of old) (troves_of new)
    past_new small = record { back = back_new; list = sound.installed; fits = record { told = sound.told; short = omega (arith, small, counted) } }

    held_new : len2 ≤ limit f → IsHeld f new m2 len2
    held_new small = record { indexed = new_is; installed = sound.installed; fits = (past_new small).fits }

    pub too_large : OneLed → limit f < len2 → (before : List TroveParts) → IsPast f us (troves_of old) before → ⊥
    too_large led large before past =
        let same : length (database_bytes f (troves_of new) 0 0) ≡ length (database_bytes f before 0 0) = ap (λ (l : List TroveParts). length (database_bytes f l 0 0)) (one_new led before past) in
        omega (arith, large, counted, same, past.fits.short)

    after_ids : AreChangedIds (troves_of old) (troves_of new) (ids_at (troves_of old) us)
    after_ids = ids_after us rises (troves_of old) (troves_of new) back_new held.installed.rising

    before_ids : OneLed → AreChangedIds (troves_of new) (troves_of old) (map (λ (t : TroveParts). t.id) made)
    before_ids led = subst (AreChangedIds (troves_of new) (troves_of old))
        (sym (made_ids (troves_of old) (troves_of new) us made h
        (λ u u_in b turn. one_back led (delta_of u) (trove_of (text.name_of u) (troves_of old)) (trove_of (text.name_of u) (troves_of new)) b (turned_to us rises (troves_of old) (troves_of new) back_new u u_in) turn)))
        (ids_before us rises (troves_of old) (troves_of new) back_new (rises_in f new m2 len2 new_is))

    -- the list before the job, where it isn't too large
    pub record IsBefore : Type 0 where
      pub is_held : IsHeld f new m2 len2
      pub past : IsPast f us (troves_of old) (troves_of new)
      pub only : (before : List TroveParts) → IsPast f us (troves_of old) before → troves_of new ≡ before
      pub before : AreChangedIds (troves_of new) (troves_of old) (map (λ (t : TroveParts). t.id) made)
      pub after : AreChangedIds (troves_of old) (troves_of new) (ids_at (troves_of old) us)

    pub list_before : OneLed → len2 ≤ limit f → IsBefore
    list_before led small = record { is_held = held_new small; past = past_new small; only = one_new led; before = before_ids led; after = after_ids }

-- a trove of a whole list may join some others of it
pub may_from : (f : Format) (whole : List TroveParts) (troves : Troves) (m : Marks) (len : ℕ) (t : TroveParts) → IsIndexed f troves m len → IsSound f whole → Contains whole t
    → ((u : TroveParts) → Contains (troves_of troves) u → Contains whole u) → trove_at troves t.id.name ≡ None → MayJoin f (troves_of troves) t
may_from f whole troves m len t indexed sound t_in within absent = record {
  trove = All-contains IsTrove whole t sound.installed.troves t_in;
  allowed = All-contains (λ (t : TroveParts). first_forbidden t.files ≡ None) whole t sound.installed.allowed t_in;
  told = All-contains (TroveCanTell f) whole t sound.told t_in;
  shares = joins_part f whole (troves_of troves) t sound t_in (λ u u_in. (
    within u u_in,
    λ names.
        none-some u (sym (ap (λ (n : Name). trove_of n (troves_of troves)) (sym names) ∙ sym (found_in f troves m len indexed t.id.name) ∙ absent)
        ∙ contained (troves_of troves) (rises_in f troves m len indexed) u u_in),
  ));
}
