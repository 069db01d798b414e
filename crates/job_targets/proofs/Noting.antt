-- Old contents that are noted one by one.
use Rattle.std.proofs.Common.{◌≡◌, ◌⊎◌, ⊎_elim, inl, inr, ℕ, ◌<◌, suc, Bool, true, false, cond, List, [], ◌∷◌, ◌++◌, length, take, drop, get_or, Option, Some, None, Result, Ok, Err, OnOk, refl, sym, ◌∙◌, ap, subst}
use Rattle.std.specs.Borrow.{Bor}
use Rattle.std.specs.BTreeMap.{get}
use Rattle.std.specs.Ordering.{nat_cmp}
use Rattle.std.specs.Cmp.Lexicographic.{slice_cmp}
use Rattle.std.proofs.lemmas.Bool.{false≢true}
use Rattle.local_db.specs.tree-disk.Laws.{same_means}
use Rattle.local_db.proofs.tree-disk.Laws.{same_itself}
use Rattle.local_db.specs.tree-disk.Tree.{same_name}
use Rattle.std.proofs.Math.Seq.{split_at}
use Rattle.std.proofs.lemmas.List.Elements.{Contains-append_left, Contains-push_cases, Contains-push}
use Rattle.sha1.specs.Sha1.{sha1}
use Rattle.local_db.specs.cny-base.declared.refusal.Fault.{Fault}
use Rattle.local_db.specs.cny-base.declared.refusal.Fault.TheVariants as fault
use Rattle.job_targets.specs.declared.entry.Entry.{Entry}
use Rattle.job_targets.specs.Agree.{bytes_of, IsOld, AllAgree, Collides, IsFirstCollision, IsCollisionOrMemory, Noted, AreNoted}
use Rattle.local_db.proofs.Apart.{none_some}
use Rattle.change_set.proofs.cny-base.OptionValues.{same_some as some_same}

-- ---- one entry more

module _ (es : List Entry) (entry : Entry) where
  pub old_more : (bytes : List ℕ) → IsOld es bytes → IsOld (es ++ entry ∷ []) bytes
  old_more bytes is = record { entry = is.entry; there = Contains-append_left es (entry ∷ []) is.entry is.there; was = is.was }

  pub old_here : (bytes : List ℕ) → bytes_of entry.was ≡ Some bytes → IsOld (es ++ entry ∷ []) bytes
  old_here bytes is = record { entry = entry; there = Contains-push es entry; was = is }

  pub old_cases : (bytes : List ℕ) → IsOld (es ++ entry ∷ []) bytes → IsOld es bytes ⊎ (bytes_of entry.was ≡ Some bytes)
  old_cases bytes is = ⊎_elim
      (λ there. inl (record { entry = is.entry; there = there; was = is.was }))
      (λ same. inr (ap (λ (e : Entry). bytes_of e.was) same ∙ is.was))
      (Contains-push_cases es entry is.entry is.there)

  -- nothing new
  pub same_noted : (noted : Noted) → AreNoted es noted → ((bytes : List ℕ) → IsOld (es ++ entry ∷ []) bytes → IsOld es bytes) → AreNoted (es ++ entry ∷ []) noted
  same_noted noted are back = record {
    some = λ name one is. let was = are.some name one is in (old_more one.now was.0, was.1);
    none = λ name is bytes old. are.none name is bytes (back bytes old);
  }

  pub same_agree : AllAgree es → ((bytes : List ℕ) → IsOld (es ++ entry ∷ []) bytes → IsOld es bytes) → AllAgree (es ++ entry ∷ [])
  same_agree agree back a b a_is b_is = agree a b (back a a_is) (back b b_is)

  pub no_bytes : bytes_of entry.was ≡ None → (bytes : List ℕ) → IsOld (es ++ entry ∷ []) bytes → IsOld es bytes
  no_bytes none bytes is = ⊎_elim (λ old. old) (λ some. absurd (none_some (bytes_of entry.was) bytes none some)) (old_cases bytes is)

  pub old_bytes : (own : List ℕ) → bytes_of entry.was ≡ Some own → IsOld es own → (bytes : List ℕ) → IsOld (es ++ entry ∷ []) bytes → IsOld es bytes
  old_bytes own was old bytes is = ⊎_elim (λ one. one) (λ some. subst (IsOld es) (some_same own bytes (sym was ∙ some)) old) (old_cases bytes is)

  -- a content of a new name
  module _ (own : List ℕ) (was : bytes_of entry.was ≡ Some own) (noted : Noted) (are : AreNoted es noted) (free : get (slice_cmp nat_cmp) noted (sha1 own) ≡ None) where
    pub new_agree : AllAgree es → AllAgree (es ++ entry ∷ [])
    new_agree agree a b a_is b_is same = ⊎_elim
        (λ old_a. ⊎_elim (λ old_b. agree a b old_a old_b same)
        (λ own_b. let b_own = some_same own b (sym was ∙ own_b) in
        absurd (are.none (sha1 own) free a old_a (same ∙ ap sha1 (sym b_own)))) (old_cases b b_is))
        (λ own_a. let a_own = some_same own a (sym was ∙ own_a) in
        ⊎_elim (λ old_b. absurd (are.none (sha1 own) free b old_b (sym same ∙ ap sha1 (sym a_own))))
        (λ own_b. sym a_own ∙ some_same own b (sym was ∙ own_b)) (old_cases b b_is)) (old_cases a a_is)

    pub new_noted : (more : Noted) (one : Bor (List ℕ)) → one.now ≡ own
        → ((q : List ℕ) → ((q ≡ sha1 own) × (get (slice_cmp nat_cmp) more q ≡ Some one)) ⊎ ((q ≡ sha1 own → ⊥) × (get (slice_cmp nat_cmp) more q ≡ get (slice_cmp nat_cmp) noted q)))
        → AreNoted (es ++ entry ∷ []) more
    new_noted more one one_is updates = record {
      some = λ name x is. ⊎_elim
          (λ here. let same : one ≡ x = some_same one x (sym here.1 ∙ is) in
          let x_own : own ≡ x.now = sym one_is ∙ ap (λ (y : Bor (List ℕ)). y.now) same in
          (old_here x.now (was ∙ ap Some x_own), ap sha1 (sym x_own) ∙ sym here.0))
          (λ other. let old = are.some name x (sym other.1 ∙ is) in (old_more x.now old.0, old.1)) (updates name);
      none = λ name is bytes old named. ⊎_elim
          (λ here. none_some (get (slice_cmp nat_cmp) more name) one is here.1)
          (λ other. ⊎_elim (λ was_old. are.none name (sym other.1 ∙ is) bytes was_old named)
          (λ own_is. other.0 (sym named ∙ ap sha1 (sym (some_same own bytes (sym was ∙ own_is))))) (old_cases bytes old)) (updates name);
    }

-- ---- refusals

pub collision_map : (P Q : List ℕ → ℕ → Type 0) (e : Fault) → ((name : List ℕ) (at : ℕ) → P name at → Q name at) → IsCollisionOrMemory P e → IsCollisionOrMemory Q e
collision_map P Q fault.Memory f is = tt
collision_map P Q (fault.Refused why) f is = (is.0, is.1, is.2, f is.0 is.1 is.3)

-- ---- entries so far

pub first_collision : (es : List Entry) (k : ℕ) (entry : Entry) (name : List ℕ) (at : ℕ) → k < length es → entry ≡ get_or es k entry → AllAgree (take k es) → Collides (take k es) entry name at
    → IsFirstCollision es name at
first_collision es k entry name at lt is agree collides = record {
  front = take k es;
  first = entry;
  rest = drop (suc k) es;
  split = split_at es k entry lt ∙ ap (λ (e : Entry). take k es ++ e ∷ drop (suc k) es) (sym is);
  agree = agree;
  collides = collides;
}

-- ---- answers handed on

pub on_ok_map : {T E : Type 0} (P Q : Type 0) (r : Result T E) → (P → Q) → OnOk r P → OnOk r Q
on_ok_map P Q (Ok x) f is = f is
on_ok_map P Q (Err e) f is = tt

pub updated_cases : {A : Type 0} (name q : List ℕ) (o : Option A) (one : A) (x : Option A) → o ≡ cond (same_name name q) (Some one) x
    → ((q ≡ name) × (o ≡ Some one)) ⊎ ((q ≡ name → ⊥) × (o ≡ x))
updated_cases name q o one x is = at (same_name name q) refl
  where
    at : (v : Bool) → same_name name q ≡ v → ((q ≡ name) × (o ≡ Some one)) ⊎ ((q ≡ name → ⊥) × (o ≡ x))
    at true same = inl (sym (same_means name q same), is ∙ ap (λ v. cond v (Some one) x) same)
    at false other = inr (λ same. absurd (false≢true (sym other ∙ ap (same_name name) same ∙ same_itself name)), is ∙ ap (λ v. cond v (Some one) x) other)
