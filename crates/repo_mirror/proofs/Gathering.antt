-- The missing troves, gathered commit by commit.
use Rattle.std.proofs.Common.{◌≡◌, ◌≢◌, ⊎_elim, ℕ, zero, suc, Bool, true, false, cond, not, List, [], ◌∷◌, ◌++◌, length, take, drop, min, filter, Contains, Some, None, Result, Ok, Err, IfOk, refl, sym, ap, ◌∙◌, subst, arith, append_assoc, append-nil}
use Rattle.std.proofs.lemmas.Grind.{flat_map-append}
use Rattle.std.proofs.lemmas.List.Elements.{filter-append, Contains-append_cases}
use Rattle.change_set.specs.cny-base.declared.refusal.Refusal.{Refusal}
use Rattle.change_set.specs.trove-parts.declared.id.TroveId.{TroveId}
use Rattle.change_set.specs.trove-stream.declared.parts.TroveParts.{TroveParts}
use Rattle.change_set.proofs.cny-base.Lists.{contains_cases, contains_first, contains_rest, nothing_in}
use Rattle.repo_index.specs.Catalogue.{AreCommitted}
use Rattle.repo_load.specs.State.{troves_of, Commit}
use Rattle.repo_mirror.specs.Missing.{commits_of, has_one_of, missing_of, too_much, AreMissing, IsTooMuch}
use Rattle.repo_mirror.proofs.Lengthening.{room_front}

-- ---- lists

pub troves-append : (a b : List Commit) → troves_of (a ++ b) ≡ troves_of a ++ troves_of b
troves-append a b = flat_map-append (λ (troves : Commit). troves) a b

pub missing-append : (ids : List TroveId) (a b : List TroveParts) → missing_of ids (a ++ b) ≡ missing_of ids a ++ missing_of ids b
missing-append ids a b = filter-append (λ (t : TroveParts). not (has_one_of ids t)) a b

-- the missing troves of commits and of those behind them
pub missing_behind : (ids : List TroveId) (a b : List Commit) → missing_of ids (troves_of (a ++ b)) ≡ missing_of ids (troves_of a) ++ missing_of ids (troves_of b)
missing_behind ids a b = ap (missing_of ids) (troves-append a b) ∙ missing-append ids (troves_of a) (troves_of b)

one_commit : (c : Commit) → troves_of (c ∷ []) ≡ c
one_commit c = append-nil c

-- and of one commit more
pub missing_push : (ids : List TroveId) (a : List Commit) (c : Commit) → missing_of ids (troves_of (a ++ c ∷ [])) ≡ missing_of ids (troves_of a) ++ missing_of ids c
missing_push ids a c = missing_behind ids a (c ∷ []) ∙ ap (λ (l : List TroveParts). missing_of ids (troves_of a) ++ missing_of ids l) (one_commit c)

-- ---- elements

contains_take : (n : ℕ) (xs : List TroveParts) (t : TroveParts) → Contains (take n xs) t → Contains xs t
contains_take zero xs t h = absurd (nothing_in t h)
contains_take (suc n) [] t h = absurd (nothing_in t h)
contains_take (suc n) (x ∷ xs) t h = ⊎_elim
    (λ same. subst (λ (u : TroveParts). Contains (x ∷ xs) u) same (contains_first x xs))
    (λ g. contains_rest x t xs (contains_take n xs t g))
    (contains_cases x t (take n xs) h)

contains_drop : (n : ℕ) (xs : List TroveParts) (t : TroveParts) → Contains (drop n xs) t → Contains xs t
contains_drop zero xs t h = h
contains_drop (suc n) [] t h = h
contains_drop (suc n) (x ∷ xs) t h = contains_rest x t xs (contains_drop n xs t h)

contains_filter : (p : TroveParts → Bool) (xs : List TroveParts) (t : TroveParts) → Contains (filter p xs) t → Contains xs t
contains_filter p [] t h = h
contains_filter p (x ∷ xs) t h = by (p x) h (contains_filter p xs t)
  where
    by : (b : Bool) → Contains (cond b (x ∷ filter p xs) (filter p xs)) t → (Contains (filter p xs) t → Contains xs t) → Contains (x ∷ xs) t
    by true h rest = ⊎_elim (λ same. subst (λ (u : TroveParts). Contains (x ∷ xs) u) same (contains_first x xs)) (λ g. contains_rest x t xs (rest g)) (contains_cases x t (filter p xs) h)
    by false h rest = contains_rest x t xs (rest h)

-- ---- the walk

-- The first commits are gathered, and these are the troves and the numbers of those that are left.
pub record Gathers (ids : List TroveId) (troves : List TroveParts) (counts : List ℕ) (rest : List TroveParts) (left : List ℕ) (sent : List TroveParts) : Type 0 where
  pub first : List Commit
  pub split : commits_of troves counts ≡ first ++ commits_of rest left
  pub are : sent ≡ missing_of ids (troves_of first)
  pub fit : too_much sent ≡ None
  pub committed : AreCommitted troves sent
  pub within : AreCommitted troves rest

pub begun : (ids : List TroveId) (troves : List TroveParts) (counts : List ℕ) (sent : List TroveParts) → sent ≡ [] → Gathers ids troves counts troves counts sent
begun ids troves counts sent none = record {
  first = [];
  split = refl;
  are = none;
  fit = ap too_much none;
  committed = λ t h. absurd (nothing_in t (subst (λ (l : List TroveParts). Contains l t) none h));
  within = λ t h. h;
}

-- all commits were gathered
pub gathered : (ids : List TroveId) (troves : List TroveParts) (counts : List ℕ) (rest : List TroveParts) (left : List ℕ) (sent : List TroveParts)
    → Gathers ids troves counts rest left sent → left ≡ [] → AreMissing ids (commits_of troves counts) sent
gathered ids troves counts rest left sent so_far none =
    let ends : commits_of rest left ≡ [] = ap (commits_of rest) none in
    let all : commits_of troves counts ≡ so_far.first = so_far.split ∙ ap (λ (l : List Commit). so_far.first ++ l) ends ∙ append-nil so_far.first in
    record {
      first = so_far.first;
      rest = [];
      split = all ∙ sym (append-nil so_far.first);
      are = so_far.are;
      fit = so_far.fit;
      longest = λ more after is some. absurd (some (no_more more after is));
      some = λ empty. ap (λ (l : List Commit). missing_of ids (troves_of l)) all ∙ sym so_far.are ∙ empty;
    }
  where
    no_more : (more after : List Commit) → [] ≡ more ++ after → more ≡ []
    no_more [] after is = refl
    no_more (c ∷ more) after is = absurd (cc is)

module _ (ids : List TroveId) (troves : List TroveParts) (counts : List ℕ) (rest : List TroveParts) (left : List ℕ) (sent : List TroveParts) (so_far : Gathers ids troves counts rest left sent)
    (count : ℕ) (behind : List ℕ) (next : left ≡ count ∷ behind) (commit after : List TroveParts) (commit_is : commit ≡ take count rest) (after_is : after ≡ drop count rest) (new : List TroveParts) (new_is : new ≡ sent ++ missing_of ids commit) where
  abbrev others : List Commit
  others = commits_of after behind

  next_commits : commits_of rest left ≡ commit ∷ others
  next_commits =
      ap (commits_of rest) next
      ∙ ap (λ (c : Commit). c ∷ commits_of (drop count rest) behind) (sym commit_is)
      ∙ ap (λ (l : List TroveParts). commit ∷ commits_of l behind) (sym after_is)

  whole : commits_of troves counts ≡ so_far.first ++ commit ∷ others
  whole = so_far.split ∙ ap (λ (l : List Commit). so_far.first ++ l) next_commits

  with_next : new ≡ missing_of ids (troves_of (so_far.first ++ commit ∷ []))
  with_next = new_is ∙ ap (λ (l : List TroveParts). l ++ missing_of ids commit) so_far.are ∙ sym (missing_push ids so_far.first commit)

  commit_within : AreCommitted troves commit
  commit_within = λ t h. so_far.within t (contains_take count rest t (subst (λ (l : List TroveParts). Contains l t) commit_is h))

  -- one commit more has room
  pub one_more : too_much new ≡ None → Gathers ids troves counts after behind new
  one_more fit = record {
    first = so_far.first ++ commit ∷ [];
    split = whole ∙ sym (append_assoc so_far.first (commit ∷ []) others);
    are = with_next;
    fit = fit;
    committed = λ t h. ⊎_elim
        (λ old. so_far.committed t old)
        (λ added. commit_within t (contains_filter (λ (u : TroveParts). not (has_one_of ids u)) commit t added))
        (Contains-append_cases sent (missing_of ids commit) t (subst (λ (l : List TroveParts). Contains l t) new_is h));
    within = λ t h. so_far.within t (contains_drop count rest t (subst (λ (l : List TroveParts). Contains l t) after_is h));
  }

  no_longer : (refusal : Refusal) → too_much new ≡ Some refusal → (more more_after : List Commit) → commit ∷ others ≡ more ++ more_after → more ≢ [] → too_much (missing_of ids (troves_of (so_far.first ++ more))) ≢ None
  no_longer refusal much [] more_after is some none = absurd (some refl)
  no_longer refusal much (c ∷ more) more_after is some none =
      let same : commit ≡ c = cc is in
      let longer : missing_of ids (troves_of (so_far.first ++ c ∷ more)) ≡ new ++ missing_of ids (troves_of more) =
      ap (λ (d : Commit). missing_of ids (troves_of (so_far.first ++ d ∷ more))) (sym same)
      ∙ ap (λ (l : List Commit). missing_of ids (troves_of l)) (sym (append_assoc so_far.first (commit ∷ []) more))
      ∙ missing_behind ids (so_far.first ++ commit ∷ []) more
      ∙ ap (λ (l : List TroveParts). l ++ missing_of ids (troves_of more)) (sym with_next) in
      let room : too_much new ≡ None = room_front new (missing_of ids (troves_of more)) (sym (ap too_much longer) ∙ none) in
      absurd (cc (much, room))

  -- one more hasn't, and those before it are sent
  pub stopped : (refusal : Refusal) → too_much new ≡ Some refusal → length sent ≢ 0 → AreMissing ids (commits_of troves counts) sent
  stopped refusal much some = record {
    first = so_far.first;
    rest = commit ∷ others;
    split = whole;
    are = so_far.are;
    fit = so_far.fit;
    longest = no_longer refusal much;
    some = λ none. absurd (some (ap length none));
  }

  -- or there are none before it
  pub refused : (refusal : Refusal) → too_much new ≡ Some refusal → length sent ≡ 0 → IsTooMuch ids (commits_of troves counts) refusal
  refused refusal much none = record {
    before = so_far.first;
    commit = commit;
    after = others;
    split = whole;
    none = sym so_far.are ∙ nothing sent none;
    refused = ap too_much (sym (new_is ∙ ap (λ (l : List TroveParts). l ++ missing_of ids commit) (nothing sent none))) ∙ much;
  }
    where
      nothing : (l : List TroveParts) → length l ≡ 0 → l ≡ []
      nothing [] e = refl
      nothing (t ∷ l) e = absurd (omega (arith, e))

-- ---- what is taken again

pub drop_min : (n : ℕ) (xs : List TroveParts) → drop (min n (length xs)) xs ≡ drop n xs
drop_min zero xs = let e : min zero (length xs) ≡ 0 = omega arith in ap (λ (k : ℕ). drop k xs) e
drop_min (suc n) [] = let e : min (suc n) 0 ≡ 0 = omega arith in ap (λ (k : ℕ). drop {A = TroveParts} k []) e
drop_min (suc n) (x ∷ xs) = let e : min (suc n) (suc (length xs)) ≡ suc (min n (length xs)) = omega arith in ap (λ (k : ℕ). drop k (x ∷ xs)) e ∙ drop_min n xs

front_taken : (a b : List TroveParts) → take (length a) (a ++ b) ≡ a
front_taken [] b = refl
front_taken (x ∷ a) b = ap (λ (l : List TroveParts). x ∷ l) (front_taken a b)

pub none_left : (left : List ℕ) → length left ≡ 0 → left ≡ []
none_left [] h = refl
none_left (n ∷ left) h = absurd (omega (arith, h))

-- the troves that were there before more came
pub before_more : (sent more new found : List TroveParts) (number : ℕ) → new ≡ sent ++ more → number ≡ length sent → found ≡ take number new → found ≡ sent
before_more sent more new found number new_is number_is found_is =
    found_is ∙ ap (λ (n : ℕ). take n new) number_is ∙ ap (take (length sent)) new_is ∙ front_taken sent more

-- a fact of the value of a result, by another two
pub both_ok : {X E : Type 0} (r : Result X E) (P Q R : X → Type 0) → IfOk r P → IfOk r Q → ((x : X) → P x → Q x → R x) → IfOk r R
both_ok (Ok x) P Q R p q by = by x p q
both_ok (Err e) P Q R p q by = tt
