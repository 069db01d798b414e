-- References of the troves of one commit after another.
use Rattle.std.proofs.Common.{◌≡◌, ℕ, Bool, ◌+◌, ◌-◌, List, [], ◌∷◌, ◌++◌, length, map, min, take, drop, All, refl, sym, ◌∙◌, ap, subst, arith, append_assoc, append-nil, length-append}
use Rattle.std.proofs.lemmas.List.{length-map, map-append}
use Rattle.std.proofs.lemmas.List.Elements.{All-append}
use Rattle.repo_index.specs.trove-stream.declared.parts.TroveParts.{TroveParts}
use Rattle.repo_load.specs.State.{Commit, troves_of, HasRefs}
use Rattle.repo_load.proofs.Following.{troves_push}
use Rattle.repo_load.proofs.Kept.{refs_of_kept, refs_to_kept}
use Rattle.repo_load.specs.Loading.{kept, IsFirstUnresolved}

abbrev pub size_of : Commit → ℕ
size_of troves = length troves

-- the references of the first commits are found, and these are the numbers of the others' troves and what is kept of them
pub record AreResolvedTo (whole : Bool) (commits : List Commit) (left : List ℕ) (rest : List TroveParts) : Type 0 where
  pub front : List Commit
  pub back : List Commit
  pub is : commits ≡ front ++ back
  pub left_is : left ≡ map size_of back
  pub rest_is : rest ≡ map (kept whole) (troves_of back)
  pub resolved : All (HasRefs (troves_of commits)) (troves_of front)

-- the next commit of those that are left
record IsNext (whole : Bool) (back : List Commit) (count : ℕ) (behind : List ℕ) (rest : List TroveParts) : Type 0 where
  commit : Commit
  others : List Commit
  is : back ≡ commit ∷ others
  count_is : count ≡ length commit
  behind_is : behind ≡ map size_of others
  rest_is : rest ≡ map (kept whole) commit ++ map (kept whole) (troves_of others)

next_of : (whole : Bool) (back : List Commit) (count : ℕ) (behind : List ℕ) (rest : List TroveParts) → count ∷ behind ≡ map size_of back → rest ≡ map (kept whole) (troves_of back) → IsNext whole back count behind rest
next_of whole [] count behind rest counts troves = absurd (cc counts)
next_of whole (commit ∷ others) count behind rest counts troves =
    record { commit = commit; others = others; is = refl; count_is = cc counts; behind_is = cc counts; rest_is = troves ∙ map-append (kept whole) commit (troves_of others) }

front_part : (a b : List TroveParts) → take (length a) (a ++ b) ≡ a
front_part [] b = refl
front_part (x ∷ a) b = ap (λ (l : List TroveParts). x ∷ l) (front_part a b)

back_part : (a b : List TroveParts) → drop (length a) (a ++ b) ≡ b
back_part [] b = refl
back_part (x ∷ a) b = back_part a b

least : (n : ℕ) (a b : List TroveParts) → n ≡ length a → min n (length (a ++ b)) ≡ length a
least n a b is = let long : length (a ++ b) ≡ length a + length b = length-append a b in omega (arith, is, long)

module _ (whole : Bool) (commits : List Commit) (left : List ℕ) (rest : List TroveParts) (count : ℕ) (behind : List ℕ) (so_far : AreResolvedTo whole commits left rest) (next : left ≡ count ∷ behind) where
  the_next : IsNext whole so_far.back count behind rest
  the_next = next_of whole so_far.back count behind rest (sym next ∙ so_far.left_is) so_far.rest_is

  split : commits ≡ so_far.front ++ the_next.commit ∷ the_next.others
  split = so_far.is ∙ ap (λ (l : List Commit). so_far.front ++ l) the_next.is

  abbrev front : List TroveParts
  front = map (kept whole) the_next.commit

  abbrev others : List TroveParts
  others = map (kept whole) (troves_of the_next.others)

  front_long : count ≡ length front
  front_long = the_next.count_is ∙ sym (length-map the_next.commit (kept whole))

  cut : min count (length rest) ≡ length front
  cut = ap (λ (l : List TroveParts). min count (length l)) the_next.rest_is ∙ least count front others front_long

  commit_is : take (min count (length rest)) rest ≡ front
  commit_is = ap (λ (n : ℕ). take n rest) cut ∙ ap (take (length front)) the_next.rest_is ∙ front_part front others

  after_is : drop (min count (length rest)) rest ≡ others
  after_is = ap (λ (n : ℕ). drop n rest) cut ∙ ap (drop (length front)) the_next.rest_is ∙ back_part front others

  pub one_resolved : (commit after : List TroveParts) → commit ≡ take (min count (length rest)) rest → after ≡ drop (min count (length rest)) rest
      → All (HasRefs (map (kept whole) (troves_of commits))) commit → AreResolvedTo whole commits behind after
  one_resolved commit after is rest_is has = record {
    front = so_far.front ++ the_next.commit ∷ [];
    back = the_next.others;
    is = split ∙ sym (append_assoc so_far.front (the_next.commit ∷ []) the_next.others);
    left_is = the_next.behind_is;
    rest_is = rest_is ∙ after_is;
    resolved = subst (All (HasRefs (troves_of commits))) (sym (troves_push so_far.front the_next.commit))
        (All-append (HasRefs (troves_of commits)) (troves_of so_far.front) the_next.commit so_far.resolved
        (refs_of_kept whole (troves_of commits) the_next.commit (subst (All (HasRefs (map (kept whole) (troves_of commits)))) (is ∙ commit_is) has)));
  }

  pub one_missing : (counts : List ℕ) (commit : List TroveParts) (number : ℕ) → counts ≡ map size_of commits → commit ≡ take (min count (length rest)) rest
      → number ≡ length counts - length behind → (All (HasRefs (map (kept whole) (troves_of commits))) commit → ⊥) → IsFirstUnresolved commits number
  one_missing counts commit number counts_are is number_is never = record {
    before = so_far.front;
    commit = the_next.commit;
    after = the_next.others;
    is = split;
    here = number_is ∙ place;
    resolved = so_far.resolved;
    missing = λ all. never (subst (All (HasRefs (map (kept whole) (troves_of commits)))) (sym (is ∙ commit_is)) (refs_to_kept whole (troves_of commits) the_next.commit all));
  }
    where
      long : (l : List Commit) → length (map size_of l) ≡ length l
      long [] = refl
      long (c ∷ l) = cc (long l)

      place : length counts - length behind ≡ length so_far.front + 1
      place =
          let all : length counts ≡ length commits = ap length counts_are ∙ long commits in
          let parts : length commits ≡ length so_far.front + length (the_next.commit ∷ the_next.others) = ap length split ∙ length-append so_far.front (the_next.commit ∷ the_next.others) in
          let left_long : length behind ≡ length the_next.others = ap length the_next.behind_is ∙ long the_next.others in
          omega (arith, all, parts, left_long)

pub all_resolved : (whole : Bool) (commits : List Commit) (left : List ℕ) (rest : List TroveParts) → AreResolvedTo whole commits left rest → length left ≡ 0 → All (HasRefs (troves_of commits)) (troves_of commits)
all_resolved whole commits left rest so_far none = subst (λ (l : List Commit). All (HasRefs (troves_of commits)) (troves_of l)) (sym (none_left so_far.back so_far.is (sym so_far.left_is ∙ nothing left none))) so_far.resolved
  where
    nothing : (l : List ℕ) → length l ≡ 0 → l ≡ []
    nothing [] none = refl
    nothing (n ∷ l) none = absurd (cc none)

    none_left : (back : List Commit) → commits ≡ so_far.front ++ back → map size_of back ≡ [] → commits ≡ so_far.front
    none_left [] is none = is ∙ append-nil so_far.front
    none_left (c ∷ back) is none = absurd (cc none)
