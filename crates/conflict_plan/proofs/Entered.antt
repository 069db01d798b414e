-- The entries of a map in their order: look-ups, and the first refusal.
use Rattle.std.proofs.Common.{◌≡◌, ⊎_elim, Bool, true, false, cond, List, [], ◌∷◌, ◌++◌, append_assoc, drop, length, map, Option, Some, None, refl, sym, ◌∙◌, ap, subst}
use Rattle.std.proofs.lemmas.Bool.{cases_Bool}
use Rattle.std.proofs.lemmas.List.{drop_at}
use Rattle.std.specs.BTreeMap.{is_at}
use Rattle.std.specs.List.{AllByRecursion}
use Rattle.std.specs.List.Sorted.{IsStrictlySortedBy}
use Rattle.std.specs.Map.{lookup}
use Rattle.std.specs.Option.{option_or}
use Rattle.std.specs.declared.cmp.Ordering.TheVariants.{Less}
use Rattle.std.specs.Ordering.{nat_cmp}
use Rattle.std.specs.Cmp.Lexicographic.{slice_cmp}
use Rattle.trove_stream.specs.cny-base.declared.refusal.Refusal.{Refusal}
use Rattle.tree_scan.specs.tree-disk.Laws.{same_means}
use Rattle.tree_scan.proofs.tree-disk.Laws.{same_itself}
use Rattle.tree_scan.specs.tree-disk.Tree.{Name, same_name}
use Rattle.conflict_plan.specs.declared.records.Recorded.{Recorded}
use Rattle.conflict_plan.specs.Entries.{first_refusal}
use Rattle.conflict_plan.proofs.Order.{less_other, less_then}
use Rattle.tree_scan.proofs.tree-disk.Order.{name_cmp}

abbrev pub At : Type 0
At = Name × Recorded

-- what the map has at a path
abbrev pub found_at : List At → Name → Option Recorded
found_at es path = lookup (is_at (slice_cmp nat_cmp path)) es

-- all come behind the path
abbrev pub AreBehind : Name → List At → Type 0
AreBehind path [] = Unit {0}
AreBehind path (e ∷ es) = (name_cmp path e.0 ≡ Less) × AreBehind path es

-- each comes behind those before it
abbrev pub AreRising : List At → Type 0
AreRising [] = Unit {0}
AreRising (e ∷ es) = AreBehind e.0 es × AreRising es

behind_keys : (path : Name) (es : List At) → AllByRecursion (λ y. slice_cmp nat_cmp path y ≡ Less) (map (λ (e : At). e.0) es) → AreBehind path es
behind_keys path [] all = tt
behind_keys path (e ∷ es) all = (all.0, behind_keys path es all.1)

pub rising_keys : (es : List At) → IsStrictlySortedBy (slice_cmp nat_cmp) (map (λ (e : At). e.0) es) → AreRising es
unfolding IsStrictlySortedBy
rising_keys [] sorted = tt
rising_keys (e ∷ es) sorted = (behind_keys e.0 es sorted.0, rising_keys es sorted.1)

pub behind_later : (p q : Name) (es : List At) → name_cmp p q ≡ Less → AreBehind q es → AreBehind p es
behind_later p q [] less behind = tt
behind_later p q (e ∷ es) less behind = (less_then p q e.0 less behind.0, behind_later p q es less behind.1)

pub none_behind : (p : Name) (es : List At) → AreBehind p es → found_at es p ≡ None
none_behind p [] behind = refl
none_behind p (e ∷ es) behind = ap (λ b. cond b (Some e.1) (found_at es p)) (less_other p e.0 behind.0) ∙ none_behind p es behind.1

pub found_behind : (p q : Name) (es : List At) (r : Recorded) → AreBehind p es → found_at es q ≡ Some r → name_cmp p q ≡ Less
found_behind p q [] r behind found = absurd (cc found)
found_behind p q (e ∷ es) r behind found = at (same_name q e.0) refl (found_behind p q es r behind.1) found
  where
    at : (b : Bool) → same_name q e.0 ≡ b → (found_at es q ≡ Some r → name_cmp p q ≡ Less) → cond b (Some e.1) (found_at es q) ≡ Some r → name_cmp p q ≡ Less
    at true is later found = subst (λ x. name_cmp p x ≡ Less) (sym (same_means q e.0 is)) behind.0
    at false is later found = later found

pub found_here : (e : At) (es : List At) → found_at (e ∷ es) e.0 ≡ Some e.1
found_here e es = ap (λ b. cond b (Some e.1) (found_at es e.0)) (same_itself e.0)

pub found_other : (e : At) (es : List At) (q : Name) → same_name q e.0 ≡ false → found_at (e ∷ es) q ≡ found_at es q
found_other e es q other = ap (λ b. cond b (Some e.1) (found_at es q)) other

pub clash : (r : Recorded) (o : Option Recorded) → o ≡ None → o ≡ Some r → ⊥
clash r o none some = absurd (cc (none, some))

-- a later entry has another path
pub later_other : (e : At) (es : List At) (q : Name) (r : Recorded) → AreBehind e.0 es → found_at es q ≡ Some r → same_name q e.0 ≡ false
later_other e es q r behind found = ⊎_elim
    (λ same. absurd (clash r (found_at es q) (subst (λ x. found_at es x ≡ None) (sym (same_means q e.0 same)) (none_behind e.0 es behind)) found))
    (λ other. other)
    (cases_Bool (same_name q e.0))

-- ---- the first refusal

-- the first path with this refusal
pub record IsFirstAt (refusal : Name → Recorded → Option Refusal) (es : List At) (why : Refusal) : Type 0 where
  pub path : Name
  pub recorded : Recorded
  pub found : found_at es path ≡ Some recorded
  pub refused : refusal path recorded ≡ Some why
  pub first_path : (p : Name) (r : Recorded) → name_cmp p path ≡ Less → found_at es p ≡ Some r → refusal p r ≡ None

pub first_found : (refusal : Name → Recorded → Option Refusal) (es : List At) (why : Refusal) → AreRising es → first_refusal refusal es ≡ Some why → IsFirstAt refusal es why
first_found refusal [] why rising is = absurd (cc is)
first_found refusal (e ∷ es) why rising is = at (refusal e.0 e.1) refl (first_found refusal es why rising.1) is
  where
    at : (o : Option Refusal) → refusal e.0 e.1 ≡ o → (first_refusal refusal es ≡ Some why → IsFirstAt refusal es why) → option_or o (first_refusal refusal es) ≡ Some why → IsFirstAt refusal (e ∷ es) why
    at (Some w) here rest is = record {
      path = e.0;
      recorded = e.1;
      found = found_here e es;
      refused = here ∙ is;
      first_path = λ p r less found. absurd (clash r (found_at (e ∷ es) p) (found_other e es p (less_other p e.0 less) ∙ none_behind p es (behind_later p e.0 es less rising.0)) found);
    }
    at None here rest is =
        let later = rest is in
        record {
          path = later.path;
          recorded = later.recorded;
          found = found_other e es later.path (later_other e es later.path later.recorded rising.0 later.found) ∙ later.found;
          refused = later.refused;
          first_path = λ p r less found. ⊎_elim
              (λ same.
              let is_here : Some r ≡ Some e.1 = sym found ∙ ap (λ b. cond b (Some e.1) (found_at es p)) same in
              let is_r : r ≡ e.1 = cc is_here in
              ap (λ x. refusal x r) (same_means p e.0 same) ∙ ap (refusal e.0) is_r ∙ here)
              (λ other. later.first_path p r less (sym (found_other e es p other) ∙ found))
              (cases_Bool (same_name p e.0));
        }

pub none_found : (refusal : Name → Recorded → Option Refusal) (es : List At) → first_refusal refusal es ≡ None → (p : Name) (r : Recorded) → found_at es p ≡ Some r → refusal p r ≡ None
none_found refusal [] is p r found = absurd (cc found)
none_found refusal (e ∷ es) is p r found = at (refusal e.0 e.1) refl (λ none. none_found refusal es none p r) is (same_name p e.0) refl found
  where
    at : (o : Option Refusal) → refusal e.0 e.1 ≡ o → (first_refusal refusal es ≡ None → found_at es p ≡ Some r → refusal p r ≡ None) → option_or o (first_refusal refusal es) ≡ None
        → (b : Bool) → same_name p e.0 ≡ b → cond b (Some e.1) (found_at es p) ≡ Some r → refusal p r ≡ None
    at (Some w) here later is b same found = absurd (cc is)
    at None here later is true same found =
        let is_r : r ≡ e.1 = cc found in
        ap (λ x. refusal x r) (same_means p e.0 same) ∙ ap (refusal e.0) is_r ∙ here
    at None here later is false same found = later is found

-- ---- entries that are taken one by one

same_map : (xs : List At) → map (λ (x : At). x) xs ≡ xs
same_map [] = refl
same_map (x ∷ xs) = ap (λ l. x ∷ l) (same_map xs)

-- what is left of a list before and after this entry
pub entry_turn : (all rest : List At) (xs : List At) (e : At) → all ≡ map (λ (x : At). x) xs ++ (e ∷ rest) → (drop (length xs) all ≡ e ∷ rest) × (drop (length (xs ++ e ∷ [])) all ≡ rest)
entry_turn all rest xs e is =
    let is_front : all ≡ xs ++ (e ∷ rest) = is ∙ ap (λ l. l ++ (e ∷ rest)) (same_map xs) in (
      ap (drop (length xs)) is_front ∙ drop_at xs (e ∷ rest) (length xs) refl,
      ap (drop (length (xs ++ e ∷ []))) (is_front ∙ sym (append_assoc xs (e ∷ []) rest)) ∙ drop_at (xs ++ e ∷ []) rest (length (xs ++ e ∷ [])) refl,
    )
