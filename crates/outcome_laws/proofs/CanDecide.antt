-- Whether the writes of a log can be put into a tree is decided.
use Rattle.std.proofs.Common.{◌≡◌, ◌⊎◌, inl, inr, ⊎_elim, ℕ, Bool, true, false, ◌==◌, ◌&&◌, ◌||◌, List, [], ◌∷◌, ◌++◌, refl, sym, ap, ◌∙◌, subst, append_assoc, append-nil, eqb-true, eq-eqb}
use Rattle.std.specs.Prelude.{is_some, IsTrue}
use Rattle.std.specs.List.{list_any, All}
use Rattle.std.proofs.lemmas.List.Elements.{All-nil, All-cons, All-head, All-tail}
use Rattle.std.proofs.lemmas.Bool.{cases_Bool}
use Rattle.std.specs.FinMap.{get, keys, contains_key-keys}
use Rattle.conary_cli.specs.cli-call.cny-base.Below.{begins_with, is_below}
use Rattle.conary_cli.specs.cli-call.cny-base.Path.{is_path}
use Rattle.conary_cli.specs.cli-call.tree-disk.Laws.{same_means}
use Rattle.conary_cli.specs.cli-call.tree-disk.Rows.{is_dir_at}
use Rattle.conary_cli.specs.cli-call.tree-disk.Tree.{Name, Tree, same_name}
use Rattle.conary_cli.proofs.cli-call.tree-disk.Laws.{same_itself}
use Rattle.change_rel.proofs.cny-base.Lists.{not_some}
use Rattle.tree_nodes.proofs.cny-base.Bools.{or_left, or_right}
use Rattle.conary_cli.specs.cli-call.journal-log.declared.put.Put.{Put}
use Rattle.conary_cli.specs.cli-call.journal-log.Targets.{is_dir_want, is_target}
use Rattle.conary_cli.specs.cli-call.tree-journal.CanBePut.{AllCanBePut, CanBePut, HasWay, IsClearBelow}

-- ---- facts that are decided

abbrev pub Decides : Type 0 → Type 0
Decides P = P ⊎ (P → ⊥)

decide_true : (b : Bool) → Decides (IsTrue b)
decide_true true = inl refl
decide_true false = inr (λ h. absurd (cc h))

-- what holds where one test passes and another fails
decide_where : (a b : Bool) (P : Type 0) → Decides P → Decides (IsTrue a → b ≡ false → P)
decide_where true false P (inl p) = inl (λ x y. p)
decide_where true false P (inr never) = inr (λ f. never (f refl refl))
decide_where true true P d = inl (λ x y. absurd (cc y))
decide_where false b P d = inl (λ x y. absurd (cc x))

decide_else : (b : Bool) (P : Type 0) → Decides P → Decides (b ≡ false → P)
decide_else true P d = inl (λ y. absurd (cc y))
decide_else false P (inl p) = inl (λ y. p)
decide_else false P (inr never) = inr (λ f. never (f refl))

decide_all : {X : Type 0} (P : X → Type 0) → ((x : X) → Decides (P x)) → (xs : List X) → Decides (All P xs)
decide_all P d [] = inl (All-nil P)
decide_all {X} P d (x ∷ xs) = by (d x) (decide_all P d xs)
  where
    by : Decides (P x) → Decides (All P xs) → Decides (All P (x ∷ xs))
    by (inl h) (inl t) = inl (All-cons P x xs h t)
    by (inl h) (inr never) = inr (λ all. never (All-tail P x xs all))
    by (inr never) t = inr (λ all. never (All-head P x xs all))

both_tests : (a b : Bool) → (a && b) ≡ true → (a ≡ true) × (b ≡ true)
both_tests true true h = (refl, refl)
both_tests true false h = absurd (cc h)
both_tests false b h = absurd (cc h)

of_both : (a b : Bool) → a ≡ true → b ≡ true → (a && b) ≡ true
of_both true true x y = refl
of_both true false x y = absurd (cc y)
of_both false b x y = absurd (cc x)

-- ---- the way to a path

none_begins : (mid : List ℕ) → begins_with (mid ++ 47 ∷ []) [] ≡ true → ⊥
none_begins [] h = absurd (cc h)
none_begins (m ∷ mid) h = absurd (cc h)

module _ (puts : List Put) (tree : Tree) where
  -- where a path that isn't a target stands, it is a directory
  abbrev IsStep : Name → Type 0
  IsStep q = IsTrue (is_path q) → is_target puts q ≡ false → IsTrue (is_dir_at tree q)

  decide_step : (q : Name) → Decides (IsStep q)
  decide_step q = decide_where (is_path q) (is_target puts q) (IsTrue (is_dir_at tree q)) (decide_true (is_dir_at tree q))

  -- so is each path that begins so and ends before a slash of the rest; or one isn't
  abbrev Steps : List ℕ → List ℕ → Type 0
  Steps front rest = (mid : List ℕ) → begins_with (mid ++ 47 ∷ []) rest ≡ true → IsStep (front ++ mid)

  abbrev Misses : List ℕ → List ℕ → Type 0
  Misses front rest = (mid : List ℕ) × (begins_with (mid ++ 47 ∷ []) rest ≡ true) × (IsStep (front ++ mid) → ⊥)

  module _ (front : List ℕ) (b : ℕ) (rest : List ℕ) where
    with_first : (mid : List ℕ) → (front ++ b ∷ []) ++ mid ≡ front ++ b ∷ mid
    with_first mid = append_assoc front (b ∷ []) mid

    further : Steps (front ++ b ∷ []) rest → (m : ℕ) (mid : List ℕ) → ((m == b) && begins_with (mid ++ 47 ∷ []) rest) ≡ true → IsStep (front ++ m ∷ mid)
    further steps m mid h =
        let both = both_tests (m == b) (begins_with (mid ++ 47 ∷ []) rest) h in
        subst IsStep (with_first mid ∙ ap (λ (x : ℕ). front ++ x ∷ mid) (sym (eqb-true m b both.0))) (steps mid both.1)

    all_steps : IsStep front → Steps (front ++ b ∷ []) rest → Steps front (b ∷ rest)
    all_steps here steps [] h = subst IsStep (sym (append-nil front)) here
    all_steps here steps (m ∷ mid) h = further steps m mid h

    other_steps : (47 == b) ≡ false → Steps (front ++ b ∷ []) rest → Steps front (b ∷ rest)
    other_steps other steps [] h = absurd (cc (sym (both_tests (47 == b) true h).0 ∙ other))
    other_steps other steps (m ∷ mid) h = further steps m mid h

    misses_here : (47 == b) ≡ true → (IsStep front → ⊥) → Misses front (b ∷ rest)
    misses_here slash never = ([], of_both (47 == b) true slash refl, λ here. never (subst IsStep (append-nil front) here))

    misses_later : Misses (front ++ b ∷ []) rest → Misses front (b ∷ rest)
    misses_later miss = (b ∷ miss.0, of_both (b == b) (begins_with (miss.0 ++ 47 ∷ []) rest) (eq-eqb b b refl) miss.1, λ here. miss.2 (subst IsStep (sym (with_first miss.0)) here))

    next_steps : Decides (IsStep front) → Steps (front ++ b ∷ []) rest ⊎ Misses (front ++ b ∷ []) rest → Steps front (b ∷ rest) ⊎ Misses front (b ∷ rest)
    next_steps here (inr miss) = inr (misses_later miss)
    next_steps (inl here) (inl steps) = inl (all_steps here steps)
    next_steps (inr never) (inl steps) = ⊎_elim (λ slash. inr (misses_here slash never)) (λ other. inl (other_steps other steps)) (cases_Bool (47 == b))

  decide_steps : (rest front : List ℕ) → Steps front rest ⊎ Misses front rest
  decide_steps [] front = inl (λ mid h. absurd (none_begins mid h))
  decide_steps (b ∷ rest) front = next_steps front b rest (decide_step front) (decide_steps rest (front ++ b ∷ []))

  decide_way : (path : Name) → Decides (HasWay puts tree path)
  decide_way path = ⊎_elim
      (λ steps. inl (λ q is below free. steps q below is free))
      (λ miss. inr (λ way. miss.2 (λ is free. way miss.0 is miss.1 free)))
      (decide_steps path [])

  -- ---- what stands below it

  module _ (path : Name) where
    abbrev IsFree : Name → Type 0
    IsFree q = IsTrue (is_below path q) → is_target puts q ≡ false → ⊥

    decide_free : (q : Name) → Decides (IsFree q)
    decide_free q = decide_where (is_below path q) (is_target puts q) ⊥ (inr (λ h. h))

    abbrev AllFree : List Name → Type 0
    AllFree names = (q : Name) → list_any (same_name q) names ≡ true → IsFree q

    abbrev OneNot : List Name → Type 0
    OneNot names = (q : Name) × (list_any (same_name q) names ≡ true) × (IsFree q → ⊥)

    first_free : (n : Name) (names : List Name) (q : Name) → IsFree n → AllFree names → (a : Bool) → same_name q n ≡ a → (a || list_any (same_name q) names) ≡ true → IsFree q
    first_free n names q free rest true same h = subst IsFree (sym (same_means q n same)) free
    first_free n names q free rest false same h = rest q h

    decide_names : (names : List Name) → AllFree names ⊎ OneNot names
    decide_names [] = inl (λ q h. absurd (cc h))
    decide_names (n ∷ names) = by (decide_free n) (decide_names names)
      where
        by : Decides (IsFree n) → AllFree names ⊎ OneNot names → AllFree (n ∷ names) ⊎ OneNot (n ∷ names)
        by (inr never) d = inr (n, or_left (same_name n n) (list_any (same_name n) names) (same_itself n), never)
        by (inl free) (inl rest) = inl (λ q h. first_free n names q free rest (same_name q n) refl h)
        by (inl free) (inr one) = inr (one.0, or_right (same_name one.0 n) (list_any (same_name one.0) names) one.1, one.2)

    decide_clear : Decides (IsClearBelow puts tree path)
    decide_clear = ⊎_elim
        (λ all. inl (λ q below free. ⊎_elim
        (λ stands. absurd (all q (sym (contains_key-keys tree q) ∙ stands) below free))
        (λ none. not_some (get tree q) none)
        (cases_Bool (is_some (get tree q)))))
        (λ one. inr (λ clear. one.2 (λ below free. absurd (cc (sym (contains_key-keys tree one.0 ∙ one.1) ∙ ap is_some (clear one.0 below free))))))
        (decide_names (keys tree))

  -- ---- the writes

  decide_put : (p : Put) → Decides (CanBePut puts tree p)
  decide_put p = by (decide_way p.path) (decide_else (is_dir_want p.want) (IsClearBelow puts tree p.path) (decide_clear p.path))
    where
      by : Decides (HasWay puts tree p.path) → Decides (is_dir_want p.want ≡ false → IsClearBelow puts tree p.path) → Decides (CanBePut puts tree p)
      by (inl above) (inl below) = inl (record { above = above; below = below })
      by (inl above) (inr never) = inr (λ can. never can.below)
      by (inr never) d = inr (λ can. never can.above)

  -- they all can, or not all
  pub can_or_not : Decides (AllCanBePut puts tree)
  can_or_not = decide_all (CanBePut puts tree) decide_put puts
