-- Names below other names: what follows of the definitions.
use Rattle.std.specs.Prelude.{◌≡◌, ◌⊎◌, ℕ, Bool, true, false, cond, ◌||◌, ◌&&◌, List, [], ◌∷◌, ◌++◌, length, refl, ◌==◌}
use Rattle.std.proofs.Common.{◌+◌, ◌<◌, sym, ◌∙◌, ap, inl, inr, arith, append_assoc, length-append}
use Rattle.std.proofs.lemmas.Bool.Decides.{nat_tests}
use Rattle.std.specs.declared.cmp.Ordering.TheVariants.{Less, Equal}
use Rattle.std.specs.Ordering.{nat_cmp, ordering_then}
use Rattle.std.specs.Cmp.{first_so, second_so}
use Rattle.std.specs.Cmp.Lexicographic.{slice_cmp}
use Rattle.cny_base.specs.Path.{is_slash, has_slash, before_slash, last_name, or_root, parent, is_path, root}
use Rattle.cny_base.proofs.Joins.{slash_parts, starts}
use Rattle.cny_base.specs.Below.{begins_with, is_below}

pub equal_test : (n : ℕ) → (n == n) ≡ true
equal_test n = grind (arith, nat_tests)

pub test_equal : (m n : ℕ) → (m == n) ≡ true → m ≡ n
test_equal m n h = grind (arith, nat_tests)

pub begins : (front rest : List ℕ) → begins_with front (front ++ rest) ≡ true
begins [] rest = refl
begins (a ∷ front) rest = ap (λ b. b && begins_with front (front ++ rest)) (equal_test a) ∙ begins front rest

pub begun : (front bytes : List ℕ) → begins_with front bytes ≡ true → (rest : List ℕ) × (bytes ≡ front ++ rest)
begun [] bytes h = (bytes, refl)
begun (a ∷ front) [] h = absurd (cc h)
begun (a ∷ front) (b ∷ bytes) h =
    let more = begun front bytes (second_so (a == b) _ h) in
    (more.0, ap (λ (n : ℕ). n ∷ bytes) (sym (test_equal a b (first_so (a == b) _ h))) ∙ ap (λ l. a ∷ l) more.1)

pub below_rest : (p q : List ℕ) → is_below p q ≡ true → (rest : List ℕ) × (q ≡ p ++ 47 ∷ rest)
below_rest p q h =
    let more = begun (p ++ 47 ∷ []) q h in
    (more.0, more.1 ∙ append_assoc p (47 ∷ []) more.0)

pub rest_below : (p rest : List ℕ) → is_below p (p ++ 47 ∷ rest) ≡ true
rest_below p rest = ap (begins_with (p ++ 47 ∷ [])) (sym (append_assoc p (47 ∷ []) rest)) ∙ begins (p ++ 47 ∷ []) rest

-- ---- the part before the last slash

slash_later : (b : ℕ) (bs : List ℕ) → has_slash bs ≡ true → has_slash (b ∷ bs) ≡ true
slash_later b bs h = later (is_slash b) (has_slash bs) h
  where
    later : (x y : Bool) → y ≡ true → (x || y) ≡ true
    later true y p = refl
    later false y p = p

slash_in : (p rest : List ℕ) → has_slash (p ++ 47 ∷ rest) ≡ true
slash_in [] rest = refl
slash_in (b ∷ p) rest = slash_later b (p ++ 47 ∷ rest) (slash_in p rest)

pub before_join : (p rest : List ℕ) (v : Bool) → has_slash rest ≡ v → before_slash (p ++ 47 ∷ rest) ≡ cond v (p ++ 47 ∷ before_slash rest) p
before_join [] rest true is = ap (λ t. cond t (47 ∷ before_slash rest) []) is
before_join [] rest false is = ap (λ t. cond t (47 ∷ before_slash rest) []) is
before_join (b ∷ p) rest true is =
    ap (λ t. cond t (b ∷ before_slash (p ++ 47 ∷ rest)) []) (slash_in p rest) ∙ ap (λ l. b ∷ l) (before_join p rest true is)
before_join (b ∷ p) rest false is =
    ap (λ t. cond t (b ∷ before_slash (p ++ 47 ∷ rest)) []) (slash_in p rest) ∙ ap (λ l. b ∷ l) (before_join p rest false is)

-- what lies below a name lies below it by its parent, or is its child
pub below_parent : (p q : List ℕ) → (p ≡ [] → ⊥) → is_below p q ≡ true → (p ≡ parent q) ⊎ (is_below p (parent q) ≡ true)
below_parent [] q full h = absurd (full refl)
below_parent (b ∷ p) q full h =
    let more = below_rest (b ∷ p) q h in
    at more.0 more.1 (has_slash more.0) refl
  where
    at : (rest : List ℕ) → q ≡ (b ∷ p) ++ 47 ∷ rest → (v : Bool) → has_slash rest ≡ v → ((b ∷ p) ≡ parent q) ⊎ (is_below (b ∷ p) (parent q) ≡ true)
    at rest is true slash = inr (ap (λ l. is_below (b ∷ p) (parent l)) is ∙ ap (λ l. is_below (b ∷ p) (or_root l)) (before_join (b ∷ p) rest true slash) ∙ rest_below (b ∷ p) (before_slash rest))
    at rest is false slash = inl (sym (ap parent is ∙ ap or_root (before_join (b ∷ p) rest false slash)))

-- a path with its parts, by what stands before its last slash
pub record Parts (q : List ℕ) : Type 0 where
  pub before : List ℕ
  pub last : List ℕ
  pub whole : q ≡ before ++ 47 ∷ last
  pub above : parent q ≡ or_root before

pub path_parts : (q : List ℕ) → is_path q ≡ true → Parts q
path_parts q path = record { before = before_slash q; last = last_name q; whole = slash_parts q (starts q path); above = refl }

-- the parent is `/`, or what lies below the name lies below its parent
pub above_parent : (p q : List ℕ) → is_path p ≡ true → is_below p q ≡ true → (parent p ≡ root) ⊎ (is_below (parent p) q ≡ true)
above_parent p q path h =
    let parts = path_parts p path in
    let more = below_rest p q h in
    at parts.before parts.last parts.whole parts.above more.0 more.1
  where
    at : (before last : List ℕ) → p ≡ before ++ 47 ∷ last → parent p ≡ or_root before → (rest : List ℕ) → q ≡ p ++ 47 ∷ rest → (parent p ≡ root) ⊎ (is_below (parent p) q ≡ true)
    at [] last whole above rest is = inl above
    at (b ∷ before) last whole above rest is =
        let shape : q ≡ (b ∷ before) ++ 47 ∷ (last ++ 47 ∷ rest) = is ∙ ap (λ l. l ++ 47 ∷ rest) whole ∙ append_assoc (b ∷ before) (47 ∷ last) (47 ∷ rest) in
        inr (ap (λ l. is_below l q) above ∙ ap (is_below (b ∷ before)) shape ∙ rest_below (b ∷ before) (last ++ 47 ∷ rest))

-- a path lies below its parent, where that isn't `/`
pub child_below : (q : List ℕ) → is_path q ≡ true → (parent q ≡ root) ⊎ (is_below (parent q) q ≡ true)
child_below q path = let parts = path_parts q path in at parts.before parts.last parts.whole parts.above
  where
    at : (before last : List ℕ) → q ≡ before ++ 47 ∷ last → parent q ≡ or_root before → (parent q ≡ root) ⊎ (is_below (parent q) q ≡ true)
    at [] last whole above = inl above
    at (b ∷ before) last whole above = inr (ap (λ l. is_below l q) above ∙ ap (is_below (b ∷ before)) whole ∙ rest_below (b ∷ before) last)

-- ---- the order

pub same_cmp : (n : ℕ) → nat_cmp n n ≡ Equal
same_cmp n = grind (arith, nat_tests)

pub shorter_less : (p : List ℕ) (x : ℕ) (xs : List ℕ) → slice_cmp nat_cmp p (p ++ x ∷ xs) ≡ Less
shorter_less [] x xs = refl
shorter_less (b ∷ p) x xs = ap (λ o. ordering_then o (slice_cmp nat_cmp p (p ++ x ∷ xs))) (same_cmp b) ∙ shorter_less p x xs

-- the parent comes first; that of `/` is `/`
pub parent_first : (q : List ℕ) → is_path q ≡ true → (q ≡ root) ⊎ (slice_cmp nat_cmp (parent q) q ≡ Less)
parent_first q path = let parts = path_parts q path in at parts.before parts.last parts.whole parts.above
  where
    at : (before last : List ℕ) → q ≡ before ++ 47 ∷ last → parent q ≡ or_root before → (q ≡ root) ⊎ (slice_cmp nat_cmp (parent q) q ≡ Less)
    at [] [] whole above = inl whole
    at [] (c ∷ last) whole above = inr (ap (λ l. slice_cmp nat_cmp l q) above ∙ ap (slice_cmp nat_cmp root) whole ∙ shorter_less root c last)
    at (b ∷ before) last whole above = inr (ap (λ l. slice_cmp nat_cmp l q) above ∙ ap (slice_cmp nat_cmp (b ∷ before)) whole ∙ shorter_less (b ∷ before) 47 last)

not_empty : (p : List ℕ) → is_path p ≡ true → 0 < length p
not_empty [] path = absurd (cc path)
not_empty (b ∷ p) path = omega arith

pub none_below_root : (p : List ℕ) → is_path p ≡ true → is_below p root ≡ true → ⊥
none_below_root p path h =
    let more = below_rest p root h in
    let long : length root ≡ length p + length (47 ∷ more.0) = ap length more.1 ∙ length-append p (47 ∷ more.0) in
    let some = not_empty p path in
    absurd (omega (arith, long, some))

pub parent_shorter : (q : List ℕ) → is_path q ≡ true → (q ≡ root) ⊎ (length (parent q) < length q)
parent_shorter q path = let parts = path_parts q path in at parts.before parts.last parts.whole parts.above
  where
    at : (before last : List ℕ) → q ≡ before ++ 47 ∷ last → parent q ≡ or_root before → (q ≡ root) ⊎ (length (parent q) < length q)
    at [] [] whole above = inl whole
    at [] (c ∷ last) whole above = inr (omega (arith, ap length whole, ap length above))
    at (b ∷ before) last whole above = inr (omega (arith, ap length whole, ap length above, length-append (b ∷ before) (47 ∷ last)))
