-- What staged writes take from a tree.
use Rattle.std.proofs.Common.{◌≡◌, ⊎_elim, ℕ, ◌+◌, ◌%◌, ◌^◌, ◌<◌, ◌≤◌, Bool, true, false, ◌||◌, ◌&&◌, ◌==◌, IsTrue, List, [], ◌∷◌, ◌++◌, map, length, Option, Some, None, Contains, refl, sym, ◌∙◌, ap, subst, arith, length-append}
use Rattle.std.proofs.lemmas.Bool.{cases_Bool}
use Rattle.std.proofs.lemmas.Bool.Decides.{nat_tests}
use Rattle.std.proofs.lemmas.Fmt.{decimal_is_IsNumeral, decimal_by_steps}
use Rattle.std.proofs.lemmas.List.Elements.{All-contains, All-weaker}
use Rattle.std.specs.Fmt.{decimal}
use Rattle.std.specs.List.{All, list_any}
use Rattle.std.specs.FinMap.{get}
use Rattle.journal_log.specs.cny-base.Path.{is_path, is_slash, has_slash, join, or_root, parent}
use Rattle.journal_log.specs.cny-base.Below.{is_below}
use Rattle.journal_log.proofs.cny-base.Below.{before_join, rest_below}
use Rattle.journal_log.specs.cny-base.declared.node.Node.{Node}
use Rattle.journal_log.specs.cny-base.declared.node.Node.TheVariants as node
use Rattle.journal_log.specs.tree-disk.Tree.{Name, Tree, same_name, put, is_dir, is_file}
use Rattle.journal_log.specs.tree-disk.Rows.{bytes_of}
use Rattle.journal_log.proofs.tree-disk.Laws.{get_put_here}
use Rattle.journal_log.specs.tree-disk.Clear.{is_within}
use Rattle.journal_log.proofs.tree-disk.ClearLaws.{below_within, within_itself}
use Rattle.journal_log.proofs.tree-disk.Children.{child_longer, or_none}
use Rattle.journal_log.specs.declared.put.Want.{Want}
use Rattle.journal_log.specs.declared.put.Want.TheVariants as want
use Rattle.journal_log.specs.declared.put.Put.{Put}
use Rattle.journal_log.specs.Own.{staged, staged_file, is_own, StoresSame}
use Rattle.journal_log.specs.WriteSet.{CanBeNamed, Rises}
use Rattle.journal_log.specs.Targets.{is_dir_want, node_of, is_target, with_targets}
use Rattle.tree_journal.specs.Staging.{is_content, has_content, AllStaged, resolved, resolve, outcome}
use Rattle.tree_journal.specs.Apply.{is_own_or_target}
use Rattle.tree_journal.specs.Passes.{HasSize}
use Rattle.tree_journal.proofs.WriteSets.{target_at, first_not_later, with_targets_outside, with_targets_inside}
use Rattle.tree_journal.proofs.OwnNames.{apart, staged_long, staged_not_root}
use Rattle.journal_log.proofs.cny-base.Lists.{contains_cases}
use Rattle.journal_log.proofs.StagedLaws.{remainder as last_digit}

-- ---- the files of staged bytes

long_join : (p last : Name) → 2 ≤ length p → join p last ≡ p ++ 47 ∷ last
long_join [] last long = absurd (omega arith)
long_join (a ∷ []) last long = absurd (omega arith)
long_join (a ∷ b ∷ p) last long = refl

some_byte : (p : Name) → is_path p ≡ true → 0 < length p
some_byte [] path = absurd (cc path)
some_byte (b ∷ p) path = omega arith

pub file_within : (base : Name) → is_path base ≡ true → (n : ℕ) → is_within (staged base) (staged_file base n) ≡ true
file_within base path n = below_within (staged base) (staged_file base n)
    (ap (is_below (staged base)) (long_join (staged base) (decimal n) (omega (arith, staged_long base path, some_byte base path))) ∙ rest_below (staged base) (decimal n))

pub staged_longer : (base : Name) → is_path base ≡ true → (n : ℕ) → length (staged base) < length (staged_file base n)
staged_longer base path n = omega (arith, ap length (long_join (staged base) (decimal n) (omega (arith, staged_long base path, some_byte base path))), length-append (staged base) (47 ∷ decimal n))

no_slash_digit : (n : ℕ) → n < 10 → is_slash (48 + n) ≡ false
no_slash_digit n lt = grind (arith, nat_tests)

any_last : (xs : List ℕ) (x : ℕ) → list_any is_slash xs ≡ false → is_slash x ≡ false → list_any is_slash (xs ++ x ∷ []) ≡ false
any_last [] x none last = or_none (is_slash x) false last refl
any_last (y ∷ xs) x none last = or_none (is_slash y) (list_any is_slash (xs ++ x ∷ [])) (first (is_slash y) (list_any is_slash xs) none) (any_last xs x (second (is_slash y) (list_any is_slash xs) none) last)
  where
    first : (a b : Bool) → (a || b) ≡ false → a ≡ false
    first true b h = absurd (cc h)
    first false b h = refl

    second : (a b : Bool) → (a || b) ≡ false → b ≡ false
    second true b h = absurd (cc h)
    second false b h = h

pub decimal_plain : (n : ℕ) → n < 2 ^ 64 → has_slash (decimal n) ≡ false
decimal_plain n lt = decimal_by_steps (λ k ds. has_slash ds ≡ false)
    (λ k low. or_none (is_slash (48 + k)) false (no_slash_digit k low) refl)
    (λ k ds big plain. any_last ds (48 + k % 10) plain (no_slash_digit (k % 10) (last_digit k)))
    n lt

pub decimal_same : (m n : ℕ) → m < 2 ^ 64 → n < 2 ^ 64 → decimal m ≡ decimal n → m ≡ n
decimal_same m n m_lt n_lt is =
    let one = (decimal_is_IsNumeral m m_lt).1 in
    let two = (decimal_is_IsNumeral n n_lt).1 in
    cc (one, two, is)

-- files of different numbers are apart
pub file_apart : (base : Name) → is_path base ≡ true → is_path (staged base) ≡ true → (m n : ℕ) → m < 2 ^ 64 → n < 2 ^ 64 → (m ≡ n → ⊥)
    → is_within (staged_file base m) (staged_file base n) ≡ false
file_apart base path dir m n m_lt n_lt other =
    apart (staged base) dir (decimal n) (decimal m) (child_longer (staged base) (decimal n) dir (staged_not_root base path)) (child_longer (staged base) (decimal m) dir (staged_not_root base path))
    (decimal_plain n n_lt) (decimal_plain m m_lt) (λ is. other (sym (decimal_same n m n_lt m_lt is))) (staged_file base n) (within_itself (staged_file base n))

-- none of the journal's own names is a target
pub own_free : (base : Name) (puts : List Put) → All (λ p. CanBeNamed base p.path) puts → (q : Name) → is_own base q ≡ true → is_target puts q ≡ false
own_free base puts named q own = ⊎_elim
    (λ h. let p = target_at puts q h in absurd (cc (own, ap (is_own base) p.2 ∙ (All-contains (λ (x : Put). CanBeNamed base x.path) puts p.0 named p.1).not_own)))
    (λ h. h) (cases_Bool (is_target puts q))

-- ---- trees that hold the same staged bytes

abbrev pub AgreesStaged : Name → Tree → Tree → Type 0
AgreesStaged base a b = (q : Name) → is_within (staged base) q ≡ true → get a q ≡ get b q

module _ (base : Name) (path : is_path base ≡ true) (a b : Tree) (agree : AgreesStaged base a b) where
  pub resolved_same : (w : Want) → resolved base a w ≡ resolved base b w
  resolved_same want.Nothing = refl
  resolved_same (want.Dir mode) = refl
  resolved_same (want.File mode bytes) = refl
  resolved_same (want.Link target) = refl
  resolved_same (want.Staged mode number size name) = ap (λ (o : Option Node). want.File mode (bytes_of o)) (agree (staged_file base number) (file_within base path number))

  pub content_same : (w : Want) → has_content base a w ≡ has_content base b w
  content_same want.Nothing = refl
  content_same (want.Dir mode) = refl
  content_same (want.File mode bytes) = refl
  content_same (want.Link target) = refl
  content_same (want.Staged mode number size name) = ap (λ (o : Option Node). is_content o size name) (agree (staged_file base number) (file_within base path number))

  resolve_same : (p : Put) → resolve base a p ≡ resolve base b p
  resolve_same p = let make : Want → Put = λ w. record { path = p.path; want = w } in ap make (resolved_same p.want)

  pub resolve_all_same : (puts : List Put) → map (resolve base a) puts ≡ map (resolve base b) puts
  resolve_all_same [] = refl
  resolve_all_same (p ∷ puts) = ap (λ (x : Put). x ∷ map (resolve base a) puts) (resolve_same p) ∙ ap (λ (l : List Put). resolve base b p ∷ l) (resolve_all_same puts)

  pub all_staged_same : (puts : List Put) → AllStaged base a puts → AllStaged base b puts
  all_staged_same puts all = All-weaker (λ p. IsTrue (has_content base a p.want)) (λ p. IsTrue (has_content base b p.want)) (λ p h. sym (content_same p.want) ∙ h) puts all

-- ---- the tree with all targets

pub target_resolved : (base : Name) (start : Tree) (puts : List Put) (q : Name) → is_target (map (resolve base start) puts) q ≡ is_target puts q
target_resolved base start [] q = refl
target_resolved base start (p ∷ puts) q = ap (λ (b : Bool). same_name q p.path || b) (target_resolved base start puts q)

pub outcome_outside : (base : Name) (start : Tree) (puts : List Put) (tree : Tree) (q : Name) → is_target puts q ≡ false
    → get (with_targets (map (resolve base start) puts) tree) q ≡ get tree q
outcome_outside base start puts tree q free = with_targets_outside (map (resolve base start) puts) tree q (target_resolved base start puts q ∙ free)

-- at a target stands what is wanted
pub outcome_target : (base : Name) (start : Tree) (puts : List Put) (tree : Tree) (p : Put) → Rises puts → Contains puts p
    → get (with_targets (map (resolve base start) puts) tree) p.path ≡ node_of (resolved base start p.want)
outcome_target base start [] tree p rises in' = absurd (omega (arith, in'.1))
outcome_target base start (r ∷ puts) tree p rises in' = ⊎_elim
    (λ is. subst (λ (x : Put). get (with_targets (map (resolve base start) puts) (put tree r.path (node_of (resolved base start r.want)))) x.path ≡ node_of (resolved base start x.want)) is
    (outcome_outside base start puts (put tree r.path (node_of (resolved base start r.want))) r.path (first_not_later r puts rises) ∙ get_put_here tree r.path (node_of (resolved base start r.want))))
    (λ later. outcome_target base start puts (put tree r.path (node_of (resolved base start r.want))) p rises.1 later)
    (contains_cases r p puts in')

-- one list of writes makes trees that agree elsewhere store the same
pub same_targets : (base : Name) (puts rs : List Put) → ((q : Name) → is_target rs q ≡ is_target puts q) → (a b : Tree)
    → ((q : Name) → is_own_or_target base puts q ≡ false → get a q ≡ get b q) → StoresSame base (with_targets rs a) (with_targets rs b)
same_targets base puts rs same a b agree q out = ⊎_elim (with_targets_inside rs a b q)
    (λ free. with_targets_outside rs a q free ∙ agree q (or_none (is_own base q) (is_target puts q) out (sym (same q) ∙ free)) ∙ sym (with_targets_outside rs b q free))
    (cases_Bool (is_target rs q))

-- and so do staged writes, where the trees hold the same staged bytes
pub same_outcome : (base : Name) → is_path base ≡ true → (puts : List Put) (a b : Tree) → AgreesStaged base a b
    → ((q : Name) → is_own_or_target base puts q ≡ false → get a q ≡ get b q) → StoresSame base (outcome base puts a) (outcome base puts b)
same_outcome base path puts a b staged_same agree q out =
    ap (λ (l : List Put). get (with_targets l a) q) (resolve_all_same base path a b staged_same puts)
    ∙ same_targets base puts (map (resolve base b) puts) (target_resolved base b puts) a b agree q out

-- ---- kinds

pub dir_resolved : (base : Name) (start : Tree) (w : Want) → is_dir (node_of (resolved base start w)) ≡ is_dir_want w
dir_resolved base start want.Nothing = refl
dir_resolved base start (want.Dir mode) = refl
dir_resolved base start (want.File mode bytes) = refl
dir_resolved base start (want.Link target) = refl
dir_resolved base start (want.Staged mode number size name) = refl

-- what has the content of a staged file is a file of its size
pub content_file : (o : Option Node) (size : ℕ) (name : List ℕ) → is_content o size name ≡ true → (is_file o ≡ true) × (length (bytes_of o) ≡ size)
content_file None size name is = absurd (cc is)
content_file (Some (node.Dir mode)) size name is = absurd (cc is)
content_file (Some (node.File mode bytes)) size name is = (refl, first_equal (length bytes) size _ is)
  where
    first_equal : (m n : ℕ) (b : Bool) → (m == n && b) ≡ true → m ≡ n
    first_equal m n b is = let same : (m == n) ≡ true = left (m == n) b is in grind (arith, nat_tests)
      where
        left : (x y : Bool) → (x && y) ≡ true → x ≡ true
        left true y h = refl
        left false y h = h
content_file (Some (node.Link target)) size name is = absurd (cc is)

pub content_size : (base : Name) (tree : Tree) (mode number size : ℕ) (name : List ℕ) → has_content base tree (want.Staged mode number size name) ≡ true → HasSize tree (staged_file base number) size
content_size base tree mode number size name is = let both = content_file (get tree (staged_file base number)) size name is in record { stands = both.0; long = both.1 }

pub dir_long : (base : Name) → is_path base ≡ true → 2 ≤ length (staged base)
dir_long base path = omega (arith, staged_long base path, some_byte base path)

-- a name directly below one that isn't `/`
pub parent_long : (p last : Name) → 2 ≤ length p → has_slash last ≡ false → parent (join p last) ≡ p
parent_long [] last long plain = absurd (omega arith)
parent_long (a ∷ []) last long plain = absurd (omega arith)
parent_long (a ∷ b ∷ p) last long plain = ap or_root (before_join (a ∷ b ∷ p) last false plain)
