-- The journal's own names, and which of them lie in which.
use Rattle.std.proofs.Common.{◌≡◌, ◌≢◌, ⊎_elim, ℕ, ◌+◌, ◌<◌, ◌≤◌, Bool, true, false, ◌&&◌, ◌||◌, [], ◌∷◌, ◌++◌, length, codes, refl, sym, ◌∙◌, ap, subst, arith, length-append}
use Rattle.std.proofs.lemmas.Bool.{cases_Bool}
use Rattle.std.specs.Str.{is_utf8}
use Rattle.std.proofs.Common.{lit<}
use Rattle.std.proofs.lemmas.Str.{IsUtf8-from_ascii, is_utf8-from_IsUtf8}
use Rattle.std.proofs.lemmas.Str.Ascii.{IsAscii-nil, IsAscii-cons}
use Rattle.journal_log.specs.cny-base.Path.{has_slash, is_path, join, root, are_parts}
use Rattle.journal_log.specs.cny-base.Below.{is_below}
use Rattle.journal_log.proofs.cny-base.Below.{below_rest, below_parent, equal_test}
use Rattle.journal_log.proofs.cny-base.Parent.{join_is_path}
use Rattle.journal_log.specs.tree-disk.Tree.{Name, same_name}
use Rattle.journal_log.specs.tree-disk.Laws.{same_means}
use Rattle.journal_log.specs.tree-disk.Clear.{is_within}
use Rattle.journal_log.proofs.tree-disk.Children.{path_short, or_none}
use Rattle.journal_log.proofs.tree-disk.ClearLaws.{below_trans, below_within, within_itself, or_cases}
use Rattle.journal_log.specs.Own.{gate, log, work, staged, is_own_file, is_own}
use Rattle.tree_journal.proofs.BetweenSteps.{is_log_or_staged}
use Rattle.journal_log.proofs.tree-disk.Names.{below_longer, join_short, parent_join, same_last as join_same}
use Rattle.journal_log.proofs.cny-base.Counts.{fits}
use Rattle.journal_log.proofs.cny-base.Bools.{or_left, or_right}
use Rattle.journal_log.proofs.StagedLaws.{p_part as staged_part}

-- ---- the name of the working directory

work_utf8 : is_utf8 (codes "w") ≡ true
work_utf8 = is_utf8-from_IsUtf8 (codes "w") (IsUtf8-from_ascii (codes "w") (IsAscii-cons 119 [] (lit< tt) IsAscii-nil))

pub work_part : are_parts (codes "w") ≡ true
work_part = ap (λ (b : Bool). b && true) work_utf8

-- ---- joined names

-- and is longer
pub join_longer : (p last : Name) → is_path p ≡ true → length p + length last ≤ length (join p last)
join_longer [] last path = absurd (cc path)
join_longer (b ∷ []) last path = omega arith
join_longer (b ∷ c ∷ p) last path = omega (arith, length-append (b ∷ c ∷ p) (47 ∷ last))

-- a name that isn't too long is a path
pub own_is_path : (p last : Name) → is_path p ≡ true → are_parts last ≡ true → length (join p last) ≤ 1024 → is_path (join p last) ≡ true
own_is_path p last path parts short = join_is_path p last path parts (fits (length (join p last)) short)

-- ---- lengths

pub not_longer : (p q : Name) → length q ≤ length p → (p ≡ q → ⊥) → is_within p q ≡ false
not_longer p q le other = or_none (same_name q p) (is_below p q)
    (⊎_elim (λ same. absurd (other (sym (same_means q p same)))) (λ no_same. no_same) (cases_Bool (same_name q p)))
    (⊎_elim (λ low. absurd (omega (arith, below_longer p q low))) (λ not_low. not_low) (cases_Bool (is_below p q)))

-- what is below something within a name is within it
pub within_below : (f q p : Name) → is_within f q ≡ true → is_below q p ≡ true → is_within f p ≡ true
within_below f q p within low = ⊎_elim
    (λ same. below_within f p (subst (λ (x : Name). is_below x p ≡ true) (same_means q f same) low))
    (λ lower. below_within f p (below_trans f q p lower low))
    (or_cases (same_name q f) (is_below f q) within)

-- ---- two names above one

pub data Line (a b : Name) : Type 0 where
  one : a ≡ b → Line a b
  first : is_below a b ≡ true → Line a b
  second : is_below b a ≡ true → Line a b

below_more : (x : ℕ) (a b : Name) → is_below a b ≡ true → is_below (x ∷ a) (x ∷ b) ≡ true
below_more x a b low = ap (λ (t : Bool). t && is_below a b) (equal_test x) ∙ low

line_more : (x : ℕ) (a b : Name) → Line a b → Line (x ∷ a) (x ∷ b)
line_more x a b (one is) = one (ap (λ l. x ∷ l) is)
line_more x a b (first low) = first (below_more x a b low)
line_more x a b (second low) = second (below_more x b a low)

in_front : (a b r s : Name) → a ++ 47 ∷ r ≡ b ++ 47 ∷ s → Line a b
in_front [] [] r s is = one refl
in_front [] (y ∷ b) r s is = first (ap (λ (n : ℕ). is_below [] (n ∷ b)) (let e : 47 ≡ y = cc is in sym e))
in_front (x ∷ a) [] r s is = second (ap (λ (n : ℕ). is_below [] (n ∷ a)) (let e : x ≡ 47 = cc is in e))
in_front (x ∷ a) (y ∷ b) r s is =
    let same : x ≡ y = cc is in
    let rest : a ++ 47 ∷ r ≡ b ++ 47 ∷ s = cc is in
    subst (λ (n : ℕ). Line (x ∷ a) (n ∷ b)) same (line_more x a b (in_front a b r s rest))

pub in_line : (a b q : Name) → is_below a q ≡ true → is_below b q ≡ true → Line a b
in_line a b q high low =
    let r = below_rest a q high in
    let s = below_rest b q low in
    in_front a b r.0 s.0 (sym r.1 ∙ s.1)

-- ---- two names directly below one path

abbrev head_of : Name → ℕ
head_of [] = 0
head_of (b ∷ p) = b

no_empty : (p : Name) → 0 < length p → p ≡ [] → ⊥
no_empty p some is = absurd (omega (arith, some, ap length is))

module _ (p : Name) (path : is_path p ≡ true) where
  pub not_above : (a b : Name) → length p < length (join p a) → has_slash b ≡ false → is_below (join p a) (join p b) ≡ true → ⊥
  not_above a b longer plain low =
      let up = parent_join p b path plain in
      ⊎_elim
      (λ is. absurd (omega (arith, longer, ap length (is ∙ up))))
      (λ lower. absurd (omega (arith, longer, below_longer (join p a) p (subst (λ (x : Name). is_below (join p a) x ≡ true) up lower))))
      (below_parent (join p a) (join p b) (no_empty (join p a) (omega (arith, longer))) low)

  no_line : (a b : Name) → length p < length (join p a) → length p < length (join p b) → has_slash a ≡ false → has_slash b ≡ false → (a ≡ b → ⊥) → Line (join p a) (join p b) → ⊥
  no_line a b long_a long_b plain_a plain_b other (one is) = other (join_same p a b is)
  no_line a b long_a long_b plain_a plain_b other (first low) = not_above a b long_a plain_b low
  no_line a b long_a long_b plain_a plain_b other (second low) = not_above b a long_b plain_a low

  -- nothing is within both
  pub apart : (a b : Name) → length p < length (join p a) → length p < length (join p b) → has_slash a ≡ false → has_slash b ≡ false → (a ≡ b → ⊥)
      → (q : Name) → is_within (join p a) q ≡ true → is_within (join p b) q ≡ false
  apart a b long_a long_b plain_a plain_b other q in_a = ⊎_elim (λ in_b. absurd (both in_b)) (λ out. out) (cases_Bool (is_within (join p b) q))
    where
      both : is_within (join p b) q ≡ true → ⊥
      both in_b = ⊎_elim
          (λ same_a. ⊎_elim
          (λ same_b. other (join_same p a b (sym (same_means q (join p a) same_a) ∙ same_means q (join p b) same_b)))
          (λ low_b. not_above b a long_b plain_a (subst (λ (x : Name). is_below (join p b) x ≡ true) (same_means q (join p a) same_a) low_b))
          (or_cases (same_name q (join p b)) (is_below (join p b) q) in_b))
          (λ low_a. ⊎_elim
          (λ same_b. not_above a b long_a plain_b (subst (λ (x : Name). is_below (join p a) x ≡ true) (same_means q (join p b) same_b) low_a))
          (λ low_b. no_line a b long_a long_b plain_a plain_b other (in_line (join p a) (join p b) q low_a low_b))
          (or_cases (same_name q (join p b)) (is_below (join p b) q) in_b))
          (or_cases (same_name q (join p a)) (is_below (join p a) q) in_a)

-- ---- the journal's files

pub in_gate : (base q : Name) → is_within (gate base) q ≡ true → is_own base q ≡ true
in_gate base q within = or_right (same_name q base) _ (or_left (is_within (gate base) q) _ within)

pub in_log : (base q : Name) → is_within (log base) q ≡ true → is_own base q ≡ true
in_log base q within = or_right (same_name q base) _ (or_right (is_within (gate base) q) _ (or_left (is_within (log base) q) _ within))

pub base_own : (base q : Name) → same_name q base ≡ true → is_own base q ≡ true
base_own base q same = or_left (same_name q base) _ same

pub in_work : (base q : Name) → is_within (work base) q ≡ true → is_own base q ≡ true
in_work base q within = or_right (same_name q base) _ (or_right (is_within (gate base) q) _ (or_right (is_within (log base) q) _ (or_left (is_within (work base) q) _ within)))

pub in_staged : (base q : Name) → is_within (staged base) q ≡ true → is_own base q ≡ true
in_staged base q within = or_right (same_name q base) _ (or_right (is_within (gate base) q) _ (or_right (is_within (log base) q) _ (or_right (is_within (work base) q) _ within)))

pub log_or_staged_own : (base q : Name) → is_log_or_staged base q ≡ true → is_own base q ≡ true
log_or_staged_own base q h = ⊎_elim (base_own base q)
    (λ rest. ⊎_elim (in_log base q) (in_staged base q) (or_cases (is_within (log base) q) (is_within (staged base) q) rest))
    (or_cases (same_name q base) _ h)

-- where a name lies that is one of the journal's own
pub data OwnPlace (base q : Name) : Type 0 where
  at_base : q ≡ base → OwnPlace base q
  in_file : (last : Name) → has_slash last ≡ false → ((x : Name) → is_within (join base last) x ≡ true → is_own base x ≡ true) → is_within (join base last) q ≡ true → OwnPlace base q

pub own_place : (base q : Name) → is_own base q ≡ true → OwnPlace base q
own_place base q own = ⊎_elim
    (λ same. at_base (same_means q base same))
    (λ file. ⊎_elim
    (λ within. in_file (codes "gate") refl (in_gate base) within)
    (λ more. ⊎_elim
    (λ within. in_file (codes "log") refl (in_log base) within)
    (λ rest. ⊎_elim
    (λ within. in_file (codes "w") refl (in_work base) within)
    (λ within. in_file (codes "p") refl (in_staged base) within)
    (or_cases (is_within (work base) q) (is_within (staged base) q) rest))
    (or_cases (is_within (log base) q) _ more))
    (or_cases (is_within (gate base) q) _ file))
    (or_cases (same_name q base) (is_own_file base q) own)

module _ (base : Name) (path : is_path base ≡ true) where
  gate_long : length base + 4 ≤ length (gate base)
  gate_long = join_longer base (codes "gate") path

  log_long : length base + 3 ≤ length (log base)
  log_long = join_longer base (codes "log") path

  longer_differs : (p q : Name) → length q < length p → p ≡ q → ⊥
  longer_differs p q less is = absurd (omega (arith, ap length is))

  pub base_not_in_gate : is_within (gate base) base ≡ false
  base_not_in_gate = not_longer (gate base) base (omega (arith, gate_long)) (longer_differs (gate base) base (omega (arith, gate_long)))

  log_no_longer : length (log base) + 1 ≡ length (gate base)
  log_no_longer = at base path
    where
      at : (p : Name) → is_path p ≡ true → length (log p) + 1 ≡ length (gate p)
      at [] path = absurd (cc path)
      at (b ∷ []) path = refl
      at (b ∷ c ∷ p) path = omega (arith, length-append (b ∷ c ∷ p) (47 ∷ codes "log"), length-append (b ∷ c ∷ p) (47 ∷ codes "gate"))

  pub log_not_in_gate : is_within (gate base) (log base) ≡ false
  log_not_in_gate = not_longer (gate base) (log base) (omega (arith, log_no_longer)) (longer_differs (gate base) (log base) (omega (arith, log_no_longer)))

  longer_not_root : (p : Name) → length base < length p → p ≢ root
  longer_not_root p longer is = absurd (omega (arith, longer, ap length is, some base path))
    where
      some : (p : Name) → is_path p ≡ true → 0 < length p
      some [] path = absurd (cc path)
      some (b ∷ p) path = omega arith

  pub gate_not_root : gate base ≢ root
  gate_not_root = longer_not_root (gate base) (omega (arith, gate_long))

  pub log_not_root : log base ≢ root
  log_not_root = longer_not_root (log base) (omega (arith, log_long))

  not_empty : (p : Name) → 0 < length p → p ≡ [] → ⊥
  not_empty p some is = absurd (omega (arith, ap length is))

  -- a name below the log lies below the base: it is longer than the gate, or no such name
  pub gate_not_in_log : is_within (log base) (gate base) ≡ false
  gate_not_in_log = or_none (same_name (gate base) (log base)) (is_below (log base) (gate base))
      (⊎_elim (λ same. absurd (omega (arith, log_no_longer, ap length (same_means (gate base) (log base) same)))) (λ other. other) (cases_Bool (same_name (gate base) (log base))))
      (⊎_elim (λ low. absurd (not_low low)) (λ other. other) (cases_Bool (is_below (log base) (gate base))))
    where
      not_low : is_below (log base) (gate base) ≡ true → ⊥
      not_low low =
          let up = parent_join base (codes "gate") path refl in
          ⊎_elim
          (λ is. absurd (omega (arith, log_long, ap length (is ∙ up))))
          (λ lower. absurd (omega (arith, log_long, below_longer (log base) base (subst (λ (x : Name). is_below (log base) x ≡ true) up lower))))
          (below_parent (log base) (gate base) (not_empty (log base) (omega (arith, log_long))) low)

  pub base_not_in_log : is_within (log base) base ≡ false
  base_not_in_log = not_longer (log base) base (omega (arith, log_long)) (longer_differs (log base) base (omega (arith, log_long)))

  work_long : length base + 1 ≤ length (work base)
  work_long = join_longer base (codes "w") path

  pub staged_long : length base + 1 ≤ length (staged base)
  staged_long = join_longer base (codes "p") path

  pub base_not_in_work : is_within (work base) base ≡ false
  base_not_in_work = not_longer (work base) base (omega (arith, work_long)) (longer_differs (work base) base (omega (arith, work_long)))

  pub base_not_in_staged : is_within (staged base) base ≡ false
  base_not_in_staged = not_longer (staged base) base (omega (arith, staged_long)) (longer_differs (staged base) base (omega (arith, staged_long)))

  pub work_not_root : work base ≢ root
  work_not_root = longer_not_root (work base) (omega (arith, work_long))

  pub staged_not_root : staged base ≢ root
  staged_not_root = longer_not_root (staged base) (omega (arith, staged_long))

  -- what is within one of the files isn't within another
  pub gate_apart_work : (q : Name) → is_within (gate base) q ≡ true → is_within (work base) q ≡ false
  gate_apart_work = apart base path (codes "gate") (codes "w") (omega (arith, gate_long)) (omega (arith, work_long)) refl refl (λ is. absurd (omega (arith, ap length is)))

  pub gate_apart_staged : (q : Name) → is_within (gate base) q ≡ true → is_within (staged base) q ≡ false
  gate_apart_staged = apart base path (codes "gate") (codes "p") (omega (arith, gate_long)) (omega (arith, staged_long)) refl refl (λ is. absurd (omega (arith, ap length is)))

  pub log_apart_work : (q : Name) → is_within (log base) q ≡ true → is_within (work base) q ≡ false
  log_apart_work = apart base path (codes "log") (codes "w") (omega (arith, log_long)) (omega (arith, work_long)) refl refl (λ is. absurd (omega (arith, ap length is)))

  pub staged_apart_gate : (q : Name) → is_within (staged base) q ≡ true → is_within (gate base) q ≡ false
  staged_apart_gate = apart base path (codes "p") (codes "gate") (omega (arith, staged_long)) (omega (arith, gate_long)) refl refl (λ is. absurd (omega (arith, ap length is)))

  pub staged_apart_log : (q : Name) → is_within (staged base) q ≡ true → is_within (log base) q ≡ false
  staged_apart_log = apart base path (codes "p") (codes "log") (omega (arith, staged_long)) (omega (arith, log_long)) refl refl (λ is. absurd (omega (arith, ap length is)))

  pub staged_apart_work : (q : Name) → is_within (staged base) q ≡ true → is_within (work base) q ≡ false
  staged_apart_work = apart base path (codes "p") (codes "w") (omega (arith, staged_long)) (omega (arith, work_long)) refl refl other
    where
      p_head : head_of (codes "p") ≡ 112
      p_head = refl

      w_head : head_of (codes "w") ≡ 119
      w_head = refl

      other : codes "p" ≡ codes "w" → ⊥
      other is = absurd (omega (arith, p_head, w_head, ap head_of is))

  pub gate_not_in_work : is_within (work base) (gate base) ≡ false
  gate_not_in_work = gate_apart_work (gate base) (within_itself (gate base))

  pub log_not_in_work : is_within (work base) (log base) ≡ false
  log_not_in_work = log_apart_work (log base) (within_itself (log base))

  pub gate_not_written : is_log_or_staged base (gate base) ≡ false
  gate_not_written = or_none (same_name (gate base) base) (is_within (log base) (gate base) || is_within (staged base) (gate base))
      (⊎_elim (λ same. absurd (omega (arith, gate_long, ap length (same_means (gate base) base same)))) (λ other. other) (cases_Bool (same_name (gate base) base)))
      (or_none (is_within (log base) (gate base)) (is_within (staged base) (gate base)) gate_not_in_log (gate_apart_staged (gate base) (within_itself (gate base))))

-- ---- the last names are parts of a path

gate_utf8 : is_utf8 (codes "gate") ≡ true
gate_utf8 = is_utf8-from_IsUtf8 (codes "gate") (IsUtf8-from_ascii (codes "gate")
    (IsAscii-cons 103 (codes "ate") (lit< tt) (IsAscii-cons 97 (codes "te") (lit< tt) (IsAscii-cons 116 (codes "e") (lit< tt) (IsAscii-cons 101 [] (lit< tt) IsAscii-nil)))))

log_utf8 : is_utf8 (codes "log") ≡ true
log_utf8 = is_utf8-from_IsUtf8 (codes "log") (IsUtf8-from_ascii (codes "log")
    (IsAscii-cons 108 (codes "og") (lit< tt) (IsAscii-cons 111 (codes "g") (lit< tt) (IsAscii-cons 103 [] (lit< tt) IsAscii-nil))))

pub gate_part : are_parts (codes "gate") ≡ true
gate_part = ap (λ (b : Bool). b && true) gate_utf8

pub log_part : are_parts (codes "log") ≡ true
log_part = ap (λ (b : Bool). b && true) log_utf8

pub gate_own : (base q : Name) → same_name q (gate base) ≡ true → is_own base q ≡ true
gate_own base q same = in_gate base q (or_left (same_name q (gate base)) (is_below (gate base) q) same)

-- the work name has a path where the commit flag's file has one
pub work_shorter : (base path : Name) → path ≡ gate base → is_path path ≡ true → length (join base (codes "w")) ≤ 1024
work_shorter base path is fits = shorter base (path_short (gate base) (ap is_path (sym is) ∙ fits))
  where
    shorter : (base : Name) → length (gate base) ≤ 1024 → length (join base (codes "w")) ≤ 1024
    shorter [] short = omega (arith, short)
    shorter (a ∷ []) short = omega arith
    shorter (a ∷ b ∷ p) short = omega (arith, short, length-append (a ∷ b ∷ p) (47 ∷ codes "gate"), length-append (a ∷ b ∷ p) (47 ∷ codes "w"))

-- and so has each of the journal's names below a base that isn't too long
pub short_own : (base last : Name) → length base ≤ 1011 → length last ≤ 4 → length (join base last) ≤ 1024
short_own base last short few = omega (arith, join_short base last, short, few)

pub staged_is_path : (base : Name) → is_path base ≡ true → length base ≤ 1011 → is_path (staged base) ≡ true
staged_is_path base path short = own_is_path base (codes "p") path staged_part (short_own base (codes "p") short (omega arith))

-- the directory of staged bytes has a path where the log has one
pub staged_shorter : (base : Name) → length (log base) ≤ 1024 → length (join base (codes "p")) ≤ 1024
staged_shorter [] short = omega (arith, short)
staged_shorter (a ∷ []) short = omega arith
staged_shorter (a ∷ b ∷ p) short = omega (arith, short, length-append (a ∷ b ∷ p) (47 ∷ codes "log"), length-append (a ∷ b ∷ p) (47 ∷ codes "p"))

pub log_shorter : (base path : Name) → path ≡ gate base → is_path path ≡ true → length (log base) ≤ 1024
log_shorter base path is fits = shorter base (path_short (gate base) (ap is_path (sym is) ∙ fits))
  where
    shorter : (base : Name) → length (gate base) ≤ 1024 → length (log base) ≤ 1024
    shorter [] short = omega (arith, short)
    shorter (a ∷ []) short = omega arith
    shorter (a ∷ b ∷ p) short = omega (arith, short, length-append (a ∷ b ∷ p) (47 ∷ codes "gate"), length-append (a ∷ b ∷ p) (47 ∷ codes "log"))
