-- The bytes of files, staged.
use Rattle.std.proofs.Common.{◌≡◌, ◌≢◌, ◌⊎◌, inl, inr, ⊎_elim, ℕ, zero, suc, ◌+◌, ◌^◌, ◌<◌, ◌≤◌, Bool, true, false, cond, not, ◌||◌, ◌==◌, IsTrue, List, [], ◌∷◌, ◌++◌, map, length, get_or, take, Option, Some, None, refl, sym, ◌∙◌, ap, subst, arith}
use Rattle.std.proofs.lemmas.Bool.{cases_Bool}
use Rattle.std.proofs.lemmas.Bool.Decides.{nat_tests}
use Rattle.std.proofs.lemmas.List.{take_more}
use Rattle.std.proofs.lemmas.List.Elements.{All-head, All-tail, All-cons, All-weaker}
use Rattle.std.proofs.lemmas.Slice.Eq.{bytes_eq-Decides}
use Rattle.std.specs.Fmt.{decimal}
use Rattle.std.specs.List.{All, list_any, filter}
use Rattle.std.specs.FinMap.{get}
use Rattle.std.specs.Str.{bytes_eq}
use Rattle.sha1.specs.Sha1.{sha1}
use Rattle.journal_log.specs.cny-base.Path.{is_path, join, root, parent, has_slash}
use Rattle.journal_log.specs.cny-base.Below.{is_below}
use Rattle.journal_log.specs.cny-base.declared.node.Node.{Node}
use Rattle.journal_log.specs.cny-base.declared.node.Node.TheVariants as node
use Rattle.journal_log.specs.tree-disk.Tree.{Name, Tree, same_name, is_dir, children, WellFormed}
use Rattle.journal_log.specs.tree-disk.Rows.{bytes_of}
use Rattle.journal_log.specs.tree-disk.Laws.{same_means}
use Rattle.journal_log.specs.tree-disk.Clear.{is_within, without_tree, without_each}
use Rattle.journal_log.proofs.tree-disk.ClearLaws.{below_within, join_below, within_join_below, or_cases}
use Rattle.journal_log.proofs.tree-disk.Children.{child_longer, covered_up, not_below_itself, stands_or_not, or_none}
use Rattle.journal_log.proofs.tree-disk.Clearing.{get-without_each, without_each-append}
use Rattle.journal_log.specs.declared.put.Want.{Want}
use Rattle.journal_log.specs.declared.put.Want.TheVariants as want
use Rattle.journal_log.specs.declared.put.Put.{Put}
use Rattle.journal_log.specs.Own.{log, staged, staged_file}
use Rattle.journal_log.specs.Staged.{is_file_want, is_staged_as, is_staged_at, names_staged, names_staged_at}
use Rattle.journal_log.specs.Numbers.{staged_want, with_numbers, IsNumbered, NumbersRise}
use Rattle.tree_journal.specs.Staging.{is_content, has_content, AllStaged, HoldsNoOthers, resolved, resolve}
use Rattle.tree_journal.specs.Apply.{with_base}
use Rattle.tree_journal.specs.Steps.{is_stray, HasNoStrays, HasRoom, HaveRoom, with_own_file, with_bytes, with_all_bytes, with_stage, with_staged, without_strays}
use Rattle.tree_journal.proofs.WriteSets.{neither}
use Rattle.tree_journal.proofs.OwnNames.{not_above, not_longer, within_below, staged_not_root, staged_is_path, staged_apart_log, base_not_in_staged}
use Rattle.tree_journal.proofs.OwnFiles.{get-own_file_other, get-own_file_here, get-base_other, base_stands}
use Rattle.tree_journal.proofs.Staged.{file_within, file_apart, staged_longer, decimal_plain, parent_long, dir_long}
use Rattle.journal_log.proofs.tree-disk.Names.{same_last as join_same}
use Rattle.journal_log.proofs.cny-base.Bools.{both, or_left, or_right}

-- ---- names that no write names are cleared

filter_push : (test : Name → Bool) (xs : List Name) (x : Name) → filter test (xs ++ x ∷ []) ≡ filter test xs ++ cond (test x) (x ∷ []) []
filter_push test [] x = at (test x)
  where
    at : (b : Bool) → cond b (x ∷ []) [] ≡ [] ++ cond b (x ∷ []) []
    at true = refl
    at false = refl
filter_push test (y ∷ xs) x = at (test y) (filter_push test xs x)
  where
    at : (b : Bool) → filter test (xs ++ x ∷ []) ≡ filter test xs ++ cond (test x) (x ∷ []) []
        → cond b (y ∷ filter test (xs ++ x ∷ [])) (filter test (xs ++ x ∷ [])) ≡ cond b (y ∷ filter test xs) (filter test xs) ++ cond (test x) (x ∷ []) []
    at true rest = ap (λ (l : List Name). y ∷ l) rest
    at false rest = rest

append_none : (xs : List Name) → xs ++ [] ≡ xs
append_none [] = refl
append_none (x ∷ xs) = ap (λ (l : List Name). x ∷ l) (append_none xs)

module _ (puts : List Put) (dir : Name) (names : List Name) (tree : Tree) (i : ℕ) (last : Name) (lt : i < length names) (is : last ≡ get_or names i last) where
  next_names : take (i + 1) names ≡ take i names ++ last ∷ []
  next_names = take_more names i last lt ∙ ap (λ (x : Name). take i names ++ x ∷ []) (sym is)

  next_strays : filter (is_stray puts) (take (i + 1) names) ≡ filter (is_stray puts) (take i names) ++ cond (is_stray puts last) (last ∷ []) []
  next_strays = ap (filter (is_stray puts)) next_names ∙ filter_push (is_stray puts) (take i names) last

  pub stray_cleared : names_staged_at puts last ≡ false → without_tree (without_strays puts dir (take i names) tree) (join dir last) ≡ without_strays puts dir (take (i + 1) names) tree
  stray_cleared other =
      sym (without_each-append tree dir (filter (is_stray puts) (take i names)) last)
      ∙ ap (without_each tree dir) (sym (next_strays ∙ ap (λ (b : Bool). filter (is_stray puts) (take i names) ++ cond (not b) (last ∷ []) []) other))

  pub stray_kept : names_staged_at puts last ≡ true → without_strays puts dir (take i names) tree ≡ without_strays puts dir (take (i + 1) names) tree
  stray_kept kept = ap (without_each tree dir)
      (sym (next_strays ∙ ap (λ (b : Bool). filter (is_stray puts) (take i names) ++ cond (not b) (last ∷ []) []) kept ∙ append_none (filter (is_stray puts) (take i names))))

-- ---- what stands in the directory afterwards

none_of_filter : (test P : Name → Bool) (xs : List Name) → ((x : Name) → test x ≡ true → P x ≡ false) → list_any P (filter test xs) ≡ false
none_of_filter test P [] none = refl
none_of_filter test P (x ∷ xs) none = at (test x) refl (none_of_filter test P xs none)
  where
    at : (b : Bool) → test x ≡ b → list_any P (filter test xs) ≡ false → list_any P (cond b (x ∷ filter test xs) (filter test xs)) ≡ false
    at true is rest = or_none (P x) (list_any P (filter test xs)) (none x is) rest
    at false is rest = rest

module _ (puts : List Put) (dir : Name) (path : is_path dir ≡ true) (other : dir ≢ root) (tree : Tree) where
  strays_outside : (names : List Name) (q : Name) → ((s : Name) → is_stray puts s ≡ true → is_within (join dir s) q ≡ false) → get (without_strays puts dir names tree) q ≡ get tree q
  strays_outside names q out =
      get-without_each tree dir (filter (is_stray puts) names) q
      ∙ ap (λ (b : Bool). cond b None (get tree q)) (none_of_filter (is_stray puts) (λ s. is_within (join dir s) q) names out)

  -- a name that a write names stays
  pub strays_kept : (names : List Name) (last : Name) → has_slash last ≡ false → names_staged_at puts last ≡ true → get (without_strays puts dir names tree) (join dir last) ≡ get tree (join dir last)
  strays_kept names last plain named = strays_outside names (join dir last) apart
    where
      not_true : (b : Bool) → not b ≡ true → b ≡ false
      not_true true h = absurd (cc h)
      not_true false h = refl

      apart : (s : Name) → is_stray puts s ≡ true → is_within (join dir s) (join dir last) ≡ false
      apart s stray = ⊎_elim
          (λ within. absurd (⊎_elim
          (λ same. absurd (cc (named, ap (names_staged_at puts) (join_same dir last s (same_means (join dir last) (join dir s) same)), not_true (names_staged_at puts s) stray)))
          (λ low. not_above dir path s last (child_longer dir s path other) plain low)
          (or_cases (same_name (join dir last) (join dir s)) (is_below (join dir s) (join dir last)) within)))
          (λ out. out) (cases_Bool (is_within (join dir s) (join dir last)))

  -- and what isn't in the directory too
  pub strays_elsewhere : (names : List Name) (q : Name) → is_below dir q ≡ false → get (without_strays puts dir names tree) q ≡ get tree q
  strays_elsewhere names q out = strays_outside names q (λ s stray. ⊎_elim (λ within. absurd (cc (within_join_below dir s q path other within, out))) (λ free. free) (cases_Bool (is_within (join dir s) q)))

any_of_filter : (test P : Name → Bool) (xs : List Name) → ((x : Name) → test x ≡ false → P x ≡ false) → list_any P xs ≡ true → list_any P (filter test xs) ≡ true
any_of_filter test P [] none any = absurd (cc any)
any_of_filter test P (x ∷ xs) none any = at (test x) refl (or_cases (P x) (list_any P xs) any) (any_of_filter test P xs none)
  where
    at : (b : Bool) → test x ≡ b → (P x ≡ true) ⊎ (list_any P xs ≡ true) → (list_any P xs ≡ true → list_any P (filter test xs) ≡ true) → list_any P (cond b (x ∷ filter test xs) (filter test xs)) ≡ true
    at true is (inl here) rest = or_left (P x) (list_any P (filter test xs)) here
    at true is (inr later) rest = or_right (P x) (list_any P (filter test xs)) (rest later)
    at false is (inl here) rest = absurd (cc (here, none x is))
    at false is (inr later) rest = rest later

-- Nothing is left below the directory but at the names that writes name, and below these.
pub no_strays : (puts : List Put) (dir : Name) → is_path dir ≡ true → (tree : Tree) → WellFormed tree → HasNoStrays dir puts (without_strays puts dir (children tree dir) tree)
no_strays puts dir path tree well q low free =
    get-without_each tree dir (filter (is_stray puts) (children tree dir)) q
    ∙ ⊎_elim
    (λ none. still_none (list_any (λ s. is_within (join dir s) q) (filter (is_stray puts) (children tree dir))) (get tree q) none)
    (λ stands. ap (λ (b : Bool). cond b None (get tree q))
    (any_of_filter (is_stray puts) (λ s. is_within (join dir s) q) (children tree dir) (λ s kept. free s (named s kept))
    (covered_up tree dir well path (suc (length q)) q (omega arith) low stands)))
    (stands_or_not (get tree q))
  where
    still_none : (b : Bool) (o : Option Node) → o ≡ None → cond b None o ≡ None
    still_none true o none = refl
    still_none false o none = none

    not_false : (b : Bool) → not b ≡ false → b ≡ true
    not_false true h = refl
    not_false false h = absurd (cc h)

    named : (s : Name) → is_stray puts s ≡ false → names_staged_at puts s ≡ true
    named s kept = not_false (names_staged_at puts s) kept

-- ---- the bytes are written one after the other

pub room_at : (base : Name) (puts numbered : List Put) (tree : Tree) (i : ℕ) (p n : Put) → i < length puts → i < length numbered → p ≡ get_or puts i p → n ≡ get_or numbered i n
    → HaveRoom base puts numbered tree → HasRoom base p.want n.want (with_all_bytes base (take i puts) (take i numbered) tree)
room_at base [] numbered tree i p n lt lt' is is' room = absurd (omega (arith, lt))
room_at base (r ∷ puts) [] tree i p n lt lt' is is' room = absurd (omega (arith, lt'))
room_at base (r ∷ puts) (m ∷ numbered) tree zero p n lt lt' is is' room =
    subst (λ (x : Put). HasRoom base x.want n.want tree) (sym is) (subst (λ (x : Put). HasRoom base r.want x.want tree) (sym is') room.0)
room_at base (r ∷ puts) (m ∷ numbered) tree (suc i) p n lt lt' is is' room =
    room_at base puts numbered (with_bytes base r.want m.want tree) i p n (omega (arith, lt)) (omega (arith, lt')) is is' room.1

pub one_more_written : (base : Name) (puts numbered : List Put) (tree : Tree) (i : ℕ) (p n : Put) → i < length puts → i < length numbered → p ≡ get_or puts i p → n ≡ get_or numbered i n
    → with_bytes base p.want n.want (with_all_bytes base (take i puts) (take i numbered) tree) ≡ with_all_bytes base (take (i + 1) puts) (take (i + 1) numbered) tree
one_more_written base [] numbered tree i p n lt lt' is is' = absurd (omega (arith, lt))
one_more_written base (r ∷ puts) [] tree i p n lt lt' is is' = absurd (omega (arith, lt'))
one_more_written base (r ∷ puts) (m ∷ numbered) tree zero p n lt lt' is is' =
    ap (λ (x : Put). with_bytes base x.want n.want tree) is ∙ ap (λ (x : Put). with_bytes base r.want x.want tree) is'
one_more_written base (r ∷ puts) (m ∷ numbered) tree (suc i) p n lt lt' is is' =
    let next : suc (i + 1) ≡ suc i + 1 = omega arith in
    subst (λ (k : ℕ). with_bytes base p.want n.want (with_all_bytes base (take (suc i) (r ∷ puts)) (take (suc i) (m ∷ numbered)) tree) ≡ with_all_bytes base (take k (r ∷ puts)) (take k (m ∷ numbered)) tree) next
    (one_more_written base puts numbered (with_bytes base r.want m.want tree) i p n (omega (arith, lt)) (omega (arith, lt')) is is')

-- a file in the directory is longer
pub file_longer : (base : Name) → is_path base ≡ true → (n : ℕ) → is_within (staged_file base n) (staged base) ≡ false
file_longer base path n =
    let longer : length (staged base) < length (staged_file base n) = staged_longer base path n in
    not_longer (staged_file base n) (staged base) (omega (arith, longer)) (λ is. absurd (omega (arith, longer, ap length is)))

-- nothing is written for writes that are as they were
pub no_bytes_written : (base : Name) (puts : List Put) (tree : Tree) → with_all_bytes base puts puts tree ≡ tree
no_bytes_written base [] tree = refl
no_bytes_written base (p ∷ puts) tree = no_bytes_written base puts (with_bytes base p.want p.want tree) ∙ same p.want
  where
    same : (w : Want) → with_bytes base w w tree ≡ tree
    same want.Nothing = refl
    same (want.Dir mode) = refl
    same (want.File mode bytes) = refl
    same (want.Link target) = refl
    same (want.Staged mode number size name) = refl

-- what isn't in the directory stays
bytes_elsewhere : (base : Name) → is_path base ≡ true → (w n : Want) (tree : Tree) (q : Name) → (is_within (staged base) q ≡ false) ⊎ (q ≡ staged base) → get (with_bytes base w n tree) q ≡ get tree q
bytes_elsewhere base path (want.File mode bytes) (want.Staged m number size name) tree q out = get-own_file_other (staged_file base number) bytes tree q
    (⊎_elim (λ within. absurd (in_dir within)) (λ free. free) (cases_Bool (is_within (staged_file base number) q)))
  where
    in_dir : is_within (staged_file base number) q ≡ true → ⊥
    in_dir within = ⊎_elim (λ free. absurd (cc (free, up within))) (λ is. top within is) out
      where
        up : is_within (staged_file base number) q ≡ true → is_within (staged base) q ≡ true
        up within = ⊎_elim
            (λ same. subst (λ (x : Name). is_within (staged base) x ≡ true) (sym (same_means q (staged_file base number) same)) (file_within base path number))
            (λ low. within_below (staged base) (staged_file base number) q (file_within base path number) low)
            (or_cases (same_name q (staged_file base number)) (is_below (staged_file base number) q) within)

        top : is_within (staged_file base number) q ≡ true → q ≡ staged base → ⊥
        top within is = absurd (cc (subst (λ (x : Name). is_within (staged_file base number) x ≡ true) is within, dir_outside))
          where
            dir_outside : is_within (staged_file base number) (staged base) ≡ false
            dir_outside = file_longer base path number
bytes_elsewhere base path want.Nothing n tree q out = refl
bytes_elsewhere base path (want.Dir mode) n tree q out = refl
bytes_elsewhere base path (want.Link target) n tree q out = refl
bytes_elsewhere base path (want.Staged mode m size name) n tree q out = refl
bytes_elsewhere base path (want.File mode bytes) want.Nothing tree q out = refl
bytes_elsewhere base path (want.File mode bytes) (want.Dir m) tree q out = refl
bytes_elsewhere base path (want.File mode bytes) (want.Link target) tree q out = refl
bytes_elsewhere base path (want.File mode bytes) (want.File m more) tree q out = refl

pub all_bytes_elsewhere : (base : Name) → is_path base ≡ true → (puts numbered : List Put) (tree : Tree) (q : Name) → (is_within (staged base) q ≡ false) ⊎ (q ≡ staged base)
    → get (with_all_bytes base puts numbered tree) q ≡ get tree q
all_bytes_elsewhere base path [] numbered tree q out = refl
all_bytes_elsewhere base path (p ∷ puts) [] tree q out = refl
all_bytes_elsewhere base path (p ∷ puts) (n ∷ numbered) tree q out =
    all_bytes_elsewhere base path puts numbered (with_bytes base p.want n.want tree) q out ∙ bytes_elsewhere base path p.want n.want tree q out

-- what isn't within a file that a numbered write names stays too
bytes_apart : (base : Name) (w n : Want) (tree : Tree) (q : Name) → ((k : ℕ) → is_staged_as k n ≡ true → is_within (staged_file base k) q ≡ false) → get (with_bytes base w n tree) q ≡ get tree q
bytes_apart base (want.File mode bytes) (want.Staged m number size name) tree q free = get-own_file_other (staged_file base number) bytes tree q (free number (itself number))
  where
    itself : (n : ℕ) → (n == n) ≡ true
    itself n = grind (arith, nat_tests)
bytes_apart base want.Nothing n tree q free = refl
bytes_apart base (want.Dir mode) n tree q free = refl
bytes_apart base (want.Link target) n tree q free = refl
bytes_apart base (want.Staged mode m size name) n tree q free = refl
bytes_apart base (want.File mode bytes) want.Nothing tree q free = refl
bytes_apart base (want.File mode bytes) (want.Dir m) tree q free = refl
bytes_apart base (want.File mode bytes) (want.Link target) tree q free = refl
bytes_apart base (want.File mode bytes) (want.File m more) tree q free = refl

pub all_bytes_apart : (base : Name) (puts numbered : List Put) (tree : Tree) (q : Name) → ((k : ℕ) → names_staged numbered k ≡ true → is_within (staged_file base k) q ≡ false)
    → get (with_all_bytes base puts numbered tree) q ≡ get tree q
all_bytes_apart base [] numbered tree q free = refl
all_bytes_apart base (p ∷ puts) [] tree q free = refl
all_bytes_apart base (p ∷ puts) (n ∷ numbered) tree q free =
    all_bytes_apart base puts numbered (with_bytes base p.want n.want tree) q (λ k named. free k (or_right (is_staged_as k n.want) (names_staged numbered k) named))
    ∙ bytes_apart base p.want n.want tree q (λ k named. free k (or_left (is_staged_as k n.want) (names_staged numbered k) named))

-- the staged files that writes name are named by the numbered ones
pub named_still : (numbers : List ℕ) (puts : List Put) (k : ℕ) → names_staged puts k ≡ true → names_staged (with_numbers numbers puts) k ≡ true
named_still numbers [] k named = absurd (cc named)
named_still [] (p ∷ puts) k named = named
named_still (n ∷ numbers) (p ∷ puts) k named = ⊎_elim
    (λ here. or_left (is_staged_as k (staged_want n p.want)) (names_staged (with_numbers (cond (is_file_want p.want) numbers (n ∷ numbers)) puts) k) (at p.want here))
    (λ later. or_right (is_staged_as k (staged_want n p.want)) (names_staged (with_numbers (cond (is_file_want p.want) numbers (n ∷ numbers)) puts) k) (named_still (cond (is_file_want p.want) numbers (n ∷ numbers)) puts k later))
    (or_cases (is_staged_as k p.want) (names_staged puts k) named)
  where
    at : (w : Want) → is_staged_as k w ≡ true → is_staged_as k (staged_want n w) ≡ true
    at want.Nothing is = absurd (cc is)
    at (want.Dir mode) is = absurd (cc is)
    at (want.File mode bytes) is = absurd (cc is)
    at (want.Link target) is = absurd (cc is)
    at (want.Staged mode number size name) is = is

-- a last name that writes name is that of a staged file
named_number : (puts : List Put) (last : Name) → names_staged_at puts last ≡ true → (k : ℕ) × (names_staged puts k ≡ true) × (decimal k ≡ last)
named_number [] last named = absurd (cc named)
named_number (p ∷ puts) last named = ⊎_elim
    (λ here. at p.want here)
    (λ later. let rest = named_number puts last later in (rest.0, or_right (is_staged_as rest.0 p.want) (names_staged puts rest.0) rest.1, rest.2))
    (or_cases (is_staged_at last p.want) (names_staged_at puts last) named)
  where
    itself : (n : ℕ) → (n == n) ≡ true
    itself n = grind (arith, nat_tests)

    at : (w : Want) → is_staged_at last w ≡ true → (k : ℕ) × ((is_staged_as k w || names_staged puts k) ≡ true) × (decimal k ≡ last)
    at want.Nothing is = absurd (cc is)
    at (want.Dir mode) is = absurd (cc is)
    at (want.File mode bytes) is = absurd (cc is)
    at (want.Link target) is = absurd (cc is)
    at (want.Staged mode number size name) is = (number, or_left (number == number) (names_staged puts number) (itself number), same_means (decimal number) last is)

-- Below the directory nothing is left but what the numbered writes name.
pub no_others : (base : Name) (puts made : List Put) → IsNumbered puts made → (tree : Tree) → HasNoStrays (staged base) puts tree → HoldsNoOthers base made (with_all_bytes base puts made tree)
no_others base puts made is tree clear q low free =
    all_bytes_apart base puts made tree q free
    ∙ clear q low (λ last named. let file = named_number puts last named in
    subst (λ (l : Name). is_within (join (staged base) l) q ≡ false) file.2
    (free file.0 (subst (λ (l : List Put). names_staged l file.0 ≡ true) (sym is.writes) (named_still is.numbers puts file.0 file.1))))

pub others_past_log : (base : Name) → is_path base ≡ true → (made : List Put) (bytes : List ℕ) (tree : Tree) → HoldsNoOthers base made tree → HoldsNoOthers base made (with_own_file (log base) bytes tree)
others_past_log base path made bytes tree clear q low free = get-own_file_other (log base) bytes tree q (staged_apart_log base path q (below_within (staged base) q low)) ∙ clear q low free

-- ---- each staged file holds what its write wants

module _ (base : Name) (path : is_path base ≡ true) (dir : is_path (staged base) ≡ true) where
  abbrev pub IsOther : ℕ → ℕ → Type 0
  IsOther m n = (m ≡ n → ⊥) × (n < 2 ^ 64)

  -- files of other numbers stay
  pub numbers_apart : (m : ℕ) → m < 2 ^ 64 → (puts : List Put) (numbers : List ℕ) (tree : Tree) → All (IsOther m) numbers
      → get (with_all_bytes base puts (with_numbers numbers puts) tree) (staged_file base m) ≡ get tree (staged_file base m)
  numbers_apart m fits [] numbers tree others = refl
  numbers_apart m fits (p ∷ puts) [] tree others = no_files (p ∷ puts) tree
    where
      no_files : (puts : List Put) (tree : Tree) → get (with_all_bytes base puts puts tree) (staged_file base m) ≡ get tree (staged_file base m)
      no_files puts tree = ap (λ (t : Tree). get t (staged_file base m)) (no_bytes_written base puts tree)
  numbers_apart m fits (p ∷ puts) (n ∷ numbers) tree others = step p.want (numbers_apart m fits puts)
    where
      step : (w : Want) → ((numbers : List ℕ) (tree : Tree) → All (IsOther m) numbers → get (with_all_bytes base puts (with_numbers numbers puts) tree) (staged_file base m) ≡ get tree (staged_file base m))
          → get (with_all_bytes base puts (with_numbers (cond (is_file_want w) numbers (n ∷ numbers)) puts) (with_bytes base w (staged_want n w) tree)) (staged_file base m) ≡ get tree (staged_file base m)
      step want.Nothing rest = rest (n ∷ numbers) tree others
      step (want.Dir mode) rest = rest (n ∷ numbers) tree others
      step (want.Link target) rest = rest (n ∷ numbers) tree others
      step (want.Staged mode k size name) rest = rest (n ∷ numbers) tree others
      step (want.File mode bytes) rest =
          let here : IsOther m n = All-head (IsOther m) n numbers others in
          rest numbers (with_own_file (staged_file base n) bytes tree) (All-tail (IsOther m) n numbers others)
          ∙ get-own_file_other (staged_file base n) bytes tree (staged_file base m) (file_apart base path dir n m here.1 fits (λ is. here.0 (sym is)))

  -- the files of numbers under which nothing stands have room, one after the other
  abbrev pub IsBareAt : Tree → ℕ → Type 0
  IsBareAt tree n = (get tree (staged_file base n) ≡ None) × (n < 2 ^ 64)

  pub same_room : (puts : List Put) (tree : Tree) → HaveRoom base puts puts tree
  same_room [] tree = tt
  same_room (p ∷ puts) tree = (at p.want, same_room puts (with_bytes base p.want p.want tree))
    where
      at : (w : Want) → HasRoom base w w tree
      at want.Nothing = tt
      at (want.Dir mode) = tt
      at (want.File mode bytes) = tt
      at (want.Link target) = tt
      at (want.Staged mode number size name) = tt

  pub have_room : (puts : List Put) (numbers : List ℕ) (tree : Tree) → NumbersRise numbers → All (IsBareAt tree) numbers → HaveRoom base puts (with_numbers numbers puts) tree
  have_room [] numbers tree rise bare = tt
  have_room (p ∷ puts) [] tree rise bare = same_room (p ∷ puts) tree
  have_room (p ∷ puts) (n ∷ numbers) tree rise bare = step p.want (have_room puts)
    where
      bare_rest : (bytes : List ℕ) → All (IsBareAt (with_own_file (staged_file base n) bytes tree)) numbers
      bare_rest bytes k d lt =
          let here : IsBareAt tree n = All-head (IsBareAt tree) n numbers bare in
          let there : IsBareAt tree (get_or numbers k d) = All-tail (IsBareAt tree) n numbers bare k d lt in
          let less : n < get_or numbers k d = rise.0 k d lt in (
            get-own_file_other (staged_file base n) bytes tree (staged_file base (get_or numbers k d)) (file_apart base path dir n (get_or numbers k d) here.1 there.1 (λ is. absurd (omega (arith, is, less)))) ∙ there.0,
            there.1,
          )

      step : (w : Want) → ((numbers : List ℕ) (tree : Tree) → NumbersRise numbers → All (IsBareAt tree) numbers → HaveRoom base puts (with_numbers numbers puts) tree)
          → HasRoom base w (staged_want n w) tree × HaveRoom base puts (with_numbers (cond (is_file_want w) numbers (n ∷ numbers)) puts) (with_bytes base w (staged_want n w) tree)
      step want.Nothing rest = (tt, rest (n ∷ numbers) tree rise bare)
      step (want.Dir mode) rest = (tt, rest (n ∷ numbers) tree rise bare)
      step (want.Link target) rest = (tt, rest (n ∷ numbers) tree rise bare)
      step (want.Staged mode k size name) rest = (tt, rest (n ∷ numbers) tree rise bare)
      step (want.File mode bytes) rest =
          let here : IsBareAt tree n = All-head (IsBareAt tree) n numbers bare in
          (here.0, rest numbers (with_own_file (staged_file base n) bytes tree) rise.1 (bare_rest bytes))

  -- the staged files of writes that aren't numbered anew
  abbrev pub Keeps : List Put → Tree → Tree → Type 0
  Keeps puts tree first = (k : ℕ) → names_staged puts k ≡ true → (get tree (staged_file base k) ≡ get first (staged_file base k)) × (k < 2 ^ 64)

  abbrev pub IsFree : List Put → ℕ → Type 0
  IsFree puts n = (names_staged puts n ≡ false) × (n < 2 ^ 64)

  abbrev pub Holds : Tree → Tree → List Put → List Put → Type 0
  Holds last first made puts = (map (resolve base last) made ≡ map (resolve base first) puts) × AllStaged base last made

  pub holds_cons : (last first : Tree) (q p : Put) (made puts : List Put) → resolve base last q ≡ resolve base first p → has_content base last q.want ≡ true → Holds last first made puts → Holds last first (q ∷ made) (p ∷ puts)
  holds_cons last first q p made puts same stands rest = (
    ap (λ (x : Put). x ∷ map (resolve base last) made) same ∙ ap (λ (l : List Put). resolve base first p ∷ l) rest.0,
    All-cons (λ (x : Put). IsTrue (has_content base last x.want)) q made stands rest.1,
  )

  pub as_write : (last first : Tree) (at : Name) (v w : Want) → resolved base last v ≡ resolved base first w
      → (let one : Put = record { path = at; want = resolved base last v } in let two : Put = record { path = at; want = resolved base first w } in one ≡ two)
  as_write last first at v w same = let make : Want → Put = λ x. record { path = at; want = x } in ap make same

  pub equal_itself : (n : ℕ) → (n == n) ≡ true
  equal_itself n = grind (arith, nat_tests)

  pub content_itself : (mode : ℕ) (bytes : List ℕ) → is_content (Some (node.File mode bytes)) (length bytes) (sha1 bytes) ≡ true
  content_itself mode bytes = both (length bytes == length bytes) (bytes_eq (sha1 bytes) (sha1 bytes)) (equal_itself (length bytes)) ((bytes_eq-Decides (sha1 bytes) (sha1 bytes)).1 refl)

  pub free_rest : (p : Put) (puts : List Put) (n : ℕ) → IsFree (p ∷ puts) n → IsFree puts n
  free_rest p puts n free = ((neither (is_staged_as n p.want) (names_staged puts n) free.0).1, free.1)

  pub keeps_rest : (p : Put) (puts : List Put) (tree first : Tree) → Keeps (p ∷ puts) tree first → Keeps puts tree first
  keeps_rest p puts tree first keeps k named = keeps k (or_right (is_staged_as k p.want) (names_staged puts k) named)

  pub keeps_written : (puts : List Put) (tree first : Tree) (n : ℕ) (bytes : List ℕ) → IsFree puts n → Keeps puts tree first → Keeps puts (with_own_file (staged_file base n) bytes tree) first
  keeps_written puts tree first n bytes free keeps k named =
      let old = keeps k named in (
        get-own_file_other (staged_file base n) bytes tree (staged_file base k) (file_apart base path dir n k free.1 old.1 (λ is. absurd (cc (named, ap (names_staged puts) is, free.0)))) ∙ old.0,
        old.1,
      )

  pub rest_other : (n : ℕ) (numbers : List ℕ) → n < 2 ^ 64 → All (λ m. n < m) numbers → All (λ m. m < 2 ^ 64) numbers → All (IsOther n) numbers
  rest_other n numbers fits later fit = λ k d lt. ((λ is. absurd (omega (arith, is, later k d lt))), fit k d lt)

  pub free_other : (p : Put) (puts : List Put) (k : ℕ) (numbers : List ℕ) → names_staged (p ∷ puts) k ≡ true → All (IsFree (p ∷ puts)) numbers → All (IsOther k) numbers
  free_other p puts k numbers named free = All-weaker (IsFree (p ∷ puts)) (IsOther k) (λ n h. ((λ is. absurd (cc (named, ap (names_staged (p ∷ puts)) is, h.0))), h.1)) numbers free

  pub fit_of : (puts : List Put) (numbers : List ℕ) → All (IsFree puts) numbers → All (λ m. m < 2 ^ 64) numbers
  fit_of puts numbers free = All-weaker (IsFree puts) (λ m. m < 2 ^ 64) (λ n h. h.1) numbers free

  -- without numbers to give, nothing is written
  pub kept_holds : (puts : List Put) (tree first : Tree) → Keeps puts tree first → AllStaged base first puts → Holds tree first puts puts
  kept_holds [] tree first keeps stand = (refl, λ k d lt. absurd (omega (arith, lt)))
  kept_holds (p ∷ puts) tree first keeps stand = holds_cons tree first p p puts puts (as_write tree first p.path p.want p.want (same p.want (λ k named. (keeps k (here k named)).0)))
      (content p.want (λ k named. (keeps k (here k named)).0) (All-head (λ (x : Put). IsTrue (has_content base first x.want)) p puts stand))
      (kept_holds puts tree first (keeps_rest p puts tree first keeps) (All-tail (λ (x : Put). IsTrue (has_content base first x.want)) p puts stand))
    where
      here : (k : ℕ) → is_staged_as k p.want ≡ true → names_staged (p ∷ puts) k ≡ true
      here k named = or_left (is_staged_as k p.want) (names_staged puts k) named

      same : (w : Want) → ((k : ℕ) → is_staged_as k w ≡ true → get tree (staged_file base k) ≡ get first (staged_file base k)) → resolved base tree w ≡ resolved base first w
      same want.Nothing kept = refl
      same (want.Dir mode) kept = refl
      same (want.File mode bytes) kept = refl
      same (want.Link target) kept = refl
      same (want.Staged mode k size name) kept = ap (λ (o : Option Node). want.File mode (bytes_of o)) (kept k (equal_itself k))

      content : (w : Want) → ((k : ℕ) → is_staged_as k w ≡ true → get tree (staged_file base k) ≡ get first (staged_file base k)) → has_content base first w ≡ true → has_content base tree w ≡ true
      content want.Nothing kept stands = refl
      content (want.Dir mode) kept stands = refl
      content (want.File mode bytes) kept stands = refl
      content (want.Link target) kept stands = refl
      content (want.Staged mode k size name) kept stands = ap (λ (o : Option Node). is_content o size name) (kept k (equal_itself k)) ∙ stands

  -- what stands once all bytes are written
  pub written_holds : (puts : List Put) (numbers : List ℕ) (tree first : Tree) → NumbersRise numbers → All (IsFree puts) numbers → Keeps puts tree first → AllStaged base first puts
      → Holds (with_all_bytes base puts (with_numbers numbers puts) tree) first (with_numbers numbers puts) puts
  written_holds [] numbers tree first rise free keeps stand = (refl, λ k d lt. absurd (omega (arith, lt)))
  written_holds (p ∷ puts) [] tree first rise free keeps stand =
      subst (λ (t : Tree). Holds t first (p ∷ puts) (p ∷ puts)) (sym (no_bytes_written base (p ∷ puts) tree)) (kept_holds (p ∷ puts) tree first keeps stand)
  written_holds (p ∷ puts) (n ∷ numbers) tree first rise free keeps stand = step p.want here_named (All-head (λ (x : Put). IsTrue (has_content base first x.want)) p puts stand) (written_holds puts)
    where
      here_named : (k : ℕ) → is_staged_as k p.want ≡ true → names_staged (p ∷ puts) k ≡ true
      here_named k named = or_left (is_staged_as k p.want) (names_staged puts k) named

      free_all : All (IsFree puts) (n ∷ numbers)
      free_all = All-weaker (IsFree (p ∷ puts)) (IsFree puts) (λ m h. free_rest p puts m h) (n ∷ numbers) free

      stand_rest : AllStaged base first puts
      stand_rest = All-tail (λ (x : Put). IsTrue (has_content base first x.want)) p puts stand

      one : (v w : Want) (left : List ℕ) (next : Tree)
          → (let last : Tree = with_all_bytes base puts (with_numbers left puts) next in resolved base last v ≡ resolved base first w)
          → (let last : Tree = with_all_bytes base puts (with_numbers left puts) next in has_content base last v ≡ true)
          → Holds (with_all_bytes base puts (with_numbers left puts) next) first (with_numbers left puts) puts
          → (let made : List Put = with_numbers left puts in
          let last : Tree = with_all_bytes base puts made next in
          let new : Put = record { path = p.path; want = v } in
          let old : Put = record { path = p.path; want = resolved base first w } in
          (resolve base last new ∷ map (resolve base last) made ≡ old ∷ map (resolve base first) puts) × AllStaged base last (new ∷ made))
      one v w left next same stands rest = (
        ap (λ (x : Want). (let write : Put = record { path = p.path; want = x } in write) ∷ map (resolve base (with_all_bytes base puts (with_numbers left puts) next)) (with_numbers left puts)) same
            ∙ ap (λ (l : List Put). (let write : Put = record { path = p.path; want = resolved base first w } in write) ∷ l) rest.0,
        All-cons (λ (x : Put). IsTrue (has_content base (with_all_bytes base puts (with_numbers left puts) next) x.want)) (record { path = p.path; want = v }) (with_numbers left puts) stands rest.1,
      )

      step : (w : Want) → ((k : ℕ) → is_staged_as k w ≡ true → names_staged (p ∷ puts) k ≡ true) → has_content base first w ≡ true
          → ((numbers : List ℕ) (tree first : Tree) → NumbersRise numbers → All (IsFree puts) numbers → Keeps puts tree first → AllStaged base first puts
          → Holds (with_all_bytes base puts (with_numbers numbers puts) tree) first (with_numbers numbers puts) puts)
          → (let made : List Put = with_numbers (cond (is_file_want w) numbers (n ∷ numbers)) puts in
          let last : Tree = with_all_bytes base puts made (with_bytes base w (staged_want n w) tree) in
          let new : Put = record { path = p.path; want = staged_want n w } in
          let old : Put = record { path = p.path; want = resolved base first w } in
          (resolve base last new ∷ map (resolve base last) made ≡ old ∷ map (resolve base first) puts) × AllStaged base last (new ∷ made))
      step want.Nothing named stands rest = one want.Nothing want.Nothing (n ∷ numbers) tree refl refl (rest (n ∷ numbers) tree first rise free_all (keeps_rest p puts tree first keeps) stand_rest)
      step (want.Dir mode) named stands rest = one (want.Dir mode) (want.Dir mode) (n ∷ numbers) tree refl refl (rest (n ∷ numbers) tree first rise free_all (keeps_rest p puts tree first keeps) stand_rest)
      step (want.Link target) named stands rest = one (want.Link target) (want.Link target) (n ∷ numbers) tree refl refl (rest (n ∷ numbers) tree first rise free_all (keeps_rest p puts tree first keeps) stand_rest)
      step (want.Staged mode k size name) named stands rest =
          let old = keeps k (named k (equal_itself k)) in
          let kept : get (with_all_bytes base puts (with_numbers (n ∷ numbers) puts) tree) (staged_file base k) ≡ get first (staged_file base k) =
          numbers_apart k old.1 puts (n ∷ numbers) tree (free_other p puts k (n ∷ numbers) (named k (equal_itself k)) free) ∙ old.0 in
          one (want.Staged mode k size name) (want.Staged mode k size name) (n ∷ numbers) tree
          (ap (λ (o : Option Node). want.File mode (bytes_of o)) kept) (ap (λ (o : Option Node). is_content o size name) kept ∙ stands)
          (rest (n ∷ numbers) tree first rise free_all (keeps_rest p puts tree first keeps) stand_rest)
      step (want.File mode bytes) named stands rest =
          let next = with_own_file (staged_file base n) bytes tree in
          let fits : n < 2 ^ 64 = (All-head (IsFree (p ∷ puts)) n numbers free).1 in
          let kept : get (with_all_bytes base puts (with_numbers numbers puts) next) (staged_file base n) ≡ Some (node.File 384 bytes) =
          numbers_apart n fits puts numbers next (rest_other n numbers fits rise.0 (fit_of (p ∷ puts) numbers (All-tail (IsFree (p ∷ puts)) n numbers free)))
          ∙ get-own_file_here (staged_file base n) bytes tree in
          one (want.Staged mode n (length bytes) (sha1 bytes)) (want.File mode bytes) numbers next
          (ap (λ (o : Option Node). want.File mode (bytes_of o)) kept) (ap (λ (o : Option Node). is_content o (length bytes) (sha1 bytes)) kept ∙ content_itself 384 bytes)
          (rest numbers next first rise.1 (All-tail (IsFree puts) n numbers free_all) (keeps_written puts tree first n bytes (All-head (IsFree puts) n numbers free_all) (keeps_rest p puts tree first keeps)) stand_rest)

-- nothing stands at a number that no write names
pub bare_number : (base : Name) → is_path base ≡ true → is_path (staged base) ≡ true → (puts : List Put) (tree : Tree) → HasNoStrays (staged base) puts tree → ((k : ℕ) → names_staged puts k ≡ true → k < 2 ^ 64)
    → (n : ℕ) → n < 2 ^ 64 → names_staged puts n ≡ false → get tree (staged_file base n) ≡ None
bare_number base path dir puts tree clear fits n n_fits free =
    clear (staged_file base n) (join_below (staged base) (decimal n) dir (staged_not_root base path))
    (λ last named. let file = named_number puts last named in
    subst (λ (l : Name). is_within (join (staged base) l) (staged_file base n) ≡ false) file.2
    (file_apart base path dir file.0 n (fits file.0 file.1) n_fits (λ is. absurd (cc (file.1, ap (names_staged puts) is, free)))))

-- so the bytes of all files have room
pub room_for : (base : Name) → is_path base ≡ true → is_path (staged base) ≡ true → (puts made : List Put) → IsNumbered puts made → (tree : Tree) → HasNoStrays (staged base) puts tree → ((k : ℕ) → names_staged puts k ≡ true → k < 2 ^ 64)
    → HaveRoom base puts made tree
room_for base path dir puts made is tree clear fits = subst (λ (l : List Put). HaveRoom base puts l tree) (sym is.writes) (have_room base path dir puts is.numbers tree is.free.rise bare)
  where
    small : {n : ℕ} → n < 2 ^ 32 → n < 2 ^ 64
    small lt = omega (arith, lt)

    bare : All (IsBareAt base path dir tree) is.numbers
    bare = λ k d lt. (bare_number base path dir puts tree clear fits (get_or is.numbers k d) (small (is.fit k d lt)) (is.free.free k d lt), small (is.fit k d lt))

-- ---- where a staged file lies

pub file_parent : (base : Name) → is_path base ≡ true → (n : ℕ) → n < 2 ^ 32 → parent (staged_file base n) ≡ staged base
file_parent base path n fits = parent_long (staged base) (decimal n) (dir_long base path) (decimal_plain n (omega (arith, fits)))

pub in_dir : (base : Name) → is_path base ≡ true → (n : ℕ) (at : Name) → at ≡ staged_file base n → (q : Name) → IsTrue (is_within at q) → IsTrue (is_within (staged base) q)
in_dir base path n at is q h = ⊎_elim
    (λ same. subst (λ (x : Name). is_within (staged base) x ≡ true) (sym (same_means q at same ∙ is)) (file_within base path n))
    (λ low. within_below (staged base) (staged_file base n) q (file_within base path n) (ap (λ (x : Name). is_below x q) (sym is) ∙ low))
    (or_cases (same_name q at) (is_below at q) h)

-- the directory stands once it is cleared
pub stage_dir : (base : Name) → is_path base ≡ true → length base ≤ 1011 → (puts : List Put) (tree : Tree) → is_dir (get (with_stage (staged base) puts tree) (staged base)) ≡ true
stage_dir base path short puts tree =
    ap is_dir (strays_elsewhere puts (staged base) (staged_is_path base path short) (staged_not_root base path) (with_base (staged base) tree) (children (with_base (staged base) tree) (staged base)) (staged base) (not_below_itself (staged base)))
    ∙ base_stands (staged base) tree

-- what isn't within the directory stays while it is written
pub staged_elsewhere : (base : Name) → is_path base ≡ true → is_path (staged base) ≡ true → (puts made : List Put) (tree : Tree) (q : Name) → is_within (staged base) q ≡ false → get (with_staged base puts made tree) q ≡ get tree q
staged_elsewhere base path dir puts made tree q out =
    let parts = neither (same_name q (staged base)) (is_below (staged base) q) out in
    all_bytes_elsewhere base path puts made (with_stage (staged base) puts tree) q (inl out)
    ∙ strays_elsewhere puts (staged base) dir (staged_not_root base path) (with_base (staged base) tree) (children (with_base (staged base) tree) (staged base)) q parts.1
    ∙ get-base_other (staged base) tree q parts.0

pub staged_keeps_base : (base : Name) → is_path base ≡ true → length base ≤ 1011 → (puts made : List Put) (tree : Tree) → get (with_staged base puts made tree) base ≡ get tree base
staged_keeps_base base path short puts made tree = staged_elsewhere base path (staged_is_path base path short) puts made tree base (base_not_in_staged base path)
