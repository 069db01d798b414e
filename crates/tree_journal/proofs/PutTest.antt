-- Which write can't be put.
use Rattle.std.proofs.Common.{◌≡◌, ◌≢◌, ◌⊎◌, inl, inr, ⊎_elim, ℕ, zero, suc, ◌+◌, ◌<◌, ◌≤◌, Bool, true, false, IsTrue, List, [], ◌∷◌, length, get_or, take, is_some, Contains, sym, ◌∙◌, ap, subst, arith}
use Rattle.std.proofs.lemmas.Bool.{cases_Bool}
use Rattle.std.proofs.lemmas.List.{take_all}
use Rattle.std.proofs.lemmas.List.Elements.{All-contains, All-more}
use Rattle.std.specs.List.{All, list_any}
use Rattle.std.specs.FinMap.{get}
use Rattle.std.specs.declared.cmp.Ordering.TheVariants.{Less}
use Rattle.journal_log.specs.cny-base.Path.{is_path, root, parent, join}
use Rattle.journal_log.proofs.cny-base.Parent.{parent_is_path}
use Rattle.journal_log.specs.cny-base.Below.{is_below}
use Rattle.journal_log.proofs.cny-base.Below.{below_parent, child_below, none_below_root, parent_shorter}
use Rattle.journal_log.specs.tree-disk.declared.disk.Look.{Look}
use Rattle.journal_log.specs.tree-disk.Tree.{Name, Tree, same_name, is_dir, children, WellFormed}
use Rattle.journal_log.specs.tree-disk.Laws.{same_means}
use Rattle.journal_log.specs.tree-disk.Rows.{look_of}
use Rattle.journal_log.specs.tree-disk.Clear.{is_within}
use Rattle.journal_log.proofs.tree-disk.ClearLaws.{below_trans, join_below, or_cases}
use Rattle.journal_log.proofs.tree-disk.Children.{none_below, stands_or_not, covered_up, children_stand, child_longer, path_short, child_not_root, clash}
use Rattle.journal_log.specs.declared.put.Put.{Put}
use Rattle.journal_log.specs.WriteSet.{Rises}
use Rattle.journal_log.specs.Targets.{is_target}
use Rattle.tree_journal.specs.CanBePut.{CanBePut, AllCanBePut, HasWay, IsClearBelow}
use Rattle.tree_journal.specs.Recovery.{IsFirstBlocked}
use Rattle.journal_log.specs.tree-disk.Looks.{sees_dir}
use Rattle.tree_journal.specs.Found.{IsAbove, IsChild, AreClear}
use Rattle.tree_journal.proofs.WriteSets.{first_before}
use Rattle.journal_log.specs.cny-base.Answer.{IsAnswer}
use Rattle.journal_log.proofs.tree-disk.Order.{name_cmp, not_back, not_itself}
use Rattle.journal_log.proofs.cny-base.Lists.{contains_cases, contains_first, contains_rest}
use Rattle.journal_log.proofs.tree-disk.Looks.{dir_seen}
use Rattle.journal_log.proofs.Walking.{listed as is_target-from}
use Rattle.journal_log.proofs.tree-disk.Names.{no_path as not_empty}

-- ---- paths above

pub above_is : (path above : Name) → is_path path ≡ true → above ≡ parent path → path ≢ root → IsAbove path above
above_is path above is_one is other = record {
  is = is;
  is_path = ap is_path is ∙ parent_is_path path is_one;
  not_root = other;
  shorter = ⊎_elim (λ top. absurd (other top)) (λ less. omega (arith, ap length is, less)) (parent_shorter path is_one);
}

-- what lies above a path is the path without its last name, or lies above that
up_cases : (path above q : Name) → IsAbove path above → is_path q ≡ true → is_below q path ≡ true → (q ≡ above) ⊎ (is_below q above ≡ true)
up_cases path above q up q_path low = ⊎_elim (λ is. inl (is ∙ sym up.is)) (λ high. inr (subst (λ (x : Name). is_below q x ≡ true) (sym up.is) high)) (below_parent q path (not_empty q q_path) low)

below_up : (path above : Name) → is_path path ≡ true → IsAbove path above → (above ≡ root) ⊎ (is_below above path ≡ true)
below_up path above path_is up = ⊎_elim (λ top. inl (up.is ∙ top)) (λ low. inr (subst (λ (x : Name). is_below x path ≡ true) (sym up.is) low)) (child_below path path_is)

-- where that is a target, its own way decides
pub way_by_target : (puts : List Put) (tree : Tree) (path above : Name) (has : Bool) → is_path path ≡ true → IsAbove path above → is_target puts above ≡ true
    → IsAnswer (HasWay puts tree above) has → IsAnswer (HasWay puts tree path) has
way_by_target puts tree path above has path_is up target answer = record {
  holds = λ e q q_path low free. ⊎_elim
      (λ is. clash (is_target puts q) (ap (is_target puts) is ∙ target) free)
      (λ high. answer.holds e q q_path high free)
      (up_cases path above q up q_path low);
  fails = λ e way. answer.fails e (λ q q_path low free. way q q_path (lower q q_path low) free);
}
  where
    lower : (q : Name) → is_path q ≡ true → is_below q above ≡ true → is_below q path ≡ true
    lower q q_path low = ⊎_elim
        (λ top. absurd (none_below_root q q_path (subst (λ (x : Name). is_below q x ≡ true) top low)))
        (λ high. below_trans q above path low high)
        (below_up path above path_is up)

-- where it is no target, it has to be a directory, and then so are all above it
pub way_by_look : (puts : List Put) (tree : Tree) (path above : Name) (look : Look) (has : Bool) → WellFormed tree → is_path path ≡ true → IsAbove path above
    → is_target puts above ≡ false → look ≡ look_of tree above → has ≡ sees_dir look → IsAnswer (HasWay puts tree path) has
way_by_look puts tree path above look has well path_is up free seen is = record {
  holds = λ e q q_path low other. ⊎_elim
      (λ same. ap (λ (x : Name). is_dir (get tree x)) same ∙ dir e)
      (λ high. higher q q_path high (dir e))
      (up_cases path above q up q_path low);
  fails = λ e way. clash (is_dir (get tree above)) (here way) (sym (ap sees_dir seen ∙ dir_seen tree above) ∙ sym is ∙ e);
}
  where
    dir : has ≡ true → is_dir (get tree above) ≡ true
    dir e = sym (ap sees_dir seen ∙ dir_seen tree above) ∙ sym is ∙ e

    higher : (q : Name) → is_path q ≡ true → is_below q above ≡ true → is_dir (get tree above) ≡ true → is_dir (get tree q) ≡ true
    higher q q_path high e = ⊎_elim (λ is_one. is_one)
        (λ no_dir. absurd (cc (ap is_dir (none_below tree q above well q_path no_dir high), e)))
        (cases_Bool (is_dir (get tree q)))

    here : HasWay puts tree path → is_dir (get tree above) ≡ true
    here way = ⊎_elim
        (λ top. ap (λ (x : Name). is_dir (get tree x)) top ∙ well.root_stands)
        (λ low. way above up.is_path low free)
        (below_up path above path_is up)

-- ---- names below

pub child_is : (path last child : Name) → is_path path ≡ true → path ≢ root → is_path (join path last) ≡ true → child ≡ join path last → IsChild path last child
child_is path last child path_is other joined is = record {
  is = is;
  is_path = ap is_path is ∙ joined;
  not_root = λ top. child_not_root path last path_is other (sym is ∙ top);
  longer = omega (arith, ap length is, child_longer path last path_is other);
  short = omega (arith, ap length is, path_short (join path last) joined);
}

-- below what is no directory nothing stands
pub clear_by_look : (puts : List Put) (tree : Tree) (path : Name) (look : Look) → WellFormed tree → is_path path ≡ true → look ≡ look_of tree path → sees_dir look ≡ false
    → IsAnswer (IsClearBelow puts tree path) true
clear_by_look puts tree path look well path_is seen no_dir = record {
  holds = λ e q low free. none_below tree path q well path_is (sym (ap sees_dir seen ∙ dir_seen tree path) ∙ no_dir) low;
  fails = λ e. absurd (cc e);
}

-- what stands below a directory is one of its children, or lies below one
find_any : (P : List ℕ → Bool) (names : List (List ℕ)) → list_any P names ≡ true → (j : ℕ) × (j < length names) × (P (get_or names j []) ≡ true)
find_any P [] any = absurd (cc any)
find_any P (n ∷ names) any = by (find_any P names) (or_cases (P n) (list_any P names) any)
  where
    by : (list_any P names ≡ true → (j : ℕ) × (j < length names) × (P (get_or names j []) ≡ true)) → (P n ≡ true) ⊎ (list_any P names ≡ true)
        → (j : ℕ) × (j < length (n ∷ names)) × (P (get_or (n ∷ names) j []) ≡ true)
    by rest (inl here) = (zero, omega arith, here)
    by rest (inr later) = let r = rest later in (suc r.0, omega (arith, r.1), r.2)

pub clear_from_names : (puts : List Put) (tree : Tree) (path : Name) (names : List (List ℕ)) (clear : Bool) → WellFormed tree → is_path path ≡ true → path ≢ root
    → names ≡ children tree path → IsAnswer (AreClear puts tree path names) clear → IsAnswer (IsClearBelow puts tree path) clear
clear_from_names puts tree path names clear well path_is other listed answer = record {
  holds = λ e q low free. ⊎_elim (λ none. none) (λ stands. absurd (stands_not e q low free stands)) (stands_or_not (get tree q));
  fails = λ e below. answer.fails e (all below);
}
  where
    stands_not : clear ≡ true → (q : Name) → is_below path q ≡ true → is_target puts q ≡ false → is_some (get tree q) ≡ true → ⊥
    stands_not e q low free stands =
        let found = find_any (λ (last : List ℕ). is_within (join path last) q) (children tree path) (covered_up tree path well path_is (suc (length q)) q (omega arith) low stands) in
        let all' : AreClear puts tree path (children tree path) = subst (AreClear puts tree path) listed (answer.holds e) in
        let here = all' found.0 [] found.1 in
        ⊎_elim
        (λ same. clash (is_target puts q) (ap (is_target puts) (same_means q (join path (get_or (children tree path) found.0 [])) same) ∙ here.0) free)
        (λ lower. absurd (cc (ap is_some (here.1 q lower free), stands)))
        (or_cases (same_name q (join path (get_or (children tree path) found.0 []))) (is_below (join path (get_or (children tree path) found.0 [])) q) found.2)

    all : IsClearBelow puts tree path → AreClear puts tree path names
    all below j x lt = (target, λ q low free. below q (below_trans path (join path (get_or names j x)) q here low) free)
      where
        here : is_below path (join path (get_or names j x)) ≡ true
        here = join_below path (get_or names j x) path_is other

        stands : is_some (get tree (join path (get_or names j x))) ≡ true
        stands = (subst (All (λ (last : List ℕ). is_some (get tree (join path last)) ≡ true)) (sym listed) (children_stand tree path well)) j x lt

        target : is_target puts (join path (get_or names j x)) ≡ true
        target = ⊎_elim (λ is. is) (λ free. absurd (cc (ap is_some (below (join path (get_or names j x)) here free), stands))) (cases_Bool (is_target puts (join path (get_or names j x))))

-- ---- a loop over the names

-- the next name isn't a target
pub not_target_here : (puts : List Put) (tree : Tree) (path : Name) (names : List (List ℕ)) (i : ℕ) (last child : List ℕ) → i < length names → last ≡ get_or names i last
    → IsChild path last child → is_target puts child ≡ false → IsAnswer (AreClear puts tree path names) false
not_target_here puts tree path names i last child lt is up free = record {
  holds = λ e. absurd (cc e);
  fails = λ e all. clash (is_target puts child) (ap (is_target puts) up.is ∙ ap (λ (l : List ℕ). is_target puts (join path l)) is ∙ (all i last lt).0) free;
}

-- names below it stand that aren't
pub not_clear_here : (puts : List Put) (tree : Tree) (path : Name) (names : List (List ℕ)) (i : ℕ) (last child : List ℕ) (clear : Bool) → i < length names → last ≡ get_or names i last
    → IsChild path last child → IsAnswer (IsClearBelow puts tree child) clear → clear ≡ false → IsAnswer (AreClear puts tree path names) false
not_clear_here puts tree path names i last child clear lt is up answer not_so = record {
  holds = λ e. absurd (cc e);
  fails = λ e all. answer.fails not_so (subst (IsClearBelow puts tree) (sym (up.is ∙ ap (join path) is)) (all i last lt).1);
}

-- one name more
pub one_more_clear : (puts : List Put) (tree : Tree) (path : Name) (names : List (List ℕ)) (i : ℕ) (last child : List ℕ) (clear : Bool) → i < length names → last ≡ get_or names i last
    → IsChild path last child → is_target puts child ≡ true → IsAnswer (IsClearBelow puts tree child) clear → clear ≡ true
    → AreClear puts tree path (take i names) → AreClear puts tree path (take (i + 1) names)
one_more_clear puts tree path names i last child clear lt is up target answer so all =
    All-more (λ (l : List ℕ). IsTrue (is_target puts (join path l)) × IsClearBelow puts tree (join path l)) names i last lt all
    (subst (λ (c : Name). IsTrue (is_target puts c) × IsClearBelow puts tree c) (up.is ∙ ap (join path) is) (target, answer.holds so))

pub all_clear : (puts : List Put) (tree : Tree) (path : Name) (names : List (List ℕ)) (i : ℕ) → length names ≤ i → AreClear puts tree path (take i names) → IsAnswer (AreClear puts tree path names) true
all_clear puts tree path names i le all = record {
  holds = λ e. subst (AreClear puts tree path) (take_all i names le) all;
  fails = λ e. absurd (cc e);
}

-- ---- a loop over the writes

pub one_more_can : (puts : List Put) (tree : Tree) (all : List Put) (i : ℕ) (p : Put) (can : Bool) → i < length puts → p ≡ get_or puts i p → IsAnswer (CanBePut all tree p) can → can ≡ true
    → All (CanBePut all tree) (take i puts) → All (CanBePut all tree) (take (i + 1) puts)
one_more_can puts tree all i p can lt is answer so before = All-more (CanBePut all tree) puts i p lt before (subst (CanBePut all tree) is (answer.holds so))

-- a write whose path comes before that of the next stands before it
pub listed_before : (puts : List Put) → Rises puts → (i : ℕ) (p q : Put) → i < length puts → p ≡ get_or puts i p → Contains puts q → name_cmp q.path p.path ≡ Less → Contains (take i puts) q
listed_before [] rises i p q lt is in' less = absurd (omega (arith, lt))
listed_before (r ∷ puts) rises zero p q lt is in' less = absurd (⊎_elim
    (λ same. not_itself p.path (ap (λ (x : Put). name_cmp x.path p.path) (is ∙ same) ∙ less))
    (λ later. not_back r.path q.path (first_before r puts rises q.path (is_target-from puts q later)) (ap (λ (x : Put). name_cmp q.path x.path) (sym is) ∙ less))
    (contains_cases r q puts in'))
listed_before (r ∷ puts) rises (suc i) p q lt is in' less = ⊎_elim
    (λ same. subst (Contains (r ∷ take i puts)) same (contains_first r (take i puts)))
    (λ later. contains_rest r q (take i puts) (listed_before puts rises.1 i p q (omega (arith, lt)) is later less))
    (contains_cases r q puts in')

pub first_blocked_here : (puts : List Put) (tree : Tree) (i : ℕ) (p : Put) (can : Bool) (path : Name) → Rises puts → i < length puts → p ≡ get_or puts i p → path ≡ p.path
    → IsAnswer (CanBePut puts tree p) can → can ≡ false → All (CanBePut puts tree) (take i puts) → IsFirstBlocked puts tree path
first_blocked_here puts tree i p can path rises lt is here answer not_so before = record {
  write = p;
  listed = (i, lt, sym is);
  here = here;
  cannot = answer.fails not_so;
  first = λ q in' less. All-contains (CanBePut puts tree) (take i puts) q before (listed_before puts rises i p q lt is in' (ap (name_cmp q.path) (sym here) ∙ less));
}

pub all_can : (puts : List Put) (tree : Tree) (i : ℕ) → length puts ≤ i → All (CanBePut puts tree) (take i puts) → AllCanBePut puts tree
all_can puts tree i le before = subst (All (CanBePut puts tree)) (take_all i puts le) before

-- ---- the same, where the loop goes over an equal list

pub first_blocked_at : (puts items : List Put) → items ≡ puts → (tree : Tree) (i : ℕ) (p : Put) (can : Bool) (path : Name) → Rises items → i < length items → p ≡ get_or items i p → path ≡ p.path
    → IsAnswer (CanBePut puts tree p) can → can ≡ false → All (CanBePut puts tree) (take i items) → IsFirstBlocked puts tree path
first_blocked_at puts items same tree i p can path rises lt is here answer not_so before =
    first_blocked_here puts tree i p can path (subst Rises same rises) (subst (λ (l : List Put). i < length l) same lt) (is ∙ ap (λ (l : List Put). get_or l i p) same) here answer not_so
    (subst (λ (l : List Put). All (CanBePut puts tree) (take i l)) same before)

pub all_can_at : (puts items : List Put) → items ≡ puts → (tree : Tree) (i : ℕ) → length items ≤ i → All (CanBePut puts tree) (take i items) → AllCanBePut puts tree
all_can_at puts items same tree i le before = all_can puts tree i (subst (λ (l : List Put). length l ≤ i) same le) (subst (λ (l : List Put). All (CanBePut puts tree) (take i l)) same before)

pub item_has : (P : Put → Type 0) (puts items : List Put) → items ≡ puts → (i : ℕ) (p : Put) → i < length items → p ≡ get_or items i p → All P puts → P p
item_has P puts items same i p lt is all = subst P (sym is) (subst (All P) (sym same) all i p lt)
