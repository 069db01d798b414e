-- The names of the changes since the last sync, and what stood then.
use Rattle.std.proofs.Common.{◌≡◌, ⊎_elim, ℕ, ◌-◌, ◌<◌, ◌≤◌, suc, zero, Bool, true, false, cond, ◌||◌, List, [], ◌∷◌, ◌++◌, length, take, drop, get_or, refl, sym, ◌∙◌, ap, subst, arith, String, string_bytes, take-append-drop}
use Rattle.std.specs.declared.alloc.Global.{Global}
use Rattle.std.specs.declared.cmp.Ordering.{Ordering}
use Rattle.std.specs.declared.cmp.Ordering.TheVariants.{Less, Equal, Greater}
use Rattle.std.specs.Ordering.{nat_cmp, match_ordering, is_eq}
use Rattle.std.specs.Cmp.Lexicographic.{slice_cmp}
use Rattle.std.specs.String.{string_cmp}
use Rattle.std.specs.BTreeSet.{BTreeSet, contains_text, insert_key}
use Rattle.std.proofs.lemmas.List.{take_all}
use Rattle.std.specs.List.{list_all, list_any}
use Rattle.std.specs.FinMap.{from_entries}
use Rattle.tree_nodes.specs.cny-base.Path.{is_path}
use Rattle.tree_nodes.specs.cny-base.declared.node.Node.{Node}
use Rattle.tree_nodes.specs.tree-disk.Tree.{Name, Tree, same_name}
use Rattle.tree_nodes.specs.tree-disk.Disk.{one_name, two_names}
use Rattle.tree_nodes.specs.tree-disk.Laws.{same_means}
use Rattle.tree_memory.specs.declared.change.Change.{Change}
use Rattle.tree_memory.specs.State.{State, settled, step, replay, state_of, tree_after, names_of, settles}
use Rattle.tree_memory.proofs.Replay.{reads_step}
use Rattle.tree_memory.specs.Since.{any_names, keeps, after_all}
use Rattle.tree_nodes.proofs.tree-disk.Nodes.{left_true as and_left}
use Rattle.tree_nodes.proofs.tree-disk.Laws.{second as and_right}
use Rattle.tree_nodes.proofs.cny-base.Bools.{joined}
use Rattle.tree_nodes.proofs.cny-base.Again.{not_true}
use Rattle.tree_nodes.proofs.tree-disk.ClearLaws.{or_cases}

-- ---- the tree after some changes

reads_all : (cs : List Change) (s : State) → (replay cs s).reads ≡ after_all cs s.reads
reads_all [] s = refl
reads_all (c ∷ cs) s = reads_all cs (step c s) ∙ ap (after_all cs) (reads_step c s)

pub replayed_start : (first : List (Name × Node)) (cs : List Change) (t : Tree) → t ≡ from_entries first → after_all cs t ≡ (state_of first cs).reads
replayed_start first cs t is = ap (after_all cs) is ∙ sym (reads_all cs (settled (from_entries first)))

-- ---- a set with one name more

twice : (x y : Bool) → (x || y) ≡ ((x || y) || x)
twice true y = refl
twice false true = refl
twice false false = refl

turned : (x y : Bool) → (x || y) ≡ (y || x)
turned true true = refl
turned true false = refl
turned false true = refl
turned false false = refl

abbrev is_text : Name → String Global → Bool
is_text p k = is_eq (slice_cmp nat_cmp p (string_bytes k))

inserted_at : (p : Name) (k j : String Global) (ks more : List (String Global)) (o : Ordering) → slice_cmp nat_cmp (string_bytes k) (string_bytes j) ≡ o → list_any (is_text p) more ≡ (list_any (is_text p) ks || is_text p k)
    → list_any (is_text p) (match_ordering o (k ∷ j ∷ ks) (j ∷ ks) (j ∷ more)) ≡ ((is_text p j || list_any (is_text p) ks) || is_text p k)
inserted_at p k j ks more Less is rest = turned (is_text p k) (is_text p j || list_any (is_text p) ks)
inserted_at p k j ks more Equal is rest =
    let same : string_bytes k ≡ string_bytes j = same_means (string_bytes k) (string_bytes j) (ap is_eq is) in
    twice (is_text p j) (list_any (is_text p) ks) ∙ ap (λ (n : Name). (is_text p j || list_any (is_text p) ks) || is_eq (slice_cmp nat_cmp p n)) (sym same)
inserted_at p k j ks more Greater is rest = ap (λ b. is_text p j || b) rest ∙ sym (joined (is_text p j) (list_any (is_text p) ks) (is_text p k))

inserted : (p : Name) (k : String Global) (ks : List (String Global)) → list_any (is_text p) (insert_key string_cmp ks k) ≡ (list_any (is_text p) ks || is_text p k)
inserted p k [] = turned (is_text p k) false
inserted p k (j ∷ ks) = inserted_at p k j ks (insert_key string_cmp ks k) (slice_cmp nat_cmp (string_bytes k) (string_bytes j)) refl (inserted p k ks)

pub one_more : (old new : BTreeSet (String Global)) (k : String Global) (p : Name) → string_bytes k ≡ p → new.keys ≡ insert_key string_cmp old.keys k
    → (q : Name) → contains_text new q ≡ (contains_text old q || one_name p q)
one_more old new k p spells is q =
    ap (λ ks. list_any (λ j. is_eq (slice_cmp nat_cmp q (string_bytes j))) ks) is
    ∙ inserted q k old.keys
    ∙ ap (λ (n : Name). contains_text old q || is_eq (slice_cmp nat_cmp q n)) spells

pub one_path : (p : Name) → is_path p ≡ true → (q : Name) → one_name p q ≡ true → is_path q ≡ true
one_path p path q h = ap is_path (same_means q p h) ∙ path

pub both_more : (old mid new : BTreeSet (String Global)) (a b : Name) → ((q : Name) → contains_text mid q ≡ (contains_text old q || one_name a q)) → ((q : Name) → contains_text new q ≡ (contains_text mid q || one_name b q))
    → (q : Name) → contains_text new q ≡ (contains_text old q || two_names a b q)
both_more old mid new a b first second q = second q ∙ ap (λ t. t || one_name b q) (first q) ∙ joined (contains_text old q) (same_name q a) (same_name q b)

pub either_path : (a b : Name) → ((q : Name) → one_name a q ≡ true → is_path q ≡ true) → ((q : Name) → one_name b q ≡ true → is_path q ≡ true) → (q : Name) → two_names a b q ≡ true → is_path q ≡ true
either_path a b first second q h = ⊎_elim (first q) (second q) (or_cases (same_name q a) (same_name q b) h)

-- ---- the names of some changes

-- those that are in the set, with those still to come
pub record NamesSoFar (set : BTreeSet (String Global)) (rest changes : List Change) : Type 0 where
  pub names : (p : Name) → (contains_text set p || any_names rest p) ≡ any_names changes p
  pub paths : (p : Name) → contains_text set p ≡ true → is_path p ≡ true

more : (t u : BTreeSet (String Global)) (c : Change) (rest changes : List Change) → NamesSoFar t (c ∷ rest) changes
    → ((p : Name) → contains_text u p ≡ (contains_text t p || names_of c p)) → ((p : Name) → names_of c p ≡ true → is_path p ≡ true) → NamesSoFar u rest changes
more t u c rest changes so names paths = record {
  names = λ p. ap (λ b. b || any_names rest p) (names p) ∙ joined (contains_text t p) (names_of c p) (any_names rest p) ∙ so.names p;
  paths = λ p h. ⊎_elim (so.paths p) (paths p) (or_cases (contains_text t p) (names_of c p) (sym (names p) ∙ h));
}

-- what a slice pattern takes off
pub front_and_rest : {X : Type 0} (xs : List X) (x : X) → 1 ≤ length xs → x ≡ get_or xs 0 x → xs ≡ x ∷ take (length xs - 1) (drop 1 xs)
front_and_rest [] x h is = absurd (omega arith)
front_and_rest (y ∷ ys) x h is = ap (λ z. z ∷ ys) (sym is) ∙ ap (λ l. x ∷ l) (sym (take_all (length (y ∷ ys) - 1) ys (omega arith)))

pub names_next : (t u : BTreeSet (String Global)) (c : Change) (xs rest changes : List Change) → xs ≡ c ∷ rest → NamesSoFar t xs changes
    → ((p : Name) → contains_text u p ≡ (contains_text t p || names_of c p)) → ((p : Name) → names_of c p ≡ true → is_path p ≡ true) → NamesSoFar u rest changes
names_next t u c xs rest changes is so names paths = more t u c rest changes (subst (λ l. NamesSoFar t l changes) is so) names paths

pub names_start : (set : BTreeSet (String Global)) (changes : List Change) → set.keys ≡ [] → NamesSoFar set changes changes
names_start set changes empty =
    let none : (p : Name) → contains_text set p ≡ false = λ p. ap (λ ks. list_any (λ j. is_eq (slice_cmp nat_cmp p (string_bytes j))) ks) empty in
    record {
      names = λ p. ap (λ b. b || any_names changes p) (none p);
      paths = λ p h. absurd (cc (sym h ∙ none p));
    }

-- ---- the state at the end, by the last moment at which all was synced

pub record IsAllSynced (s : State) : Type 0 where
  pub synced : s.synced ≡ s.reads
  pub unsynced : (p : Name) → s.unsynced p ≡ false

settled_step : (c : Change) (s : State) (v : Bool) → v ≡ true
    → IsAllSynced (cond v (settled (tree_after c s.reads)) (record { reads = tree_after c s.reads; synced = s.synced; unsynced = λ p. s.unsynced p || names_of c p }))
settled_step c s true h = record { synced = refl; unsynced = λ p. refl }
settled_step c s false h = absurd (cc h)

settled_by : (cs : List Change) (k : ℕ) (s : State) (d : Change) → k < length cs → settles (get_or cs k d) ≡ true → IsAllSynced (replay (take (suc k) cs) s)
settled_by [] k s d h is = absurd (omega arith)
settled_by (c ∷ cs) zero s d h is = settled_step c s (settles c) is
settled_by (c ∷ cs) (suc k) s d h is = settled_by cs k (step c s) d (omega arith) is

quiet_step : (c : Change) (s : State) (v : Bool) → v ≡ false → (r : State) → r ≡ cond v (settled (tree_after c s.reads)) (record { reads = tree_after c s.reads; synced = s.synced; unsynced = λ p. s.unsynced p || names_of c p })
    → (r.synced ≡ s.synced) × ((p : Name) → r.unsynced p ≡ (s.unsynced p || names_of c p))
quiet_step c s true h r is = absurd (cc h)
quiet_step c s false h r is = (ap (λ (x : State). x.synced) is, λ p. ap (λ (x : State). x.unsynced p) is)

or_none : (x : Bool) → x ≡ (x || false)
or_none true = refl
or_none false = refl

quiet : (cs : List Change) (s : State) → list_all keeps cs ≡ true → ((replay cs s).synced ≡ s.synced) × ((p : Name) → (replay cs s).unsynced p ≡ (s.unsynced p || any_names cs p))
quiet [] s h = (refl, λ p. or_none (s.unsynced p))
quiet (c ∷ cs) s h =
    let one = quiet_step c s (settles c) (not_true (settles c) (and_left (keeps c) _ h)) (step c s) refl in
    let more = quiet cs (step c s) (and_right (keeps c) _ h) in
    (more.0 ∙ one.0, λ p. more.1 p ∙ ap (λ b. b || any_names cs p) (one.1 p) ∙ joined (s.unsynced p) (names_of c p) (any_names cs p))

replay_append : (xs ys : List Change) (s : State) → replay (xs ++ ys) s ≡ replay ys (replay xs s)
replay_append [] ys s = refl
replay_append (c ∷ xs) ys s = replay_append xs ys (step c s)

settled_mark : (changes : List Change) (mark : ℕ) (s : State) → IsAllSynced s → mark ≤ length changes → ((d : Change) → 0 < mark → settles (get_or changes (mark - 1) d) ≡ true) → IsAllSynced (replay (take mark changes) s)
settled_mark changes zero s start h last = start
settled_mark [] (suc k) s start h last = absurd (omega arith)
settled_mark (c ∷ changes) (suc k) s start h last =
    let back : suc k - 1 ≡ k = omega arith in
    settled_by (c ∷ changes) k s c (omega arith) (ap (λ (j : ℕ). settles (get_or (c ∷ changes) j c)) (sym back) ∙ last c (omega arith))

module _ (first : List (Name × Node)) (changes : List Change) (mark : ℕ) (within : mark ≤ length changes) (after : list_all keeps (drop mark changes) ≡ true)
    (last : (d : Change) → 0 < mark → settles (get_or changes (mark - 1) d) ≡ true) where
  marked : IsAllSynced (state_of first (take mark changes))
  marked = settled_mark changes mark (settled (from_entries first)) (record { synced = refl; unsynced = λ p. refl }) within last

  whole : state_of first changes ≡ replay (drop mark changes) (state_of first (take mark changes))
  whole = ap (λ l. replay l (settled (from_entries first))) (sym (take-append-drop mark changes)) ∙ replay_append (take mark changes) (drop mark changes) (settled (from_entries first))

  pub synced_at : (state_of first changes).synced ≡ (state_of first (take mark changes)).reads
  synced_at = ap (λ (s : State). s.synced) whole ∙ (quiet (drop mark changes) (state_of first (take mark changes)) after).0 ∙ marked.synced

  pub unsynced_at : (p : Name) → (state_of first changes).unsynced p ≡ any_names (drop mark changes) p
  unsynced_at p = ap (λ (s : State). s.unsynced p) whole ∙ (quiet (drop mark changes) (state_of first (take mark changes)) after).1 p ∙ ap (λ b. b || any_names (drop mark changes) p) (marked.unsynced p)
