-- What the tests on the disk and on earlier undoings mean.
use Rattle.std.proofs.Common.{◌≡◌, ◌≢◌, ◌⊎◌, inl, inr, ⊎_elim, ℕ, Bool, true, false, cond, not, ◌&&◌, ◌||◌, List, [], ◌∷◌, ◌++◌, map, ◌==◌, Option, Some, None, is_some, Ok, Err, refl, sym, ◌∙◌, ap, subst}
use Rattle.std.proofs.lemmas.Bool.{cases_Bool}
use Rattle.std.proofs.lemmas.List.Elements.{All-from_recursion}
use Rattle.std.specs.BTreeMap.{get}
use Rattle.std.specs.Map.{keys_of, lookup}
use Rattle.std.specs.FinMap as fin
use Rattle.std.specs.FinMap.{contains_key-keys}
use Rattle.std.specs.Cmp.Lexicographic.{slice_cmp}
use Rattle.std.specs.List.{AllByRecursion, filter, list_any}
use Rattle.std.specs.List.Sorted.{IsStrictlySortedBy}
use Rattle.std.specs.Ordering.{nat_cmp}
use Rattle.std.specs.declared.cmp.Ordering.TheVariants.{Less}
use Rattle.change_rel.specs.cny-base.Below.{begins_with}
use Rattle.change_rel.proofs.cny-base.Below.{begins, below_rest, child_below}
use Rattle.change_rel.proofs.cny-base.Joins.{slash_is}
use Rattle.change_rel.specs.cny-base.Path.{is_path, join, last_name, parent, root}
use Rattle.change_rel.specs.cny-base.declared.refusal.Refusal.{Refusal}
use Rattle.change_rel.specs.cny-base.declared.refusal.Refusal.TheVariants.{Edited, Parent}
use Rattle.local_db.specs.tree-disk.Laws.{same_means}
use Rattle.local_db.proofs.tree-disk.Laws.{same_itself}
use Rattle.local_db.specs.tree-disk.Tree as disk
use Rattle.local_db.specs.tree-disk.Tree.{Name, Tree, WellFormed, children, is_child, same_name}
use Rattle.local_db.specs.tree-disk.Rows.{is_dir_at}
use Rattle.tree_scan.proofs.MarkLaws.{same_mark_itself, same_mark_means}
use Rattle.tree_scan.specs.Marks.{fingerprint, fingerprint_at, is_dir, is_nothing, same_mark}
use Rattle.tree_scan.specs.declared.mark.Mark.{Mark}
use Rattle.tree_scan.specs.declared.mark.Mark.TheVariants as mark
use Rattle.local_db.specs.Record.{Entry, entry_cmp}
use Rattle.past_jobs.specs.declared.found.FoundMark.{FoundMark}
use Rattle.conflict_plan.proofs.Remaining.{IsListed, any_listed}
use Rattle.past_jobs.proofs.Firsts.{none_first}
use Rattle.past_jobs.specs.Jobs.{AreFound, CanUndoAll, undone_all}
use Rattle.past_jobs.proofs.JobLaws.{seen_is, undone_other, undone_same}
use Rattle.past_jobs.specs.Marks.{CanUndo, HasForeignEntry, IsEdited, IsFirstEdited, IsFirstOrphan, IsOrphan, IsUndoRefusal, Marks, is_path_of, marks_of, undone}
use Rattle.past_jobs.specs.Seen.{FoundMarks, edited_or, first_path, undo_tested, has_foreign, has_foreign_on_disk, has_foreign_put, is_dir_after, is_edited, is_foreign, is_foreign_put, is_orphan, makes_dir, mark_or, mark_seen, stays}
use Rattle.past_jobs.proofs.Undone.{IsOf, at_path}
use Rattle.conflict_plan.proofs.Remaining.{joined_child, node_stands, not_true, some_stands}
use Rattle.conflict_plan.proofs.Order.{child_parent}
use Rattle.tree_scan.proofs.tree-disk.Order.{name_cmp, less_differs as more_other, not_back as not_both_less, not_itself as not_less_itself}
use Rattle.conflict_plan.proofs.Sighted.{not_nothing, stands_dir}
use Rattle.change_rel.proofs.cny-base.Bools.{both as and_both, or_left, or_right}
use Rattle.tree_scan.proofs.tree-disk.Nodes.{left_true as and_first}
use Rattle.tree_scan.proofs.tree-disk.Laws.{second as and_second}
use Rattle.change_rel.proofs.cny-base.Again.{not_true as not_false}
use Rattle.tree_scan.proofs.tree-disk.ClearLaws.{or_cases as or_both}

-- ---- tests

both_ways : {A : Type 0} (b : Bool) → b ≡ true → b ≡ false → A
both_ways b is none = absurd (cc (is, none))

-- ---- fingerprints

pub something : (m : Mark) → m ≢ mark.Nothing → is_nothing m ≡ false
something mark.Nothing other = absurd (other refl)
something (mark.Dir mode) other = refl
something (mark.File mode size name) other = refl
something (mark.Link target) other = refl

-- ---- no path lacks its directory before

tree_whole : (x : Tree) → WellFormed x → (q : Name) → IsOrphan (marks_of x) q → ⊥
tree_whole x well q orphan =
    both_ways (disk.is_dir (fin.get x (parent q)))
    (well.parents q (some_stands (fin.get x q) (something (fingerprint (fin.get x q)) orphan.0)))
    (sym (stands_dir (fin.get x (parent q))) ∙ orphan.1)

undone_whole : (jobs : List (List Entry)) (m : Marks) → ((q : Name) → IsOrphan m q → ⊥) → CanUndoAll jobs m → (q : Name) → IsOrphan (undone_all jobs m) q → ⊥
undone_whole [] m whole can = whole
undone_whole (es ∷ more) m whole can = undone_whole more (undone es m) can.0.no_orphan can.1

-- ---- listed names

abbrev lasts : Name → List Name → List (List ℕ)
lasts p names = map last_name (filter (is_child p) names)

listed_any : (p : Name) (test : List ℕ → Bool) (names : List Name) (q : Name) → IsListed p test names q → list_any test (lasts p names) ≡ true
listed_any p test [] q is = absurd (cc is.listed)
listed_any p test (n ∷ names) q is =
    at (is_child p n) refl (λ later. listed_any p test names q (record { listed = later; child = is.child; passes = is.passes })) (or_both (same_name q n) (list_any (same_name q) names) is.listed)
  where
    at : (b : Bool) → is_child p n ≡ b → (list_any (same_name q) names ≡ true → list_any test (lasts p names) ≡ true) → (same_name q n ≡ true) ⊎ (list_any (same_name q) names ≡ true) → list_any test (map last_name (cond b (n ∷ filter (is_child p) names) (filter (is_child p) names))) ≡ true
    at true child rest (inl same) = or_left (test (last_name n)) (list_any test (lasts p names)) (ap (λ (x : Name). test (last_name x)) (sym (same_means q n same)) ∙ is.passes)
    at true child rest (inr later) = or_right (test (last_name n)) (list_any test (lasts p names)) (rest later)
    at false other rest (inl same) = absurd (cc (other, ap (is_child p) (sym (same_means q n same)), is.child))
    at false other rest (inr later) = rest later

-- ---- entries of the map

lookup_behind : (p k : Name) (es : List (Name × FoundMark)) (f : FoundMark) → AllByRecursion (λ (y : Name). name_cmp p y ≡ Less) (keys_of es) → lookup (same_name k) es ≡ Some f → name_cmp p k ≡ Less
lookup_behind p k [] f behind is = absurd (cc is)
lookup_behind p k (x ∷ es) f behind is = at (same_name k x.0) refl (lookup_behind p k es f behind.1) is
  where
    at : (b : Bool) → same_name k x.0 ≡ b → (lookup (same_name k) es ≡ Some f → name_cmp p k ≡ Less) → cond b (Some x.1) (lookup (same_name k) es) ≡ Some f → name_cmp p k ≡ Less
    at true same later is = subst (λ y. name_cmp p y ≡ Less) (sym (same_means k x.0 same)) behind.0
    at false other later is = later is

-- an entry that passes
pub record Passes (T : Name × FoundMark → Bool) (es : List (Name × FoundMark)) : Type 0 where
  pub key : Name
  pub value : FoundMark
  pub is : lookup (same_name key) es ≡ Some value
  pub passes : T (key, value) ≡ true

any_entry : (T : Name × FoundMark → Bool) (es : List (Name × FoundMark)) → IsStrictlySortedBy (slice_cmp nat_cmp) (keys_of es) → list_any T es ≡ true → Passes T es
unfolding IsStrictlySortedBy
any_entry T [] sorted any = absurd (cc any)
any_entry T (x ∷ es) sorted any = ⊎_elim
    (λ here. record { key = x.0; value = x.1; is = ap (λ b. cond b (Some x.1) (lookup (same_name x.0) es)) (same_itself x.0); passes = here })
    (λ later.
    let e = any_entry T es sorted.1 later in
    record {
      key = e.key;
      value = e.value;
      is = ap (λ b. cond b (Some x.1) (lookup (same_name e.key) es)) (more_other x.0 e.key (lookup_behind x.0 e.key es e.value sorted.0 e.is)) ∙ e.is;
      passes = e.passes;
    })
    (or_both (T x) (list_any T es) any)

entry_any : (T : Name × FoundMark → Bool) (es : List (Name × FoundMark)) (k : Name) (f : FoundMark) → lookup (same_name k) es ≡ Some f → T (k, f) ≡ true → list_any T es ≡ true
entry_any T [] k f is passes = absurd (cc is)
entry_any T (x ∷ es) k f is passes = at (same_name k x.0) refl (λ later. entry_any T es k f later passes) is
  where
    at : (b : Bool) → same_name k x.0 ≡ b → (lookup (same_name k) es ≡ Some f → list_any T es ≡ true) → cond b (Some x.1) (lookup (same_name k) es) ≡ Some f → (T x || list_any T es) ≡ true
    at true same later is =
        let value : x.1 ≡ f = cc is in
        or_left (T x) (list_any T es) ((λ i. T (sym (same_means k x.0 same) i, value i)) ∙ passes)
    at false other later is = or_right (T x) (list_any T es) (later is)

-- ---- names directly below begin with the path

slash_begins : (b : ℕ) (q : Name) → is_path (b ∷ q) ≡ true → begins_with root (b ∷ q) ≡ true
slash_begins b q path = subst (λ n. begins_with root (n ∷ q) ≡ true) (sym (slash_is b (and_first (b == 47) _ path))) refl

root_begins : (q : Name) → is_path q ≡ true → begins_with root q ≡ true
root_begins [] path = absurd (cc path)
root_begins (b ∷ q) path = slash_begins b q path

begun_parent : (q : Name) → is_path q ≡ true → begins_with (parent q) q ≡ true
begun_parent q path = ⊎_elim
    (λ is. subst (λ x. begins_with x q ≡ true) (sym is) (root_begins q path))
    (λ low. let rest = below_rest (parent q) q low in ap (begins_with (parent q)) rest.1 ∙ begins (parent q) (47 ∷ rest.0))
    (child_below q path)

begun_child : (d q : Name) → is_child d q ≡ true → is_path q ≡ true → begins_with d q ≡ true
begun_child d q child path = subst (λ x. begins_with x q ≡ true) (child_parent d q child) (begun_parent q path)

zip_all : (P Q : Entry → Type 0) (es : List Entry) → AllByRecursion P es → AllByRecursion Q es → AllByRecursion (λ e. P e × Q e) es
zip_all P Q [] one other = tt
zip_all P Q (e ∷ es) one other = ((one.0, other.0), zip_all P Q es one.1 other.1)

-- ---- what the tests mean, once jobs were taken back

module _ (x : Tree) (newest : ℕ) (jobs : List (List Entry)) (found : FoundMarks) (are : AreFound newest jobs found) (well : WellFormed x) (es : List Entry) (of : AllByRecursion (IsOf es) es) where
  -- the fingerprints before the job is taken back
  abbrev pub before : Marks
  before = undone_all jobs (marks_of x)

  seen : (p : Name) → mark_seen found x p ≡ before p
  seen = seen_is newest jobs found x are

  foreign_put : (dir : Name) → has_foreign_put found es dir ≡ true → (q : Name) × (is_path_of es q ≡ false) × (parent q ≡ dir) × (before q ≢ mark.Nothing)
  foreign_put dir any =
      let e = any_entry (λ at. begins_with dir at.0 && is_foreign_put es dir at) found.entries are.ordered any in
      let put = and_second (begins_with dir e.key) (is_foreign_put es dir (e.key, e.value)) e.passes in
      let rest = and_second (is_child dir e.key) (not (is_nothing e.value.mark) && not (is_path_of es e.key)) put in (
        e.key,
        not_false (is_path_of es e.key) (and_second (not (is_nothing e.value.mark)) (not (is_path_of es e.key)) rest),
        child_parent dir e.key (and_first (is_child dir e.key) (not (is_nothing e.value.mark) && not (is_path_of es e.key)) put),
        not_nothing (before e.key) (ap is_nothing (sym (seen e.key)) ∙ ap (λ o. is_nothing (mark_or o (fingerprint_at x e.key))) e.is
            ∙ not_false (is_nothing e.value.mark) (and_first (not (is_nothing e.value.mark)) (not (is_path_of es e.key)) rest)),
      )

  stays_stands : (q : Name) (o : Option FoundMark) → stays o ≡ true → is_some (fin.get x q) ≡ true → is_nothing (mark_or o (fingerprint_at x q)) ≡ false
  stays_stands q None stay there = node_stands (fin.get x q) there
  stays_stands q (Some f) stay there = not_false (is_nothing f.mark) stay

  foreign_on_disk : (dir : Name) → has_foreign_on_disk found es x dir ≡ true → (q : Name) × (is_path_of es q ≡ false) × (parent q ≡ dir) × (before q ≢ mark.Nothing)
  foreign_on_disk dir any =
      let one = any_listed dir (λ last. is_foreign found es (join dir last)) (fin.keys x) (and_second (is_dir_at x dir) (list_any (λ last. is_foreign found es (join dir last)) (children x dir)) any) in
      let q = one.0 in
      let there : is_some (fin.get x q) ≡ true = contains_key-keys x q ∙ one.1.listed in
      let foreign : is_foreign found es q ≡ true = ap (is_foreign found es) (sym (joined_child dir q one.1.child (well.paths q there))) ∙ one.1.passes in
      let o = get (slice_cmp nat_cmp) found q in (
        q,
        not_false (is_path_of es q) (and_second (stays o) (not (is_path_of es q)) foreign),
        child_parent dir q one.1.child,
        not_nothing (before q) (ap is_nothing (sym (seen q)) ∙ stays_stands q o (and_first (stays o) (not (is_path_of es q)) foreign) there),
      )

  -- a foreign name is found by one of both tests
  foreign_found : (dir q : Name) → is_path_of es q ≡ false → is_path_of es dir ≡ true → parent q ≡ dir → before q ≢ mark.Nothing → (has_foreign_put found es dir || has_foreign_on_disk found es x dir) ≡ true
  foreign_found dir q out own above stands = by (get (slice_cmp nat_cmp) found q) refl
    where
      not_root : same_name q root ≡ false
      not_root = ⊎_elim
          (λ same.
          let top = same_means q root same in
          let dir_is : q ≡ dir = top ∙ sym (ap parent top) ∙ above in
          both_ways (is_path_of es dir) own (ap (is_path_of es) (sym dir_is) ∙ out))
          (λ o. o) (cases_Bool (same_name q root))

      child : is_child dir q ≡ true
      child = ap (λ b. not b && same_name (parent q) dir) not_root ∙ ap (same_name (parent q)) (sym above) ∙ same_itself (parent q)

      marked : is_nothing (mark_seen found x q) ≡ false
      marked = ap is_nothing (seen q) ∙ something (before q) stands

      by : (o : Option FoundMark) → get (slice_cmp nat_cmp) found q ≡ o → (has_foreign_put found es dir || has_foreign_on_disk found es x dir) ≡ true
      by (Some f) is =
          let path = are.paths q (ap is_some is) in
          or_left (has_foreign_put found es dir) (has_foreign_on_disk found es x dir)
          (entry_any (λ at. begins_with dir at.0 && is_foreign_put es dir at) found.entries q f is
          (and_both (begins_with dir q) (is_foreign_put es dir (q, f)) (begun_child dir q child path)
          (and_both (is_child dir q) (not (is_nothing f.mark) && not (is_path_of es q)) child
          (and_both (not (is_nothing f.mark)) (not (is_path_of es q)) (not_true (is_nothing f.mark) (ap (λ o. is_nothing (mark_or o (fingerprint_at x q))) (sym is) ∙ marked)) (not_true (is_path_of es q) out)))))
      by None none =
          let there = some_stands (fin.get x q) (ap (λ o. is_nothing (mark_or o (fingerprint_at x q))) (sym none) ∙ marked) in
          or_right (has_foreign_put found es dir) (has_foreign_on_disk found es x dir)
          (and_both (is_dir_at x dir) (list_any (λ last. is_foreign found es (join dir last)) (children x dir))
          (subst (λ p. disk.is_dir (fin.get x p) ≡ true) above (well.parents q there))
          (listed_any dir (λ last. is_foreign found es (join dir last)) (fin.keys x) q (record {
            listed = sym (contains_key-keys x q) ∙ there;
            child = child;
            passes = ap (is_foreign found es) (joined_child dir q child (well.paths q there))
                ∙ and_both (stays (get (slice_cmp nat_cmp) found q)) (not (is_path_of es q)) (ap stays none) (not_true (is_path_of es q) out);
          })))

  made : (e : Entry) → makes_dir e ≡ true → (is_dir e.was ≡ false) × (is_dir e.now ≡ true)
  made e is = (not_false (is_dir e.was) (and_first (not (is_dir e.was)) (is_dir e.now) is), and_second (not (is_dir e.was)) (is_dir e.now) is)

  foreign_means : (e : Entry) → has_foreign found es x e ≡ true → HasForeignEntry es before e
  foreign_means e is =
      let makes = made e (and_first (makes_dir e) (has_foreign_put found es e.path || has_foreign_on_disk found es x e.path) is) in (
        makes.0,
        makes.1,
        ⊎_elim (foreign_put e.path) (foreign_on_disk e.path)
            (or_both (has_foreign_put found es e.path) (has_foreign_on_disk found es x e.path) (and_second (makes_dir e) (has_foreign_put found es e.path || has_foreign_on_disk found es x e.path) is)),
      )

  pub edited_means : (e : Entry) → is_edited found es x e ≡ true → IsEdited es before e
  edited_means e is = ⊎_elim
      (λ other. inl (λ same. both_ways (same_mark (mark_seen found x e.path) e.now)
      (ap (λ m. same_mark m e.now) (seen e.path ∙ same) ∙ same_mark_itself e.now)
      (not_false (same_mark (mark_seen found x e.path) e.now) other)))
      (λ foreign. inr (foreign_means e foreign))
      (or_both (not (same_mark (mark_seen found x e.path) e.now)) (has_foreign found es x e) is)

  pub means_edited : (e : Entry) → is_path_of es e.path ≡ true → is_edited found es x e ≡ false → IsEdited es before e → ⊥
  means_edited e own fails (inl other) = other (sym (seen e.path) ∙ same_mark_means (mark_seen found x e.path) e.now (⊎_elim (λ same. same)
      (λ differ. absurd (both_ways (is_edited found es x e) (or_left (not (same_mark (mark_seen found x e.path) e.now)) (has_foreign found es x e) (not_true (same_mark (mark_seen found x e.path) e.now) differ)) fails))
      (cases_Bool (same_mark (mark_seen found x e.path) e.now))))
  means_edited e own fails (inr foreign) =
      let q = foreign.2 in
      both_ways (is_edited found es x e)
      (or_right (not (same_mark (mark_seen found x e.path) e.now)) (has_foreign found es x e)
      (and_both (makes_dir e) (has_foreign_put found es e.path || has_foreign_on_disk found es x e.path)
      (and_both (not (is_dir e.was)) (is_dir e.now) (not_true (is_dir e.was) foreign.0) foreign.1)
      (foreign_found e.path q.0 q.1 own q.2 q.3)))
      fails

  -- ---- paths without a directory

  after_is : (p : Name) → undone es (mark_seen found x) p ≡ undone es before p
  after_is p = undone_same es (mark_seen found x) before p (seen p)

  pub orphan_means : (e : Entry) → IsOf es e → is_orphan found es x e ≡ true → IsOrphan (undone es before) e.path
  orphan_means e this is = (
    not_nothing (undone es before e.path) (ap is_nothing (this.found before) ∙ not_false (is_nothing e.was) (and_first (not (is_nothing e.was)) (not (is_dir_after found es x (parent e.path))) is)),
    ap is_dir (sym (after_is (parent e.path))) ∙ not_false (is_dir_after found es x (parent e.path)) (and_second (not (is_nothing e.was)) (not (is_dir_after found es x (parent e.path))) is),
  )

  pub means_orphan : (e : Entry) → IsOf es e → is_orphan found es x e ≡ false → IsOrphan (undone es before) e.path → ⊥
  means_orphan e this fails orphan = both_ways (is_orphan found es x e)
      (and_both (not (is_nothing e.was)) (not (is_dir_after found es x (parent e.path)))
      (not_true (is_nothing e.was) (ap is_nothing (sym (this.found before)) ∙ something (undone es before e.path) orphan.0))
      (not_true (is_dir_after found es x (parent e.path)) (ap is_dir (after_is (parent e.path)) ∙ orphan.1)))
      fails

  -- where an entry isn't edited, what the job left stands there
  left_there : (e : Entry) → (IsEdited es before e → ⊥) → before e.path ≡ e.now
  left_there e unedited = ⊎_elim
      (λ same. same_mark_means (before e.path) e.now same)
      (λ differ. absurd (unedited (inl (λ is. both_ways (same_mark (before e.path) e.now) (ap (λ m. same_mark m e.now) is ∙ same_mark_itself e.now) differ))))
      (cases_Bool (same_mark (before e.path) e.now))

  -- Where no path is edited, only a path of the job can lack its directory.
  pub orphan_own : ((q : Name) → IsOrphan before q → ⊥) → AllByRecursion (λ e. IsEdited es before e → ⊥) es → (q : Name) → IsOrphan (undone es before) q → is_path_of es q ≡ true
  orphan_own whole unedited q orphan = ⊎_elim (λ own. own) (λ other. absurd (out other)) (cases_Bool (is_path_of es q))
    where
      out : is_path_of es q ≡ false → ⊥
      out other = ⊎_elim below kept (cases_Bool (is_path_of es (parent q)))
        where
          stands : before q ≢ mark.Nothing
          stands none = orphan.0 (undone_other es before q other ∙ none)

          kept : is_path_of es (parent q) ≡ false → ⊥
          kept fails = whole q (stands, ap is_dir (sym (undone_other es before (parent q) fails)) ∙ orphan.1)

          below : is_path_of es (parent q) ≡ true → ⊥
          below own =
              let e = at_path (λ (e : Entry). IsOf es e × (IsEdited es before e → ⊥)) es (parent q) (zip_all (IsOf es) (λ e. IsEdited es before e → ⊥) es of unedited) own in
              let was : is_dir e.0.was ≡ false = ap is_dir (sym (e.2.0.found before)) ∙ ap (λ (p : Name). is_dir (undone es before p)) e.1 ∙ orphan.1 in
              let same : before e.0.path ≡ e.0.now = left_there e.0 e.2.1 in
              ⊎_elim
              (λ dir. e.2.1 (inr (was, ap is_dir (sym same) ∙ ap (λ (p : Name). is_dir (before p)) e.1 ∙ dir, (q, other, sym e.1, stands))))
              (λ fails. whole q (stands, fails))
              (cases_Bool (is_dir (before (parent q))))

  -- ---- the first of the job's entries

  pub none_edited : (list : List Entry) → AllByRecursion (IsOf es) list → AllByRecursion (λ e. is_edited found es x e ≡ false) list → AllByRecursion (λ e. IsEdited es before e → ⊥) list
  none_edited [] each fail = tt
  none_edited (e ∷ list) each fail = (means_edited e each.0.own fail.0, none_edited list each.1 fail.1)

  pub record FirstEdit (list : List Entry) (p : Name) : Type 0 where
    pub front : List Entry
    pub first : Entry
    pub rest : List Entry
    pub split : list ≡ front ++ first ∷ rest
    pub path_is : p ≡ first.path
    pub unedited : AllByRecursion (λ e. IsEdited es before e → ⊥) front
    pub edited : IsEdited es before first

  pub some_edited : (list : List Entry) (p : Name) → AllByRecursion (IsOf es) list → first_path (is_edited found es x) list ≡ Some p → FirstEdit list p
  some_edited [] p each is = absurd (cc is)
  some_edited (e ∷ list) p each is = by (is_edited found es x e) refl (some_edited list p each.1) is
    where
      by : (b : Bool) → is_edited found es x e ≡ b → (first_path (is_edited found es x) list ≡ Some p → FirstEdit list p) → cond b (Some e.path) (first_path (is_edited found es x) list) ≡ Some p → FirstEdit (e ∷ list) p
      by true holds later is =
          let path : p ≡ e.path = cc is in
          record { front = []; first = e; rest = list; split = refl; path_is = path; unedited = tt; edited = edited_means e holds }
      by false fails later is =
          let more = later is in
          record {
            front = e ∷ more.front;
            first = more.first;
            rest = more.rest;
            split = ap (λ l. e ∷ l) more.split;
            path_is = more.path_is;
            unedited = (means_edited e each.0.own fails, more.unedited);
            edited = more.edited;
          }

  -- where an entry comes before the path it lacks nothing
  abbrev SparedBefore : Name → Entry → Type 0
  SparedBefore p e = name_cmp e.path p ≡ Less → is_orphan found es x e ≡ false

  pub record FirstOrphan (list : List Entry) (p : Name) : Type 0 where
    pub entry : Entry
    pub is_of : IsOf es entry
    pub path_is : p ≡ entry.path
    pub orphan : is_orphan found es x entry ≡ true
    pub before_it : AllByRecursion (SparedBefore p) list

  all_behind : (p : Name) (list : List Entry) → AllByRecursion (λ (y : Entry). name_cmp p y.path ≡ Less) list → AllByRecursion (SparedBefore p) list
  all_behind p [] behind = tt
  all_behind p (e ∷ list) behind = ((λ less. absurd (not_both_less p e.path behind.0 less)), all_behind p list behind.1)

  pub some_orphan : (list : List Entry) (p : Name) → AllByRecursion (IsOf es) list → IsStrictlySortedBy entry_cmp list → first_path (is_orphan found es x) list ≡ Some p → FirstOrphan list p
  unfolding IsStrictlySortedBy
  some_orphan [] p each rising is = absurd (cc is)
  some_orphan (e ∷ list) p each rising is = by (is_orphan found es x e) refl (some_orphan list p each.1 rising.1) is
    where
      by : (b : Bool) → is_orphan found es x e ≡ b → (first_path (is_orphan found es x) list ≡ Some p → FirstOrphan list p) → cond b (Some e.path) (first_path (is_orphan found es x) list) ≡ Some p → FirstOrphan (e ∷ list) p
      by true holds later is =
          let path : e.path ≡ p = cc is in
          record {
            entry = e;
            is_of = each.0;
            path_is = sym path;
            orphan = holds;
            before_it = (
              (λ less. absurd (not_less_itself p (subst (λ q. name_cmp q p ≡ Less) path less))),
              all_behind p list (subst (λ q. AllByRecursion (λ (y : Entry). name_cmp q y.path ≡ Less) list) path rising.0),
            );
          }
      by false fails later is =
          let more = later is in
          record {
            entry = more.entry;
            is_of = more.is_of;
            path_is = more.path_is;
            orphan = more.orphan;
            before_it = ((λ less. fails), more.before_it);
          }

  can_by : (CanUndoAll jobs (marks_of x)) → (one other : Option Name) → first_path (is_edited found es x) es ≡ one → first_path (is_orphan found es x) es ≡ other → edited_or one other ≡ Ok tt → CanUndo es before
  can_by can (Some p) other edits orphans is = absurd (cc is)
  can_by can None (Some p) edits orphans is = absurd (cc is)
  can_by can None None edits orphans is =
      let unedited = none_edited es of (none_first (is_edited found es x) es edits) in
      let whole = undone_whole jobs (marks_of x) (tree_whole x well) can in
      record {
        unedited = All-from_recursion (λ e. IsEdited es before e → ⊥) es unedited;
        no_orphan = λ q orphan.
            let e = at_path (λ (e : Entry). IsOf es e × (is_orphan found es x e ≡ false)) es q (zip_all (IsOf es) (λ e. is_orphan found es x e ≡ false) es of (none_first (is_orphan found es x) es orphans)) (orphan_own whole unedited q orphan) in
            means_orphan e.0 e.2.0 e.2.1 (subst (λ p. IsOrphan (undone es before) p) (sym e.1) orphan);
      }

  refused_by : (CanUndoAll jobs (marks_of x)) → IsStrictlySortedBy entry_cmp es → (one other : Option Name) (why : Refusal) → first_path (is_edited found es x) es ≡ one → first_path (is_orphan found es x) es ≡ other → edited_or one other ≡ Err why → IsUndoRefusal es before why
  refused_by can rising (Some p) other why edits orphans is =
      let r : Edited p ≡ why = cc is in
      let e = some_edited es p of edits in
      let refused : IsFirstEdited es before p = record {
        front = e.front;
        first = e.first;
        rest = e.rest;
        split = e.split;
        path_is = e.path_is;
        unedited = All-from_recursion (λ e. IsEdited es before e → ⊥) e.front e.unedited;
        edited = e.edited;
      } in
      subst (IsUndoRefusal es before) r refused
  refused_by can rising None (Some p) why edits orphans is =
      let r : Parent p ≡ why = cc is in
      let unedited = none_edited es of (none_first (is_edited found es x) es edits) in
      let whole = undone_whole jobs (marks_of x) (tree_whole x well) can in
      let o = some_orphan es p of rising orphans in
      let refused : IsFirstOrphan es before p = record {
        unedited = All-from_recursion (λ e. IsEdited es before e → ⊥) es unedited;
        orphan = subst (λ q. IsOrphan (undone es before) q) (sym o.path_is) (orphan_means o.entry o.is_of o.orphan);
        first = λ q less orphan.
            let e = at_path (λ (e : Entry). IsOf es e × SparedBefore p e) es q (zip_all (IsOf es) (SparedBefore p) es of o.before_it) (orphan_own whole unedited q orphan) in
            means_orphan e.0 e.2.0 (e.2.1 (subst (λ r. name_cmp r p ≡ Less) (sym e.1) less)) (subst (λ p. IsOrphan (undone es before) p) (sym e.1) orphan);
      } in
      subst (IsUndoRefusal es before) r refused
  refused_by can rising None None why edits orphans is = absurd (cc is)

  pub can_undo : CanUndoAll jobs (marks_of x) → undo_tested found es x ≡ Ok tt → CanUndo es before
  can_undo can is = can_by can (first_path (is_edited found es x) es) (first_path (is_orphan found es x) es) refl refl is

  pub undo_refused : CanUndoAll jobs (marks_of x) → IsStrictlySortedBy entry_cmp es → (why : Refusal) → undo_tested found es x ≡ Err why → IsUndoRefusal es before why
  undo_refused can rising why is = refused_by can rising (first_path (is_edited found es x) es) (first_path (is_orphan found es x) es) why refl refl is
