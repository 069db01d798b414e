-- Names directly below a path that remain.
use Rattle.std.proofs.Common.{◌≡◌, ◌≢◌, ◌⊎◌, inl, inr, ⊎_elim, ℕ, Bool, true, false, cond, not, ◌||◌, List, [], ◌∷◌, map, Option, Some, None, is_some, refl, sym, ◌∙◌, ap, subst}
use Rattle.std.proofs.lemmas.Bool.{cases_Bool}
use Rattle.std.specs.FinMap.{get, keys, contains_key-keys}
use Rattle.std.specs.List.{filter, list_any}
use Rattle.std.specs.declared.cmp.Ordering.TheVariants.{Less}
use Rattle.trove_stream.proofs.cny-base.Joins.{join_parent}
use Rattle.trove_stream.specs.cny-base.Path.{is_path, join, last_name, root}
use Rattle.trove_stream.specs.cny-base.declared.node.Node.{Node}
use Rattle.trove_stream.specs.cny-base.declared.node.Node.TheVariants as node
use Rattle.trove_stream.specs.cny-stream.declared.record.FileRec.{FileRec}
use Rattle.trove_stream.specs.cny-stream.declared.record.FileRec.TheVariants as rec
use Rattle.tree_scan.specs.tree-disk.Laws.{same_means}
use Rattle.tree_scan.proofs.tree-disk.Laws.{same_itself, second as and_second}
use Rattle.tree_scan.specs.tree-disk.Tree.{Name, Tree, WellFormed, children, is_child, same_name}
use Rattle.tree_scan.specs.Marks.{fingerprint, fingerprint_at, fingerprint_of_record, is_nothing}
use Rattle.conflict_plan.specs.declared.making.Fate.{Fate}
use Rattle.conflict_plan.specs.declared.planned.Planned.{Planned}
use Rattle.conflict_plan.specs.Making.{child_remains, fate_at, fate_of, has_made, is_gone, makes_in}
use Rattle.conflict_plan.specs.Plan.{HasChild, mark_after, mark_of_want, planned_at, planned_mark}
use Rattle.conflict_plan.proofs.Order.{IsUpTo, child_behind, child_parent, joined_behind, less_other, not_behind, up_to_then}
use Rattle.trove_stream.specs.cny-base.Answer.{IsAnswer}
use Rattle.tree_scan.proofs.tree-disk.Order.{name_cmp, less_differs as more_other}
use Rattle.trove_stream.proofs.cny-base.Bools.{both as and_both, or_left, or_right}
use Rattle.tree_scan.proofs.tree-disk.Nodes.{left_true as and_first}
use Rattle.trove_stream.proofs.cny-base.Again.{not_true as not_false}
use Rattle.tree_scan.proofs.tree-disk.ClearLaws.{or_cases as or_both}

-- ---- plans, by their paths

abbrev pub AreAfter : Name → List Planned → Type 0
AreAfter path [] = Unit {0}
AreAfter path (x ∷ plan) = (name_cmp path x.path ≡ Less) × AreAfter path plan

abbrev pub RisePlanned : List Planned → Type 0
RisePlanned [] = Unit {0}
RisePlanned (x ∷ plan) = AreAfter x.path plan × RisePlanned plan

abbrev pub ArePaths : List Planned → Type 0
ArePaths [] = Unit {0}
ArePaths (x ∷ plan) = (is_path x.path ≡ true) × ArePaths plan

pub none_after : (p : Name) (plan : List Planned) → AreAfter p plan → planned_at plan p ≡ None
none_after p [] after = refl
none_after p (x ∷ plan) after = ap (λ b. cond b (Some x) (planned_at plan p)) (more_other p x.path after.0) ∙ none_after p plan after.1

pub planned_here : (x : Planned) (plan : List Planned) → planned_at (x ∷ plan) x.path ≡ Some x
planned_here x plan = ap (λ b. cond b (Some x) (planned_at plan x.path)) (same_itself x.path)

pub planned_other : (x : Planned) (plan : List Planned) (q : Name) → same_name x.path q ≡ false → planned_at (x ∷ plan) q ≡ planned_at plan q
planned_other x plan q other = ap (λ b. cond b (Some x) (planned_at plan q)) other

-- what is planned has the path that was asked for
pub planned_path : (plan : List Planned) (q : Name) (x : Planned) → planned_at plan q ≡ Some x → x.path ≡ q
planned_path [] q x is = absurd (cc is)
planned_path (y ∷ plan) q x is = at (same_name y.path q) refl (planned_path plan q x) is
  where
    at : (b : Bool) → same_name y.path q ≡ b → (planned_at plan q ≡ Some x → x.path ≡ q) → cond b (Some y) (planned_at plan q) ≡ Some x → x.path ≡ q
    at true same later is =
        let is_x : x ≡ y = cc is in
        ap (λ (z : Planned). z.path) is_x ∙ same_means y.path q same
    at false other later is = later is

abbrev pub fate_by : Option Planned → Option Fate
fate_by None = None
fate_by (Some x) = Some (fate_of x.want)

pub fate_planned : (plan : List Planned) (q : Name) → fate_at plan q ≡ fate_by (planned_at plan q)
fate_planned [] q = refl
fate_planned (x ∷ plan) q = at (same_name x.path q) (fate_planned plan q)
  where
    at : (b : Bool) → fate_at plan q ≡ fate_by (planned_at plan q) → cond b (Some (fate_of x.want)) (fate_at plan q) ≡ fate_by (cond b (Some x) (planned_at plan q))
    at true later = refl
    at false later = later

-- ---- what stands

pub record_stands : (r : FileRec) → is_nothing (fingerprint_of_record r) ≡ false
record_stands (rec.Dir mode owner) = refl
record_stands (rec.File mode owner flags size name) = refl
record_stands (rec.Link target) = refl

pub node_stands : (o : Option Node) → is_some o ≡ true → is_nothing (fingerprint o) ≡ false
node_stands None is = absurd (cc is)
node_stands (Some (node.Dir mode)) is = refl
node_stands (Some (node.File mode bytes)) is = refl
node_stands (Some (node.Link target)) is = refl

pub some_stands : (o : Option Node) → is_nothing (fingerprint o) ≡ false → is_some o ≡ true
some_stands None is = absurd (cc is)
some_stands (Some node) is = refl

kept_stands : (o : Option Planned) (tree : Tree) (q : Name) → is_some (get tree q) ≡ true → is_gone (fate_by o) ≡ false → is_nothing (planned_mark o (fingerprint_at tree q)) ≡ false
kept_stands None tree q stands kept = node_stands (get tree q) stands
kept_stands (Some x) tree q stands kept = at x.want kept
  where
    at : (want : Option FileRec) → is_gone (Some (fate_of want)) ≡ false → is_nothing (mark_of_want want) ≡ false
    at None kept = absurd (cc kept)
    at (Some r) kept = record_stands r

-- a name that stands and doesn't go is one of the result
pub remains_after : (plan : List Planned) (tree : Tree) (q : Name) → is_some (get tree q) ≡ true → is_gone (fate_at plan q) ≡ false → is_nothing (mark_after plan tree q) ≡ false
remains_after plan tree q stands kept = kept_stands (planned_at plan q) tree q stands (ap is_gone (sym (fate_planned plan q)) ∙ kept)

not_gone_by : (o : Option Planned) (tree : Tree) (q : Name) → is_nothing (planned_mark o (fingerprint_at tree q)) ≡ false → is_gone (fate_by o) ≡ false
not_gone_by None tree q stands = refl
not_gone_by (Some x) tree q stands = at x.want stands
  where
    at : (want : Option FileRec) → is_nothing (mark_of_want want) ≡ false → is_gone (Some (fate_of want)) ≡ false
    at None stands = absurd (cc stands)
    at (Some (rec.Dir mode owner)) stands = refl
    at (Some (rec.File mode owner flags size name)) stands = refl
    at (Some (rec.Link target)) stands = refl

pub after_not_gone : (plan : List Planned) (tree : Tree) (q : Name) → is_nothing (mark_after plan tree q) ≡ false → is_gone (fate_at plan q) ≡ false
after_not_gone plan tree q stands = ap is_gone (fate_planned plan q) ∙ not_gone_by (planned_at plan q) tree q stands

-- ---- children that are listed

-- a listed name directly below the path, whose last name passes the test
pub record IsListed (p : Name) (test : List ℕ → Bool) (names : List Name) (q : Name) : Type 0 where
  pub listed : list_any (same_name q) names ≡ true
  pub child : is_child p q ≡ true
  pub passes : test (last_name q) ≡ true

more_listed : (p : Name) (test : List ℕ → Bool) (n : Name) (names : List Name) (q : Name) → IsListed p test names q → IsListed p test (n ∷ names) q
more_listed p test n names q is = record {
  listed = or_right (same_name q n) (list_any (same_name q) names) is.listed;
  child = is.child;
  passes = is.passes;
}

pub any_listed : (p : Name) (test : List ℕ → Bool) (names : List Name) → list_any test (map last_name (filter (is_child p) names)) ≡ true → (q : Name) × IsListed p test names q
any_listed p test [] any = absurd (cc any)
any_listed p test (n ∷ names) any = at (is_child p n) refl (any_listed p test names) any
  where
    at : (b : Bool) → is_child p n ≡ b → (list_any test (map last_name (filter (is_child p) names)) ≡ true → (q : Name) × IsListed p test names q) → list_any test (map last_name (cond b (n ∷ filter (is_child p) names) (filter (is_child p) names))) ≡ true → (q : Name) × IsListed p test (n ∷ names) q
    at true child rest any = ⊎_elim
        (λ here. (n, record { listed = or_left (same_name n n) (list_any (same_name n) names) (same_itself n); child = child; passes = here }))
        (λ later. let found = rest later in (found.0, more_listed p test n names found.0 found.1))
        (or_both (test (last_name n)) (list_any test (map last_name (filter (is_child p) names))) any)
    at false other rest any = let found = rest any in (found.0, more_listed p test n names found.0 found.1)

pub listed_any : (p : Name) (test : List ℕ → Bool) (names : List Name) (q : Name) → IsListed p test names q → list_any test (map last_name (filter (is_child p) names)) ≡ true
listed_any p test [] q is = absurd (cc is.listed)
listed_any p test (n ∷ names) q is =
    at (is_child p n) refl (λ later. listed_any p test names q (record { listed = later; child = is.child; passes = is.passes })) (or_both (same_name q n) (list_any (same_name q) names) is.listed)
  where
    at : (b : Bool) → is_child p n ≡ b → (list_any (same_name q) names ≡ true → list_any test (map last_name (filter (is_child p) names)) ≡ true) → (same_name q n ≡ true) ⊎ (list_any (same_name q) names ≡ true) → list_any test (map last_name (cond b (n ∷ filter (is_child p) names) (filter (is_child p) names))) ≡ true
    at true child rest (inl same) = or_left (test (last_name n)) (list_any test (map last_name (filter (is_child p) names))) (ap (λ (x : Name). test (last_name x)) (sym (same_means q n same)) ∙ is.passes)
    at true child rest (inr later) = or_right (test (last_name n)) (list_any test (map last_name (filter (is_child p) names))) (rest later)
    at false other rest (inl same) = absurd (cc (other, ap (is_child p) (sym (same_means q n same)), is.child))
    at false other rest (inr later) = rest later

-- a child is its parent's path joined with its last name
pub joined_child : (p q : Name) → is_child p q ≡ true → is_path q ≡ true → join p (last_name q) ≡ q
joined_child p q child path = ap (λ (x : Name). join x (last_name q)) (sym (child_parent p q child)) ∙ join_parent q path

-- ---- names that are made

pub planned_behind : (p q : Name) (plan : List Planned) (y : Planned) → AreAfter p plan → planned_at plan q ≡ Some y → name_cmp p q ≡ Less
planned_behind p q [] y after is = absurd (cc is)
planned_behind p q (x ∷ plan) y after is = at (same_name x.path q) refl (planned_behind p q plan y after.1) is
  where
    at : (b : Bool) → same_name x.path q ≡ b → (planned_at plan q ≡ Some y → name_cmp p q ≡ Less) → cond b (Some x) (planned_at plan q) ≡ Some y → name_cmp p q ≡ Less
    at true same later is = subst (λ n. name_cmp p n ≡ Less) (same_means x.path q same) after.0
    at false other later is = later is

-- a planned name directly below the path that is to stand
pub record IsMade (plan : List Planned) (p : Name) : Type 0 where
  pub path : Name
  pub planned : Planned
  pub is : planned_at plan path ≡ Some planned
  pub child : is_child p path ≡ true
  pub wanted : is_some planned.want ≡ true

pub made_is : (plan : List Planned) (p : Name) → RisePlanned plan → has_made plan p ≡ true → IsMade plan p
made_is [] p rise made = absurd (cc made)
made_is (x ∷ plan) p rise made = ⊎_elim
    (λ here. record {
      path = x.path;
      planned = x;
      is = planned_here x plan;
      child = and_second (is_some x.want) (is_child p x.path) here;
      wanted = and_first (is_some x.want) (is_child p x.path) here;
    })
    (λ later.
    let found = made_is plan p rise.1 later in
    record {
      path = found.path;
      planned = found.planned;
      is = planned_other x plan found.path (less_other x.path found.path (planned_behind x.path found.path plan found.planned rise.0 found.is)) ∙ found.is;
      child = found.child;
      wanted = found.wanted;
    })
    (or_both (makes_in x p) (has_made plan p) made)

pub planned_made : (plan : List Planned) (p q : Name) (x : Planned) → planned_at plan q ≡ Some x → is_child p q ≡ true → is_some x.want ≡ true → has_made plan p ≡ true
planned_made [] p q x is child wanted = absurd (cc is)
planned_made (y ∷ plan) p q x is child wanted = at (same_name y.path q) refl (λ later. planned_made plan p q x later child wanted) is
  where
    at : (b : Bool) → same_name y.path q ≡ b → (planned_at plan q ≡ Some x → has_made plan p ≡ true) → cond b (Some y) (planned_at plan q) ≡ Some x → (makes_in y p || has_made plan p) ≡ true
    at true same later is =
        let is_x : y ≡ x = cc is in
        or_left (makes_in y p) (has_made plan p)
        (and_both (is_some y.want) (is_child p y.path) (ap (λ (z : Planned). is_some z.want) is_x ∙ wanted) (ap (is_child p) (same_means y.path q same) ∙ child))
    at false other later is = or_right (makes_in y p) (has_made plan p) (later is)

pub wanted_stands : (want : Option FileRec) → is_some want ≡ true → is_nothing (mark_of_want want) ≡ false
wanted_stands None is = absurd (cc is)
wanted_stands (Some r) is = record_stands r

made_child : (plan : List Planned) (tree : Tree) (p : Name) → IsMade plan p → HasChild (mark_after plan tree) p
made_child plan tree p made =
    (made.path, made.child, ap (λ o. is_nothing (planned_mark o (fingerprint_at tree made.path))) made.is ∙ wanted_stands made.planned.want made.wanted)

-- ---- whether a name remains below

pub not_true : (b : Bool) → b ≡ false → not b ≡ true
not_true true is = absurd (cc is)
not_true false is = refl

abbrev kept_test : List Planned → Name → List ℕ → Bool
kept_test plan p last = not (is_gone (fate_at plan (join p last)))

remains_child : (plan : List Planned) (tree : Tree) (p : Name) → WellFormed tree → RisePlanned plan → child_remains plan tree p ≡ true → HasChild (mark_after plan tree) p
remains_child plan tree p well rise remains = ⊎_elim
    (λ any.
    let found = any_listed p (kept_test plan p) (keys tree) any in
    let q = found.0 in
    let stands : is_some (get tree q) ≡ true = contains_key-keys tree q ∙ found.1.listed in
    let joined = joined_child p q found.1.child (well.paths q stands) in
    (q, found.1.child, remains_after plan tree q stands (ap (λ (x : Name). is_gone (fate_at plan x)) (sym joined) ∙ not_false (is_gone (fate_at plan (join p (last_name q)))) found.1.passes)))
    (λ made. made_child plan tree p (made_is plan p rise made))
    (or_both (list_any (kept_test plan p) (children tree p)) (has_made plan p) remains)

child_kept : (plan : List Planned) (tree : Tree) (p q : Name) → WellFormed tree → is_child p q ≡ true → is_nothing (mark_after plan tree q) ≡ false
    → (o : Option Planned) → planned_at plan q ≡ o → child_remains plan tree p ≡ true
child_kept plan tree p q well child stands None none =
    let there : is_some (get tree q) ≡ true = some_stands (get tree q) (ap (λ o. is_nothing (planned_mark o (fingerprint_at tree q))) (sym none) ∙ stands) in
    let joined = joined_child p q child (well.paths q there) in
    or_left (list_any (kept_test plan p) (children tree p)) (has_made plan p)
    (listed_any p (kept_test plan p) (keys tree) q (record {
      listed = sym (contains_key-keys tree q) ∙ there;
      child = child;
      passes = not_true (is_gone (fate_at plan (join p (last_name q)))) (ap (λ (x : Name). is_gone (fate_at plan x)) joined ∙ after_not_gone plan tree q stands);
    }))
child_kept plan tree p q well child stands (Some x) is =
    or_right (list_any (kept_test plan p) (children tree p)) (has_made plan p)
    (planned_made plan p q x is child (wanted x.want (ap (λ o. is_nothing (planned_mark o (fingerprint_at tree q))) (sym is) ∙ stands)))
  where
    wanted : (want : Option FileRec) → is_nothing (mark_of_want want) ≡ false → is_some want ≡ true
    wanted None is = absurd (cc is)
    wanted (Some r) is = refl

-- whether a name directly below the path remains is whether the result has one
pub remains_means : (plan : List Planned) (tree : Tree) (p : Name) → WellFormed tree → RisePlanned plan → IsAnswer (HasChild (mark_after plan tree) p) (child_remains plan tree p)
remains_means plan tree p well rise = record {
  holds = remains_child plan tree p well rise;
  fails = λ none child. absurd (cc (none, child_kept plan tree p child.0 well child.1 child.2 (planned_at plan child.0) refl));
}

pub same_answer : (P : Type 0) (a b : Bool) → IsAnswer P a → IsAnswer P b → a ≡ b
same_answer P true true one other = refl
same_answer P true false one other = absurd (other.fails refl (one.holds refl))
same_answer P false true one other = absurd (one.fails refl (other.holds refl))
same_answer P false false one other = refl

-- ---- one more path in front

same_any : (f g : List ℕ → Bool) (xs : List (List ℕ)) → ((x : List ℕ) → f x ≡ g x) → list_any f xs ≡ list_any g xs
same_any f g [] same = refl
same_any f g (x ∷ xs) same = ap (λ b. b || list_any f xs) (same x) ∙ ap (λ b. g x || b) (same_any f g xs same)

-- A path in front changes nothing of what remains below it or below a later one.
pub remains_on : (x : Planned) (plan : List Planned) (tree : Tree) (p : Name) → is_path x.path ≡ true → is_path p ≡ true → p ≢ root → IsUpTo x.path p
    → child_remains (x ∷ plan) tree p ≡ child_remains plan tree p
remains_on x plan tree p path path_p other up_to =
    ap (λ b. b || (makes_in x p || has_made plan p)) (same_any (kept_test (x ∷ plan) p) (kept_test plan p) (children tree p) kept)
    ∙ ap (λ b. list_any (kept_test plan p) (children tree p) || (b || has_made plan p)) makes
  where
    kept : (last : List ℕ) → kept_test (x ∷ plan) p last ≡ kept_test plan p last
    kept last = ap (λ b. not (is_gone (cond b (Some (fate_of x.want)) (fate_at plan (join p last)))))
        (apart (up_to_then x.path p (join p last) up_to (inr (joined_behind p last path_p other))))
      where
        apart : IsUpTo x.path (join p last) → same_name x.path (join p last) ≡ false
        apart (inl is) = absurd (not_behind x.path p up_to (subst (λ n. name_cmp p n ≡ Less) (sym is) (joined_behind p last path_p other)))
        apart (inr less) = less_other x.path (join p last) less

    makes : makes_in x p ≡ false
    makes = ⊎_elim
        (λ is. absurd (not_behind x.path p up_to (child_behind p x.path (and_second (is_some x.want) (is_child p x.path) is) path)))
        (λ no. no)
        (cases_Bool (makes_in x p))
