-- What a walk has seen, step by step.
use Rattle.std.proofs.Common.{◌≡◌, ◌≢◌, ◌⊎◌, inl, inr, ⊎_elim, ℕ, zero, suc, ◌+◌, ◌-◌, ◌*◌, ◌<◌, ◌≤◌, Bool, true, false, cond, not, ◌&&◌, List, [], ◌∷◌, map, length, Option, Some, None, is_some, refl, sym, ◌∙◌, ap, subst, arith}
use Rattle.std.specs.List.{list_any, filter, All}
use Rattle.std.specs.FinMap.{get, keys, contains_key-keys}
use Rattle.std.proofs.lemmas.Bool.{cases_Bool}
use Rattle.std.proofs.lemmas.List.Elements.{All-head, All-tail}
use Rattle.tree_disk.specs.cny-base.Path.{is_path, join, last_name, parent, root}
use Rattle.tree_disk.proofs.cny-base.Below.{parent_shorter}
use Rattle.tree_disk.proofs.cny-base.Joins.{join_parent}
use Rattle.tree_disk.specs.declared.disk.Look.{Look}
use Rattle.tree_disk.specs.Looks.{sees_nothing, sees_dir}
use Rattle.tree_disk.specs.Laws.{same_means}
use Rattle.tree_disk.specs.cny-base.declared.node.Node.{Node}
use Rattle.tree_disk.specs.Rows.{look_of, seen_as}
use Rattle.tree_disk.specs.Tree.{Name, Tree, same_name, is_dir, is_child, children, WellFormed}
use Rattle.tree_disk.proofs.ClearLaws.{or_cases}
use Rattle.tree_disk.proofs.Children.{clash, child_longer, stands_or_not, some_dir, path_short}
use Rattle.tree_disk.proofs.Names.{no_path, not_same}
use Rattle.tree_disk.proofs.Laws.{same_itself}
use Rattle.tree_disk.proofs.Looks.{dir_seen, nothing_seen}
use Rattle.cny_pack.specs.Walk.{Found, seen_at, has_seen, stands, AreSights, SawBelow, SawName, Went, WentInto, WentTo, WentThrough, FindsAll}

-- ---- walks one behind the other

pub went_start : (t : Tree) (seen : Found) → Went t seen seen
went_start t seen = record {
  sights = λ sights. sights;
  grows = λ p has. has;
  below = λ p was has. clash (has_seen seen p) has was;
}

pub went_on : (t : Tree) (old mid new : Found) → Went t old mid → Went t mid new → Went t old new
went_on t old mid new first next = record {
  sights = λ sights. next.sights (first.sights sights);
  grows = λ p has. next.grows p (first.grows p has);
  below = λ p was has. ⊎_elim
      (λ is q stood other up. next.grows q (first.below p was is q stood other up))
      (λ isnt. next.below p isnt has)
      (cases_Bool (has_seen mid p));
}

-- ---- one more path

-- what was seen, with one more path
abbrev pub Puts : Found → Found → Name → Look → Type 0
Puts old new path look = (q : Name) → seen_at new q ≡ cond (same_name path q) (Some look) (seen_at old q)

module _ (t : Tree) (old new : Found) (path : Name) (look : Look) (puts : Puts old new path look) where
  pub put_here : has_seen new path ≡ true
  put_here = ap is_some (puts path ∙ ap (λ (b : Bool). cond b (Some look) (seen_at old path)) (same_itself path))

  -- at each path
  put_at : (q : Name) → (path ≡ q) ⊎ (seen_at new q ≡ seen_at old q)
  put_at q = ⊎_elim (λ same. inl (same_means path q same)) (λ other. inr (puts q ∙ ap (λ (b : Bool). cond b (Some look) (seen_at old q)) other)) (cases_Bool (same_name path q))

  put_is : seen_at new path ≡ Some look
  put_is = puts path ∙ ap (λ (b : Bool). cond b (Some look) (seen_at old path)) (same_itself path)

  pub put_grows : (q : Name) → has_seen old q ≡ true → has_seen new q ≡ true
  put_grows q has = ⊎_elim (λ is. subst (λ (n : Name). has_seen new n ≡ true) is put_here) (λ same. ap is_some same ∙ has) (put_at q)

  -- a path that is new is this one
  pub put_new : (q : Name) → has_seen old q ≡ false → has_seen new q ≡ true → path ≡ q
  put_new q was has = ⊎_elim (λ is. is) (λ same. clash (has_seen new q) has (ap is_some same ∙ was)) (put_at q)

  one_look : (a b : Look) → (let x : Option Look = Some a in x ≡ Some b) → a ≡ b
  one_look a b is = cc is

  pub put_sights : look ≡ look_of t path → stands t path ≡ true → path ≢ root → AreSights t old → AreSights t new
  put_sights is stood other sights = λ p seen at. ⊎_elim
      (λ same. subst (λ (n : Name). (seen ≡ look_of t n) × (stands t n ≡ true) × (n ≢ root)) same
      (sym (one_look look seen (sym put_is ∙ subst (λ (n : Name). seen_at new n ≡ Some seen) (sym same) at)) ∙ is, stood, other))
      (λ same. sights p seen (sym same ∙ at))
      (put_at p)

-- ---- to a path

pub to_nothing : (t : Tree) (path : Name) (look : Look) (seen : Found) → look ≡ look_of t path → sees_nothing look ≡ true → WentTo t path seen seen
to_nothing t path look seen is nothing = record {
  went = went_start t seen;
  itself = λ stood. clash (stands t path) stood (ap is_some (nothing_seen t path (ap sees_nothing (sym is) ∙ nothing)));
}

some_where : (t : Tree) (path : Name) (look : Look) → look ≡ look_of t path → sees_nothing look ≡ false → stands t path ≡ true
some_where t path look is some = ⊎_elim
    (λ none. clash (sees_nothing look) (ap sees_nothing is ∙ ap (λ (o : Option Node). sees_nothing (seen_as o)) none) some)
    (λ stood. stood)
    (stands_or_not (get t path))

-- to a path at which no directory stands
pub to_other : (t : Tree) (path : Name) (look : Look) (old new : Found) → WellFormed t → Puts old new path look → look ≡ look_of t path → sees_nothing look ≡ false → sees_dir look ≡ false → path ≢ root
    → WentTo t path old new
to_other t path look old new well puts is some no_dir other = record {
  went = record {
    sights = put_sights t old new path look puts is (some_where t path look is some) other;
    grows = put_grows t old new path look puts;
    below = λ p was has q stood apart up.
        let here : parent q ≡ path = up ∙ sym (put_new t old new path look puts p was has) in
        clash (is_dir (get t path)) (subst (λ (n : Name). is_dir (get t n) ≡ true) here (well.parents q stood)) (sym (dir_seen t path) ∙ ap sees_dir (sym is) ∙ no_dir);
  };
  itself = λ stood. put_here t old new path look puts;
}

-- to a directory, and into it
pub to_dir : (t : Tree) (path : Name) (look : Look) (old mid new : Found) → Puts old mid path look → look ≡ look_of t path → sees_nothing look ≡ false → path ≢ root → WentInto t path mid new
    → WentTo t path old new
to_dir t path look old mid new puts is some other into = record {
  went = record {
    sights = λ sights. into.went.sights (put_sights t old mid path look puts is (some_where t path look is some) other sights);
    grows = λ p has. into.went.grows p (put_grows t old mid path look puts p has);
    below = λ p was has. ⊎_elim
        (λ mid_has. subst (SawBelow t new) (put_new t old mid path look puts p was mid_has) into.all)
        (λ mid_not. into.went.below p mid_not has)
        (cases_Bool (has_seen mid p));
  };
  itself = λ stood. into.went.grows path (put_here t old mid path look puts);
}

-- ---- through the names of a directory

pub saw_later : (t : Tree) (old new : Found) (dir : Name) (last : List ℕ) → Went t old new → SawName t old dir last → SawName t new dir last
saw_later t old new dir last went saw = λ stood other. went.grows (join dir last) (saw stood other)

-- a name that makes the path no longer is none
pub no_name : (t : Tree) (seen : Found) (dir : Name) (last : List ℕ) → is_path dir ≡ true → length (join dir last) ≤ length dir → SawName t seen dir last
no_name t seen dir last path short stood other = ⊎_elim
    (λ same. absurd (other (at_top last (subst (λ (p : Name). length (join p last) ≤ length p) (same_means dir root same) short) (same_means dir root same))))
    (λ apart. let longer = child_longer dir last path (λ is. clash (same_name dir root) (ap (λ (p : Name). same_name p root) is ∙ same_itself root) apart) in absurd (omega (arith, longer, short)))
    (cases_Bool (same_name dir root))
  where
    at_top : (l : List ℕ) → length (join root l) ≤ length root → dir ≡ root → join dir l ≡ root
    at_top [] few is = ap (λ (p : Name). join p []) is
    at_top (b ∷ l) few is = absurd (omega (arith, few))

-- an element that passes a test, among the values of those that do
each_value : (test : Name → Bool) (f : Name → List ℕ) (P : List ℕ → Type 0) (q : Name) (names : List Name) → All P (map f (filter test names)) → test q ≡ true → list_any (same_name q) names ≡ true → P (f q)
each_value test f P q [] all passes any = absurd (cc any)
each_value test f P q (n ∷ names) all passes any = at (test n) refl (λ rest later. each_value test f P q names rest passes later) all (or_cases (same_name q n) (list_any (same_name q) names) any)
  where
    at : (b : Bool) → test n ≡ b → (All P (map f (filter test names)) → list_any (same_name q) names ≡ true → P (f q)) → All P (map f (cond b (n ∷ filter test names) (filter test names))) → (same_name q n ≡ true) ⊎ (list_any (same_name q) names ≡ true) → P (f q)
    at true is rest all (inl same) = subst (λ (x : Name). P (f x)) (sym (same_means q n same)) (All-head P (f n) (map f (filter test names)) all)
    at true is rest all (inr later) = rest (All-tail P (f n) (map f (filter test names)) all) later
    at false is rest all (inl same) = clash (test q) passes (ap test (same_means q n same) ∙ is)
    at false is rest all (inr later) = rest all later

-- Through the names that a directory has is into it.
pub into_names : (t : Tree) (dir : Name) (names : List (List ℕ)) (old new : Found) → WellFormed t → names ≡ children t dir → WentThrough t dir names old new → WentInto t dir old new
into_names t dir names old new well is through = record {
  went = through.went;
  all = λ q stood other up.
      let child : is_child dir q ≡ true = ap (λ (b : Bool). not b && same_name (parent q) dir) (not_same q other) ∙ ap (λ (p : Name). same_name p dir) up ∙ same_itself dir in
      let whole : join dir (last_name q) ≡ q = ap (λ (p : Name). join p (last_name q)) (sym up) ∙ join_parent q (well.paths q stood) in
      let saw : SawName t new dir (last_name q) = each_value (is_child dir) last_name (SawName t new dir) q (keys t) (subst (λ (l : List (List ℕ)). All (SawName t new dir) l) is through.each) child (sym (contains_key-keys t q) ∙ stood) in
      subst (λ (p : Name). stands t p ≡ true → p ≢ root → has_seen new p ≡ true) whole saw stood other;
}

-- ---- all

all_up : (t : Tree) (old new : Found) → WellFormed t → ((p : Name) → has_seen old p ≡ false) → WentInto t root old new → (n : ℕ) (p : Name) → length p < n → stands t p ≡ true → p ≢ root → has_seen new p ≡ true
all_up t old new well none into zero p short stood other = absurd (omega (arith, short))
all_up t old new well none into (suc n) p short stood other = ⊎_elim
    (λ same. into.all p stood other (same_means (parent p) root same))
    (λ apart. into.went.below (parent p) (none (parent p))
    (all_up t old new well none into n (parent p) (⊎_elim (λ is. absurd (other is)) (λ less. omega (arith, less, short)) (parent_shorter p (well.paths p stood))) (some_dir (get t (parent p)) (well.parents p stood))
    (λ is. clash (same_name (parent p) root) (ap (λ (q : Name). same_name q root) is ∙ same_itself root) apart))
    p stood other refl)
    (cases_Bool (same_name (parent p) root))

no_look : (look : Look) (A : Type 0) → (let x : Option Look = None in x ≡ Some look) → A
no_look look A is = absurd (cc is)

pub finds_all : (t : Tree) (old new : Found) → WellFormed t → ((p : Name) → seen_at old p ≡ None) → WentInto t root old new → FindsAll t new
finds_all t old new well none into = record {
  sights = into.went.sights (λ p look at. no_look look _ (sym (none p) ∙ at));
  all = λ p stood other. all_up t old new well (λ q. ap is_some (none q)) into (suc (length p)) p (omega arith) stood other;
}

-- ---- measures

pub deeper : (dir path : Name) → is_path dir ≡ true → is_path path ≡ true → length dir < length path → 4 * (1025 - length path) + 3 < 4 * (1025 - length dir)
deeper dir path first second longer = let short = path_short path second in omega (arith, longer, short)

pub not_top : (dir path : Name) → is_path dir ≡ true → length dir < length path → path ≢ root
not_top [] path first longer is = absurd (no_path [] first refl)
not_top (b ∷ dir) path first longer is = absurd (omega (arith, longer, ap length is))
