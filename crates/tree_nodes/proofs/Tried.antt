-- What the calls do that test by themselves whether they are allowed.
use Rattle.std.proofs.Common.{◌≡◌, Bool, true, false, cond, ◌||◌, ◌&&◌, not, Option, Some, None, is_some, refl, sym, ◌∙◌, ap, subst, ℕ, List, Result, Ok, Err, IfOk, IfErr, IfSome, IfNone, OnOk, OnErr}
use Rattle.std.specs.FinMap.{get}
use Rattle.tree_disk.specs.cny-base.declared.node.Node.{Node}
use Rattle.tree_disk.specs.cny-base.declared.node.Node.TheVariants.{Dir, File, Link}
use Rattle.tree_disk.specs.Tree.{Name, Tree, WellFormed, same_name, put, is_dir, is_file}
use Rattle.tree_disk.specs.Laws.{get_put}
use Rattle.tree_disk.proofs.Laws.{get_put_here, get_put_other, put_put, same_tree}
use Rattle.tree_disk.specs.Rows.{can_set_mode, grown, is_empty_at, is_file_at, of_mode, with_append, with_mode, with_rename}
use Rattle.tree_nodes.specs.declared.attempts.NotPut.{NotPut}
use Rattle.tree_nodes.specs.Attempts.{IsTried, can_leave, can_take}
use Rattle.tree_nodes.proofs.StoredTree.{put_same}
use Rattle.tree_disk.proofs.cny-base.Bools.{both, and_false as not_right}
use Rattle.tree_disk.proofs.Looks.{nothing_grows}
use Rattle.tree_disk.proofs.Order.{other_way as turn_same}

-- what was tried leaves a tree
pub tried_well : {E : Type 0} (r : Result Bool E) (can : Bool) (after old new : Tree) → IfOk r (IsTried can after old new) → OnErr r (new ≡ old) → WellFormed old → (can ≡ true → WellFormed after) → WellFormed new
tried_well (Ok true) can after old new tried same well keeps = subst WellFormed (sym (tried.done refl)) (keeps (sym tried.told))
tried_well (Ok false) can after old new tried same well keeps = subst WellFormed (sym (tried.refused refl)) well
tried_well (Err e) can after old new tried same well keeps = subst WellFormed (sym same) well

-- the same of a call that takes no memory
pub tried_well_at : (done can : Bool) (after old new : Tree) → IsTried can after old new done → WellFormed old → (can ≡ true → WellFormed after) → WellFormed new
tried_well_at true can after old new tried well keeps = subst WellFormed (sym (tried.done refl)) (keeps (sym tried.told))
tried_well_at false can after old new tried well keeps = subst WellFormed (sym (tried.refused refl)) well

pub was_done : (can : Bool) (after old new : Tree) → can ≡ true → new ≡ after → IsTried can after old new true
was_done can after old new is made = record { told = sym is; done = λ _. made; refused = λ bad. absurd (cc bad) }

pub was_refused : (can : Bool) (after old new : Tree) → can ≡ false → new ≡ old → IsTried can after old new false
was_refused can after old new is same = record { told = sym is; done = λ bad. absurd (cc bad); refused = λ _. same }

-- ---- an append

file_grows : (o : Option Node) (node : Node) → o ≡ Some node → (not (is_some o) || is_file o) ≡ is_file (Some node)
file_grows o node is = ap (λ (x : Option Node). not (is_some x) || is_file x) is

-- nothing stood there
pub appended_new : (t new : Tree) (p : Name) (bytes : List ℕ) → get t p ≡ None → new ≡ with_append t p bytes → IsTried (is_empty_at t p || is_file_at t p) (with_append t p bytes) t new true
appended_new t new p bytes none made = was_done _ _ t new (nothing_grows (get t p) none) made

-- something stood there, and a new file was put over it
pub appended_back : {E : Type 0} (r : Result Bool E) (t mid new : Tree) (p : Name) (file node : Node) (bytes : List ℕ) → get t p ≡ Some node → mid ≡ put t p (Some file)
    → IfOk r (IsTried (is_file (Some node)) (put mid p (Some (grown (Some node) bytes))) (put mid p (Some node)) new)
    → IfOk r (IsTried (is_empty_at t p || is_file_at t p) (with_append t p bytes) t new)
appended_back (Err e) t mid new p file node bytes stood is tried = tt
appended_back (Ok d) t mid new p file node bytes stood is tried = record {
  told = tried.told ∙ sym (file_grows (get t p) node stood);
  done = λ h. tried.done h ∙ over (Some (grown (Some node) bytes)) ∙ ap (λ (o : Option Node). put t p (Some (grown o bytes))) (sym stood);
  refused = λ h. tried.refused h ∙ over (Some node) ∙ put_same t p (Some node) stood;
}
  where
    over : (o : Option Node) → put mid p o ≡ put t p o
    over o = ap (λ (u : Tree). put u p o) is ∙ put_put t p (Some file) o

pub appended_err : {X E : Type 0} (r : Result X E) (t mid new : Tree) (p : Name) (file node : Node) → get t p ≡ Some node → mid ≡ put t p (Some file)
    → OnErr r (new ≡ put mid p (Some node)) → OnErr r (new ≡ t)
appended_err (Ok d) t mid new p file node stood is back = tt
appended_err (Err e) t mid new p file node stood is back =
    back ∙ ap (λ (u : Tree). put u p (Some node)) is ∙ put_put t p (Some file) (Some node) ∙ put_same t p (Some node) stood

-- ---- a node taken out of its place

pub lifted_some : (r : Option Node) (t : Tree) (p : Name) (v : Node) → get t p ≡ Some v → IfSome r (λ node. node ≡ v) → IfSome r (λ node. get t p ≡ Some node)
lifted_some None t p v there is = tt
lifted_some (Some node) t p v there is = there ∙ ap Some (sym is)

pub lifted_moves : (r o : Option Node) (v : Node) → o ≡ Some v → IfSome r (λ _. can_leave (Some v) ≡ true) → IfSome r (λ _. can_leave o ≡ true)
lifted_moves None o v is leaves = tt
lifted_moves (Some node) o v is leaves = ap can_leave is ∙ leaves

pub lifted_left : (r : Option Node) (t new : Tree) (p : Name) (w d : Node) → new ≡ put t p (Some w) → IfSome r (λ _. w ≡ d) → IfSome r (λ _. new ≡ put t p (Some d))
lifted_left None t new p w d wrote left = tt
lifted_left (Some node) t new p w d wrote left = wrote ∙ ap (λ (n : Node). put t p (Some n)) left

pub lifted_none : (r o : Option Node) (v : Node) → o ≡ Some v → IfNone r (can_leave (Some v) ≡ false) → IfNone r (can_leave o ≡ false)
lifted_none None o v is leaves_not = ap can_leave is ∙ leaves_not
lifted_none (Some node) o v is leaves_not = tt

pub lifted_same : (r : Option Node) (t new : Tree) (p : Name) (v w : Node) → get t p ≡ Some v → new ≡ put t p (Some w) → IfNone r (w ≡ v) → IfNone r (new ≡ t)
lifted_same None t new p v w there wrote same = wrote ∙ ap (λ (n : Node). put t p (Some n)) same ∙ put_same t p (Some v) there
lifted_same (Some node) t new p v w there wrote same = tt

-- ---- a node put over another

pub over_ok : {E : Type 0} (r : Result Unit E) (t u v : Tree) → OnOk r (t ≡ u) → u ≡ v → OnOk r (t ≡ v)
over_ok (Ok x) t u v same is = same ∙ is
over_ok (Err e) t u v same is = tt

pub over_takes : {E : Type 0} (r : Result Unit E) (o : Option Node) (v : Node) → o ≡ Some v → OnOk r (can_take (Some v) ≡ true) → OnOk r (can_take o ≡ true)
over_takes (Ok x) o v is takes = ap can_take is ∙ takes
over_takes (Err e) o v is takes = tt

pub over_refused : (r : Result Unit NotPut) (o : Option Node) (v : Node) → o ≡ Some v → OnErr r (can_take (Some v) ≡ false) → IfErr r (λ e. e.memory ≡ false → can_take o ≡ false)
over_refused (Ok x) o v is takes_not = tt
over_refused (Err e) o v is takes_not = λ _. ap can_take is ∙ takes_not

pub over_node : (r : Result Unit NotPut) (t placed : Tree) (p : Name) (node : Node) → placed ≡ put t p (Some node) → IfErr r (λ e. get placed p ≡ Some e.node) → IfErr r (λ e. e.node ≡ node)
over_node (Ok x) t placed p node is stood = tt
over_node (Err e) t placed p node is stood =
    let same : Some e.node ≡ Some node = sym stood ∙ ap (λ (u : Tree). get u p) is ∙ get_put_here t p (Some node) in
    cc same

-- ---- a mode

mode_kept : (t : Tree) (p : Name) (mode : ℕ) (o : Option Node) → get t p ≡ o → (is_dir o || is_file o) ≡ false → put t p (of_mode o mode) ≡ t
mode_kept t p mode None there unset = put_same t p None there
mode_kept t p mode (Some (Dir old)) there unset = absurd (cc unset)
mode_kept t p mode (Some (File old bytes)) there unset = absurd (cc unset)
mode_kept t p mode (Some (Link target)) there unset = put_same t p (Some (Link target)) there

pub mode_tried : (did : Bool) (t new : Tree) (p : Name) (mode : ℕ) → did ≡ can_set_mode t p → new ≡ with_mode t p mode → IsTried (can_set_mode t p) (with_mode t p mode) t new did
mode_tried did t new p mode told made = record {
  told = told;
  done = λ _. made;
  refused = λ unset. made ∙ mode_kept t p mode (get t p) refl (sym told ∙ unset);
}

-- ---- a rename

pub rename_allowed : (same leaves dir takes : Bool) → same ≡ false → dir ≡ true → (leaves && takes) ≡ true → (not same && (leaves && (dir && takes))) ≡ true
rename_allowed true leaves dir takes apart is can = absurd (cc apart)
rename_allowed false false dir takes apart is can = absurd (cc can)
rename_allowed false true dir takes apart is can = both dir takes is can

moved_at : (t : Tree) (from to : Name) (n d : Node) → get t from ≡ Some n → (q : Name) (v : Bool) → same_name q from ≡ v
    → get (put (put (put t from (Some d)) to (Some n)) from None) q ≡ get (put (put t to (get t from)) from None) q
moved_at t from to n d is q true here =
    get_put (put (put t from (Some d)) to (Some n)) from None q
    ∙ ap (λ b. cond b None (get (put (put t from (Some d)) to (Some n)) q)) here
    ∙ sym (ap (λ b. cond b None (get (put t to (get t from)) q)) here)
    ∙ sym (get_put (put t to (get t from)) from None q)
moved_at t from to n d is q false there =
    get_put_other (put (put t from (Some d)) to (Some n)) from None q there
    ∙ get_put (put t from (Some d)) to (Some n) q
    ∙ ap (cond (same_name q to) (Some n)) (get_put_other t from (Some d) q there)
    ∙ ap (λ (o : Option Node). cond (same_name q to) o (get t q)) (sym is)
    ∙ sym (get_put t to (get t from) q)
    ∙ sym (get_put_other (put t to (get t from)) from None q there)

-- the node was taken out of its place, put over the other, and its place taken away
pub moved_over : (t lifted placed taken : Tree) (from to : Name) (n d : Node) → get t from ≡ Some n → lifted ≡ put t from (Some d) → placed ≡ put lifted to (Some n) → taken ≡ put placed from None
    → taken ≡ with_rename t from to
moved_over t lifted placed taken from to n d is lift place took =
    took
    ∙ ap (λ (u : Tree). put u from None) (place ∙ ap (λ (u : Tree). put u to (Some n)) lift)
    ∙ same_tree _ _ (λ q. moved_at t from to n d is q (same_name q from) refl)

-- what stands where it goes is what stood there before the node was taken out
pub still_there : (t lifted : Tree) (from to : Name) (d : Node) → same_name from to ≡ false → lifted ≡ put t from (Some d) → get lifted to ≡ get t to
still_there t lifted from to d apart lift = ap (λ (u : Tree). get u to) lift ∙ get_put_other t from (Some d) to (turn_same from to apart)

pub rename_done : (t lifted placed taken : Tree) (from to : Name) (n d : Node) → same_name from to ≡ false → get t from ≡ Some n → can_leave (get t from) ≡ true → lifted ≡ put t from (Some d)
    → can_take (get lifted to) ≡ true → placed ≡ put lifted to (Some n) → taken ≡ put placed from None
    → IsTried (can_leave (get t from) && can_take (get t to)) (with_rename t from to) t taken true
rename_done t lifted placed taken from to n d apart is leaves lift takes place took =
    was_done _ _ t taken (both _ _ leaves (ap can_take (sym (still_there t lifted from to d apart lift)) ∙ takes)) (moved_over t lifted placed taken from to n d is lift place took)

-- the node was put back into its place
pub put_back : (t lifted kept new : Tree) (from : Name) (n m d : Node) → get t from ≡ Some n → lifted ≡ put t from (Some d) → kept ≡ lifted → m ≡ n → new ≡ put kept from (Some m) → new ≡ t
put_back t lifted kept new from n m d is lift same node back =
    back
    ∙ ap (λ (u : Tree). put u from (Some m)) (same ∙ lift)
    ∙ put_put t from (Some d) (Some m)
    ∙ put_same t from (Some m) (is ∙ ap Some (sym node))

pub rename_refused : (t lifted new : Tree) (from to : Name) (d : Node) → same_name from to ≡ false → lifted ≡ put t from (Some d) → can_take (get lifted to) ≡ false → new ≡ t
    → IsTried (can_leave (get t from) && can_take (get t to)) (with_rename t from to) t new false
rename_refused t lifted new from to d apart lift takes_not same =
    was_refused _ _ t new (not_right (can_leave (get t from)) _ (ap can_take (sym (still_there t lifted from to d apart lift)) ∙ takes_not)) same
