-- What moving a node does.
use Rattle.std.proofs.Common.{◌≡◌, Bool, true, false, cond, Option, Some, None, is_some, refl, sym, ◌∙◌, ap, Result, Ok, Err, OnOk}
use Rattle.std.specs.FinMap.{get}
use Rattle.tree_disk.specs.cny-base.declared.node.Node.{Node}
use Rattle.tree_disk.specs.Tree.{Name, Tree, same_name, put}
use Rattle.tree_disk.specs.Laws.{same_means, get_put}
use Rattle.tree_disk.proofs.Laws.{get_put_here, get_put_other, same_tree, put_put as put_twice}
use Rattle.tree_disk.specs.Rows.{with_rename}
use Rattle.tree_disk.proofs.Order.{other_way as turn_same}

-- a rename onto itself takes the node away
pub rename_same : (t : Tree) (from to : Name) → same_name from to ≡ true → with_rename t from to ≡ put t from None
rename_same t from to same = ap (λ (n : Name). put (put t n (get t from)) from None) (sym (same_means from to same)) ∙ put_twice t from (get t from) None

-- a place was made, the node taken, and put into the place
pub renamed : (t placed taken : Tree) (from to : Name) (node : Option Node) → same_name from to ≡ false
    → ((q : Name) → same_name q to ≡ false → get placed q ≡ get t q) → node ≡ get placed from → taken ≡ put placed from None
    → put taken to node ≡ with_rename t from to
renamed t placed taken from to node apart others is took = same_tree _ _ (λ q.
    get_put taken to node q
    ∙ at q (same_name q to) refl
    ∙ sym (get_put (put t to (get t from)) from None q))
  where
    moved : node ≡ get t from
    moved = is ∙ others from apart

    at : (q : Name) (v : Bool) → same_name q to ≡ v → cond v node (get taken q) ≡ cond (same_name q from) None (get (put t to (get t from)) q)
    at q true here =
        moved
        ∙ sym (ap (λ (n : Name). get (put t to (get t from)) n) (same_means q to here) ∙ get_put_here t to (get t from))
        ∙ sym (ap (λ b. cond b None (get (put t to (get t from)) q)) (ap (λ (n : Name). same_name n from) (same_means q to here) ∙ turn_same from to apart))
    at q false there =
        ap (λ u. get u q) took ∙ get_put placed from None q
        ∙ ap (cond (same_name q from) None) (others q there ∙ sym (get_put_other t to (get t from) q there))

-- the place still stands
pub place_stays : (placed taken : Tree) (from to : Name) → same_name from to ≡ false → is_some (get placed to) ≡ true → taken ≡ put placed from None → is_some (get taken to) ≡ true
place_stays placed taken from to apart stands took =
    ap (λ u. is_some (get u to)) took ∙ ap is_some (get_put_other placed from None to (turn_same from to apart)) ∙ stands

-- what a put leaves, where it went well
pub put_stands : {E : Type 0} (r : Result Unit E) (t u : Tree) (p : Name) (node : Node) → OnOk r (u ≡ put t p (Some node)) → OnOk r (is_some (get u p) ≡ true)
put_stands (Ok x) t u p node is = ap (λ s. is_some (get s p)) is ∙ ap is_some (get_put_here t p (Some node))
put_stands (Err e) t u p node is = tt

pub put_others : {E : Type 0} (r : Result Unit E) (t u : Tree) (p : Name) (node : Node) → OnOk r (u ≡ put t p (Some node))
    → OnOk r ((q : Name) → same_name q p ≡ false → get u q ≡ get t q)
put_others (Ok x) t u p node is = λ q other. ap (λ s. get s q) is ∙ get_put_other t p (Some node) q other
put_others (Err e) t u p node is = tt
