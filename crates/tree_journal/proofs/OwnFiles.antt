-- What making the base and writing one of the journal's files does to a tree.
use Rattle.std.proofs.Common.{◌≡◌, ◌≢◌, inl, inr, ⊎_elim, ℕ, Bool, true, false, cond, not, ◌&&◌, ◌||◌, List, length, Option, Some, None, is_some, Result, Ok, Err, OnOk, IsTrue, refl, sym, ◌∙◌, ap, arith}
use Rattle.std.proofs.lemmas.Bool.{cases_Bool}
use Rattle.std.specs.FinMap.{get}
use Rattle.journal_log.specs.cny-base.Path.{is_path, root, parent}
use Rattle.journal_log.proofs.cny-base.Below.{parent_shorter}
use Rattle.journal_log.specs.cny-base.declared.node.Node.{Node}
use Rattle.journal_log.specs.cny-base.declared.node.Node.TheVariants as node
use Rattle.journal_log.specs.cny-base.declared.stop.Stop.{Stop}
use Rattle.journal_log.specs.tree-disk.Tree.{Name, Tree, same_name, put, is_dir, is_file, is_link, WellFormed}
use Rattle.journal_log.specs.tree-disk.Rows.{can_append, can_make, can_remove, is_childless, with_append, with_node, without, grown, look_of, seen_as}
use Rattle.journal_log.specs.tree-disk.Laws.{same_means}
use Rattle.journal_log.proofs.tree-disk.Laws.{same_itself, get_put_here, get_put_other, put_put}
use Rattle.journal_log.specs.tree-disk.Clear.{is_within, without_tree}
use Rattle.journal_log.specs.tree-disk.Looks.{sees_nothing}
use Rattle.journal_log.specs.tree-disk.Steps.{Ended}
use Rattle.journal_log.proofs.tree-disk.ClearLaws.{get-without_tree, bare_without, within_itself}
use Rattle.journal_log.proofs.tree-disk.Clearing.{without-nothing}
use Rattle.tree_journal.specs.Apply.{with_base}
use Rattle.tree_journal.specs.Steps.{with_own_file, IsOther}
use Rattle.tree_journal.proofs.OwnNames.{not_longer}
use Rattle.tree_journal.proofs.MakePass.{none_empty as both}
use Rattle.journal_log.proofs.cny-base.Bools.{or_left, or_right}

other_no_dir : (o : Option Node) → IsOther o → is_dir o ≡ false
other_no_dir None other = refl
other_no_dir (Some (node.Dir mode)) other = ⊎_elim (λ h. absurd (cc h)) (λ h. absurd (cc h)) other
other_no_dir (Some (node.File mode bytes)) other = refl
other_no_dir (Some (node.Link target)) other = refl

-- what isn't a directory below one isn't `/`
not_root : (tree : Tree) (p : Name) → is_dir (get tree (parent p)) ≡ true → is_dir (get tree p) ≡ false → same_name p root ≡ false
not_root tree p above here = ⊎_elim (λ same. absurd (at (same_means p root same))) (λ other. other) (cases_Bool (same_name p root))
  where
    at : p ≡ root → ⊥
    at is = absurd (cc (ap (λ (q : Name). is_dir (get tree (parent q))) is, ap (λ (q : Name). is_dir (get tree q)) is, above, here))

pub may_remove_other : (tree : Tree) (p : Name) → is_dir (get tree (parent p)) ≡ true → IsOther (get tree p) → can_remove tree p ≡ true
may_remove_other tree p above other =
    ap (λ (b : Bool). not b && (is_file (get tree p) || (is_link (get tree p) || (is_dir (get tree p) && is_childless tree p)))) (not_root tree p above (other_no_dir (get tree p) other))
    ∙ ⊎_elim (λ file. or_left (is_file (get tree p)) _ file) (λ link. or_right (is_file (get tree p)) _ (or_left (is_link (get tree p)) _ link)) other

pub may_remove_file : (tree : Tree) (p : Name) → p ≢ root → is_file (get tree p) ≡ true → can_remove tree p ≡ true
may_remove_file tree p other file =
    ap (λ (b : Bool). not b && (is_file (get tree p) || (is_link (get tree p) || (is_dir (get tree p) && is_childless tree p)))) no_root ∙ or_left (is_file (get tree p)) _ file
  where
    no_root : same_name p root ≡ false
    no_root = ⊎_elim (λ same. absurd (other (same_means p root same))) (λ no_same. no_same) (cases_Bool (same_name p root))

parent_differs : (p : Name) → is_path p ≡ true → same_name p root ≡ false → same_name (parent p) p ≡ false
parent_differs p path other = ⊎_elim
    (λ same. ⊎_elim
    (λ top. absurd (cc (ap (λ (q : Name). same_name q root) top, same_itself root, other)))
    (λ less. absurd (omega (arith, ap length (same_means (parent p) p same))))
    (parent_shorter p path))
    (λ no_same. no_same) (cases_Bool (same_name (parent p) p))

pub may_make_removed : (tree : Tree) (p : Name) → is_path p ≡ true → is_dir (get tree (parent p)) ≡ true → IsOther (get tree p) → can_make (without tree p) p ≡ true
may_make_removed tree p path above other =
    both (is_dir (get (without tree p) (parent p))) (get (without tree p) p)
    (ap is_dir (get_put_other tree p None (parent p) (parent_differs p path (not_root tree p above (other_no_dir (get tree p) other)))) ∙ above)
    (get_put_here tree p None)

pub node_replaced : (tree : Tree) (p : Name) (n : Node) → with_node (without tree p) p n ≡ with_node tree p n
node_replaced tree p n = put_put tree p None (Some n)

pub base_made : (base : Name) (tree : Tree) → is_dir (get tree base) ≡ false → with_node tree base (node.Dir 493) ≡ with_base base tree
base_made base tree is = sym (ap (λ (b : Bool). cond b tree (put tree base (Some (node.Dir 493)))) is)

pub base_kept : (base : Name) (tree : Tree) → is_dir (get tree base) ≡ true → with_base base tree ≡ tree
base_kept base tree is = ap (λ (b : Bool). cond b tree (put tree base (Some (node.Dir 493)))) is

pub may_make_base : (tree : Tree) (p : Name) → is_dir (get tree (parent p)) ≡ true → get tree p ≡ None → can_make tree p ≡ true
may_make_base tree p above none = both (is_dir (get tree (parent p))) (get tree p) above none

pub other_seen : (tree : Tree) (p : Name) → sees_nothing (look_of tree p) ≡ false → is_dir (get tree p) ≡ false → IsOther (get tree p)
other_seen tree p some no_dir = at (get tree p) some no_dir
  where
    at : (o : Option Node) → sees_nothing (seen_as o) ≡ false → is_dir o ≡ false → IsOther o
    at None some no_dir = absurd (cc some)
    at (Some (node.Dir mode)) some no_dir = absurd (cc no_dir)
    at (Some (node.File mode bytes)) some no_dir = inl refl
    at (Some (node.Link target)) some no_dir = inr refl

-- ---- a file of the journal

parent_outside : (p : Name) → is_path p ≡ true → p ≢ root → is_within p (parent p) ≡ false
parent_outside p path other = ⊎_elim
    (λ top. absurd (other top))
    (λ less. not_longer p (parent p) (omega (arith, less)) (λ is. absurd (omega (arith, less, ap length is))))
    (parent_shorter p path)

pub may_write : (tree : Tree) (p : Name) → is_path p ≡ true → p ≢ root → is_dir (get tree (parent p)) ≡ true → can_append (without_tree tree p) p ≡ true
may_write tree p path other above =
    both' (is_dir (get (without_tree tree p) (parent p))) (get (without_tree tree p) p)
    (ap is_dir (get-without_tree tree p (parent p) ∙ ap (λ (b : Bool). cond b None (get tree (parent p))) (parent_outside p path other)) ∙ above)
    (bare_without tree p p (within_itself p))
  where
    both' : (x : Bool) (o : Option Node) → x ≡ true → o ≡ None → (x && (not (is_some o) || is_file o)) ≡ true
    both' x None is none = cc (ap (λ (b : Bool). b && true) is)
    both' x (Some n) is none = absurd (cc none)

pub written : (tree : Tree) (p : Name) (bytes : List ℕ) → with_append (without_tree tree p) p bytes ≡ with_own_file p bytes tree
written tree p bytes = ap (λ (o : Option Node). put (without_tree tree p) p (Some (grown o bytes))) (bare_without tree p p (within_itself p))

-- the same where nothing stood
pub may_write_bare : (tree : Tree) (p : Name) → is_dir (get tree (parent p)) ≡ true → get tree p ≡ None → can_append tree p ≡ true
may_write_bare tree p above none = allowed (is_dir (get tree (parent p))) (get tree p) above none
  where
    allowed : (x : Bool) (o : Option Node) → x ≡ true → o ≡ None → (x && (not (is_some o) || is_file o)) ≡ true
    allowed x None is none = cc (ap (λ (b : Bool). b && true) is)
    allowed x (Some n) is none = absurd (cc none)

pub written_bare : (tree : Tree) (p : Name) (bytes : List ℕ) → WellFormed tree → is_path p ≡ true → get tree p ≡ None → with_append tree p bytes ≡ with_own_file p bytes tree
written_bare tree p bytes well path none =
    ap (λ (o : Option Node). put tree p (Some (grown o bytes))) none
    ∙ ap (λ (t : Tree). put t p (Some (node.File 384 bytes))) (sym (without-nothing tree p well path none))

-- what stands where with such a file
pub get-own_file_other : (path : Name) (bytes : List ℕ) (tree : Tree) (q : Name) → is_within path q ≡ false → get (with_own_file path bytes tree) q ≡ get tree q
get-own_file_other path bytes tree q out =
    get_put_other (without_tree tree path) path (Some (node.File 384 bytes)) q (first (same_name q path) _ out)
    ∙ get-without_tree tree path q ∙ ap (λ (b : Bool). cond b None (get tree q)) out
  where
    first : (x y : Bool) → (x || y) ≡ false → x ≡ false
    first true y h = absurd (cc h)
    first false y h = refl

pub get-own_file_here : (path : Name) (bytes : List ℕ) (tree : Tree) → get (with_own_file path bytes tree) path ≡ Some (node.File 384 bytes)
get-own_file_here path bytes tree = get_put_here (without_tree tree path) path (Some (node.File 384 bytes))

pub get-base_other : (base : Name) (tree : Tree) (q : Name) → same_name q base ≡ false → get (with_base base tree) q ≡ get tree q
get-base_other base tree q other = ⊎_elim
    (λ is. ap (λ (t : Tree). get t q) (base_kept base tree is))
    (λ is. ap (λ (t : Tree). get t q) (sym (base_made base tree is)) ∙ get_put_other tree base (Some (node.Dir 493)) q other)
    (cases_Bool (is_dir (get tree base)))

pub base_stands : (base : Name) (tree : Tree) → is_dir (get (with_base base tree) base) ≡ true
base_stands base tree = ⊎_elim
    (λ is. ap (λ (t : Tree). is_dir (get t base)) (base_kept base tree is) ∙ is)
    (λ is. ap (λ (t : Tree). is_dir (get t base)) (sym (base_made base tree is)) ∙ ap is_dir (get_put_here tree base (Some (node.Dir 493))))
    (cases_Bool (is_dir (get tree base)))

-- ---- how a change ended

-- what holds of the tree that is made holds where it ended well
pub ends_so : {P : Type 0} (told : Bool) (after new : Tree) (result : Result Unit Stop) (a b : ℕ) → Ended told after new result a b → IsTrue told → (new ≡ after → P) → OnOk result P
ends_so told after new (Ok u) a b ended tells so = so (ended tells)
ends_so told after new (Err e) a b ended tells so = tt
