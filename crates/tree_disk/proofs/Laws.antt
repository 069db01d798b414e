-- Trees with a node put, and what is read of a disk.
use Rattle.std.specs.Prelude.{◌≡◌, Bool, true, false, cond, ◌||◌, ◌&&◌, not, List, [], ◌∷◌, map, Option, refl}
use Rattle.std.proofs.lemmas.List.Elements.{All-from_recursion}
use Rattle.std.proofs.Common.{sym, ◌∙◌, ap}
use Rattle.std.specs.Ordering.{nat_cmp, eq_by_cmp}
use Rattle.std.specs.Cmp.{eq_by_cmp_equiv}
use Rattle.std.specs.Cmp.Lexicographic.{slice_cmp, nat_list_cmp_total}
use Rattle.std.specs.FinMap.{get, keys, contains_key-keys, same_map, slice_cmp-IsAntisymmetric, nat_cmp-IsAntisymmetric}
use Rattle.cny_base.specs.declared.node.Node.{Node}
use Rattle.cny_base.specs.Path.{is_path, join, parent, last_name, root}
use Rattle.cny_base.proofs.Joins.{join_parent}
use Rattle.std.specs.List.{filter, AllByRecursion, list_any}
use Rattle.tree_disk.specs.Tree.{Name, Tree, is_child, children, same_name, put, WellFormed}
use Rattle.tree_disk.specs.Disk.{DiskModel, IsDisk, IsImageOf, NamesOf}
use Rattle.tree_disk.specs.Laws.{same_means, get_put}

pub second : (x y : Bool) → (x && y) ≡ true → y ≡ true
second true y h = h
second false y h = absurd (cc h)

-- ---- names

pub same_itself : (p : Name) → same_name p p ≡ true
same_itself p = (eq_by_cmp_equiv nat_list_cmp_total).refl p

-- ---- trees

pub get_put_here : (t : Tree) (p : Name) (o : Option Node) → get (put t p o) p ≡ o
get_put_here t p o = get_put t p o p ∙ ap (λ b. cond b o (get t p)) (same_itself p)

pub get_put_other : (t : Tree) (p : Name) (o : Option Node) (q : Name) → same_name q p ≡ false → get (put t p o) q ≡ get t q
get_put_other t p o q other = get_put t p o q ∙ ap (λ b. cond b o (get t q)) other

-- trees with equal look-ups are equal
pub same_tree : (t u : Tree) → ((q : Name) → get t q ≡ get u q) → t ≡ u
same_tree t u same = same_map nat_list_cmp_total (slice_cmp-IsAntisymmetric nat_cmp-IsAntisymmetric) t u same

twice : (b : Bool) (m n o : Option Node) → cond b n (cond b m o) ≡ cond b n o
twice true m n o = refl
twice false m n o = refl

-- the later of two nodes at one path
pub put_put : (t : Tree) (p : Name) (m n : Option Node) → put (put t p m) p n ≡ put t p n
put_put t p m n = same_tree (put (put t p m) p n) (put t p n)
    (λ q. get_put (put t p m) p n q ∙ ap (cond (same_name q p) n) (get_put t p m q) ∙ twice (same_name q p) m n (get t q) ∙ sym (get_put t p n q))

-- ---- one moment of a disk

module _ {D : Type 0} {disk : DiskModel D} (laws : IsDisk disk) where
  -- what the disk reads is one of its crash images
  pub reads_image : (d : D) → IsImageOf disk d (disk.reads d)
  reads_image d = record { well_formed = laws.reads_well_formed d; synced = λ p none. refl }

-- ---- the children of a directory

named_paths : (p : Name) (names : List Name) → AllByRecursion (λ q. is_path q ≡ true) names → AllByRecursion (λ last. is_path (join p last) ≡ true) (map last_name (filter (is_child p) names))
named_paths p [] all = tt
named_paths p (q ∷ names) all = here (is_child p q) refl
    (named_paths p names all.1)
  where
    here : (b : Bool) → is_child p q ≡ b → AllByRecursion (λ last. is_path (join p last) ≡ true) (map last_name (filter (is_child p) names)) → AllByRecursion (λ last. is_path (join p last) ≡ true) (map last_name (cond b (q ∷ filter (is_child p) names) (filter (is_child p) names)))
    here true is rest = (ap (λ (n : Name). is_path (join n (last_name q))) (sym (same_means (parent q) p (second (not (same_name q root)) _ is))) ∙ ap is_path (join_parent q all.0) ∙ all.0, rest)
    here false is rest = rest

each_listed : (P : Name → Type 0) (names : List Name) → ((q : Name) → list_any (eq_by_cmp (slice_cmp nat_cmp) q) names ≡ true → P q) → AllByRecursion P names
each_listed P [] each = tt
each_listed P (q ∷ names) each =
    (each q (ap (λ b. b || list_any (eq_by_cmp (slice_cmp nat_cmp) q) names) (same_itself q)), each_listed P names (λ r h. each r (either (same_name r q) _ h)))
  where
    either : (x y : Bool) → y ≡ true → (x || y) ≡ true
    either true y h = refl
    either false y h = h

-- each of their last names joins with the path to a path
pub children_paths : (t : Tree) (p : Name) → WellFormed t → NamesOf p (children t p)
children_paths t p well =
    All-from_recursion (λ last. is_path (join p last) ≡ true) (children t p)
    (named_paths p (keys t) (each_listed (λ q. is_path q ≡ true) (keys t) (λ q h. well.paths q (contains_key-keys t q ∙ h))))
