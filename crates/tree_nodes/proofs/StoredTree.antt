-- A map of texts and the tree that it stands for.
use Rattle.std.proofs.Common.{◌≡◌, ℕ, Bool, true, false, cond, List, [], ◌∷◌, Option, Some, None, refl, sym, ◌∙◌, ap, subst, IsSome, is_some, Result, Ok, Err, OnOk, OnErr, string_bytes, String}
use Rattle.std.specs.declared.alloc.Global.{Global}
use Rattle.std.specs.Ordering.{nat_cmp, eq_by_cmp}
use Rattle.std.specs.Cmp.Lexicographic.{slice_cmp, nat_list_cmp_total}
use Rattle.std.specs.Map.{lookup, remove_entry, set_value}
use Rattle.std.specs.BTreeMap.{is_at, insert_entry}
use Rattle.std.specs.FinMap.{get, find, insert, get-from_entries}
use Rattle.tree_disk.specs.cny-base.declared.node.Node.{Node}
use Rattle.tree_disk.specs.Tree.{Name, Tree, put}
use Rattle.tree_disk.specs.Laws.{same_means}
use Rattle.tree_disk.proofs.Laws.{get_put_here, put_put}
use Rattle.std.specs.FinMap.Entries as Entries
use Rattle.std.specs.FinMap.{same_map, get-insert, get-remove, slice_cmp-IsAntisymmetric, nat_cmp-IsAntisymmetric}
use Rattle.std.specs.declared.cmp.Ordering.TheVariants.{Less, Equal, Greater}
use Rattle.std.specs.Ordering.{match_ordering}
use Rattle.std.specs.String.{string_cmp}
use Rattle.tree_disk.specs.Rows.{of_mode, with_mode, grown, with_append}
use Rattle.tree_nodes.specs.Stored.{by_bytes, tree_of}
use Rattle.tree_nodes.proofs.Between.{R}

find_stored : (q : Name) (entries : List (String Global × Node)) → lookup (is_at (λ k. slice_cmp nat_cmp q (string_bytes k))) entries ≡ find (slice_cmp nat_cmp) q (by_bytes entries)
find_stored q [] = refl
find_stored q (e ∷ entries) = ap (cond (eq_by_cmp (slice_cmp nat_cmp) q (string_bytes e.0)) (Some e.1)) (find_stored q entries)

-- a look-up in the map is one in the tree
pub get_stored : (q : Name) (entries : List (String Global × Node)) → lookup (is_at (λ k. slice_cmp nat_cmp q (string_bytes k))) entries ≡ get (tree_of entries) q
get_stored q entries = find_stored q entries ∙ sym (get-from_entries nat_list_cmp_total (by_bytes entries) q)

-- ---- an insertion
insert_bytes : (k : String Global) (v : Node) (entries : List (String Global × Node)) → by_bytes (insert_entry string_cmp entries k v) ≡ Entries.put R (string_bytes k) v (by_bytes entries)
insert_bytes k v [] = refl
insert_bytes k v (e ∷ entries) =
    elim (R (string_bytes k) (string_bytes e.0)) as (λ o. by_bytes (match_ordering o ((k, v) ∷ e ∷ entries) ((e.0, v) ∷ entries) (e ∷ insert_entry string_cmp entries k v))
    ≡ Entries.by_order o ((string_bytes k, v) ∷ (string_bytes e.0, e.1) ∷ by_bytes entries) ((string_bytes e.0, v) ∷ by_bytes entries) ((string_bytes e.0, e.1) ∷ Entries.put R (string_bytes k) v (by_bytes entries))) [
      | Less ↦ refl
      | Equal ↦ refl
      | Greater ↦ ap (λ l. (string_bytes e.0, e.1) ∷ l) (insert_bytes k v entries)
    ]

pub inserted : (k : String Global) (v : Node) (old new : List (String Global × Node)) → new ≡ insert_entry string_cmp old k v → tree_of new ≡ put (tree_of old) (string_bytes k) (Some v)
inserted k v old new is =
    same_map nat_list_cmp_total (slice_cmp-IsAntisymmetric nat_cmp-IsAntisymmetric) _ _ (λ q.
    get-from_entries nat_list_cmp_total (by_bytes new) q
    ∙ ap (λ l. find R q (by_bytes l)) is
    ∙ ap (find R q) (insert_bytes k v old)
    ∙ Entries.find-put R nat_list_cmp_total q (string_bytes k) v (by_bytes old)
    ∙ ap (cond (eq_by_cmp R q (string_bytes k)) (Some v)) (sym (get-from_entries nat_list_cmp_total (by_bytes old) q))
    ∙ sym (get-insert nat_list_cmp_total (tree_of old) (string_bytes k) v q))

abbrev pub at_name : Name → String Global → Bool
at_name q = is_at (λ k. R q (string_bytes k))

-- ---- a removal
removed_here : (p q : Name) (b : Bool) (e : String Global × Node) (entries : List (String Global × Node)) → at_name q e.0 ≡ b → eq_by_cmp R p q ≡ false
    → find R p (by_bytes (remove_entry (at_name q) entries)) ≡ find R p (by_bytes entries)
    → find R p (by_bytes (cond b entries (e ∷ remove_entry (at_name q) entries))) ≡ cond (eq_by_cmp R p (string_bytes e.0)) (Some e.1) (find R p (by_bytes entries))
removed_here p q true e entries hit apart rest =
    ap (λ t. cond t (Some e.1) (find R p (by_bytes entries))) (sym (ap (eq_by_cmp R p) (sym (same_means q (string_bytes e.0) hit)) ∙ apart))
removed_here p q false e entries hit apart rest = ap (cond (eq_by_cmp R p (string_bytes e.0)) (Some e.1)) rest

removed_other : (p q : Name) (entries : List (String Global × Node)) → eq_by_cmp R p q ≡ false → find R p (by_bytes (remove_entry (at_name q) entries)) ≡ find R p (by_bytes entries)
removed_other p q [] apart = refl
removed_other p q (e ∷ entries) apart = removed_here p q (at_name q e.0) e entries refl apart (removed_other p q entries apart)

by_tie : (b : Bool) (x y : Option Node) (z : Option Node) → (b ≡ true → z ≡ x) → (b ≡ false → z ≡ y) → z ≡ cond b x y
by_tie true x y z here there = here refl
by_tie false x y z here there = there refl

pub removed : (q : Name) (old new : List (String Global × Node)) → new ≡ remove_entry (at_name q) old → lookup (at_name q) new ≡ None → tree_of new ≡ put (tree_of old) q None
removed q old new is none =
    same_map nat_list_cmp_total (slice_cmp-IsAntisymmetric nat_cmp-IsAntisymmetric) _ _ (λ p.
    by_tie (eq_by_cmp R p q) None (get (tree_of old) p) (get (tree_of new) p)
    (λ h. ap (get (tree_of new)) (same_means p q h) ∙ sym (get_stored q new) ∙ none)
    (λ h. get-from_entries nat_list_cmp_total (by_bytes new) p ∙ ap (λ l. find R p (by_bytes l)) is ∙ removed_other p q old h ∙ sym (get-from_entries nat_list_cmp_total (by_bytes old) p))
    ∙ sym (get-remove nat_list_cmp_total (tree_of old) q p))

-- ---- a write in place
written_here : (p q : Name) (b : Bool) (w : Node) (e : String Global × Node) (entries : List (String Global × Node)) → at_name q e.0 ≡ b → eq_by_cmp R p q ≡ false
    → find R p (by_bytes (set_value (at_name q) entries w)) ≡ find R p (by_bytes entries)
    → find R p (by_bytes (cond b ((e.0, w) ∷ entries) (e ∷ set_value (at_name q) entries w))) ≡ cond (eq_by_cmp R p (string_bytes e.0)) (Some e.1) (find R p (by_bytes entries))
written_here p q true w e entries hit apart rest =
    let far : eq_by_cmp R p (string_bytes e.0) ≡ false = ap (eq_by_cmp R p) (sym (same_means q (string_bytes e.0) hit)) ∙ apart in
    ap (λ t. cond t (Some w) (find R p (by_bytes entries))) far ∙ ap (λ t. cond t (Some e.1) (find R p (by_bytes entries))) (sym far)
written_here p q false w e entries hit apart rest = ap (cond (eq_by_cmp R p (string_bytes e.0)) (Some e.1)) rest

written_other : (p q : Name) (w : Node) (entries : List (String Global × Node)) → eq_by_cmp R p q ≡ false → find R p (by_bytes (set_value (at_name q) entries w)) ≡ find R p (by_bytes entries)
written_other p q w [] apart = refl
written_other p q w (e ∷ entries) apart = written_here p q (at_name q e.0) w e entries refl apart (written_other p q w entries apart)

written_at_here : (q : Name) (b : Bool) (w : Node) (e : String Global × Node) (entries : List (String Global × Node)) → at_name q e.0 ≡ b
    → (IsSome (lookup (at_name q) entries) → lookup (at_name q) (set_value (at_name q) entries w) ≡ Some w)
    → IsSome (cond b (Some e.1) (lookup (at_name q) entries))
    → lookup (at_name q) (cond b ((e.0, w) ∷ entries) (e ∷ set_value (at_name q) entries w)) ≡ Some w
written_at_here q true w e entries hit rest some = ap (λ t. cond t (Some w) (lookup (at_name q) entries)) hit
written_at_here q false w e entries hit rest some = ap (λ t. cond t (Some e.1) (lookup (at_name q) (set_value (at_name q) entries w))) hit ∙ rest some

written_at : (q : Name) (w : Node) (entries : List (String Global × Node)) → IsSome (lookup (at_name q) entries) → lookup (at_name q) (set_value (at_name q) entries w) ≡ Some w
written_at q w [] some = absurd (cc some)
written_at q w (e ∷ entries) some = written_at_here q (at_name q e.0) w e entries refl (written_at q w entries) some

pub written : (q : Name) (w : Node) (old new : List (String Global × Node)) → new ≡ set_value (at_name q) old w → IsSome (lookup (at_name q) old) → tree_of new ≡ put (tree_of old) q (Some w)
written q w old new is some =
    same_map nat_list_cmp_total (slice_cmp-IsAntisymmetric nat_cmp-IsAntisymmetric) _ _ (λ p.
    by_tie (eq_by_cmp R p q) (Some w) (get (tree_of old) p) (get (tree_of new) p)
    (λ h. ap (get (tree_of new)) (same_means p q h) ∙ sym (get_stored q new) ∙ ap (lookup (at_name q)) is ∙ written_at q w old some)
    (λ h. get-from_entries nat_list_cmp_total (by_bytes new) p ∙ ap (λ l. find R p (by_bytes l)) is ∙ written_other p q w old h ∙ sym (get-from_entries nat_list_cmp_total (by_bytes old) p))
    ∙ sym (get-insert nat_list_cmp_total (tree_of old) q w p))

-- ---- the same at a path that the key spells
pub inserted_at : (p : Name) (k : String Global) (v : Node) (old new : List (String Global × Node)) → string_bytes k ≡ p → new ≡ insert_entry string_cmp old k v → tree_of new ≡ put (tree_of old) p (Some v)
inserted_at p k v old new spells is = inserted k v old new is ∙ ap (λ q. insert (tree_of old) q v) spells

-- ---- a write through what a look-up lent
pub get_at : (q : Name) (found : Option Node) (entries : List (String Global × Node)) → lookup (at_name q) entries ≡ found → get (tree_of entries) q ≡ found
get_at q found entries is = sym (get_stored q entries) ∙ is

pub written_some : (q : Name) (v w : Node) (o : Option Node) (old new : List (String Global × Node)) → lookup (at_name q) old ≡ Some v → new ≡ set_value (at_name q) old w → Some w ≡ o → tree_of new ≡ put (tree_of old) q o
written_some q v w o old new found is to =
    written q w old new is (subst (λ (f : Option Node). IsSome f) (sym found) refl) ∙ ap (put (tree_of old) q) to

-- to put what stands there changes nothing
pub put_same : (t : Tree) (p : Name) (o : Option Node) → get t p ≡ o → put t p o ≡ t
put_same t p None is =
    same_map nat_list_cmp_total (slice_cmp-IsAntisymmetric nat_cmp-IsAntisymmetric) _ _ (λ q.
    get-remove nat_list_cmp_total t p q ∙ sym (by_tie (eq_by_cmp R q p) None (get t q) (get t q) (λ h. ap (get t) (same_means q p h) ∙ is) (λ _. refl)))
put_same t p (Some v) is =
    same_map nat_list_cmp_total (slice_cmp-IsAntisymmetric nat_cmp-IsAntisymmetric) _ _ (λ q.
    get-insert nat_list_cmp_total t p v q ∙ sym (by_tie (eq_by_cmp R q p) (Some v) (get t q) (get t q) (λ h. ap (get t) (same_means q p h) ∙ is) (λ _. refl)))

pub mode_none : (t : Tree) (p : Name) (mode : ℕ) → get t p ≡ None → with_mode t p mode ≡ t
mode_none t p mode none = ap (λ o. put t p (of_mode o mode)) none ∙ put_same t p None none

-- ---- an append: a new file is put, and grows again from what stood there
pub stood_at : (p : Name) (k : String Global) (found : Option Node) (old : List (String Global × Node)) → string_bytes k ≡ p → lookup (at_name (string_bytes k)) old ≡ found → get (tree_of old) p ≡ found
stood_at p k found old spells is = ap (get (tree_of old)) (sym spells) ∙ get_at (string_bytes k) found old is

pub stands_put : (p : Name) (k : String Global) (file : Node) (old mid : List (String Global × Node)) → string_bytes k ≡ p → mid ≡ insert_entry string_cmp old k file → is_some (get (tree_of mid) p) ≡ true
stands_put p k file old mid spells is =
    ap (λ (t : Tree). is_some (get t p)) (inserted_at p k file old mid spells is) ∙ ap is_some (get_put_here (tree_of old) p (Some file))

pub made_first : (p : Name) (k : String Global) (file : Node) (bytes : List ℕ) (old new : List (String Global × Node)) → string_bytes k ≡ p → new ≡ insert_entry string_cmp old k file
    → lookup (at_name (string_bytes k)) old ≡ None → file ≡ grown None bytes → tree_of new ≡ with_append (tree_of old) p bytes
made_first p k file bytes old new spells is none grew =
    inserted_at p k file old new spells is ∙ ap (λ (n : Node). put (tree_of old) p (Some n)) (grew ∙ ap (λ (o : Option Node). grown o bytes) (sym (stood_at p k None old spells none)))

pub regrown_ok : {E : Type 0} (r : Result Unit E) (p : Name) (k : String Global) (file v : Node) (bytes : List ℕ) (old mid new : List (String Global × Node)) → string_bytes k ≡ p → mid ≡ insert_entry string_cmp old k file
    → lookup (at_name (string_bytes k)) old ≡ Some v → OnOk r (tree_of new ≡ put (tree_of mid) p (Some (grown (Some v) bytes))) → OnOk r (tree_of new ≡ with_append (tree_of old) p bytes)
regrown_ok (Ok x) p k file v bytes old mid new spells is found put_it =
    put_it ∙ ap (λ (t : Tree). put t p (Some (grown (Some v) bytes))) (inserted_at p k file old mid spells is) ∙ put_put (tree_of old) p (Some file) (Some (grown (Some v) bytes))
    ∙ ap (λ (o : Option Node). put (tree_of old) p (Some (grown o bytes))) (sym (stood_at p k (Some v) old spells found))
regrown_ok (Err e) p k file v bytes old mid new spells is found put_it = tt

pub regrown_err : {E : Type 0} (r : Result Unit E) (p : Name) (k : String Global) (file v : Node) (old mid new : List (String Global × Node)) → string_bytes k ≡ p → mid ≡ insert_entry string_cmp old k file
    → lookup (at_name (string_bytes k)) old ≡ Some v → OnErr r (tree_of new ≡ put (tree_of mid) p (Some v)) → OnErr r (tree_of new ≡ tree_of old)
regrown_err (Ok x) p k file v old mid new spells is found put_it = tt
regrown_err (Err e) p k file v old mid new spells is found put_it =
    put_it ∙ ap (λ (t : Tree). put t p (Some v)) (inserted_at p k file old mid spells is) ∙ put_put (tree_of old) p (Some file) (Some v)
    ∙ put_same (tree_of old) p (Some v) (stood_at p k (Some v) old spells found)
