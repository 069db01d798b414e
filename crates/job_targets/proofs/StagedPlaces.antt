-- A staged content that a binary search finds by its name.
use Rattle.std.proofs.Common.{◌≡◌, ◌≢◌, ℕ, ◌<◌, Bool, true, false, cond, ◌&&◌, ◌||◌, IsTrue, List, [], ◌∷◌, length, map, get_or, Option, Some, None, refl, sym, ◌∙◌, ap, subst, arith}
use Rattle.std.specs.Prelude.{◌==◌}
use Rattle.std.specs.FinMap.{get}
use Rattle.std.specs.List.{list_any, HoldsAt}
use Rattle.std.specs.List.Sorted.{IsNonDecreasingBy, IsPartitionPoint}
use Rattle.std.specs.Ordering.{is_eq, ordering_index}
use Rattle.std.specs.Str.{bytes_eq}
use Rattle.std.specs.declared.cmp.Ordering.TheVariants.{Less, Equal, Greater}
use Rattle.std.proofs.lemmas.Bool.Decides.{nat_tests}
use Rattle.std.proofs.lemmas.List.{get_or-map, length-map}
use Rattle.std.proofs.lemmas.List.Elements.{All-get_or}
use Rattle.sha1.specs.Sha1.{sha1}
use Rattle.local_db.specs.cny-base.Reserved.{private_directory}
use Rattle.local_db.specs.cny-base.declared.node.Node.{Node}
use Rattle.local_db.specs.cny-base.declared.node.Node.TheVariants as node
use Rattle.local_db.specs.journal-log.Own.{staged, staged_file}
use Rattle.local_db.specs.journal-log.declared.put.Want.TheVariants as want
use Rattle.local_db.specs.tree-disk.Laws.{same_means}
use Rattle.local_db.specs.tree-disk.Rows.{bytes_at, bytes_of}
use Rattle.local_db.specs.tree-disk.Tree.{Name, Tree, is_file}
use Rattle.local_db.specs.tree-journal.Staging.{is_content}
use Rattle.local_db.proofs.cny-base.Bools.{both, first_false, second_false}
use Rattle.change_set.specs.declared.change.Carried.{Carried}
use Rattle.change_set.specs.ChangeSet.{content_cmp}
use Rattle.change_set.proofs.cny-base.ByteLists.{equal_bytes}
use Rattle.change_set.proofs.cny-base.Counts.{number_same}
use Rattle.change_pull.specs.declared.staged.Staged.{Staged}
use Rattle.change_pull.specs.Files.{carried_in}
use Rattle.change_pull.specs.Incoming.{is_carried, IsStaged, StandNumbered}
use Rattle.change_pull.proofs.Sizes.{staged_against, staged_found, staged_missed}
use Rattle.job_targets.specs.Carrying.{IsCarriedFile, IsPlace}
use Rattle.job_targets.specs.Contents.{carried_bytes, of_size}
use Rattle.job_targets.specs.Old.{IsContent}
use Rattle.job_targets.proofs.Carrying.{carried_content_is, found_at, sized}

-- where none of this name and size is carried, none is found
none_sized : (size : ℕ) (name : List ℕ) (cs : List Carried) → list_any (is_carried name size) cs ≡ false → of_size size (carried_bytes cs name) ≡ None
none_sized size name [] none = refl
none_sized size name (c ∷ cs) none =
    here (bytes_eq c.name name) (first_false (is_carried name size c) (list_any (is_carried name size) cs) none)
    (none_sized size name cs (second_false (is_carried name size c) (list_any (is_carried name size) cs) none))
  where
    here : (same : Bool) → (same && (length c.bytes == size)) ≡ false → of_size size (carried_bytes cs name) ≡ None → of_size size (cond same (Some c.bytes) (carried_bytes cs name)) ≡ None
    here true other rest = ap (λ (b : Bool). cond b (Some c.bytes) None) other
    here false other rest = rest

file_content : (o : Option Node) (size : ℕ) (name : List ℕ) → is_file o ≡ true → length (bytes_of o) ≡ size → sha1 (bytes_of o) ≡ name → is_content o size name ≡ true
file_content None size name is long named = absurd (cc is)
file_content (Some (node.Dir mode)) size name is long named = absurd (cc is)
file_content (Some (node.Link target)) size name is long named = absurd (cc is)
file_content (Some (node.File mode bytes)) size name is long named = both (length bytes == size) (bytes_eq (sha1 bytes) name) (number_same (length bytes) size long) (equal_bytes (sha1 bytes) name named)

other_number : (a b : ℕ) → a ≢ b → (a == b) ≡ false
other_number a b h = grind (arith, nat_tests)

module _ (contents : List Staged) (tree : Tree) (name : List ℕ) (size : ℕ) (stand : StandNumbered (staged private_directory) contents tree) where
  pub place_found : (place : ℕ) (one : Staged) → place < length contents → one ≡ get_or contents place one → HoldsAt (λ y. staged_against name y ≡ Equal) contents place → one.size ≡ size → IsPlace contents tree size name place
  place_found place one within is holds same =
      let listed = map (carried_in tree) contents in
      let it : Carried = carried_in tree one in
      let at : it ≡ get_or listed place it = ap (carried_in tree) is ∙ sym (get_or-map (carried_in tree) contents place one it within) in
      let named : one.name ≡ name = same_means one.name name (ap is_eq (subst (λ (d : Staged). staged_against name d ≡ Equal) (sym is) (holds one))) in
      let long : length (bytes_at tree one.path) ≡ one.size = (subst (IsStaged (staged private_directory) tree) (sym is) (All-get_or (IsStaged (staged private_directory) tree) contents place one within stand.staged)).size in
      record {
        one = one;
        within = within;
        is = is;
        named = named;
        sized = same;
        carried = sym (sized size (carried_bytes listed name) (bytes_at tree one.path)
            (found_at name listed place it stand.hashed.rising (omega (arith, within, length-map contents (carried_in tree))) at named) (long ∙ same));
      }

  pub place_other : (place : ℕ) (one : Staged) → place < length contents → one ≡ get_or contents place one → HoldsAt (λ y. staged_against name y ≡ Equal) contents place → one.size ≢ size
      → of_size size (carried_bytes (map (carried_in tree) contents) name) ≡ None
  place_other place one within is holds other =
      none_sized size name (map (carried_in tree) contents)
      (sym (staged_found (staged private_directory) contents tree name size stand.staged stand.hashed.rising place one within is holds) ∙ other_number one.size size other)

  pub place_missed : (place : ℕ) → (IsNonDecreasingBy (λ y. ordering_index (staged_against name y)) contents → IsPartitionPoint (λ y. staged_against name y ≡ Less) (λ y. staged_against name y ≡ Greater) contents place)
      → of_size size (carried_bytes (map (carried_in tree) contents) name) ≡ None
  place_missed place search' = none_sized size name (map (carried_in tree) contents) (sym (staged_missed (staged private_directory) contents tree name size stand.staged stand.hashed.rising place search'))

  -- the write that names the file of the place has the carried bytes
  pub place_file : (place mode : ℕ) → IsPlace contents tree size name place → IsCarriedFile (map (carried_in tree) contents) tree mode size name (want.Staged mode place size name)
  place_file place mode it =
      let numbered = stand.each place it.one it.within it.is in
      let content : IsContent size name (bytes_at tree it.one.path) = carried_content_is (map (carried_in tree) contents) size name (bytes_at tree it.one.path) stand.hashed.hash (sym it.carried) in
      record {
        bytes = bytes_at tree it.one.path;
        found = it.carried;
        is = ap (λ (p : Name). want.File mode (bytes_at tree p)) (sym numbered.path);
        stands = subst (λ (p : Name). is_content (get tree p) size name ≡ true) numbered.path (file_content (get tree it.one.path) size name numbered.stands content.long content.named);
      }
