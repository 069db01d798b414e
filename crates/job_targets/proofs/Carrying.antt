-- A carried content that a binary search finds by its name.
use Rattle.std.proofs.Common.{◌≡◌, ◌≢◌, ℕ, zero, suc, ◌<◌, Bool, true, false, cond, List, [], ◌∷◌, length, get_or, Option, Some, None, All, ⊎_elim, inl, inr, refl, sym, ◌∙◌, ap, subst, arith, add-one}
use Rattle.std.specs.List.{HoldsAt}
use Rattle.std.specs.List.Sorted.{IsStrictlySortedBy, IsSortedBy, IsNonDecreasingBy, IsPartitionPoint}
use Rattle.std.specs.Cmp.Lexicographic.{slice_cmp, nat_list_cmp_total}
use Rattle.std.specs.Ordering.{nat_cmp, is_eq, is_lt, ordering_index}
use Rattle.std.specs.Prelude.{◌==◌, IfSome}
use Rattle.std.specs.declared.cmp.Ordering.TheVariants.{Less, Equal, Greater}
use Rattle.std.specs.Str.{bytes_eq}
use Rattle.std.proofs.lemmas.Bool.{cases_Bool, cases_lt}
use Rattle.std.proofs.lemmas.Bool.Decides.{nat_tests}
use Rattle.std.proofs.lemmas.Cmp.{tied_itself}
use Rattle.std.proofs.lemmas.List.Elements.{All-head, All-tail}
use Rattle.std.proofs.lemmas.List.Sorted.{searchable_from_sorted}
use Rattle.std.proofs.lemmas.Map.Keys.{Less-from_sorted}
use Rattle.sha1.specs.Sha1.{sha1}
use Rattle.local_db.specs.tree-disk.Laws.{same_means}
use Rattle.change_set.specs.declared.change.Carried.{Carried}
use Rattle.change_set.specs.ChangeSet.{content_cmp}
use Rattle.job_targets.specs.Old.{IsContent}
use Rattle.job_targets.specs.Contents.{carried_bytes}
use Rattle.change_set.proofs.Carrying.{against, rec_at}
use Rattle.change_set.proofs.cny-base.ByteLists.{equal_bytes, same_bytes}
use Rattle.change_set.proofs.cny-base.Orders.{not_less as turned}
use Rattle.tree_scan.proofs.tree-disk.Order.{not_before}
use Rattle.change_set.specs.cny-base.Sized.{of_size}
use Rattle.change_set.proofs.cny-base.Counts.{number_same as equal_size}
use Rattle.change_set.proofs.cny-base.Below.{test_equal as same_size}

-- the content at a place, of the name that is looked for, is the one that is carried under it
pub found_at : (name : List ℕ) (cs : List Carried) (i : ℕ) (e : Carried) → IsStrictlySortedBy content_cmp cs → i < length cs → e ≡ get_or cs i e → e.name ≡ name
    → carried_bytes cs name ≡ Some e.bytes
unfolding IsStrictlySortedBy
found_at name [] i e rises lt is named = absurd (omega arith)
found_at name (c ∷ cs) zero e rises lt is named =
    let same : c.name ≡ name = ap (λ (d : Carried). d.name) (sym is) ∙ named in
    ap (λ (b : Bool). cond b (Some c.bytes) (carried_bytes cs name)) (equal_bytes c.name name same) ∙ ap (λ (d : Carried). Some d.bytes) (sym is)
found_at name (c ∷ cs) (suc i) e rises lt is named =
    let less : content_cmp c e ≡ Less = rec_at (λ (d : Carried). content_cmp c d ≡ Less) cs i e rises.0 (omega arith) is in
    let other : bytes_eq c.name name ≡ false = ⊎_elim (λ same. absurd (not_before c.name e.name (same_bytes c.name name same ∙ sym named) less)) (λ n. n) (cases_Bool (bytes_eq c.name name)) in
    ap (λ (b : Bool). cond b (Some c.bytes) (carried_bytes cs name)) other ∙ found_at name cs i e rises.1 (omega arith) is named

-- where none has the name, none is carried under it
none_at : (name : List ℕ) (cs : List Carried) → ((i : ℕ) (d : Carried) → i < length cs → (get_or cs i d).name ≡ name → ⊥) → carried_bytes cs name ≡ None
none_at name [] none = refl
none_at name (c ∷ cs) none =
    let other : bytes_eq c.name name ≡ false = ⊎_elim (λ same. absurd (none 0 c (omega arith) (same_bytes c.name name same))) (λ n. n) (cases_Bool (bytes_eq c.name name)) in
    ap (λ (b : Bool). cond b (Some c.bytes) (carried_bytes cs name)) other ∙ none_at name cs (λ i d lt is. none (suc i) d (omega arith) is)

module _ (cs : List Carried) (name : List ℕ) (rises : IsStrictlySortedBy content_cmp cs) where
  pub found_place : (place : ℕ) (e : Carried) → place < length cs → e ≡ get_or cs place e → HoldsAt (λ y. against name y ≡ Equal) cs place → carried_bytes cs name ≡ Some e.bytes
  found_place place e within is holds =
      found_at name cs place e rises within is (same_means e.name name (ap is_eq (subst (λ (d : Carried). against name d ≡ Equal) (sym is) (holds e))))

  in_order : IsSortedBy (λ a b. is_lt (slice_cmp nat_cmp a.name b.name)) cs
  in_order = λ k d low high.
      rw add-one (turned _ _ (nat_list_cmp_total.antisymm (get_or cs (suc k) d).name (get_or cs k d).name) (Less-from_sorted content_cmp cs k (suc k) d rises (omega arith) (omega arith)))

  pub missed_place : (place : ℕ) → (IsNonDecreasingBy (λ y. ordering_index (against name y)) cs → IsPartitionPoint (λ y. against name y ≡ Less) (λ y. against name y ≡ Greater) cs place) → carried_bytes cs name ≡ None
  missed_place place search' = none_at name cs (λ i d lt named.
      let point = search' (searchable_from_sorted nat_list_cmp_total (λ (content : Carried). content.name) cs name in_order) in
      let at : against name (get_or cs i d) ≡ Equal = ap (λ (p : List ℕ). slice_cmp nat_cmp p name) named ∙ tied_itself nat_list_cmp_total name in
      elim (cases_lt i place) [
        | inl before ↦ cc (at, point.0 i d (omega arith) before)
        | inr behind ↦ cc (at, point.1 i d behind lt)
      ])

-- ---- the names of carried contents

kept_name : (b : Bool) (c : Carried) (name : List ℕ) (rest : Option (List ℕ)) → (b ≡ true → sha1 c.bytes ≡ name) → IfSome rest (λ (bytes : List ℕ). sha1 bytes ≡ name) → IfSome (cond b (Some c.bytes) rest) (λ (bytes : List ℕ). sha1 bytes ≡ name)
kept_name true c name rest here behind = here refl
kept_name false c name rest here behind = behind

-- each has its name
hashed : (cs : List Carried) (name : List ℕ) → All (λ (content : Carried). content.name ≡ sha1 content.bytes) cs → IfSome (carried_bytes cs name) (λ (bytes : List ℕ). sha1 bytes ≡ name)
hashed [] name all = tt
hashed (c ∷ cs) name all =
    kept_name (bytes_eq c.name name) c name (carried_bytes cs name)
    (λ same. sym (All-head (λ (content : Carried). content.name ≡ sha1 content.bytes) c cs all) ∙ same_bytes c.name name same)
    (hashed cs name (All-tail (λ (content : Carried). content.name ≡ sha1 content.bytes) c cs all))

other_size : (a b : ℕ) → a ≢ b → (a == b) ≡ false
other_size a b h = grind (arith, nat_tests)

pub sized : (size : ℕ) (o : Option (List ℕ)) (bytes : List ℕ) → o ≡ Some bytes → length bytes ≡ size → Some bytes ≡ of_size size o
sized size o bytes is long = ap (λ (b : Bool). cond b (Some bytes) None) (sym (equal_size (length bytes) size long)) ∙ ap (of_size size) (sym is)

pub unsized : (size : ℕ) (o : Option (List ℕ)) (bytes : List ℕ) → o ≡ Some bytes → length bytes ≢ size → None ≡ of_size size o
unsized size o bytes is long = ap (λ (b : Bool). cond b (Some bytes) None) (sym (other_size (length bytes) size long)) ∙ ap (of_size size) (sym is)

by_size : (b : Bool) (bytes own : List ℕ) → Some bytes ≡ cond b (Some own) None → (b ≡ true) × (bytes ≡ own)
by_size true bytes own is = (refl, cc is)
by_size false bytes own is = absurd (cc is)

content_of : (size : ℕ) (name bytes : List ℕ) (o : Option (List ℕ)) → IfSome o (λ (own : List ℕ). sha1 own ≡ name) → Some bytes ≡ of_size size o → IsContent size name bytes
content_of size name bytes None named is = absurd (cc is)
content_of size name bytes (Some own) named is =
    let h = by_size (length own == size) bytes own is in
    record { long = ap length h.1 ∙ same_size (length own) size h.0; named = ap sha1 h.1 ∙ named }

pub carried_content_is : (cs : List Carried) (size : ℕ) (name bytes : List ℕ) → All (λ (content : Carried). content.name ≡ sha1 content.bytes) cs → Some bytes ≡ of_size size (carried_bytes cs name) → IsContent size name bytes
carried_content_is cs size name bytes all is = content_of size name bytes (carried_bytes cs name) (hashed cs name all) is
