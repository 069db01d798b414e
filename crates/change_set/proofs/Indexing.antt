-- The names and sizes that an index has, as keys are added to it.
use Rattle.std.proofs.Common.{◌≡◌, ℕ, Bool, true, cond, ◌&&◌, ◌||◌, ◌==◌, List, [], ◌∷◌, refl, sym, ap, ◌∙◌, Ordering}
use Rattle.std.specs.BTreeSet.{BTreeSet, contains, Updates}
use Rattle.std.specs.Cmp.{IsTotalOrder}
use Rattle.std.specs.Cmp.Lexicographic.{slice_cmp, nat_list_cmp_total}
use Rattle.std.specs.List.{list_any}
use Rattle.std.specs.Ordering.{nat_cmp, is_eq, ordering_then}
use Rattle.std.specs.declared.cmp.Ordering.TheVariants.{Less, Equal, Greater}
use Rattle.std.proofs.lemmas.Cmp.{nat_cmp_total, on_total, then_total, eq_by_cmp_equiv}
use Rattle.std.proofs.lemmas.Map.Text.{is_eq-slice_cmp}
use Rattle.change_set.specs.declared.recorded.Key.{Key}
use Rattle.change_set.specs.Index.{is_key, has_key}
use Rattle.trove_stream.proofs.cny-base.Bools.{written}
use Rattle.trove_stream.proofs.cny-base.Counts.{equal_numbers}

-- ---- the order of the keys

abbrev pub key_cmp : Key → Key → Ordering
key_cmp a b = ordering_then (slice_cmp nat_cmp a.name b.name) (nat_cmp a.size b.size)

key_total : IsTotalOrder key_cmp
key_total = then_total (on_total (λ (k : Key). k.name) nat_list_cmp_total) (on_total (λ (k : Key). k.size) nat_cmp_total)

both_equal : (o q : Ordering) → is_eq (ordering_then o q) ≡ (is_eq q && is_eq o)
both_equal Less Less = refl
both_equal Less Equal = refl
both_equal Less Greater = refl
both_equal Equal Less = refl
both_equal Equal Equal = refl
both_equal Equal Greater = refl
both_equal Greater Less = refl
both_equal Greater Equal = refl
both_equal Greater Greater = refl

same_key : (a : Key) (name : List ℕ) (size : ℕ) → is_eq (key_cmp a (record { name = name; size = size })) ≡ is_key name size a
same_key a name size =
    both_equal (slice_cmp nat_cmp a.name name) (nat_cmp a.size size)
    ∙ ap (λ (b : Bool). b && is_eq (slice_cmp nat_cmp a.name name)) (equal_numbers a.size size)
    ∙ ap (λ (b : Bool). (a.size == size) && b) (is_eq-slice_cmp a.name name)

asked_key : (a : Key) (name : List ℕ) (size : ℕ) → is_eq (key_cmp (record { name = name; size = size }) a) ≡ is_key name size a
asked_key a name size = (eq_by_cmp_equiv key_total).symm (record { name = name; size = size }) a ∙ same_key a name size

alike : (p q : Key → Bool) → ((k : Key) → p k ≡ q k) → (keys : List Key) → list_any p keys ≡ list_any q keys
alike p q same [] = refl
alike p q same (k ∷ keys) = ap (λ (b : Bool). b || list_any p keys) (same k) ∙ ap (λ (b : Bool). q k || b) (alike p q same keys)

-- what a look-up answers
pub looked_up : (keys : BTreeSet Key) (name : List ℕ) (size : ℕ) → contains key_cmp keys (record { name = name; size = size }) ≡ has_key name size keys
looked_up keys name size =
    alike (λ (k : Key). is_eq (key_cmp (record { name = name; size = size }) k)) (is_key name size) (λ k. asked_key k name size) keys.keys

-- ---- one more key

pub one_more : (old new : BTreeSet Key) (added : Key) → Updates key_cmp old new added true → (name : List ℕ) (size : ℕ) → has_key name size new ≡ (has_key name size old || is_key name size added)
one_more old new added updates name size =
    sym (looked_up new name size)
    ∙ updates.0 (record { name = name; size = size })
    ∙ ap (λ (x : Bool). cond (is_eq (key_cmp added (record { name = name; size = size }))) true x) (looked_up old name size)
    ∙ ap (λ (b : Bool). cond b true (has_key name size old)) (same_key added name size)
    ∙ written (is_key name size added) (has_key name size old)
