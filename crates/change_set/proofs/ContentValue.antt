-- What a content's value holds, and how its name compares with the last one.
use Rattle.std.proofs.Common.{◌≡◌, ℕ, suc, ◌-◌, Bool, true, false, not, IsTrue, List, [], ◌∷◌, length, take, drop, slice_get, Option, Some, refl, sym, ap, ◌∙◌, subst, arith, Ordering}
use Rattle.std.specs.Cmp.{Some-then}
use Rattle.std.specs.Cmp.Lexicographic.{slice_cmp, slice_partial_cmp}
use Rattle.std.specs.Ordering.{nat_cmp, is_lt, is_some_and, partial_ordering_then}
use Rattle.std.specs.List.{list_any}
use Rattle.std.specs.Str.{bytes_eq}
use Rattle.std.specs.declared.cmp.Ordering.TheVariants.{Less, Equal, Greater}
use Rattle.std.proofs.lemmas.Bool.{false≢true}
use Rattle.std.proofs.lemmas.Slice.Eq.{bytes_eq-Decides}
use Rattle.std.proofs.Math.Seq.{take-append_seam, drop-append_seam}
use Rattle.sha1.specs.Sha1.{sha1}
use Rattle.change_set.specs.declared.change.Part.{Part}
use Rattle.change_set.specs.declared.change.Carried.{Carried}
use Rattle.change_set.specs.ChangeSet.{has_record, content_value}
use Rattle.change_set.specs.FirstFault.{ComesAfter}
use Rattle.change_set.specs.Reading.{last_name, IsNextOf}

-- ---- the last name

pub last_is : (contents : List Carried) (last : Carried) → Some last ≡ slice_get contents (length contents - 1) → last_name contents ≡ Some last.name
last_is [] last is = absurd (cc)
last_is (x ∷ []) last is = let same : x ≡ last = cc in ap (λ (content : Carried). Some content.name) same
last_is (x ∷ y ∷ contents) last is =
    let place : length (x ∷ y ∷ contents) - 1 ≡ suc (length (y ∷ contents) - 1) = omega arith in
    last_is (y ∷ contents) last (is ∙ ap (slice_get (x ∷ y ∷ contents)) place)

compared : (xs ys : List ℕ) → slice_partial_cmp (λ x y. Some (nat_cmp x y)) xs ys ≡ Some (slice_cmp nat_cmp xs ys)
compared [] [] = refl
compared [] (y ∷ ys) = refl
compared (x ∷ xs) [] = refl
compared (x ∷ xs) (y ∷ ys) = ap (partial_ordering_then (Some (nat_cmp x y))) (compared xs ys) ∙ Some-then (nat_cmp x y) (slice_cmp nat_cmp xs ys)

less_iff : (o : Ordering) → (IsTrue (is_lt o) → o ≡ Less) × (o ≡ Less → IsTrue (is_lt o))
less_iff Less = (λ _. refl, λ _. refl)
less_iff Equal = (λ t. absurd (cc), λ e. absurd (cc))
less_iff Greater = (λ t. absurd (cc), λ e. absurd (cc))

pub after_last : (contents : List Carried) (last : Carried) (name : List ℕ) (answer : Bool) → Some last ≡ slice_get contents (length contents - 1)
    → answer ≡ is_some_and is_lt (slice_partial_cmp (λ x y. Some (nat_cmp x y)) last.name name)
    → (IsTrue answer → ComesAfter (last_name contents) name) × (ComesAfter (last_name contents) name → IsTrue answer)
after_last contents last name answer is told =
    let tested : answer ≡ is_lt (slice_cmp nat_cmp last.name name) = told ∙ ap (is_some_and is_lt) (compared last.name name) in
    let both = less_iff (slice_cmp nat_cmp last.name name) in
    subst (λ (l : Option (List ℕ)). (IsTrue answer → ComesAfter l name) × (ComesAfter l name → IsTrue answer)) (sym (last_is contents last is))
    (λ t. both.0 (sym tested ∙ t), λ e. tested ∙ both.1 e)

-- ---- the value

value_is : (parts : List Part) (last : Option (List ℕ)) (value rest digest : List ℕ) (content : Carried) → rest ≡ drop 20 value → digest ≡ sha1 rest → IsNextOf parts last value content
    → (content.name ≡ digest) × (content.bytes ≡ rest)
value_is parts last value rest digest content rest_is digest_is next =
    let at : drop 20 (content_value content) ≡ content.bytes =
    ap (λ (n : ℕ). drop n (content_value content)) (sym next.is.twenty) ∙ drop-append_seam content.name content.bytes in
    let bytes : content.bytes ≡ rest = sym at ∙ ap (drop 20) (sym next.spelled) ∙ sym rest_is in
    (next.is.hash ∙ ap sha1 bytes ∙ sym digest_is, bytes)

pub other_name : (parts : List Part) (last : Option (List ℕ)) (value front rest digest : List ℕ) (content : Carried) → front ≡ take 20 value → rest ≡ drop 20 value → digest ≡ sha1 rest
    → true ≡ not (bytes_eq front digest) → IsNextOf parts last value content → ⊥
other_name parts last value front rest digest content front_is rest_is digest_is differ next =
    let at : take 20 (content_value content) ≡ content.name =
    ap (λ (n : ℕ). take n (content_value content)) (sym next.is.twenty) ∙ take-append_seam content.name content.bytes in
    let same : front ≡ digest = front_is ∙ ap (take 20) next.spelled ∙ at ∙ (value_is parts last value rest digest content rest_is digest_is next).0 in
    let equal : bytes_eq front digest ≡ true = (bytes_eq-Decides front digest).1 same in
    false≢true (sym (differ ∙ ap not equal))

pub no_record : (parts : List Part) (last : Option (List ℕ)) (value rest digest : List ℕ) (content : Carried) → rest ≡ drop 20 value → digest ≡ sha1 rest
    → false ≡ list_any (has_record digest (length rest)) parts → IsNextOf parts last value content → ⊥
no_record parts last value rest digest content rest_is digest_is none next =
    let is = value_is parts last value rest digest content rest_is digest_is next in
    false≢true (none ∙ ap (λ (n : List ℕ). list_any (has_record n (length rest)) parts) (sym is.0)
    ∙ ap (λ (b : List ℕ). list_any (has_record content.name (length b)) parts) (sym is.1) ∙ next.is.recorded)

pub no_rise : (parts : List Part) (last : Option (List ℕ)) (value rest digest : List ℕ) (content : Carried) → rest ≡ drop 20 value → digest ≡ sha1 rest
    → (ComesAfter last digest → IsTrue false) → IsNextOf parts last value content → ⊥
no_rise parts last value rest digest content rest_is digest_is none next =
    let is = value_is parts last value rest digest content rest_is digest_is next in
    false≢true (none (subst (ComesAfter last) is.0 next.rises))
