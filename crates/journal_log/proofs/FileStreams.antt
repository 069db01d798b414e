-- What is written item by item is a stream, so that it is read however long it is.
use Rattle.std.proofs.Common.{◌≡◌, ℕ, ◌+◌, ◌≤◌, Bool, true, false, ◌&&◌, IsTrue, List, [], ◌∷◌, ◌++◌, length, take, Some, None, All, refl, sym, ap, ◌∙◌, arith, append_assoc, append-nil, length-append}
use Rattle.std.specs.Prelude.{not, nat_lt, cond}
use Rattle.std.specs.Int.{w32, from_be_bytes, to_be_bytes}
use Rattle.std.specs.List.{flat_map}
use Rattle.std.proofs.Math.Seq.{drop-append_seam, take-append_seam}
use Rattle.std.proofs.lemmas.List.Elements.{All-head, All-tail}
use Rattle.std.proofs.lemmas.Nat.{from_be_bytes-to_be_bytes_4}
use Rattle.cny_stream.specs.Item.{FitsItem, is_expected, item_bytes}
use Rattle.tree_disk.specs.cny-base.Below.{begins_with}
use Rattle.tree_disk.proofs.cny-base.Below.{begins}
use Rattle.journal_log.specs.Walk.{are_items, is_stream, stream_read}
use Rattle.journal_log.specs.declared.walk.TheConstants.{LARGE}
use Rattle.journal_log.proofs.FileWalking.{at_place, skipped}

-- ---- items

expected_and : (e b : Bool) → IsTrue e → (e && b) ≡ b
expected_and true b is = refl
expected_and false b is = absurd (cc (is))

-- one item, and what stands behind it
pub one_item : (tags : List ℕ) (tag : ℕ) (value rest : List ℕ) → IsTrue (is_expected tags tag) → FitsItem value
    → are_items tags 0 (item_bytes tag value ++ rest) ≡ are_items tags 0 rest
one_item tags tag value rest expected fits =
    let number : List ℕ = to_be_bytes w32 (length value) in
    let behind : List ℕ = (number ++ value) ++ rest in
    let split : behind ≡ number ++ (value ++ rest) = append_assoc number value rest in
    let four : take 4 behind ≡ number = ap (take 4) split ∙ take-append_seam number (value ++ rest) in
    let told : from_be_bytes w32 (take 4 behind) ≡ length value = ap (from_be_bytes w32) four ∙ from_be_bytes-to_be_bytes_4 (length value) fits in
    let front : length (number ++ value) ≡ 4 + length value = length-append number value in
    let long : length (number ++ value) ≤ length behind = omega (arith, length-append (number ++ value) rest) in
    let place : 4 + from_be_bytes w32 (take 4 behind) ≡ length (number ++ value) + 0 = omega (arith, told, front) in
    expected_and (is_expected tags tag) (are_items tags (4 + from_be_bytes w32 (take 4 behind)) behind) expected
    ∙ ap (λ (n : ℕ). are_items tags n behind) place
    ∙ skipped tags (length (number ++ value)) 0 behind long
    ∙ ap (are_items tags 0) (drop-append_seam (number ++ value) rest)

-- each piece leads to what stands behind it, so all of them do
pub all_lead : {A : Type 0} (tags : List ℕ) (g : A → List ℕ) (P : A → Type 0)
    → ((x : A) (rest : List ℕ) → P x → are_items tags 0 (g x ++ rest) ≡ are_items tags 0 rest)
    → (xs : List A) (rest : List ℕ) → All P xs → are_items tags 0 (flat_map g xs ++ rest) ≡ are_items tags 0 rest
all_lead tags g P each [] rest all = refl
all_lead tags g P each (x ∷ xs) rest all =
    ap (are_items tags 0) (append_assoc (g x) (flat_map g xs) rest)
    ∙ each x (flat_map g xs ++ rest) (All-head P x xs all)
    ∙ all_lead tags g P each xs rest (All-tail P x xs all)

-- the last item
pub last_item : (tags : List ℕ) (tag : ℕ) (value : List ℕ) → IsTrue (is_expected tags tag) → FitsItem value → are_items tags 0 (item_bytes tag value) ≡ true
last_item tags tag value expected fits =
    ap (are_items tags 0) (sym (append-nil (item_bytes tag value))) ∙ one_item tags tag value [] expected fits

-- ---- streams

both_true : (a b : Bool) → a ≡ true → b ≡ true → (a && b) ≡ true
both_true true b is also = also
both_true false b is also = absurd (cc is)

pub written_stream : (magic tags text : List ℕ) → are_items tags 0 text ≡ true → is_stream magic tags (magic ++ text) ≡ true
written_stream magic tags text lead =
    let behind : are_items tags (length magic) (magic ++ text) ≡ true =
    at_place tags (length magic) (magic ++ text) (omega (arith, length-append magic text))
    ∙ ap (are_items tags 0) (drop-append_seam magic text)
    ∙ lead in
    both_true (begins_with magic (magic ++ text)) (are_items tags (length magic) (magic ++ text)) (begins magic text) behind

-- ---- what is read

-- none is read only of what is no stream
pub none_read : (magic tags bytes : List ℕ) → stream_read magic tags bytes ≡ None → is_stream magic tags bytes ≡ true → ⊥
none_read magic tags bytes none is = by (nat_lt LARGE (length bytes)) (is_stream magic tags bytes) none is
  where
    by : (large stream : Bool) → cond (large && not stream) None (Some bytes) ≡ None → stream ≡ true → ⊥
    by true true none is = absurd (cc none)
    by true false none is = absurd (cc is)
    by false stream none is = absurd (cc none)

-- what is read are all bytes
pub all_read : (magic tags bytes found : List ℕ) → stream_read magic tags bytes ≡ Some found → found ≡ bytes
all_read magic tags bytes found is = by (nat_lt LARGE (length bytes) && not (is_stream magic tags bytes)) is
  where
    by : (other : Bool) → cond other None (Some bytes) ≡ Some found → found ≡ bytes
    by true is = absurd (cc is)
    by false is = cc is
