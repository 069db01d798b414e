-- The value of an item as it comes.
use Rattle.std.proofs.Common.{◌≡◌, ◌≢◌, ℕ, ◌+◌, ◌<◌, ◌≤◌, Bool, true, false, ◌&&◌, ◌||◌, ◌==◌, nat_le, List, [], ◌++◌, length, take, drop, Option, Some, sym, ap, ◌∙◌, subst, arith, append_assoc, append-nil, length-append, length-take}
use Rattle.std.proofs.Math.Seq.{take-append_seam, drop-append_seam}
use Rattle.std.proofs.lemmas.List.{take_all, drop_all, take-append-drop}
use Rattle.std.proofs.lemmas.Bool.{and_parts, eqb-true}
use Rattle.sha1.specs.Sha1.{Holds}
use Rattle.journal_log.specs.tree-disk.declared.pieces.TheConstants.{PIECE}
use Rattle.change_pull.specs.declared.item.Item.{Item}
use Rattle.change_pull.specs.Gathered.{IsGathered, written_bytes, is_due}

-- one that isn't a content's is kept
pub added_part : (old new : Item) (tag len : ℕ) (value bytes : List ℕ) (written : Option (List ℕ)) → old.tag ≢ 0x12 → new.tag ≡ old.tag → new.len ≡ old.len → new.kept.items ≡ old.kept.items ++ bytes
    → IsGathered old tag len value written → IsGathered new tag len (value ++ bytes) written
added_part old new tag len value bytes written other tagged long kept is = record {
  tagged = tagged ∙ is.tagged;
  long = long ∙ is.long;
  content = λ content. absurd (other (is.tagged ∙ content));
  part = λ no_content no_end. kept ∙ ap (λ (l : List ℕ). l ++ bytes) (is.part no_content no_end);
  unwritten = is.unwritten;
}

-- a content's name
pub added_name : (old new : Item) (tag len : ℕ) (value bytes : List ℕ) (written : Option (List ℕ)) → old.tag ≡ 0x12 → length old.kept.items < 20 → length old.kept.items + length bytes ≤ 20
    → new.tag ≡ old.tag → new.len ≡ old.len → new.kept.items ≡ old.kept.items ++ bytes → new.hasher ≡ old.hasher → new.piece ≡ old.piece
    → IsGathered old tag len value written → IsGathered new tag len (value ++ bytes) written
added_name old new tag len value bytes written content few room tagged long kept hasher piece is =
    let so_far = is.content (sym is.tagged ∙ content) in
    let short : length value < 20 = omega (arith, few, ap length so_far.name, length-take 20 value) in
    let all : old.kept.items ≡ value = so_far.name ∙ take_all 20 value (omega arith) in
    let within : length (value ++ bytes) ≤ 20 = omega (arith, length-append value bytes, ap length all, room) in
    let none : drop 20 value ≡ [] = drop_all 20 value (omega arith) in
    let none_more : drop 20 (value ++ bytes) ≡ [] = drop_all 20 (value ++ bytes) within in
    record {
      tagged = tagged ∙ is.tagged;
      long = long ∙ is.long;
      content = λ _. record {
        name = kept ∙ ap (λ (l : List ℕ). l ++ bytes) all ∙ sym (take_all 20 (value ++ bytes) within);
        hash = subst (λ h. Holds h (drop 20 (value ++ bytes))) (sym hasher) (subst (Holds old.hasher) (none ∙ sym none_more) so_far.hash);
        bytes = ap (λ p. written_bytes written ++ p.items) piece ∙ so_far.bytes ∙ none ∙ sym none_more;
      };
      part = λ no_content no_end. absurd (no_content (sym is.tagged ∙ content));
      unwritten = is.unwritten;
    }

-- behind the name
pub behind_name : (value bytes : List ℕ) → 20 ≤ length value → (take 20 (value ++ bytes) ≡ take 20 value) × (drop 20 (value ++ bytes) ≡ drop 20 value ++ bytes)
behind_name value bytes long =
    let front : List ℕ = take 20 value in
    let rest : List ℕ = drop 20 value in
    let twenty : length front ≡ 20 = omega (arith, length-take 20 value, long) in
    let apart : value ++ bytes ≡ front ++ (rest ++ bytes) = ap (λ (l : List ℕ). l ++ bytes) (sym (take-append-drop 20 value)) ∙ append_assoc front rest bytes in (
      ap (take 20) apart ∙ ap (λ (n : ℕ). take n (front ++ (rest ++ bytes))) (sym twenty) ∙ take-append_seam front (rest ++ bytes),
      ap (drop 20) apart ∙ ap (λ (n : ℕ). drop n (front ++ (rest ++ bytes))) (sym twenty) ∙ drop-append_seam front (rest ++ bytes),
    )

-- ---- what waits is written

due_tag : (item : Item) (whole : Bool) → is_due item whole ≡ true → item.tag ≡ 0x12
due_tag item whole due = eqb-true item.tag 0x12 (and_parts (item.tag == 0x12) (length item.kept.items == 20 && (whole || nat_le PIECE (length item.piece.items))) due).0

due_name : (item : Item) (whole : Bool) → is_due item whole ≡ true → length item.kept.items ≡ 20
due_name item whole due =
    let rest = (and_parts (item.tag == 0x12) (length item.kept.items == 20 && (whole || nat_le PIECE (length item.piece.items))) due).1 in
    eqb-true (length item.kept.items) 20 (and_parts (length item.kept.items == 20) (whole || nat_le PIECE (length item.piece.items)) rest).0

pub written_more : (old new : Item) (tag len : ℕ) (value : List ℕ) (written : Option (List ℕ)) (whole : Bool) → is_due old whole ≡ true → new.tag ≡ old.tag → new.len ≡ old.len → new.kept ≡ old.kept → new.hasher ≡ old.hasher → new.piece.items ≡ []
    → IsGathered old tag len value written → IsGathered new tag len (value ++ []) (Some (written_bytes written ++ old.piece.items)) × ((Some (written_bytes written ++ old.piece.items)) ≡ Some (drop 20 (value ++ [])))
written_more old new tag len value written whole due tagged long kept hasher none is =
    let content : tag ≡ 0x12 = sym is.tagged ∙ due_tag old whole due in
    let so_far = is.content content in
    let same : value ++ [] ≡ value = append-nil value in (
      record {
        tagged = tagged ∙ is.tagged;
        long = long ∙ is.long;
        content = λ _. record {
          name = ap (λ v. v.items) kept ∙ so_far.name ∙ ap (take 20) (sym same);
          hash = subst (λ h. Holds h (drop 20 (value ++ []))) (sym hasher) (subst (λ (l : List ℕ). Holds old.hasher (drop 20 l)) (sym same) so_far.hash);
          bytes = ap (λ (l : List ℕ). (written_bytes written ++ old.piece.items) ++ l) none ∙ append-nil (written_bytes written ++ old.piece.items) ∙ so_far.bytes ∙ ap (drop 20) (sym same);
        };
        part = λ other. absurd (other content);
        unwritten = λ other. absurd (other content);
      },
      ap Some (so_far.bytes ∙ ap (drop 20) (sym same)),
    )

-- where nothing is due, a whole value has no bytes behind a name
pub nothing_due : (item : Item) (tag len : ℕ) (value : List ℕ) (written : Option (List ℕ)) → is_due item true ≡ false → IsGathered item tag len value written → tag ≡ 0x12 → 20 ≤ length value → ⊥
nothing_due item tag len value written not_due is content long =
    let so_far = is.content content in
    let name : length item.kept.items ≡ 20 = omega (arith, ap length so_far.name, length-take 20 value, long) in
    let due : is_due item true ≡ true = ap (λ (n : ℕ). (n == 0x12) && (length item.kept.items == 20 && true)) (is.tagged ∙ content) ∙ ap (λ (n : ℕ). (n == 20) && true) name in
    absurd (cc)

pub same_value : (item : Item) (tag len : ℕ) (value : List ℕ) (written : Option (List ℕ)) → IsGathered item tag len value written → IsGathered item tag len (value ++ []) written
same_value item tag len value written is = subst (λ (l : List ℕ). IsGathered item tag len l written) (sym (append-nil value)) is
