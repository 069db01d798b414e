-- The stream of a relative trove, part by part.
use Rattle.std.proofs.Common.{◌≡◌, ℕ, ◌+◌, ◌<◌, false, List, [], ◌++◌, drop, refl, sym, ap, ◌∙◌, arith, append_assoc, append-nil, ◌==◌}
use Rattle.std.proofs.lemmas.Bool.Decides.{nat_tests}
use Rattle.cny_dep.specs.Dep.{dep_text}
use Rattle.cny_stream.specs.Item.{item_bytes}
use Rattle.trove_parts.specs.cny-stream.declared.encoding.Encoding.{Encoding}
use Rattle.trove_parts.specs.declared.id.TroveId.{TroveId}
use Rattle.trove_parts.specs.Id.{id_bytes}
use Rattle.trove_parts.specs.Items.{items_bytes, begins_with_tag, BeginsWithItems, AreItemsAt, IsValueAt}
use Rattle.trove_parts.proofs.ItemsLaws.{other_tag}
use Rattle.trove_parts.specs.Files.{file_value}
use Rattle.trove_parts.specs.Paths.{path_value}
use Rattle.trove_stream.specs.declared.rel.RelParts.{RelParts}
use Rattle.trove_stream.specs.Pairs.{pair_bytes, BeginsWithPair, IsPairAt, ids_bytes, AreIdsTo}

-- ---- tags

pub differ : (tag other : ℕ) → tag < other → (other == tag) ≡ false
differ tag other below = grind (arith, nat_tests)

-- items of a later tag, with nothing behind them
pub ends_before_items : {A : Type 0} (value : A → List ℕ) (tag other : ℕ) (xs : List A) → tag < other → begins_with_tag tag (items_bytes value other xs) ≡ false
ends_before_items value tag other xs below =
    ap (begins_with_tag tag) (sym (append-nil (items_bytes value other xs))) ∙ other_tag value tag other xs [] (differ tag other below) refl

module _ {A B : Type 0} (value : A → List ℕ) (value' : B → List ℕ) where
  pub ends_before_pair : (tag other : ℕ) (xs : List A) (ys : List B) → tag < other → begins_with_tag tag (pair_bytes value value' other xs ys) ≡ false
  ends_before_pair tag other xs ys below =
      other_tag value tag other xs (items_bytes value' (other + 1) ys) (differ tag other below) (ends_before_items value' tag (other + 1) ys (omega arith))

  pub ends_before_pair_and : (tag other : ℕ) (xs : List A) (ys : List B) (rest : List ℕ) → tag < other → begins_with_tag tag rest ≡ false → begins_with_tag tag (pair_bytes value value' other xs ys ++ rest) ≡ false
  ends_before_pair_and tag other xs ys rest below ended =
      ap (begins_with_tag tag) (append_assoc (items_bytes value other xs) (items_bytes value' (other + 1) ys) rest)
      ∙ other_tag value tag other xs (items_bytes value' (other + 1) ys ++ rest) (differ tag other below) (other_tag value' tag (other + 1) ys rest (differ tag (other + 1) (omega arith)) ended)

  -- ---- two lists

  -- the bytes begin with the first list
  pub first_of_pair : (tag : ℕ) (bytes : List ℕ) (xs : List A) (ys : List B) (rest : List ℕ) → BeginsWithPair value value' tag bytes xs ys rest → BeginsWithItems value tag bytes xs (items_bytes value' (tag + 1) ys ++ rest)
  first_of_pair tag bytes xs ys rest pair = record {
    spelled = pair.spelled ∙ append_assoc (items_bytes value tag xs) (items_bytes value' (tag + 1) ys) rest;
    ended = other_tag value' tag (tag + 1) ys rest (differ tag (tag + 1) (omega arith)) pair.first_ended;
  }

  -- what follows it begins with the second
  pub second_of_pair : (tag : ℕ) (bytes more : List ℕ) (xs : List A) (ys : List B) (rest : List ℕ) → BeginsWithPair value value' tag bytes xs ys rest → more ≡ items_bytes value' (tag + 1) ys ++ rest
      → BeginsWithItems value' (tag + 1) more ys rest
  second_of_pair tag bytes more xs ys rest pair is = record { spelled = is; ended = pair.second_ended }

  pub pair_at : (tag : ℕ) (bytes : List ℕ) (at mid to : ℕ) (xs : List A) (ys : List B) → AreItemsAt value bytes at tag xs mid → AreItemsAt value' bytes mid (tag + 1) ys to → IsPairAt value value' tag bytes at xs ys to
  pair_at tag bytes at mid to xs ys first second =
      let before = first.order in
      let after = second.order in
      record {
        order = omega arith;
        within = second.within;
        spelled = first.begins.spelled ∙ ap (λ l. items_bytes value tag xs ++ l) second.begins.spelled ∙ sym (append_assoc (items_bytes value tag xs) (items_bytes value' (tag + 1) ys) (drop to bytes));
      }

-- ---- two ids

pub first_id : (bytes : List ℕ) (old fresh : TroveId) (rest : List ℕ) → bytes ≡ ids_bytes old fresh ++ rest → bytes ≡ item_bytes 0x21 (id_bytes old) ++ (item_bytes 0x22 (id_bytes fresh) ++ rest)
first_id bytes old fresh rest is = is ∙ append_assoc (item_bytes 0x21 (id_bytes old)) (item_bytes 0x22 (id_bytes fresh)) rest

pub ids_to : (bytes : List ℕ) (mid to : ℕ) (old fresh : TroveId) → IsValueAt id_bytes bytes 0 0x21 old mid → IsValueAt id_bytes bytes mid 0x22 fresh to → AreIdsTo bytes old fresh to
ids_to bytes mid to old fresh first second = record {
  within = second.within;
  spelled = first.spelled ∙ ap (λ l. item_bytes 0x21 (id_bytes old) ++ l) second.spelled ∙ sym (append_assoc (item_bytes 0x21 (id_bytes old)) (item_bytes 0x22 (id_bytes fresh)) (drop to bytes));
}

-- ---- what is left behind each part

abbrev pub provides_part : RelParts → List ℕ
provides_part rel = pair_bytes dep_text dep_text 0x29 rel.provides_gone rel.provides_added

abbrev pub requires_part : RelParts → List ℕ
requires_part rel = pair_bytes dep_text dep_text 0x27 rel.requires_gone rel.requires_added ++ provides_part rel

abbrev pub refs_part : RelParts → List ℕ
refs_part rel = pair_bytes id_bytes id_bytes 0x25 rel.refs_gone rel.refs_added ++ requires_part rel

abbrev pub files_part : Encoding → RelParts → List ℕ
files_part encoding rel = pair_bytes path_value (file_value encoding) 0x23 rel.paths_gone rel.files_set ++ refs_part rel

provides_end : (tag : ℕ) (rel : RelParts) → tag < 0x29 → begins_with_tag tag (provides_part rel) ≡ false
provides_end tag rel below = ends_before_pair dep_text dep_text tag 0x29 rel.provides_gone rel.provides_added below

requires_end : (tag : ℕ) (rel : RelParts) → tag < 0x27 → begins_with_tag tag (requires_part rel) ≡ false
requires_end tag rel below =
    ends_before_pair_and dep_text dep_text tag 0x27 rel.requires_gone rel.requires_added (provides_part rel) below (provides_end tag rel (omega arith))

refs_end : (tag : ℕ) (rel : RelParts) → tag < 0x25 → begins_with_tag tag (refs_part rel) ≡ false
refs_end tag rel below =
    ends_before_pair_and id_bytes id_bytes tag 0x25 rel.refs_gone rel.refs_added (requires_part rel) below (requires_end tag rel (omega arith))

pub begins_files : (encoding : Encoding) (bytes : List ℕ) (rel : RelParts) → bytes ≡ files_part encoding rel → BeginsWithPair path_value (file_value encoding) 0x23 bytes rel.paths_gone rel.files_set (refs_part rel)
begins_files encoding bytes rel is = record { spelled = is; first_ended = refs_end 0x23 rel (omega arith); second_ended = refs_end 0x24 rel (omega arith) }

pub begins_refs : (bytes : List ℕ) (rel : RelParts) → bytes ≡ refs_part rel → BeginsWithPair id_bytes id_bytes 0x25 bytes rel.refs_gone rel.refs_added (requires_part rel)
begins_refs bytes rel is = record { spelled = is; first_ended = requires_end 0x25 rel (omega arith); second_ended = requires_end 0x26 rel (omega arith) }

pub begins_requires : (bytes : List ℕ) (rel : RelParts) → bytes ≡ requires_part rel → BeginsWithPair dep_text dep_text 0x27 bytes rel.requires_gone rel.requires_added (provides_part rel)
begins_requires bytes rel is = record { spelled = is; first_ended = provides_end 0x27 rel (omega arith); second_ended = provides_end 0x28 rel (omega arith) }

pub begins_provides : (bytes : List ℕ) (rel : RelParts) → bytes ≡ provides_part rel → BeginsWithPair dep_text dep_text 0x29 bytes rel.provides_gone rel.provides_added []
begins_provides bytes rel is = record { spelled = is ∙ sym (append-nil (provides_part rel)); first_ended = refl; second_ended = refl }
