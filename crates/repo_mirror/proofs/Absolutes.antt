-- How long the stream of an absolute change set is.
use Rattle.std.proofs.Common.{◌≡◌, ℕ, ◌+◌, List, [], ◌∷◌, ◌++◌, length, map, Contains, refl, ap, ◌∙◌, arith, length-append}
use Rattle.std.specs.Prelude.{sum_by}
use Rattle.std.specs.Int.{w32, to_be_bytes}
use Rattle.std.specs.List.{flat_map}
use Rattle.std.proofs.lemmas.List.Sums.{sum_by-cons}
use Rattle.change_set.specs.trove-stream.declared.parts.TroveParts.{TroveParts}
use Rattle.change_set.specs.trove-stream.FilesOf.{files_of}
use Rattle.change_set.specs.trove-stream.Stream.{trove_bytes}
use Rattle.change_set.specs.declared.change.Carried.{Carried}
use Rattle.change_set.specs.declared.change.ChangeSet.{ChangeSet}
use Rattle.change_set.specs.declared.change.Part.{Part}
use Rattle.change_set.specs.declared.change.Part.TheVariants.{Whole}
use Rattle.change_set.specs.ChangeSet.{change_bytes, content_bytes, content_value, end_bytes, part_bytes}
use Rattle.change_set.proofs.cny-base.Lists.{contains_first, contains_rest}
use Rattle.repo_mirror.specs.Absolute.{IsAbsoluteSet}
use Rattle.repo_mirror.specs.Lengths.{set_length, trove_length}
use Rattle.repo_mirror.proofs.Weighing.{distinct_names, weight, weighed, AreNamed}

-- an item has a head of five bytes
item_long : (tag : ℕ) (value : List ℕ) → length ((tag ∷ to_be_bytes w32 (length value)) ++ value) ≡ 5 + length value
item_long tag value = omega (arith, length-append (tag ∷ to_be_bytes w32 (length value)) value)

parts_long : (troves : List TroveParts) → length (flat_map part_bytes (map Whole troves)) ≡ sum_by trove_length troves
parts_long [] = refl
parts_long (t ∷ troves) =
    let all = length-append (part_bytes (Whole t)) (flat_map part_bytes (map Whole troves)) in
    let here = item_long 0x10 (trove_bytes t) in
    let rest = parts_long troves in
    let sum = sum_by-cons trove_length t troves in
    omega (arith, all, here, rest, sum)

contents_long : (contents : List Carried) → ((c : Carried) → Contains contents c → length c.name ≡ 20) → length (flat_map content_bytes contents) ≡ sum_by weight contents
contents_long [] twenty = refl
contents_long (c ∷ contents) twenty =
    let all = length-append (content_bytes c) (flat_map content_bytes contents) in
    let here = item_long 0x12 (content_value c) in
    let value = length-append c.name c.bytes in
    let name = twenty c (contains_first c contents) in
    let rest = contents_long contents (λ d h. twenty d (contains_rest c d contents h)) in
    let sum = sum_by-cons weight c contents in
    omega (arith, all, here, value, name, rest, sum)

pub absolute_long : (troves : List TroveParts) (set : ChangeSet) → IsAbsoluteSet troves set → length (change_bytes set) ≡ set_length troves
absolute_long troves set is =
    let parts = flat_map part_bytes set.parts in
    let contents = flat_map content_bytes set.contents in
    let tail = length-append contents end_bytes in
    let body = length-append parts (contents ++ end_bytes) in
    let parts_are = ap (λ (l : List Part). length (flat_map part_bytes l)) is.parts ∙ parts_long troves in
    let contents_are = contents_long set.contents is.twenty ∙ weighed [] (files_of troves) set.contents (distinct_names set.contents is.rising) named is.sized in
    omega (arith, tail, body, parts_are, contents_are)
  where
    named : AreNamed [] (files_of troves) set.contents
    named name = ((λ h. ((is.each name).0 h, refl)), (λ h. (is.each name).1 h.0))
