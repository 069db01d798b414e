-- What is recorded of the contents' sizes.
use Rattle.std.proofs.Common.{◌≡◌, ℕ, ◌+◌, ◌≤◌, true, IsTrue, List, length, All, ap, ◌∙◌, arith, ⊎_elim, length-append}
use Rattle.std.specs.List.{list_any}
use Rattle.std.proofs.lemmas.List.Elements.{All-contains}
use Rattle.std.proofs.lemmas.List.Folds.{Any-from_list_any}
use Rattle.trove_stream.specs.cny-base.declared.limits.TheConstants.{CONTENT_LIMIT, CONTENT_ITEM_LIMIT}
use Rattle.trove_stream.specs.cny-stream.Record.{has_name_and_size}
use Rattle.trove_stream.proofs.cny-stream.RecordLaws.{size_fits}
use Rattle.trove_stream.specs.trove-parts.declared.files.FileAt.{FileAt}
use Rattle.trove_stream.specs.trove-parts.Files.{IsFileAt}
use Rattle.change_set.specs.declared.change.Part.{Part}
use Rattle.change_set.specs.declared.change.Part.TheVariants.{Whole, Relative}
use Rattle.change_set.specs.ChangeSet.{IsPart, has_record}
use Rattle.change_set.specs.FirstFault.{StreamItem, Progress, IsItemOf, IsRecorded, IsNextContent, IsNext}
use Rattle.change_set.specs.Reading.{IsSmall}

size_in_files : (name : List ℕ) (size : ℕ) (files : List FileAt) → All IsFileAt files → list_any (λ (file : FileAt). has_name_and_size name size file.rec) files ≡ true → size ≤ CONTENT_LIMIT
size_in_files name size files valid h =
    let some = Any-from_list_any (λ (file : FileAt). has_name_and_size name size file.rec) files h in
    size_fits name size some.1.rec (All-contains IsFileAt files some.1 valid (some.0, some.2, some.3)).rec some.4

-- the size of a file that a part records
pub size_in_part : (name : List ℕ) (size : ℕ) (part : Part) → IsPart part → IsTrue (has_record name size part) → size ≤ CONTENT_LIMIT
size_in_part name size (Whole trove) valid h = size_in_files name size trove.files valid.lists.files.valid h
size_in_part name size (Relative rel) valid h = size_in_files name size rel.files_set valid.parts.files_set.valid h

pub recorded_small : (items : List StreamItem) (name : List ℕ) (size : ℕ) → IsRecorded items name size → size ≤ CONTENT_LIMIT
recorded_small items name size is = size_in_part name size is.part is.is.valid is.has

-- ---- good next items

pub next_content_small : (progress : Progress) (item : StreamItem) → IsNextContent progress item → length item.value ≤ CONTENT_ITEM_LIMIT
next_content_small progress item next =
    let long : length item.value ≡ length next.content.name + length next.content.bytes = ap length next.spelled ∙ length-append next.content.name next.content.bytes in
    let small = recorded_small progress.parts next.content.name (length next.content.bytes) next.recorded in
    let twenty = next.twenty in
    omega arith

part_no_content : (part : Part) (item : StreamItem) → IsItemOf part item → item.tag ≡ 0x12 → ⊥
part_no_content (Whole trove) item is e = let tagged = is.tagged in omega arith
part_no_content (Relative rel) item is e = let tagged = is.tagged in omega arith

pub next_small : (progress : Progress) (item : StreamItem) → IsNext progress item → IsSmall item.tag item.value
next_small progress item next e =
    ⊎_elim (λ part. absurd (part_no_content part.0 item part.1 e))
    (λ other. ⊎_elim (λ content. next_content_small progress item content) (λ end. let tagged = end.0 in absurd (omega arith)) other)
    next.good
