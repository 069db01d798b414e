-- What is seen at the name of a commit's file.
use Rattle.std.proofs.Common.{◌≡◌, ℕ, true, List, [], ◌++◌, Option, Some, None, refl, sym, ◌∙◌, ap, arith}
use Rattle.std.specs.FinMap.{get}
use Rattle.cny_stream.specs.Item.{item_bytes}
use Rattle.repo_index.proofs.cny-base.OptionValues.{same_path as some_bytes}
use Rattle.repo_index.specs.cny-base.declared.node.Node.{Node}
use Rattle.repo_index.specs.cny-base.declared.node.Node.TheVariants as node
use Rattle.repo_index.specs.trove-parts.Items.{items_bytes}
use Rattle.repo_index.specs.trove-stream.declared.parts.TroveParts.{TroveParts}
use Rattle.repo_index.specs.trove-stream.Stream.{trove_bytes}
use Rattle.journal_log.specs.tree-disk.Tree.{Name, Tree}
use Rattle.content_store.specs.Store.{file_bytes}
use Rattle.journal_log.specs.Walk.{are_items, is_stream, stream_read}
use Rattle.journal_log.proofs.FileStreams.{all_lead, all_read, last_item, none_read, one_item, written_stream}
use Rattle.repo_load.specs.State.{Commit}
use Rattle.repo_load.specs.Files.{commit_file, end_bytes, magic, FitsTrove, HoldsCommit, IsCommitStream}
use Rattle.repo_load.specs.Loading.{LacksCommit}
use Rattle.repo_load.specs.Seen.{seen_as, seen_of, tags}
use Rattle.repo_load.specs.declared.reading.Seen.{Seen}
use Rattle.repo_load.specs.declared.reading.Seen.TheVariants as seen

-- ---- a file

file_of : (o : Option (List ℕ)) (bytes : List ℕ) → seen.File bytes ≡ seen_of o → o ≡ Some bytes
file_of (Some found) bytes is = let same : found ≡ bytes = cc is in ap Some same
file_of None bytes is = absurd (cc is)

pub seen_file : (o : Option Node) (bytes : List ℕ) → seen.File bytes ≡ seen_as o → file_bytes o ≡ Some bytes
seen_file None bytes is = absurd (cc is)
seen_file (Some (node.Dir mode)) bytes is = absurd (cc is)
seen_file (Some (node.Link target)) bytes is = absurd (cc is)
seen_file (Some (node.File mode content)) bytes is =
    ap Some (sym (all_read magic tags content bytes (file_of (stream_read magic tags content) bytes is)))

-- ---- nothing

not_nothing : (o : Option (List ℕ)) → seen.Nothing ≡ seen_of o → ⊥
not_nothing (Some found) is = cc is
not_nothing None is = cc is

pub seen_nothing : (o : Option Node) → seen.Nothing ≡ seen_as o → o ≡ None
seen_nothing None is = refl
seen_nothing (Some (node.Dir mode)) is = absurd (cc is)
seen_nothing (Some (node.Link target)) is = absurd (cc is)
seen_nothing (Some (node.File mode content)) is = absurd (not_nothing (stream_read magic tags content) is)

-- ---- something else

other_of : (o : Option (List ℕ)) → seen.Other ≡ seen_of o → o ≡ None
other_of (Some found) is = absurd (cc is)
other_of None is = refl

-- it is no file that is such a stream
seen_other : (o : Option Node) (bytes : List ℕ) → seen.Other ≡ seen_as o → file_bytes o ≡ Some bytes → is_stream magic tags bytes ≡ true → ⊥
seen_other None bytes is file stream = absurd (cc file)
seen_other (Some (node.Dir mode)) bytes is file stream = absurd (cc file)
seen_other (Some (node.Link target)) bytes is file stream = absurd (cc file)
seen_other (Some (node.File mode content)) bytes is file stream =
    none_read magic tags content (other_of (stream_read magic tags content) is) (ap (is_stream magic tags) (some_bytes content bytes file) ∙ stream)

-- the file of a commit is one
commit_leads : (troves : Commit) (bytes : List ℕ) → IsCommitStream troves bytes → is_stream magic tags bytes ≡ true
commit_leads troves bytes is =
    let each : (t : TroveParts) (rest : List ℕ) → FitsTrove t → are_items tags 0 (item_bytes 0x40 (trove_bytes t) ++ rest) ≡ are_items tags 0 rest =
    λ t rest fits. one_item tags 0x40 (trove_bytes t) rest refl fits in
    let text : are_items tags 0 (items_bytes trove_bytes 0x40 troves ++ end_bytes) ≡ true =
    all_lead tags (λ (t : TroveParts). item_bytes 0x40 (trove_bytes t)) FitsTrove each troves end_bytes is.fits
    ∙ last_item tags 0x4F [] refl (omega arith) in
    ap (is_stream magic tags) is.text ∙ written_stream magic tags (items_bytes trove_bytes 0x40 troves ++ end_bytes) text

pub other_lacks : (x : Tree) (number : ℕ) (path : Name) → path ≡ commit_file number → seen.Other ≡ seen_as (get x (commit_file number)) → LacksCommit number x path
other_lacks x number path at is = record {
  here = at;
  stands = λ nothing. absurd (cc (is, ap seen_as nothing));
  none = none;
}
  where
    none : (troves : Commit) → HoldsCommit x number troves → ⊥
    none troves holds = seen_other (get x (commit_file number)) holds.bytes is holds.file (commit_leads troves holds.bytes holds.stream)
