-- The troves read so far, and what is left of any commit behind them.
use Rattle.std.proofs.Common.{◌≡◌, ℕ, true, ◌==◌, List, [], ◌∷◌, ◌++◌, length, drop, refl, sym, ap, ◌∙◌, arith, append_assoc, append-nil}
use Rattle.std.proofs.lemmas.List.{append_cancel_left}
use Rattle.std.proofs.lemmas.List.Concat.{flat_map-append}
use Rattle.std.proofs.lemmas.List.Elements.{All-nil, All-head, All-push}
use Rattle.repo_index.specs.cny-base.Below.{begins_with}
use Rattle.repo_index.proofs.cny-base.Below.{begun}
use Rattle.std.specs.Prelude.{slice_range}
use Rattle.cny_stream.specs.Item.{FitsItem, IsItemAt, item_bytes}
use Rattle.cny_stream.specs.ItemLaws.{SameItem}
use Rattle.cny_stream.proofs.ItemLaws.{same_item}
use Rattle.repo_index.specs.trove-parts.Items.{items_bytes}
use Rattle.repo_index.specs.trove-stream.declared.parts.TroveParts.{TroveParts}
use Rattle.repo_index.specs.trove-stream.Stream.{trove_bytes}
use Rattle.repo_index.specs.trove-stream.Trove.{IsTrove}
use Rattle.repo_load.specs.State.{Commit}
use Rattle.repo_load.specs.Files.{magic, end_bytes, FitsTrove, IsCommitStream, commit_bytes}
use Rattle.repo_load.specs.Reading.{IsTroveAt, IsNoTroveAt, AreTrovesOf, AreTrovesTo}
use Rattle.repo_load.proofs.Streams.{item_of, text_of, more, one_text, IsRest, rest_of}
use Rattle.repo_index.proofs.trove-stream.Distinct.{TrovesDiffer}
use Rattle.journal_log.proofs.cny-base.Allowed.{is_zero as zero_length}

pub no_troves : (bytes : List ℕ) → begins_with magic bytes ≡ true → AreTrovesTo bytes [] 8
no_troves bytes h =
    let rest = begun magic bytes h in
    record {
      within = omega (arith, ap length rest.1);
      troves_are = All-nil IsTrove;
      fits = All-nil FitsTrove;
      spelled = rest.1 ∙ ap (λ (l : List ℕ). magic ++ l) (sym (ap (drop 8) rest.1));
    }

pub one_more : (bytes : List ℕ) (troves : Commit) (at : ℕ) (trove : TroveParts) (to : ℕ) → AreTrovesTo bytes troves at → IsTroveAt bytes at trove to → AreTrovesTo bytes (troves ++ trove ∷ []) to
one_more bytes troves at trove to are next = record {
  within = next.within;
  troves_are = All-push IsTrove troves trove are.troves_are next.trove_is;
  fits = All-push FitsTrove troves trove are.fits next.fits;
  spelled = are.spelled ∙ ap (λ (l : List ℕ). magic ++ l)
      (ap (λ (l : List ℕ). items_bytes trove_bytes 0x40 troves ++ l) (next.spelled ∙ ap (λ (l : List ℕ). l ++ drop to bytes) (sym (append-nil (item_of trove))))
      ∙ sym (append_assoc (items_bytes trove_bytes 0x40 troves) (item_of trove ++ []) (drop to bytes))
      ∙ ap (λ (l : List ℕ). l ++ drop to bytes) (sym (flat_map-append item_of troves (trove ∷ []))));
}

pub ended : (bytes : List ℕ) (troves : Commit) (at : ℕ) → AreTrovesTo bytes troves at → drop at bytes ≡ end_bytes → bytes ≡ commit_bytes troves
ended bytes troves at are end = are.spelled ∙ ap (λ (l : List ℕ). magic ++ (items_bytes trove_bytes 0x40 troves ++ l)) end

-- what is left of any commit with this stream
left : TrovesDiffer → (bytes : List ℕ) (front all : Commit) (at : ℕ) → AreTrovesTo bytes front at → IsCommitStream all bytes → (rest : Commit) × IsRest front all rest (drop at bytes)
left differ bytes front all at are is =
    rest_of differ front all (drop at bytes) are.troves_are are.fits is.troves_are is.fits
    (append_cancel_left magic (items_bytes trove_bytes 0x40 front ++ drop at bytes) (text_of all) (sym are.spelled ∙ is.text))

stuck : (bytes : List ℕ) (front all rest : Commit) (at : ℕ) → IsRest front all rest (drop at bytes) → IsNoTroveAt bytes at → (drop at bytes ≡ end_bytes → ⊥) → ⊥
stuck bytes front all [] at is no_trove no_end = no_end is.spelled
stuck bytes front all (t ∷ rest) at is no_trove no_end =
    no_trove t (text_of rest) (All-head IsTrove t rest is.troves_are) (All-head FitsTrove t rest is.fits) (is.spelled ∙ more t rest end_bytes)

-- where neither a trove nor the end follows, the bytes are the stream of no commit
pub no_stream : TrovesDiffer → (bytes : List ℕ) (front all : Commit) (at : ℕ) → AreTrovesTo bytes front at → IsNoTroveAt bytes at → (drop at bytes ≡ end_bytes → ⊥) → IsCommitStream all bytes → ⊥
no_stream differ bytes front all at are no_trove no_end is =
    let rest = left differ bytes front all at are is in stuck bytes front all rest.0 at rest.1 no_trove no_end

-- the stream of no troves is that of no commit
pub empty_stream : TrovesDiffer → (bytes : List ℕ) (read all : Commit) → AreTrovesOf bytes read → read ≡ [] → IsCommitStream all bytes → ⊥
empty_stream differ bytes read all of none is =
    is.full (one_text differ all read is.troves_are is.fits of.troves_are of.fits (append_cancel_left magic (text_of all) (text_of read) (sym is.text ∙ of.text)) ∙ none)

pub none_read : (troves read : Commit) → read ≡ troves → (length read == 0) ≡ true → troves ≡ []
none_read troves read same is = no_length troves (sym (ap (length {A = TroveParts}) same) ∙ zero_length (length read) is)
  where
    no_length : (l : Commit) → length l ≡ 0 → l ≡ []
    no_length [] zero = refl
    no_length (t ∷ l) zero = absurd (omega arith)

-- ---- one item

module _ (bytes : List ℕ) (at tag from to : ℕ) (found : IsItemAt bytes at tag from to) where
  abbrev pub value : List ℕ
  value = slice_range bytes from to

  pub same_text : (tag' : ℕ) (text rest : List ℕ) → FitsItem text → drop at bytes ≡ item_bytes tag' text ++ rest → SameItem tag tag' value text (drop to bytes) rest
  same_text tag' text rest fits e = same_item tag tag' value text (drop to bytes) rest found.fits fits (sym found.spelled ∙ e)

  pub no_trove_here : ((t : TroveParts) → IsTrove t → slice_range bytes from to ≡ trove_bytes t → ⊥) → IsNoTroveAt bytes at
  no_trove_here none t rest is fits e = none t is (same_text 0x40 (trove_bytes t) rest fits e).values
