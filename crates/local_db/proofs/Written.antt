-- The items of troves that were written so far.
use Rattle.std.proofs.Common.{◌≡◌, ℕ, ◌+◌, ◌<◌, ◌≤◌, List, [], ◌∷◌, ◌++◌, length, take, get_or, All, sym, ◌∙◌, ap, subst}
use Rattle.std.proofs.lemmas.List.{flat_map_more, take_all, take_more}
use Rattle.std.proofs.lemmas.List.Elements.{All-more}
use Rattle.cny_stream.specs.Item.{item_bytes}
use Rattle.trove_stream.specs.trove-parts.Items.{items_bytes}
use Rattle.trove_stream.specs.declared.parts.TroveParts.{TroveParts}
use Rattle.trove_stream.specs.Stream.{full_trove_bytes}
use Rattle.trove_stream.specs.Trove.{IsTrove}

abbrev pub item_of : TroveParts → List ℕ
item_of t = item_bytes 0x50 (full_trove_bytes t)

pub record AreWritten (before : List ℕ) (troves : List TroveParts) (count : ℕ) (out : List ℕ) : Type 0 where
  pub troves_are : All IsTrove (take count troves)
  pub text : out ≡ before ++ items_bytes full_trove_bytes 0x50 (take count troves)

pub one_written : (before : List ℕ) (troves : List TroveParts) (k : ℕ) (trove : TroveParts) (out more : List ℕ) → k < length troves → trove ≡ get_or troves k trove → AreWritten before troves k out → IsTrove trove
    → more ≡ out ++ item_of trove → AreWritten before troves (k + 1) more
one_written before troves k trove out more lt is so_far valid next = record {
  troves_are = All-more IsTrove troves k trove lt so_far.troves_are (subst IsTrove is valid);
  text = next ∙ ap (λ (l : List ℕ). l ++ item_of trove) so_far.text ∙ flat_map_more item_of before (take k troves) trove
      ∙ ap (λ (l : List TroveParts). before ++ items_bytes full_trove_bytes 0x50 l) (ap (λ (x : TroveParts). take k troves ++ x ∷ []) is ∙ sym (take_more troves k trove lt));
}

pub all_written : (P : TroveParts → Type 0) (troves : List TroveParts) (k : ℕ) → length troves ≤ k → All P (take k troves) → All P troves
all_written P troves k end all = subst (All P) (take_all k troves end) all
