-- The items that were written so far.
use Rattle.std.proofs.Common.{◌≡◌, ℕ, ◌+◌, ◌<◌, ◌≤◌, List, [], ◌∷◌, ◌++◌, length, take, get_or, All, sym, ◌∙◌, ap, subst}
use Rattle.std.specs.List.{flat_map}
use Rattle.std.proofs.lemmas.List.{flat_map_more, take_all, take_more}
use Rattle.std.proofs.lemmas.List.Elements.{All-more}
use Rattle.local_db.specs.declared.format.Format.TheVariants.{Two}
use Rattle.local_db.specs.declared.record.Delta.{Delta}
use Rattle.local_db.specs.RecordText.{FitsDelta, IsDelta, delta_bytes, deltas_text}

pub one_written : {A : Type 0} (item : A → List ℕ) (before : List ℕ) (xs : List A) (k : ℕ) (x : A) (out more : List ℕ) → k < length xs → x ≡ get_or xs k x → out ≡ before ++ flat_map item (take k xs)
    → more ≡ out ++ item x → more ≡ before ++ flat_map item (take (k + 1) xs)
one_written item before xs k x out more lt is so_far next =
    next ∙ ap (λ (l : List ℕ). l ++ item x) so_far ∙ flat_map_more item before (take k xs) x
    ∙ ap (λ l. before ++ flat_map item l) (ap (λ y. take k xs ++ y ∷ []) is ∙ sym (take_more xs k x lt))

pub all_written : {A : Type 0} (item : A → List ℕ) (before : List ℕ) (xs : List A) (k : ℕ) (out : List ℕ) → length xs ≤ k → out ≡ before ++ flat_map item (take k xs) → out ≡ before ++ flat_map item xs
all_written item before xs k out end is = is ∙ ap (λ l. before ++ flat_map item l) (take_all k xs end)

-- so many deltas were written
pub record AreWritten (before : List ℕ) (us : List Delta) (count : ℕ) (out : List ℕ) : Type 0 where
  pub deltas_are : All (IsDelta Two) (take count us)
  pub deltas_fit : All (FitsDelta Two) (take count us)
  pub text : out ≡ before ++ deltas_text Two (take count us)

pub one_delta_written : (before : List ℕ) (us : List Delta) (k : ℕ) (u : Delta) (out more : List ℕ) → k < length us → u ≡ get_or us k u → AreWritten before us k out → IsDelta Two u → FitsDelta Two u
    → more ≡ out ++ delta_bytes Two u → AreWritten before us (k + 1) more
one_delta_written before us k u out more lt is so_far valid fits next = record {
  deltas_are = All-more (IsDelta Two) us k u lt so_far.deltas_are (subst (IsDelta Two) is valid);
  deltas_fit = All-more (FitsDelta Two) us k u lt so_far.deltas_fit (subst (FitsDelta Two) is fits);
  text = one_written (delta_bytes Two) before us k u out more lt is so_far.text next;
}

pub all_of : (P : Delta → Type 0) (us : List Delta) (k : ℕ) → length us ≤ k → All P (take k us) → All P us
all_of P us k end all = subst (All P) (take_all k us end) all
