-- The items of trove deltas.
use Rattle.std.proofs.Common.{◌≡◌, ℕ, ◌<◌, ◌≤◌, ⊎_elim, false, ◌||◌, ◌==◌, IsTrue, List, [], ◌∷◌, ◌++◌, All, length, drop, sym, ◌∙◌, ap, arith, append_assoc, append-nil}
use Rattle.std.specs.Prelude.{slice_range}
use Rattle.std.specs.Int.{w32, to_be_bytes}
use Rattle.std.specs.List.{flat_map}
use Rattle.std.proofs.lemmas.Bool.{eqb-true, or_cases}
use Rattle.std.proofs.lemmas.List.Concat.{flat_map-append}
use Rattle.std.proofs.lemmas.List.Elements.{All-nil, All-cons, All-head, All-tail, All-push}
use Rattle.cny_stream.specs.Item.{IsItemAt, is_expected, item_bytes}
use Rattle.cny_stream.proofs.ItemLaws.{same_item}
use Rattle.local_db.specs.declared.format.Format.{Format}
use Rattle.local_db.specs.Formats.{record_magic}
use Rattle.local_db.specs.declared.record.Delta.{Delta}
use Rattle.local_db.specs.declared.record.Delta.TheVariants.{Came, Was, Turned}
use Rattle.local_db.specs.declared.record.ToldEntry.{ToldEntry}
use Rattle.local_db.specs.declared.record.Record.{Record}
use Rattle.local_db.specs.RecordText.{IsDelta, FitsDelta, IsToldEntry, tag_of, delta_value, delta_bytes, deltas_text, entry_text, entries_text}
use Rattle.job_record.specs.Reading.{IsDeltaText, IsDeltaAt, IsNoDeltaAt, AreDeltasTo, IsUnordered}
use Rattle.job_record.proofs.EntryItems.{entry_fits}
use Rattle.job_record.proofs.Items.{last_of}
use Rattle.job_record.proofs.Once.{delta_once}
use Rattle.local_db.proofs.Found.{same_text}
use Rattle.local_db.proofs.Spellings.{Distinct, without_head}

-- ---- one item

abbrev pub IsValid : Format → Delta → Type 0
IsValid f u = IsDelta f u × FitsDelta f u

pub one_delta : Distinct → (f : Format) (u v : Delta) (r s : List ℕ) → IsValid f u → IsValid f v → delta_bytes f u ++ r ≡ delta_bytes f v ++ s → (u ≡ v) × (r ≡ s)
one_delta d f u v r s a b e =
    let items = same_item (tag_of u) (tag_of v) (delta_value f u) (delta_value f v) r s a.1 b.1 e in
    (delta_once d f u v a.0 b.0 items.tags items.values, items.rests)

tag_below : (u : Delta) → tag_of u < 0x67
tag_below (Came id) = omega arith
tag_below (Was trove) = omega arith
tag_below (Turned rel) = omega arith

-- what comes behind the deltas begins with no delta
pub no_delta_before : (f : Format) (es : List ToldEntry) → All IsToldEntry es → (u : Delta) (r : List ℕ) → IsValid f u → entries_text es ≡ delta_bytes f u ++ r → ⊥
no_delta_before f [] es_are u r is e =
    let items = same_item 0x6F (tag_of u) [] (delta_value f u) [] r (omega arith) is.1 e in
    let below = tag_below u in omega (arith, below, items.tags)
no_delta_before f (x ∷ es) es_are u r is e =
    let items = same_item 0x67 (tag_of u) (entry_text x) (delta_value f u) (entries_text es) r (entry_fits x (All-head IsToldEntry x es es_are)) is.1
    (sym (append_assoc (item_bytes 0x67 (entry_text x)) (flat_map (λ (d : ToldEntry). item_bytes 0x67 (entry_text d)) es) (item_bytes 0x6F [])) ∙ e) in
    let below = tag_below u in omega (arith, below, items.tags)

-- ---- an item that was found

module _ (f : Format) (bytes : List ℕ) (at tag from to : ℕ) (found : IsItemAt bytes at tag from to) where
  pub no_delta_here : ((u : Delta) → IsDeltaText f tag (slice_range bytes from to) u → ⊥) → IsNoDeltaAt f bytes at
  no_delta_here none u rest is fits e =
      let items = same_text bytes at tag from to found (tag_of u) (delta_value f u) rest fits e in
      none u (record { delta_is = is; tagged = items.tags; text = items.values })

  -- where a delta's was
  pub delta_not_entries : tag < 0x67 → (es : List ToldEntry) → All IsToldEntry es → drop at bytes ≡ entries_text es → ⊥
  delta_not_entries below [] es_are e = let items = same_text bytes at tag from to found 0x6F [] [] (omega arith) e in omega (arith, below, items.tags)
  delta_not_entries below (x ∷ es) es_are e =
      let items = same_text bytes at tag from to found 0x67 (entry_text x) (entries_text es) (entry_fits x (All-head IsToldEntry x es es_are))
      (e ∙ append_assoc (item_bytes 0x67 (entry_text x)) (flat_map (λ (d : ToldEntry). item_bytes 0x67 (entry_text d)) es) (item_bytes 0x6F [])) in
      omega (arith, below, items.tags)

-- ---- deltas so far

pub no_deltas : (f : Format) (bytes : List ℕ) (number : ℕ) → 17 ≤ length bytes → bytes ≡ record_magic f ++ (item_bytes 0x60 (to_be_bytes w32 number) ++ drop 17 bytes)
    → AreDeltasTo f bytes number [] 17
no_deltas f bytes number long is = record {
  within = long;
  deltas_are = All-nil (IsDelta f);
  deltas_fit = All-nil (FitsDelta f);
  spelled = is;
}

pub one_more : (f : Format) (bytes : List ℕ) (number : ℕ) (us : List Delta) (at : ℕ) (u : Delta) (to : ℕ) → AreDeltasTo f bytes number us at → IsDeltaAt f bytes at u to
    → AreDeltasTo f bytes number (us ++ u ∷ []) to
one_more f bytes number us at u to are next = record {
  within = next.within;
  deltas_are = All-push (IsDelta f) us u are.deltas_are next.delta_is;
  deltas_fit = All-push (FitsDelta f) us u are.deltas_fit next.fits;
  spelled = are.spelled ∙ ap (λ (l : List ℕ). record_magic f ++ (item_bytes 0x60 (to_be_bytes w32 number) ++ l))
      (ap (λ (l : List ℕ). deltas_text f us ++ l) (next.spelled ∙ ap (λ (l : List ℕ). l ++ drop to bytes) (sym (append-nil (delta_bytes f u))))
      ∙ sym (append_assoc (deltas_text f us) (delta_bytes f u ++ []) (drop to bytes))
      ∙ ap (λ (l : List ℕ). l ++ drop to bytes) (sym (flat_map-append (delta_bytes f) us (u ∷ []))));
}

pub both_valid : (f : Format) (us : List Delta) → All (IsDelta f) us → All (FitsDelta f) us → All (IsValid f) us
both_valid f [] a b = All-nil (IsValid f)
both_valid f (u ∷ us) a b =
    All-cons (IsValid f) u us (All-head (IsDelta f) u us a, All-head (FitsDelta f) u us b) (both_valid f us (All-tail (IsDelta f) u us a) (All-tail (FitsDelta f) u us b))

-- where no delta follows, those read so far are all, and the entries follow
pub last_deltas : Distinct → (f : Format) (bytes : List ℕ) (number : ℕ) (us : List Delta) (at : ℕ) (r : Record) → AreDeltasTo f bytes number us at → IsNoDeltaAt f bytes at
    → r.number ≡ number → IsUnordered f r bytes → (r.deltas ≡ us) × (drop at bytes ≡ entries_text r.entries)
last_deltas d f bytes number us at r are none same is =
    last_of (delta_bytes f) (IsValid f) (one_delta d f) us r.deltas (drop at bytes) (entries_text r.entries)
    (both_valid f us are.deltas_are are.deltas_fit) (both_valid f r.deltas is.deltas_are is.deltas_fit)
    (no_delta_before f r.entries is.entries_are) (λ u rest valid. none u rest valid.0 valid.1)
    (without_head f number (deltas_text f us ++ drop at bytes) (deltas_text f r.deltas ++ entries_text r.entries)
    (sym are.spelled ∙ is.text ∙ ap (λ (n : ℕ). record_magic f ++ (item_bytes 0x60 (to_be_bytes w32 n) ++ (deltas_text f r.deltas ++ entries_text r.entries))) same))

-- an item that is expected and is no entry's and not the end is a delta's
pub below_entries : (tag : ℕ) → IsTrue (is_expected (0x64 ∷ 0x65 ∷ 0x66 ∷ 0x67 ∷ 0x6F ∷ []) tag) → (tag ≡ 0x67 → ⊥) → (tag ≡ 0x6F → ⊥) → tag < 0x67
below_entries tag expected no_entry no_end =
    ⊎_elim (λ e. let same = eqb-true 0x64 tag e in omega (arith, same))
    (λ more. ⊎_elim (λ e. let same = eqb-true 0x65 tag e in omega (arith, same))
    (λ more. ⊎_elim (λ e. let same = eqb-true 0x66 tag e in omega (arith, same))
    (λ more. ⊎_elim (λ e. absurd (no_entry (sym (eqb-true 0x67 tag e))))
    (λ more. ⊎_elim (λ e. absurd (no_end (sym (eqb-true 0x6F tag e)))) (λ none. absurd (cc none))
    (or_cases (0x6F == tag) false more))
    (or_cases (0x67 == tag) (0x6F == tag || false) more))
    (or_cases (0x66 == tag) (0x67 == tag || (0x6F == tag || false)) more))
    (or_cases (0x65 == tag) (0x66 == tag || (0x67 == tag || (0x6F == tag || false))) more))
    (or_cases (0x64 == tag) (0x65 == tag || (0x66 == tag || (0x67 == tag || (0x6F == tag || false)))) expected)
