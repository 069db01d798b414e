-- A record by the lists of troves before and after its job.
use Rattle.std.proofs.Common.{◌≡◌, ℕ, Bool, true, false, cond, List, [], ◌∷◌, ◌++◌, map, All, refl, sym, ◌∙◌, ap, subst, arith}
use Rattle.std.specs.Int.{w32, to_be_bytes}
use Rattle.std.specs.List.{flat_map, AllByRecursion}
use Rattle.std.specs.List.Sorted.{IsStrictlySortedBy}
use Rattle.std.specs.declared.cmp.Ordering.{Ordering}
use Rattle.std.specs.declared.cmp.Ordering.TheVariants.{Less}
use Rattle.std.proofs.lemmas.List.Elements.{All-nil, All-cons, All-head, All-tail}
use Rattle.cny_stream.specs.Item.{FitsItem, item_bytes}
use Rattle.local_db.specs.trove-parts.Items.{items_bytes}
use Rattle.local_db.specs.trove-stream.declared.parts.TroveParts.{TroveParts}
use Rattle.tree_scan.specs.declared.mark.Mark.{Mark}
use Rattle.local_db.specs.Installed.{recorded}
use Rattle.local_db.specs.MarkBytes.{IsMark, mark_bytes, tells}
use Rattle.local_db.specs.Record as state
use Rattle.local_db.specs.declared.format.Format.{Format}
use Rattle.local_db.specs.Formats.{record_magic}
use Rattle.local_db.specs.declared.record.Delta.{Delta}
use Rattle.local_db.specs.declared.record.Delta.TheVariants.{Came, Was, Turned}
use Rattle.local_db.specs.declared.record.Told.TheVariants.{Listed, Own}
use Rattle.local_db.specs.declared.record.Record.{Record}
use Rattle.local_db.specs.RecordText.{delta_of, delta_bytes, deltas_text, by_path, told_text, IsTold, entry_text, entries_text, IsToldEntry, record_text, IsRecordText}
use Rattle.job_record.specs.Lists.{told_entry, IsReadBy}
use Rattle.job_record.proofs.EntryItems.{entry_fits}

-- ---- lists that are mapped

pub unmapped : {A B : Type 0} (P : B → Type 0) (f : A → B) (xs : List A) → All P (map f xs) → All (λ x. P (f x)) xs
unmapped P f [] all = All-nil (λ x. P (f x))
unmapped P f (x ∷ xs) all = All-cons (λ x. P (f x)) x xs (All-head P (f x) (map f xs) all) (unmapped P f xs (All-tail P (f x) (map f xs) all))

pub mapped : {A B : Type 0} (P : B → Type 0) (f : A → B) (xs : List A) → All (λ x. P (f x)) xs → All P (map f xs)
mapped P f [] all = All-nil P
mapped P f (x ∷ xs) all = All-cons P (f x) (map f xs) (All-head (λ x. P (f x)) x xs all) (mapped P f xs (All-tail (λ x. P (f x)) x xs all))

pub implied : {A : Type 0} (P Q : A → Type 0) (xs : List A) → ((x : A) → P x → Q x) → All P xs → All Q xs
implied P Q [] f all = All-nil Q
implied P Q (x ∷ xs) f all = All-cons Q x xs (f x (All-head P x xs all)) (implied P Q xs f (All-tail P x xs all))

pub below_mapped : {A B : Type 0} (P : B → Type 0) (f : A → B) (xs : List A) → AllByRecursion (λ x. P (f x)) xs → AllByRecursion P (map f xs)
below_mapped P f [] all = tt
below_mapped P f (x ∷ xs) all = (all.0, below_mapped P f xs all.1)

pub below_unmapped : {A B : Type 0} (P : B → Type 0) (f : A → B) (xs : List A) → AllByRecursion P (map f xs) → AllByRecursion (λ x. P (f x)) xs
below_unmapped P f [] all = tt
below_unmapped P f (x ∷ xs) all = (all.0, below_unmapped P f xs all.1)

pub rises_mapped : {A B : Type 0} (f : A → B) (c : B → B → Ordering) (xs : List A) → IsStrictlySortedBy (λ x y. c (f x) (f y)) xs → IsStrictlySortedBy c (map f xs)
unfolding IsStrictlySortedBy
rises_mapped f c [] rise = tt
rises_mapped f c (x ∷ xs) rise = (below_mapped (λ y. c (f x) y ≡ Less) f xs rise.0, rises_mapped f c xs rise.1)

pub rises_unmapped : {A B : Type 0} (f : A → B) (c : B → B → Ordering) (xs : List A) → IsStrictlySortedBy c (map f xs) → IsStrictlySortedBy (λ x y. c (f x) (f y)) xs
unfolding IsStrictlySortedBy
rises_unmapped f c [] rise = tt
rises_unmapped f c (x ∷ xs) rise = (below_unmapped (λ y. c (f x) y ≡ Less) f xs rise.0, rises_unmapped f c xs rise.1)

-- ---- deltas

abbrev own_delta : state.Delta → Delta
own_delta (state.came id) = Came id
own_delta (state.was trove) = Was trove
own_delta (state.turned rel) = Turned rel

there_and_back : (u : state.Delta) → delta_of (own_delta u) ≡ u
there_and_back (state.came id) = refl
there_and_back (state.was trove) = refl
there_and_back (state.turned rel) = refl

all_back : (us : List state.Delta) → map delta_of (map own_delta us) ≡ us
all_back [] = refl
all_back (u ∷ us) = let head = there_and_back u in let tail = all_back us in λ i. head i ∷ tail i

same_deltas : (f : Format) (us : List Delta) → deltas_text f us ≡ flat_map (state.delta_bytes f) (map delta_of us)
same_deltas f [] = refl
same_deltas f (u ∷ us) = ap (λ (l : List ℕ). delta_bytes f u ++ l) (same_deltas f us)

-- ---- entries

told_so : (b : Bool) (mark : Mark) → cond b (61 ∷ []) (mark_bytes mark) ≡ told_text (cond b Listed (Own mark))
told_so true mark = refl
told_so false mark = refl

pub is_told : (b : Bool) (mark : Mark) → IsMark mark → IsTold (cond b Listed (Own mark))
is_told true mark is = tt
is_told false mark is = is

same_entry : (before after : List TroveParts) (e : state.Entry) → state.entry_value before after e ≡ entry_text (told_entry before after e)
same_entry before after e =
    let first = told_so (tells (recorded before e.path) e.was) e.was in
    let second = told_so (tells (recorded after e.path) e.now) e.now in
    λ i. Rattle.local_db.specs.cny-base.StrField.str e.path ++ (first i ++ second i)

same_entries : (before after : List TroveParts) (es : List state.Entry) → items_bytes (state.entry_value before after) 0x67 es ≡ items_bytes entry_text 0x67 (map (told_entry before after) es)
same_entries before after [] = refl
same_entries before after (e ∷ es) =
    let head = same_entry before after e in let tail = same_entries before after es in λ i. item_bytes 0x67 (head i) ++ tail i

pub entry_told : (before after : List TroveParts) (e : state.Entry) → state.IsEntry e → IsToldEntry (told_entry before after e)
entry_told before after e is = record {
  path_is = is.path;
  before_is = is_told (tells (recorded before e.path) e.was) e.was is.was;
  after_is = is_told (tells (recorded after e.path) e.now) e.now is.now;
}

-- ---- records

same_text : (f : Format) (number : ℕ) (us : List Delta) (before after : List TroveParts) (es : List state.Entry)
    → state.record_bytes f number (map delta_of us) before after es ≡ record_text f (record { number = number; deltas = us; entries = map (told_entry before after) es })
same_text f number us before after es =
    let front = sym (same_deltas f us) in let back = same_entries before after es in
    λ i. record_magic f ++ (item_bytes 0x60 (to_be_bytes w32 number) ++ (front i ++ (back i ++ item_bytes 0x6F [])))

-- the record that the bytes are, by the lists
pub read_by : (f : Format) (number : ℕ) (before after : List TroveParts) (es : List state.Entry) (bytes : List ℕ) → state.IsRecord f number before after es bytes
    → (r : Record) × IsRecordText f r bytes × IsReadBy number before after es r
read_by f number before after es bytes is =
    let us = map own_delta is.deltas in
    let back = all_back is.deltas in
    let told = map (told_entry before after) es in (
      record { number = number; deltas = us; entries = told },
      record {
        number_fits = let most = is.number_fits.1 in omega (arith, most);
        deltas_are = unmapped (state.IsDelta f) delta_of us (subst (All (state.IsDelta f)) (sym back) is.deltas_are);
        deltas_fit = unmapped (λ u. FitsItem (state.delta_value f u)) delta_of us (subst (All (λ u. FitsItem (state.delta_value f u))) (sym back) is.deltas_fit);
        deltas_rise = rises_unmapped delta_of state.delta_cmp us (subst (IsStrictlySortedBy state.delta_cmp) (sym back) is.back.rising);
        entries_are = mapped IsToldEntry (told_entry before after) es (implied state.IsEntry (λ e. IsToldEntry (told_entry before after e)) es (entry_told before after) is.entries_are);
        entries_rise = rises_mapped (told_entry before after) by_path es is.rising;
        text = is.text ∙ ap (λ (l : List state.Delta). state.record_bytes f number l before after es) (sym back) ∙ same_text f number us before after es;
      },
      record {
        number_is = refl;
        positive = is.number_fits.0;
        back = subst (λ (l : List state.Delta). state.TakesBack l after before) (sym back) is.back;
        entries_are = is.entries_are;
        told = refl;
      },
    )

-- and back
pub written_by : (f : Format) (number : ℕ) (before after : List TroveParts) (es : List state.Entry) (r : Record) (bytes : List ℕ) → IsRecordText f r bytes → IsReadBy number before after es r
    → state.IsRecord f number before after es bytes
written_by f number before after es r bytes is by = record {
  deltas = map delta_of r.deltas;
  number_fits = (by.positive, let small = is.number_fits in let same = by.number_is in omega (arith, small, same));
  deltas_are = mapped (state.IsDelta f) delta_of r.deltas is.deltas_are;
  back = by.back;
  entries_are = by.entries_are;
  deltas_fit = mapped (λ u. FitsItem (state.delta_value f u)) delta_of r.deltas is.deltas_fit;
  entries_fit = implied state.IsEntry (λ e. FitsItem (state.entry_value before after e)) es
      (λ e e_is. subst FitsItem (sym (same_entry before after e)) (entry_fits (told_entry before after e) (entry_told before after e e_is))) by.entries_are;
  rising = rises_unmapped (told_entry before after) by_path es (subst (IsStrictlySortedBy by_path) by.told is.entries_rise);
  text = is.text
      ∙ (λ i. record_magic f ++ (item_bytes 0x60 (to_be_bytes w32 (by.number_is i)) ++ (deltas_text f r.deltas ++ entries_text (by.told i))))
      ∙ sym (same_text f number r.deltas before after es);
}
