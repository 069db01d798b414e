-- The record of a job by what both lists record, and its bytes.
use Rattle.std.proofs.Common.{◌≡◌, ℕ, ◌<◌, ◌≤◌, ◌^◌, List, [], ◌∷◌, map, All, Contains, refl, sym, subst, ◌∙◌}
use Rattle.std.specs.List.Sorted.{IsStrictlySortedBy}
use Rattle.std.proofs.lemmas.List.Elements.{All-map, All-weaker}
use Rattle.local_db.specs.trove-stream.declared.parts.TroveParts.{TroveParts}
use Rattle.local_db.specs.Record as state
use Rattle.local_db.specs.declared.format.Format.TheVariants.{Two}
use Rattle.local_db.specs.declared.record.Record.{Record}
use Rattle.local_db.specs.RecordText.{delta_of, IsDelta, FitsDelta, by_path, IsToldEntry, record_text, IsRecordText}
use Rattle.job_record.specs.Lists.{told_by, told_entry, IsReadBy}
use Rattle.job_record.specs.Recorded.{Marks, AreMarks, IsEntryPath}
use Rattle.job_record.specs.Telling.{told_with}
use Rattle.job_record.proofs.ByLists.{entry_told, rises_mapped, rises_unmapped}
use Rattle.change_rel.proofs.cny-base.Lists.{contains_first, contains_rest}

-- ---- entries

module _ (before after : List TroveParts) (of_before of_after : Marks) where
  all_told : (es : List state.Entry) → ((e : state.Entry) → Contains es e → told_with of_before of_after e ≡ told_entry before after e)
      → map (told_with of_before of_after) es ≡ map (told_entry before after) es
  all_told [] each = refl
  all_told (e ∷ es) each =
      let head = each e (contains_first e es) in
      let tail = all_told es (λ d h. each d (contains_rest e d es h)) in
      λ i. head i ∷ tail i

  pub told_is : (es : List state.Entry) → AreMarks es before of_before → AreMarks es after of_after → map (told_with of_before of_after) es ≡ map (told_entry before after) es
  told_is es first second = all_told es (λ e h.
      let is : IsEntryPath es e.path = record { entry = e; among = h; at_path = refl } in
      let was = first e.path is in
      let now = second e.path is in
      λ i. record { path = e.path; before = told_by (was i) e.was; after = told_by (now i) e.now })

-- ---- records

module _ (number : ℕ) (before after : List TroveParts) (es : List state.Entry) (it : Record) (by : IsReadBy number before after es it) where
  pub entries_told : All IsToldEntry it.entries
  entries_told = subst (All IsToldEntry) (sym by.told)
      (All-map IsToldEntry (told_entry before after) es (All-weaker state.IsEntry (λ (e : state.Entry). IsToldEntry (told_entry before after e)) (entry_told before after) es by.entries_are))

  pub text_is : it.number < 2 ^ 32 → IsStrictlySortedBy state.entry_cmp es → All (IsDelta Two) it.deltas → All (FitsDelta Two) it.deltas → (bytes : List ℕ) → bytes ≡ record_text Two it → IsRecordText Two it bytes
  text_is small rises deltas fit bytes text = record {
    number_fits = small;
    deltas_are = deltas;
    deltas_fit = fit;
    deltas_rise = rises_unmapped delta_of state.delta_cmp it.deltas by.back.rising;
    entries_are = entries_told;
    entries_rise = subst (IsStrictlySortedBy by_path) (sym by.told) (rises_mapped (told_entry before after) by_path es rises);
    text = text;
  }

-- the record that is made of the deltas and of what both lists record
pub read_is : (number : ℕ) (it : Record) (before after : List TroveParts) (of_before of_after : Marks) (es : List state.Entry) → 1 ≤ number → All state.IsEntry es → it.number ≡ number
    → state.TakesBack (map delta_of it.deltas) after before → AreMarks es before of_before → AreMarks es after of_after → it.entries ≡ map (told_with of_before of_after) es
    → IsReadBy number before after es it
read_is number it before after of_before of_after es positive entries same back first second told = record {
  number_is = same;
  positive = positive;
  back = back;
  entries_are = entries;
  told = told ∙ told_is before after of_before of_after es first second;
}
