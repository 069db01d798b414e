-- No bytes are two records.
use Rattle.std.proofs.Common.{◌≡◌, ℕ, ◌<◌, ◌^◌, List, [], ◌++◌, drop, sym, ◌∙◌}
use Rattle.cny_stream.specs.Item.{item_bytes}
use Rattle.local_db.specs.declared.format.Format.{Format}
use Rattle.local_db.specs.declared.record.Delta.{Delta}
use Rattle.local_db.specs.declared.record.Record.{Record}
use Rattle.local_db.specs.RecordText.{IsToldEntry, delta_bytes, deltas_text, entries_text, IsRecordText}
use Rattle.job_record.specs.Reading.{AreDeltasTo, IsNoDeltaAt, IsUnordered}
use Rattle.job_record.proofs.DeltaItems.{IsValid, both_valid, last_deltas, no_delta_before, one_delta}
use Rattle.job_record.proofs.EntryItems.{item_of, no_entry_before_end, one_entry}
use Rattle.job_record.proofs.Heads.{one_number, with_head}
use Rattle.job_record.proofs.Items.{last_of}
use Rattle.local_db.proofs.Spellings.{Distinct}

pub in_any_order : (f : Format) (r : Record) (bytes : List ℕ) → IsRecordText f r bytes → IsUnordered f r bytes
in_any_order f r bytes is = record {
  number_fits = is.number_fits;
  deltas_are = is.deltas_are;
  deltas_fit = is.deltas_fit;
  entries_are = is.entries_are;
  text = is.text;
}

pub one_record : Distinct → (f : Format) (one other : Record) (bytes : List ℕ) → IsUnordered f one bytes → IsUnordered f other bytes → one ≡ other
one_record d f one other bytes is js =
    let heads = one_number f one.number other.number (deltas_text f one.deltas ++ entries_text one.entries) (deltas_text f other.deltas ++ entries_text other.entries)
    is.number_fits js.number_fits (sym is.text ∙ js.text) in
    let deltas = last_of (delta_bytes f) (IsValid f) (one_delta d f) one.deltas other.deltas (entries_text one.entries) (entries_text other.entries)
    (both_valid f one.deltas is.deltas_are is.deltas_fit) (both_valid f other.deltas js.deltas_are js.deltas_fit)
    (no_delta_before f other.entries js.entries_are) (no_delta_before f one.entries is.entries_are) heads.1 in
    let entries = last_of item_of IsToldEntry one_entry one.entries other.entries (item_bytes 0x6F []) (item_bytes 0x6F [])
    is.entries_are js.entries_are no_entry_before_end no_entry_before_end deltas.1 in
    let n = heads.0 in
    let us = sym deltas.0 in
    let es = sym entries.0 in
    λ i. record { number = n i; deltas = us i; entries = es i }

-- of any record with these bytes: its number and its deltas are those that were read, and its entries follow
pub record IsReadTo (r : Record) (number : ℕ) (us : List Delta) (rest : List ℕ) : Type 0 where
  pub number_is : r.number ≡ number
  pub deltas_are : r.deltas ≡ us
  pub entries_follow : rest ≡ entries_text r.entries

pub read_to : Distinct → (f : Format) (bytes : List ℕ) (number : ℕ) (us : List Delta) (at : ℕ) (r : Record) → number < 2 ^ 32 → bytes ≡ with_head f number (drop 17 bytes)
    → AreDeltasTo f bytes number us at → IsNoDeltaAt f bytes at → IsUnordered f r bytes → IsReadTo r number us (drop at bytes)
read_to d f bytes number us at r fits head are none is =
    let same = (one_number f r.number number (deltas_text f r.deltas ++ entries_text r.entries) (drop 17 bytes) is.number_fits fits (sym is.text ∙ head)).0 in
    let rest = last_deltas d f bytes number us at r are none same is in
    record { number_is = same; deltas_are = rest.0; entries_follow = rest.1 }
