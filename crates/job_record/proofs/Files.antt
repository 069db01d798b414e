-- The file of a record is read whole, however long it is.
use Rattle.std.proofs.Common.{◌≡◌, ℕ, true, IsTrue, List, [], ◌++◌, Option, Some, None, length, refl, sym, ◌∙◌, ap, arith}
use Rattle.std.specs.Int.{w32, to_be_bytes}
use Rattle.cny_stream.specs.Item.{is_expected, item_bytes}
use Rattle.local_db.specs.content-store.Store.{file_bytes}
use Rattle.local_db.specs.cny-base.declared.node.Node.{Node}
use Rattle.local_db.specs.cny-base.declared.node.Node.TheVariants as node
use Rattle.change_rel.proofs.cny-base.OptionValues.{same_path as some_bytes}
use Rattle.local_db.specs.declared.format.Format.{Format}
use Rattle.local_db.specs.Formats.{record_magic}
use Rattle.local_db.specs.declared.record.Delta.{Delta}
use Rattle.local_db.specs.declared.record.Delta.TheVariants.{Came, Was, Turned}
use Rattle.local_db.specs.declared.record.Record.{Record}
use Rattle.local_db.specs.declared.record.ToldEntry.{ToldEntry}
use Rattle.local_db.specs.RecordText.{delta_bytes, delta_value, deltas_text, entries_text, entry_text, tag_of, FitsDelta, IsRecordText, IsToldEntry}
use Rattle.journal_log.specs.Walk.{are_items, is_stream, stream_read}
use Rattle.journal_log.proofs.FileStreams.{all_lead, all_read, last_item, none_read, one_item, written_stream}
use Rattle.job_record.specs.File.{record_read, record_tags}
use Rattle.job_record.proofs.EntryItems.{entry_fits}

delta_expected : (u : Delta) → IsTrue (is_expected record_tags (tag_of u))
delta_expected (Came id) = refl
delta_expected (Was trove) = refl
delta_expected (Turned rel) = refl

record_leads : (f : Format) (r : Record) (bytes : List ℕ) → IsRecordText f r bytes → is_stream (record_magic f) record_tags bytes ≡ true
record_leads f r bytes is =
    let number : List ℕ = item_bytes 0x60 (to_be_bytes w32 r.number) in
    let delta : (u : Delta) (rest : List ℕ) → FitsDelta f u → are_items record_tags 0 (delta_bytes f u ++ rest) ≡ are_items record_tags 0 rest =
    λ u rest fits. one_item record_tags (tag_of u) (delta_value f u) rest (delta_expected u) fits in
    let entry : (e : ToldEntry) (rest : List ℕ) → IsToldEntry e → are_items record_tags 0 (item_bytes 0x67 (entry_text e) ++ rest) ≡ are_items record_tags 0 rest =
    λ e rest told. one_item record_tags 0x67 (entry_text e) rest refl (entry_fits e told) in
    let behind : are_items record_tags 0 (entries_text r.entries) ≡ true =
    all_lead record_tags (λ (e : ToldEntry). item_bytes 0x67 (entry_text e)) IsToldEntry entry r.entries (item_bytes 0x6F []) is.entries_are
    ∙ last_item record_tags 0x6F [] refl (omega arith) in
    let deltas : are_items record_tags 0 (deltas_text f r.deltas ++ entries_text r.entries) ≡ true =
    all_lead record_tags (delta_bytes f) (FitsDelta f) delta r.deltas (entries_text r.entries) is.deltas_fit ∙ behind in
    let four : length (to_be_bytes w32 r.number) ≡ 4 = refl in
    let text : are_items record_tags 0 (number ++ (deltas_text f r.deltas ++ entries_text r.entries)) ≡ true =
    one_item record_tags 0x60 (to_be_bytes w32 r.number) (deltas_text f r.deltas ++ entries_text r.entries) refl (omega (arith, four)) ∙ deltas in
    ap (is_stream (record_magic f) record_tags) is.text ∙ written_stream (record_magic f) record_tags (number ++ (deltas_text f r.deltas ++ entries_text r.entries)) text

-- ---- what was read

pub file_read : (f : Format) (o : Option Node) (bytes : List ℕ) → record_read f o ≡ Some bytes → file_bytes o ≡ Some bytes
file_read f None bytes is = absurd (cc is)
file_read f (Some (node.Dir mode)) bytes is = absurd (cc is)
file_read f (Some (node.Link target)) bytes is = absurd (cc is)
file_read f (Some (node.File mode content)) bytes is = ap Some (sym (all_read (record_magic f) record_tags content bytes is))

pub no_record_read : (f : Format) (o : Option Node) (r : Record) (bytes : List ℕ) → record_read f o ≡ None → file_bytes o ≡ Some bytes → IsRecordText f r bytes → ⊥
no_record_read f None r bytes none file text = absurd (cc file)
no_record_read f (Some (node.Dir mode)) r bytes none file text = absurd (cc file)
no_record_read f (Some (node.Link target)) r bytes none file text = absurd (cc file)
no_record_read f (Some (node.File mode content)) r bytes none file text =
    none_read (record_magic f) record_tags content none (ap (is_stream (record_magic f) record_tags) (some_bytes content bytes file) ∙ record_leads f r bytes text)
