-- Records that a tree holds, by what is read of them.
use Rattle.std.proofs.Common.{◌≡◌, ℕ, List, Bool, sym, ◌∙◌, subst}
use Rattle.std.specs.Prelude.{IsTrue}
use Rattle.local_db.specs.cny-base.declared.stop.Stop.{Stop}
use Rattle.local_db.specs.cny-base.declared.stop.Stop.TheVariants as stop
use Rattle.local_db.specs.declared.record.Record.{Record}
use Rattle.job_record.specs.Lists.{IsReadBy}
use Rattle.local_db.specs.RecordText.{IsRecordText}
use Rattle.local_db.specs.trove-stream.declared.parts.TroveParts.{TroveParts}
use Rattle.local_db.specs.tree-disk.Tree.{Tree}
use Rattle.local_db.specs.declared.format.Format.{Format}
use Rattle.local_db.specs.Record as state
use Rattle.local_db.specs.Record.{IsRecord, PassesChecks}
use Rattle.rollback_stack.specs.JobReading.{HoldsNoRecord, HoldsNoText, HoldsRecord, HoldsText, IsCheckStop, IsDamagedJob, IsDamagedText, IsOfNoJob, IsReadStop}
use Rattle.change_rel.proofs.cny-base.OptionValues.{same_some as some_same}

-- the laws of records
abbrev pub Reading : Type 0
Reading = (f : Format) (number : ℕ) (before after : List TroveParts) (entries : List state.Entry) (bytes : List ℕ)
    → IsRecord f number before after entries bytes → (r : Record) × IsRecordText f r bytes × IsReadBy number before after entries r

abbrev pub Writing : Type 0
Writing = (f : Format) (number : ℕ) (before after : List TroveParts) (entries : List state.Entry) (r : Record) (bytes : List ℕ)
    → IsRecordText f r bytes → IsReadBy number before after entries r → IsRecord f number before after entries bytes

abbrev pub OneRecord : Type 0
OneRecord = (f : Format) (one other : Record) (bytes : List ℕ) → IsRecordText f one bytes → IsRecordText f other bytes → one ≡ other

module _ (f : Format) (x : Tree) (number : ℕ) (after : List TroveParts) where
  pub holds : Writing → (r : Record) (before : List TroveParts) (es : List state.Entry) → HoldsText f x number r → IsReadBy number before after es r → PassesChecks f before es → HoldsRecord f x number after before es
  holds law r before es text read checks = record { bytes = text.bytes; file = text.file; text = law f number before after es r text.bytes text.text read; checks = checks }

  pub no_record_without_text : Reading → HoldsNoText f x number → HoldsNoRecord f x number after
  no_record_without_text law none before es h =
      let read = law f number before after es h.bytes h.text in
      none read.0 (record { bytes = h.bytes; file = h.file; text = read.1; number_is = read.2.number_is })

  pub no_record_of_text : Reading → OneRecord → (r : Record) → HoldsText f x number r → IsOfNoJob f number r after → HoldsNoRecord f x number after
  no_record_of_text law once r text none before es h =
      let read = law f number before after es h.bytes h.text in
      let same_bytes : h.bytes ≡ text.bytes = some_same h.bytes text.bytes (sym h.file ∙ text.file) in
      let same : read.0 ≡ r = once f read.0 r text.bytes (subst (IsRecordText f read.0) same_bytes read.1) text.text in
      none before es (subst (IsReadBy number before after es) same read.2) h.checks

  -- ---- stops

  pub stop_without_text : Reading → (told : Bool) (rose : Type 0) (e : Stop) → IsReadStop told (IsDamagedText f x number) rose e → IsReadStop told (IsDamagedJob f x number after) rose e
  stop_without_text law told rose stop.Failed is = is
  stop_without_text law told rose stop.Memory is = is
  stop_without_text law told rose (stop.Damaged path) is = λ tells. let damaged = is tells in (damaged.0, no_record_without_text law damaged.1)
  stop_without_text law told rose (stop.Refused why) is = is
  stop_without_text law told rose stop.FarFailed is = is
  stop_without_text law told rose (stop.FarDamaged path) is = is

  pub stop_of_text : Reading → OneRecord → (told : Bool) (rose : Type 0) (r : Record) → (IsTrue told → HoldsText f x number r) → (e : Stop) → IsCheckStop f number r after e → IsReadStop told (IsDamagedJob f x number after) rose e
  stop_of_text law once told rose r text stop.Failed is = absurd is
  stop_of_text law once told rose r text stop.Memory is = tt
  stop_of_text law once told rose r text (stop.Damaged path) is = λ tells. (is.0, no_record_of_text law once r (text tells) is.1)
  stop_of_text law once told rose r text (stop.Refused why) is = absurd is
  stop_of_text law once told rose r text stop.FarFailed is = absurd is
  stop_of_text law once told rose r text (stop.FarDamaged path) is = absurd is
