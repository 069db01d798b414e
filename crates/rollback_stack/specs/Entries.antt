-- The entries of a job, with the fingerprints of both nodes.
use Rattle.std.specs.Prelude.{◌≡◌, false, List, map, All}
use Rattle.std.specs.List.Sorted.{IsStrictlySortedBy}
use Rattle.job_targets.specs.journal-log.Targets.{node_of}
use Rattle.job_targets.specs.declared.entry.Entry as saved
use Rattle.job_targets.specs.Old.{is_staged}
use Rattle.job_targets.specs.Wanted.{mark_of_want}
use Rattle.local_db.specs.Record.{Entry, IsEntry, entry_cmp}
use Rattle.tree_scan.specs.Marks.{fingerprint}

-- by what its node before tells, also where its bytes are staged
abbrev pub told_of : saved.Entry → Entry
told_of e = record { path = e.path; was = mark_of_want e.was; now = e.mark }

-- by its node before
abbrev pub entry_of : saved.Entry → Entry
entry_of e = record { path = e.path; was = fingerprint (node_of e.was); now = e.mark }

abbrev pub entries_of : List saved.Entry → List Entry
entries_of es = map entry_of es

-- each path once, in their order; no bytes are staged; the fingerprints have bytes
pub record AreEntries (es : List saved.Entry) : Type 0 where
  pub given : All (λ (e : saved.Entry). is_staged e.was ≡ false) es
  pub entries_are : All IsEntry (entries_of es)
  pub rising : IsStrictlySortedBy entry_cmp (entries_of es)
