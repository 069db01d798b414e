-- A root whose log can't be put: each call leaves it as it is, and the repository.
use Rattle.std.proofs.Common.{◌≡◌, inl, inr, ⊎_elim, ℕ, true, List, [], Option, Some, Result, Ok, Err, refl, sym, ap, ◌∙◌, subst}
use Rattle.std.proofs.lemmas.Bool.{cases_Bool}
use Rattle.cny_base.specs.Flow.{SinkState}
use Rattle.conary_cli.specs.cli-call.cny-base.Reserved.{private_directory}
use Rattle.conary_cli.specs.cli-call.tree-disk.Confined.{IsSynced}
use Rattle.conary_cli.specs.cli-call.tree-disk.Tree.{Tree}
use Rattle.conary_cli.proofs.cli-call.tree-disk.Laws.{same_tree}
use Rattle.conary_cli.specs.cli-call.journal-log.declared.put.Put.{Put}
use Rattle.conary_cli.specs.cli-call.journal-log.LogBytes.{IsLogText}
use Rattle.conary_cli.specs.cli-call.tree-journal.CanBePut.{AllCanBePut}
use Rattle.conary_cli.specs.cli-call.tree-journal.Recovery.{at_rest, by_log, is_committed, HoldsLog, RecoversTo}
use Rattle.conary_cli.proofs.cli-call.local-db.journal-log.Decoding.{one_log}
use Rattle.conary_cli.specs.cli-call.cny-laws.declared.failure.Failure.{Failure}
use Rattle.conary_cli.specs.cli-call.cny-laws.declared.failure.Failure.TheVariants as failure
use Rattle.conary_cli.specs.cli-call.cny-laws.declared.opened.Opened.{Opened}
use Rattle.conary_cli.specs.cli-call.cny-laws.Call.{AreOpened, CallState}
use Rattle.conary_cli.specs.cli-call.cny-laws.Report.{End, Reports}
use Rattle.conary_cli.specs.cli-call.cny-laws.RootOpening.{IsRootOpen}
use Rattle.conary_cli.specs.cli-call.cny-laws.WholeCall.{IsBlocked, IsNoCall}
use Rattle.cny_batch.specs.declared.line.Line.{Line}
use Rattle.conary_cli.specs.cli-words.declared.call_words.Call.{Call}
use Rattle.conary_cli.specs.cli-words.declared.call_words.Call.TheVariants as call
use Rattle.conary_cli.specs.Program.{IsProgramCall, IsSomething}
use Rattle.tree_memory.specs.declared.memory.MemoryTree.{MemoryTree}
use Rattle.tree_memory.specs.Memory.{memory_disk, state}
use Rattle.outcome_laws.specs.Cuts.{CannotPut}
use Rattle.outcome_laws.specs.Play.{at_end, at_entry, told_sink, WasMade}
use Rattle.outcome_laws.specs.Played.{IsLeftBlocked}
use Rattle.outcome_laws.proofs.OnDisks.{never_zero}

-- a log has one reading
pub one_reading : (x : Tree) (puts others : List Put) → HoldsLog private_directory puts x → HoldsLog private_directory others x → puts ≡ others
one_reading x puts others h g =
    let bytes : h.bytes ≡ g.bytes = cc (sym h.file ∙ g.file) in
    one_log private_directory puts others g.bytes (subst (IsLogText private_directory puts) bytes h.text) g.text

-- ---- a call

module _ (l : Line) (status : ℕ) (root root' repo repo' : MemoryTree) (left out line : List ℕ) (puts : List Put) (synced : IsSynced memory_disk root)
    (set : is_committed private_directory (state root).reads ≡ true) (holds : HoldsLog private_directory puts (state root).reads) (cannot : AllCanBePut puts (state root).reads → ⊥) where
  silent : (at_end left out root' repo').out ≡ (at_entry l root repo).out → out ≡ []
  silent same = let written : ◌≡◌ {A = Option (List ℕ)} (Some out) (Some []) = ap (λ (o : SinkState). o.written) same in cc written

  nothing : (e : Failure) → IsNoCall e (at_entry l root repo) (at_end left out root' repo') (told_sink []) (told_sink line) status → IsLeftBlocked status out root root' repo repo'
  nothing e is = record {
    reads = ap (λ (m : CallState MemoryTree MemoryTree). (state m.root).reads) is.same;
    synced = λ p. ap (λ (m : CallState MemoryTree MemoryTree). (state m.root).unsynced p) is.same ∙ synced p;
    same = ap (λ (m : CallState MemoryTree MemoryTree). m.repo) is.same;
    some = λ zero_is. ⊎_elim (λ r. never_zero e (told_sink []) (told_sink line) status r zero_is) (λ r. never_zero failure.Memory (told_sink []) (told_sink line) status r zero_is) is.reports;
    silent = silent (ap (λ (m : CallState MemoryTree MemoryTree). m.out) is.same);
    unopened = inl (ap (λ (m : CallState MemoryTree MemoryTree). m.root) is.same, ap (λ (m : CallState MemoryTree MemoryTree). m.repo) is.same);
  }

  blocked : (end : End) → Reports end (told_sink []) (told_sink line) status → IsBlocked memory_disk memory_disk (at_entry l root repo) (at_end left out root' repo') end → IsLeftBlocked status out root root' repo repo'
  blocked end reports is = record {
    reads = same_tree (state root').reads (state root).reads (λ q. is.untouched.reads q (λ among. absurd cc));
    synced = λ p. ⊎_elim (λ changed. ⊎_elim (λ old. absurd (cc (sym old ∙ synced p))) (λ among. absurd cc) (is.untouched.unsynced p changed)) (λ clean. clean) (cases_Bool ((state root').unsynced p));
    same = is.stops.stops.same;
    some = λ zero_is. never_zero is.stops.failure (told_sink []) (told_sink line) status (subst (λ (x : End). Reports x (told_sink []) (told_sink line) status) is.stops.is reports) zero_is;
    silent = silent is.stops.silent;
    unopened = inr (is.stops.failure, inl is.stops.stops);
  }

  -- the root isn't opened
  never_reached : (t : Tree) → RecoversTo private_directory (state root).reads t → ⊥
  never_reached t (at_rest clear same) = absurd (cc (sym set ∙ clear))
  never_reached t (by_log also others held stand can same) = cannot (subst (λ (p : List Put). AllCanBePut p (state root).reads) (one_reading (state root).reads others puts held holds) can)

  never_opened : (mid far : MemoryTree) (opened : Opened) → AreOpened memory_disk memory_disk root mid repo far opened → ⊥
  never_opened mid far opened opens =
      let is : IsRootOpen memory_disk root mid opened.db = opens.opens_root.opened refl in
      never_reached is.reached.recovered is.reached.recovers

  program : (expected : Result Call Failure) → IsProgramCall memory_disk memory_disk expected (at_entry l root repo) (at_end left out root' repo') (told_sink []) (told_sink line) status → IsLeftBlocked status out root root' repo repo'
  program (Ok (call.Single c)) is = blocked is.call.end is.call.reports (is.call.log.blocked refl puts set holds cannot)
  program (Ok call.Batch) (inl is) = blocked is.end is.reports (is.log.blocked refl puts set holds cannot)
  program (Ok call.Batch) (inr run) = absurd (never_opened run.root run.repo run.opened run.opens)
  program (Ok (call.Demo packages)) (inl is) = blocked is.end is.reports (is.log.blocked refl puts set holds cannot)
  program (Ok (call.Demo packages)) (inr run) = absurd (never_opened run.root run.repo run.opened run.opens)
  program (Err e) is = nothing e is

  pub does_nothing : IsSomething memory_disk memory_disk l.words (at_entry l root repo) (at_end left out root' repo') (told_sink []) (told_sink line) status → IsLeftBlocked status out root root' repo repo'
  does_nothing (inl some) = program some.0 some.2
  does_nothing (inr none) = nothing failure.Memory none

pub blocked_call : (l : Line) (status : ℕ) (out : List ℕ) (root root' repo repo' : MemoryTree) → IsSynced memory_disk root → CannotPut (state root).reads → WasMade l status out root root' repo repo' → IsLeftBlocked status out root root' repo repo'
blocked_call l status out root root' repo repo' synced log h = does_nothing l status root root' repo repo' h.left out h.line log.puts synced log.set log.holds log.cannot h.call
