-- What follows of lines that were run: from a state that both disks stored, and whatever they store.
use Rattle.std.proofs.Common.{◌≡◌, ◌≤◌, ℕ, Bool, true, false, List, [], ◌∷◌, Result, Ok, Err, refl, sym, ap, ◌∙◌, subst, inl, inr, arith}
use Rattle.std.specs.Prelude.{IsTrue}
use Rattle.cny_version.specs.cny-base.Flow.{SinkState}
use Rattle.root_commands.specs.cli-call.cny-base.Count.{Rose}
use Rattle.root_commands.specs.cli-call.cny-base.declared.refusal.Refusal.{Refusal}
use Rattle.root_commands.specs.cli-call.tree-disk.Disk.{DiskModel, IsDisk, HasRead}
use Rattle.root_commands.specs.cli-call.tree-disk.Clear.{is_within}
use Rattle.root_commands.specs.cli-call.tree-disk.Confined.{Among, Confined}
use Rattle.root_commands.proofs.cli-call.tree-disk.ConfinedLaws.{confined_start, confined_then, leaves_weaker}
use Rattle.root_commands.proofs.cli-call.tree-disk.Moments.{rose_before}
use Rattle.repo_load.specs.Files.{repository_base}
use Rattle.root_commands.specs.cli-call.Command.{AreReady, Goes, HasDamage, Rest, StandsFor}
use Rattle.root_commands.specs.cli-call.Line.{EndsWriting, Moment, LineCause}
use Rattle.root_commands.specs.cli-call.cny-laws.declared.failure.Failure.{Failure}
use Rattle.root_commands.specs.cli-call.cny-laws.declared.failure.Failure.TheVariants as failure
use Rattle.root_commands.specs.cli-call.cny-laws.Reading.{given}
use Rattle.root_commands.specs.cli-call.cny-laws.Report.{End, MustBeTold, status_of}
use Rattle.root_commands.specs.cli-call.cny-laws.State.{State, Effect, Meaning, OneDisk, Then}
use Rattle.root_commands.specs.cli-call.cny-laws.Store.{IsStore, OneOf, Recovers, RestsAt}
use Rattle.root_commands.specs.cli-call.cny-laws.Stores.{root_store, repository_store}
use Rattle.root_commands.proofs.cli-call.CommandLaws.{goes_read, next_more, takes_more}
use Rattle.root_commands.proofs.cli-call.LineLaws.{keeps_still}
use Rattle.root_commands.proofs.cli-call.RootLaws.{root_laws}
use Rattle.root_commands.proofs.cli-call.StoreLaws.{nothing_done, rest_lives, rest_reads}
use Rattle.cli_words.specs.declared.words.Command.{Command}
use Rattle.conary_cli.specs.Commands.{meaning}
use Rattle.conary_cli.specs.Lines.{CallLine, EndsOne, LineOutcome, LinesEnd, RunsLines, RunsOf, RunsOne, shown_as}
use Rattle.conary_cli.specs.Lives.{LiveBoth, LiveStep, before_last, last_state}
use Rattle.cli_words.specs.Words.{AreWords, IsOnly}
use Rattle.conary_cli.proofs.Living.{live_first, reads_on}

-- ---- outcomes

pub shown_takes : (shown : Bool) (m : Meaning) → (shown_as shown m).takes_input ≡ m.takes_input
shown_takes true m = refl
shown_takes false m = refl

module _ {One Two : Result Effect Refusal → Type 0} (more : (outcome : Result Effect Refusal) → One outcome → Two outcome) where
  pub ends_more : (s next : State) (before now : SinkState) (end : End) → EndsWriting One s next before now end → EndsWriting Two s next before now end
  ends_more s next before now (Ok x) h = takes_more more h
  ends_more s next before now (Err (failure.Refused r)) h = (more (Err r) h.0, h.1, h.2)
  ends_more s next before now (Err failure.OutputFault) h = takes_more more h
  ends_more s next before now (Err failure.RootFault) h = (next_more more h.0, h.1)
  ends_more s next before now (Err failure.RepositoryFault) h = (next_more more h.0, h.1)
  ends_more s next before now (Err failure.Memory) h = (next_more more h.0, h.1)
  ends_more s next before now _ h = h

module _ (c : Command) (l : CallLine) (s : State) where
  given_is : (found : Result (List ℕ) Refusal) → given (meaning c).takes_input l.line.input ≡ found → given (shown_as l.shown (meaning c)).takes_input l.line.input ≡ found
  given_is found gives = ap (λ b. given b l.line.input) (shown_takes l.shown (meaning c)) ∙ gives

  refused_outcome : (r : Refusal) → given (meaning c).takes_input l.line.input ≡ Err r → LineOutcome (Ok c) l s (Err r)
  refused_outcome r gives = subst (λ (found : Result (List ℕ) Refusal). Then found ((shown_as l.shown (meaning c)).IsOutcome s) (Err r)) (sym (given_is (Err r) gives)) refl

  own_outcome : (bytes : List ℕ) → given (meaning c).takes_input l.line.input ≡ Ok bytes → (o : Result Effect Refusal) → (shown_as l.shown (meaning c)).IsOutcome s bytes o → LineOutcome (Ok c) l s o
  own_outcome bytes gives o is = subst (λ (found : Result (List ℕ) Refusal). Then found ((shown_as l.shown (meaning c)).IsOutcome s) o) (sym (given_is (Ok bytes) gives)) is

-- ---- from a state that both disks stored

module _ {T P : Type 0} (root_disk : DiskModel T) (repo_disk : DiskModel P) where
  -- one line: the state after it, and what each disk went through
  pub record OneFrom (l : CallLine) (s : State) (old new : Moment T P) (end : End) : Type 0 where
    pub next : State
    pub ends : EndsOne l s next old.out new.out end
    pub apart : OneDisk s next
    pub root : Goes root_store root_disk s.root next.root old.at.root new.at.root end
    pub repo : Goes repository_store repo_disk s.repository next.repository old.at.repo new.at.repo end

  -- lines: the states after each that was run, and what each disk lived
  pub record LinesAt (lines : List CallLine) (s : State) (old new : Moment T P) (end : End) : Type 0 where
    pub states : List State
    pub ends : LinesEnd lines s states old.out new.out end
    pub lives : LiveBoth root_disk repo_disk s states old.at.root new.at.root old.at.repo new.at.repo
    pub root_rests : status_of end ≤ 4 → RestsAt root_store root_disk new.at.root (last_state s states).root
    pub repo_rests : status_of end ≤ 4 → RestsAt repository_store repo_disk new.at.repo (last_state s states).repository
    pub root_reads : OneOf root_store (before_last s states).root (last_state s states).root (root_disk.reads new.at.root)
    pub repo_reads : OneOf repository_store (before_last s states).repository (last_state s states).repository (repo_disk.reads new.at.repo)

module _ {T P : Type 0} {root_disk : DiskModel T} {repo_disk : DiskModel P} (root_disk_laws : IsDisk root_disk) (repo_disk_laws : IsDisk repo_disk) (repo_laws : IsStore repository_store) (root_told : IsTrue root_disk.tells) (repo_told : IsTrue repo_disk.tells) where
  -- nothing was done
  nothing_from : (l : CallLine) (s : State) (old new : Moment T P) (end : End) → new ≡ old → StandsFor root_disk repo_disk old.at s → EndsOne l s s old.out new.out end → OneFrom root_disk repo_disk l s old new end
  nothing_from l s old new end same stands ends = record {
    next = s;
    ends = ends;
    apart = inl refl;
    root = goes_read root_laws root_disk_laws old.at.root new.at.root s.root end (subst (λ (m : Moment T P). HasRead root_disk old.at.root m.at.root (Unit {0})) (sym same) (nothing_done root_disk_laws old.at.root)) stands.root;
    repo = goes_read repo_laws repo_disk_laws old.at.repo new.at.repo s.repository end (subst (λ (m : Moment T P). HasRead repo_disk old.at.repo m.at.repo (Unit {0})) (sym same) (nothing_done repo_disk_laws old.at.repo)) stands.repo;
  }

  module _ (l : CallLine) (s : State) (old new : Moment T P) (end : End) (stands : StandsFor root_disk repo_disk old.at s) where
    same_out : new ≡ old → new.out ≡ old.out
    same_out same = ap (λ (m : Moment T P). m.out) same

    words_from : (expected : Result Command Failure) → IsOnly (AreWords l.line.words) expected → RunsOf root_disk repo_disk expected l old new end → OneFrom root_disk repo_disk l s old new end
    words_from (Ok c) are (inl refuses) = nothing_from l s old new end refuses.same stands
        (inl (Ok c, are, (subst (λ (x : End). EndsWriting (LineOutcome (Ok c) l s) s s old.out new.out x) (sym refuses.is) (refused_outcome c l s refuses.refusal refuses.refuses, refl, keeps_still old.out new.out (same_out refuses.same)), λ off. same_out refuses.same)))
    words_from (Ok c) are (inr runs) =
        let f = runs.runs.told root_told repo_told s stands in
        record {
          next = f.next;
          ends = inl (Ok c, are, (ends_more (own_outcome c l s runs.bytes runs.gives) s f.next old.out new.out end f.ends, runs.quiet));
          apart = f.apart;
          root = f.root;
          repo = f.repo;
        }
    words_from (Err e) are h = nothing_from l s old new end h.0 stands (inl (Err e, are, (h.1, refl, same_out h.0)))

    pub one_from : RunsOne root_disk repo_disk l old new end → OneFrom root_disk repo_disk l s old new end
    one_from (inl was) = words_from was.0 was.1 was.2
    one_from (inr none) = nothing_from l s old new end none.same stands (inr (none.is, refl, same_out none.same))

  pub lines_from : (lines : List CallLine) (s : State) (old new : Moment T P) (end : End) → StandsFor root_disk repo_disk old.at s → RunsLines root_disk repo_disk lines old new end → LinesAt root_disk repo_disk lines s old new end
  lines_from [] s old new end stands h = record {
    states = [];
    ends = (refl, ap (λ (m : Moment T P). m.out) h.0, h.1);
    lives = subst (λ (m : Moment T P). LiveStep root_disk repo_disk s s old.at.root m.at.root old.at.repo m.at.repo) (sym h.0) (record {
      on_root = leaves_weaker (λ image rec. inl rec) (rest_lives root_laws root_disk_laws old.at.root old.at.root s.root (nothing_done root_disk_laws old.at.root) stands.root);
      on_repo = leaves_weaker (λ image rec. inl rec) (rest_lives repo_laws repo_disk_laws old.at.repo old.at.repo s.repository (nothing_done repo_disk_laws old.at.repo) stands.repo);
      apart = inl refl;
    });
    root_rests = λ le. subst (λ (m : Moment T P). RestsAt root_store root_disk m.at.root s.root) (sym h.0) stands.root;
    repo_rests = λ le. subst (λ (m : Moment T P). RestsAt repository_store repo_disk m.at.repo s.repository) (sym h.0) stands.repo;
    root_reads = inl (subst (λ (m : Moment T P). Recovers root_store (root_disk.reads m.at.root) s.root) (sym h.0) (rest_reads root_laws old.at.root s.root stands.root));
    repo_reads = inl (subst (λ (m : Moment T P). Recovers repository_store (repo_disk.reads m.at.repo) s.repository) (sym h.0) (rest_reads repo_laws old.at.repo s.repository stands.repo));
  }
  lines_from (l ∷ lines) s old new end stands (inl last) =
      let f = one_from l s old new end stands last.runs in
      record {
        states = f.next ∷ [];
        ends = inl (refl, last.failure, last.is, f.ends);
        lives = record { on_root = f.root.images; on_repo = f.repo.images; apart = f.apart };
        root_rests = f.root.rests;
        repo_rests = f.repo.rests;
        root_reads = f.root.reads;
        repo_reads = f.repo.reads;
      }
  lines_from (l ∷ lines) s old new end stands (inr more) =
      let mid = more.0 in
      let f = one_from l s old mid (Ok tt) stands more.1 in
      let t = lines_from lines f.next mid new end (record { root = f.root.rests (omega arith); repo = f.repo.rests (omega arith) }) more.2 in
      record {
        states = f.next ∷ t.states;
        ends = inr (mid.out, f.ends, t.ends);
        lives = live_first root_disk repo_disk s f.next t.states old.at.root mid.at.root new.at.root old.at.repo mid.at.repo new.at.repo (record { on_root = f.root.images; on_repo = f.repo.images; apart = f.apart }) t.lives;
        root_rests = t.root_rests;
        repo_rests = t.repo_rests;
        root_reads = reads_on root_store (λ (x : State). x.root) s f.next t.states (root_disk.reads new.at.root) t.root_reads;
        repo_reads = reads_on repository_store (λ (x : State). x.repository) s f.next t.states (repo_disk.reads new.at.repo) t.repo_reads;
      }

-- ---- whatever the disks store

module _ {T P : Type 0} (root_disk : DiskModel T) (repo_disk : DiskModel P) where
  -- why it ended so
  abbrev pub MomentCause : Moment T P → Moment T P → End → Type 0
  MomentCause old new (Err failure.InputFault) = ⊥
  MomentCause old new (Err failure.OutputFault) = Rose old.out.faults new.out.faults
  MomentCause old new (Err failure.RootFault) = Rose (root_disk.faults old.at.root) (root_disk.faults new.at.root)
  MomentCause old new (Err failure.RepositoryFault) = Rose (repo_disk.faults old.at.repo) (repo_disk.faults new.at.repo)
  MomentCause old new (Err (failure.Damaged path)) = HasDamage root_disk repo_disk new.at path
  MomentCause old new _ = Unit {0}

  pub record LinesKnown (old new : Moment T P) (end : End) : Type 0 where
    pub root_later : root_disk.faults old.at.root ≤ root_disk.faults new.at.root
    pub repo_later : repo_disk.faults old.at.repo ≤ repo_disk.faults new.at.repo
    pub out_later : old.out.faults ≤ new.out.faults
    pub cause : MomentCause old new end
    pub rest : Rest root_disk repo_disk old.at → status_of end ≤ 4 → Rest root_disk repo_disk new.at
    pub within : IsTrue repo_disk.tells → Confined repo_disk (Among (is_within repository_base)) old.at.repo new.at.repo

module _ {T P : Type 0} (root_disk : DiskModel T) (repo_disk : DiskModel P) where
  line_cause : (old new : Moment T P) (end : End) → LineCause root_disk repo_disk old new end → MomentCause root_disk repo_disk old new end
  line_cause old new (Ok x) h = tt
  line_cause old new (Err failure.OutputFault) h = h
  line_cause old new (Err failure.RootFault) h = h.0
  line_cause old new (Err failure.RepositoryFault) h = h.0
  line_cause old new (Err failure.InputFault) h = h
  line_cause old new (Err failure.Usage) h = tt
  line_cause old new (Err (failure.Refused r)) h = tt
  line_cause old new (Err failure.Memory) h = tt
  line_cause old new (Err (failure.Damaged path)) h = h.0

  answer_cause : (at : Moment T P) (e : Failure) → MustBeTold e → MomentCause root_disk repo_disk at at (Err e)
  answer_cause at failure.Usage is = tt
  answer_cause at (failure.Refused r) is = tt
  answer_cause at failure.InputFault is = absurd is
  answer_cause at failure.OutputFault is = absurd is
  answer_cause at failure.RootFault is = absurd is
  answer_cause at failure.RepositoryFault is = absurd is
  answer_cause at failure.Memory is = tt
  answer_cause at (failure.Damaged path) is = absurd is

module _ {T P : Type 0} {root_disk : DiskModel T} {repo_disk : DiskModel P} (repo_disk_laws : IsDisk repo_disk) where
  nothing_known : (old new : Moment T P) (end : End) → new ≡ old → MomentCause root_disk repo_disk old old end → LinesKnown root_disk repo_disk old new end
  nothing_known old new end same cause = subst (λ (m : Moment T P). LinesKnown root_disk repo_disk old m end) (sym same) (record {
    root_later = omega arith;
    repo_later = omega arith;
    out_later = omega arith;
    cause = cause;
    rest = λ rests le. rests;
    within = λ told. confined_start repo_disk_laws (Among (is_within repository_base)) old.at.repo;
  })

  cause_then : (old mid new : Moment T P) (end : End) → LinesKnown root_disk repo_disk old mid (Ok tt) → MomentCause root_disk repo_disk mid new end → MomentCause root_disk repo_disk old new end
  cause_then old mid new (Err failure.OutputFault) first h = rose_before old.out.faults mid.out.faults new.out.faults first.out_later h
  cause_then old mid new (Err failure.RootFault) first h = rose_before (root_disk.faults old.at.root) (root_disk.faults mid.at.root) (root_disk.faults new.at.root) first.root_later h
  cause_then old mid new (Err failure.RepositoryFault) first h = rose_before (repo_disk.faults old.at.repo) (repo_disk.faults mid.at.repo) (repo_disk.faults new.at.repo) first.repo_later h
  cause_then old mid new (Err failure.InputFault) first h = h
  cause_then old mid new (Err (failure.Damaged path)) first h = h
  cause_then old mid new _ first h = h

  end_known : (old new : Moment T P) (end : End) (e : Failure) → end ≡ Err e → new ≡ old → MomentCause root_disk repo_disk old old (Err e) → LinesKnown root_disk repo_disk old new end
  end_known old new end e is same cause = subst (λ (x : End). LinesKnown root_disk repo_disk old new x) (sym is) (nothing_known old new (Err e) same cause)

  words_known : (l : CallLine) (old new : Moment T P) (end : End) (expected : Result Command Failure) → RunsOf root_disk repo_disk expected l old new end → LinesKnown root_disk repo_disk old new end
  words_known l old new end (Ok c) (inl refuses) = end_known old new end (failure.Refused refuses.refusal) refuses.is refuses.same tt
  words_known l old new end (Ok c) (inr runs) =
      let r = runs.runs in
      record {
        root_later = r.root_later;
        repo_later = r.repo_later;
        out_later = r.out_later;
        cause = line_cause root_disk repo_disk old new end r.cause;
        rest = λ rests le. r.rest le;
        within = r.within;
      }
  words_known l old new end (Err e) h = end_known old new end e h.1 h.0 (answer_cause root_disk repo_disk old e h.2)

  one_known : (l : CallLine) (old new : Moment T P) (end : End) → RunsOne root_disk repo_disk l old new end → LinesKnown root_disk repo_disk old new end
  one_known l old new end (inl was) = words_known l old new end was.0 was.2
  one_known l old new end (inr none) = end_known old new end failure.Memory none.is none.same tt

  pub lines_known : (lines : List CallLine) (old new : Moment T P) (end : End) → RunsLines root_disk repo_disk lines old new end → LinesKnown root_disk repo_disk old new end
  lines_known [] old new end h = subst (λ (x : End). LinesKnown root_disk repo_disk old new x) (sym h.1) (nothing_known old new (Ok tt) h.0 tt)
  lines_known (l ∷ lines) old new end (inl last) = one_known l old new end last.runs
  lines_known (l ∷ lines) old new end (inr more) =
      let mid = more.0 in
      let first = one_known l old mid (Ok tt) more.1 in
      let then = lines_known lines mid new end more.2 in
      record {
        root_later = omega (arith, first.root_later, then.root_later);
        repo_later = omega (arith, first.repo_later, then.repo_later);
        out_later = omega (arith, first.out_later, then.out_later);
        cause = cause_then old mid new end first then.cause;
        rest = λ rests le. then.rest (first.rest rests (omega arith)) le;
        within = λ told. confined_then (first.within told) (then.within told);
      }

-- ---- a loop over lines, by what is still to be run

module _ {T P : Type 0} (root_disk : DiskModel T) (repo_disk : DiskModel P) where
  -- what is still to be run, run from here, gives the whole
  abbrev pub GoesOn : List CallLine → List CallLine → Moment T P → Moment T P → Type 0
  GoesOn lines left old mid = (new : Moment T P) (end : End) → RunsLines root_disk repo_disk left mid new end → RunsLines root_disk repo_disk lines old new end

module _ {T P : Type 0} (root_disk : DiskModel T) (repo_disk : DiskModel P) (lines left rest : List CallLine) (l : CallLine) (is : left ≡ l ∷ rest) (old mid : Moment T P) (so_far : GoesOn root_disk repo_disk lines left old mid) where
  -- the next line ends the call
  pub stops_at : (new : Moment T P) (e : Failure) → RunsOne root_disk repo_disk l mid new (Err e) → RunsLines root_disk repo_disk lines old new (Err e)
  stops_at new e run = so_far new (Err e) (subst (λ (ls : List CallLine). RunsLines root_disk repo_disk ls mid new (Err e)) (sym is) (inl (record { failure = e; is = refl; runs = run })))

  -- memory ran out before it
  pub unmade_at : RunsLines root_disk repo_disk lines old mid (Err failure.Memory)
  unmade_at = stops_at mid failure.Memory (inr (record { same = refl; is = refl }))

  -- it ended in status 0
  pub goes_past : (next : Moment T P) → RunsOne root_disk repo_disk l mid next (Ok tt) → GoesOn root_disk repo_disk lines rest old next
  goes_past next run new end then = so_far new end (subst (λ (ls : List CallLine). RunsLines root_disk repo_disk ls mid new end) (sym is) (inr (next, run, then)))

-- none is left
pub all_run : {T P : Type 0} (root_disk : DiskModel T) (repo_disk : DiskModel P) (lines left : List CallLine) → left ≡ [] → (old mid : Moment T P) → GoesOn root_disk repo_disk lines left old mid → RunsLines root_disk repo_disk lines old mid (Ok tt)
all_run root_disk repo_disk lines left none old mid so_far = so_far mid (Ok tt) (subst (λ (ls : List CallLine). RunsLines root_disk repo_disk ls mid mid (Ok tt)) (sym none) (refl, refl))

-- after a line in status 0 a further one may begin
pub ready_after : {T P : Type 0} {root_disk : DiskModel T} {repo_disk : DiskModel P} (l : CallLine) (old new : Moment T P) → RunsOne root_disk repo_disk l old new (Ok tt) → AreReady root_disk repo_disk new.at
ready_after {root_disk = root_disk} {repo_disk = repo_disk} l old new (inl was) = ready_of was.0 was.2
  where
    ready_of : (expected : Result Command Failure) → RunsOf root_disk repo_disk expected l old new (Ok tt) → AreReady root_disk repo_disk new.at
    ready_of (Ok c) (inl refuses) = absurd (cc refuses.is)
    ready_of (Ok c) (inr runs) = runs.again refl
    ready_of (Err e) h = absurd (cc h.1)
ready_after l old new (inr none) = absurd (cc none.is)
