-- Lines that were run over two disks are lines that count.
use Rattle.std.proofs.Common.{◌≡◌, ◌⊎◌, inl, inr, ⊎_elim, ℕ, Bool, zero, suc, List, [], ◌∷◌, ◌++◌, length, Contains, Option, Some, None, Result, Ok, Err, refl, sym, ap, ◌∙◌, subst, append-nil, arith}
use Rattle.std.specs.Prelude.{IsTrue}
use Rattle.std.specs.Io.KnownBytes.{Appends, Keeps}
use Rattle.cny_base.specs.Flow.{SinkState}
use Rattle.cny_base.proofs.FlowParts.{appends_more}
use Rattle.conary_cli.specs.cli-call.cny-base.declared.refusal.Refusal.{Refusal}
use Rattle.conary_cli.specs.cli-call.tree-disk.Tree.{Tree}
use Rattle.conary_cli.specs.cli-call.tree-disk.Disk.{DiskModel, IsDisk, IsImageOf}
use Rattle.conary_cli.specs.cli-call.Command.{disks, AreReady, StandsFor}
use Rattle.conary_cli.specs.cli-call.Line.{EndsWriting, Moment}
use Rattle.conary_cli.specs.cli-call.Runs.{after_opening}
use Rattle.conary_cli.specs.cli-call.cny-laws.declared.failure.Failure.{Failure}
use Rattle.conary_cli.specs.cli-call.cny-laws.declared.failure.Failure.TheVariants as failure
use Rattle.conary_cli.specs.cli-call.cny-laws.Call.{CallState}
use Rattle.conary_cli.specs.cli-call.cny-laws.Report.{End}
use Rattle.conary_cli.specs.cli-call.cny-laws.State.{tree_of, IsNext, State, Takes, Then}
use Rattle.conary_cli.specs.cli-call.cny-laws.Store.{IsStore}
use Rattle.conary_cli.specs.cli-call.cny-laws.Stores.{repository_store}
use Rattle.conary_cli.specs.cli-call.cny-laws.WholeCall.{OwnOutcome, RecoversBoth}
use Rattle.conary_cli.specs.cli-call.system-core.FixedDirs.{fixed_dirs}
use Rattle.conary_cli.proofs.cli-call.CallLaws.{opened_ready}
use Rattle.conary_cli.proofs.cli-call.LineLaws.{keeps_still}
use Rattle.conary_cli.proofs.cli-call.RootLaws.{opened_root_rests, root_laws, state_dirs}
use Rattle.conary_cli.proofs.cli-call.StoreLaws.{opened_rests, rest_image, rest_reads}
use Rattle.conary_cli.proofs.cli-call.cny-laws.EditedSystems.{the_system}
use Rattle.conary_cli.specs.cli-words.declared.words.Command.{Command}
use Rattle.conary_cli.specs.Commands.{meaning}
use Rattle.conary_cli.specs.Lines.{shown_as, CallLine, EndsOne, LineEnds, LineOutcome, RunsLines, RunsOf, RunsOne}
use Rattle.conary_cli.specs.Lives.{last_state}
use Rattle.conary_cli.specs.Several.{LinesWereRun, Making}
use Rattle.conary_cli.specs.cli-words.Words.{AreWords, IsOnly}
use Rattle.conary_cli.proofs.LinesRun.{one_from}
use Rattle.change_rel.proofs.cny-base.Lists.{contains_cases, contains_first, nothing_in}
use Rattle.outcome_laws.specs.OneOutcome.{IsState}
use Rattle.outcome_laws.specs.Machine.{first_then, none_run, Answer, Answers, AnswersLine, AnswersLines}
use Rattle.outcome_laws.specs.Cuts.{WriteLines}
use Rattle.outcome_laws.specs.Histories.{AfterLines}
use Rattle.outcome_laws.specs.Images.{CrashesAfter, CrashesTo, RecoversAfter, RecoversIn}
use Rattle.outcome_laws.proofs.CrashLeft.{step_left}

-- ---- what was written

pub kept_appends : (a b : Option (List ℕ)) → Keeps a b → Appends a b []
kept_appends None b h = tt
kept_appends (Some x) None h = absurd h
kept_appends (Some x) (Some y) h = h ∙ sym (append-nil x)

still_appends : (before now : SinkState) → now ≡ before → Appends before.written now.written []
still_appends before now same = kept_appends before.written now.written (keeps_still before now same)

-- after a fault of a disk or want of memory just this was written; after one of the output nothing is said
abbrev pub WritesTo : End → SinkState → SinkState → List ℕ → Type 0
WritesTo (Err failure.OutputFault) before now out = Unit {0}
WritesTo (Err failure.RootFault) before now out = Appends before.written now.written out
WritesTo (Err failure.RepositoryFault) before now out = Appends before.written now.written out
WritesTo (Err failure.Memory) before now out = Appends before.written now.written out
WritesTo _ before now out = ⊥

module _ (before mid now : SinkState) (front out : List ℕ) (first : Appends before.written mid.written front) where
  writes_more : (end : End) → WritesTo end mid now out → WritesTo end before now (front ++ out)
  writes_more (Err failure.OutputFault) h = tt
  writes_more (Err failure.RootFault) h = appends_more before.written mid.written now.written front out first h
  writes_more (Err failure.RepositoryFault) h = appends_more before.written mid.written now.written front out first h
  writes_more (Err failure.Memory) h = appends_more before.written mid.written now.written front out first h
  writes_more (Ok x) h = absurd h
  writes_more (Err (failure.Refused r)) h = absurd h
  writes_more (Err failure.Usage) h = absurd h
  writes_more (Err failure.InputFault) h = absurd h
  writes_more (Err (failure.Damaged path)) h = absurd h

-- ---- the machine's answer

-- The machine answers so to the lines from this state: they end so and lead to this state, and just this was written.
pub record LinesAnswered (lines : List CallLine) (s last : State) (before now : SinkState) (out : List ℕ) (end : End) : Type 0 where
  pub all : Answers
  pub answers : AnswersLines lines s all
  pub ended : all.end ≡ end
  pub out_is : all.out ≡ out
  pub leads : last ≡ last_state s all.states
  pub appends : Appends before.written now.written out

-- not done
abbrev undone_with : State → End → Answer
undone_with s end = record { next = s; out = []; end = end }

-- ---- one line, by its outcome

-- done, with these bytes
abbrev done_with : State → List ℕ → Answer
done_with next out = record { next = next; out = out; end = Ok tt }

module _ (l : CallLine) (s next : State) (dirs : fixed_dirs (tree_of s.root) ≡ Ok tt) where
  takes_line : (c : Command) → IsOnly (AreWords l.line.words) (Ok c) → {Bytes : List ℕ → Type 0} → Takes (LineOutcome (Ok c) l s) s next Bytes → IsState next → (out : List ℕ) × AnswersLine l s (done_with next out) × Bytes out
  takes_line c are takes state = (
    takes.effect.out,
    record {
      expected = Ok c;
      are = are.is;
      is = (
        Ok takes.effect,
        subst (λ (test : Result (Unit {0}) Refusal). Then test (λ _. OwnOutcome (shown_as l.shown (meaning c)) s l.line.input) (Ok takes.effect)) (sym dirs) takes.is,
        λ i. record { next = takes.leads i; out = takes.effect.out; end = Ok tt },
      );
      keeps = state;
    },
    takes.bytes,
  )

  done_by : (expected : Result Command Failure) → IsOnly (AreWords l.line.words) expected → (out out' : SinkState) → LineEnds expected l s next out out' (Ok tt) → IsState next → (bytes : List ℕ) × AnswersLine l s (done_with next bytes) × Appends out.written out'.written bytes
  done_by (Ok c) are out out' h state = takes_line c are h.0 state
  done_by (Err e) are out out' h state = absurd (cc h.0)

  line_done : (out out' : SinkState) → EndsOne l s next out out' (Ok tt) → IsState next → (bytes : List ℕ) × AnswersLine l s (done_with next bytes) × Appends out.written out'.written bytes
  line_done out out' (inl h) state = done_by h.0 h.1 out out' h.2 state
  line_done out out' (inr h) state = absurd (cc h.0)

  -- the state before the line, or after it, where that keeps the rules
  abbrev OneMore : List CallLine → Type 0
  OneMore lines = (next ≡ s) ⊎ (IsState next → AfterLines (suc zero) (l ∷ lines) s next)

  taken : (lines : List CallLine) (c : Command) → IsOnly (AreWords l.line.words) (Ok c) → {Bytes : List ℕ → Type 0} → Takes (LineOutcome (Ok c) l s) s next Bytes → OneMore lines
  taken lines c are takes = inr (λ state. let d = takes_line c are takes state in (done_with next d.0, d.1, refl, refl))

  next_by : (lines : List CallLine) (c : Command) → IsOnly (AreWords l.line.words) (Ok c) → IsNext (LineOutcome (Ok c) l s) s next → OneMore lines
  next_by lines c are (inl same) = inl same
  next_by lines c are (inr takes) = taken lines c are takes

  ended_by : (lines : List CallLine) (c : Command) → IsOnly (AreWords l.line.words) (Ok c) → (out out' : SinkState) (end : End) → EndsWriting (LineOutcome (Ok c) l s) s next out out' end → OneMore lines
  ended_by lines c are out out' (Ok x) h = taken lines c are h
  ended_by lines c are out out' (Err (failure.Refused r)) h = inl h.1
  ended_by lines c are out out' (Err failure.OutputFault) h = taken lines c are h
  ended_by lines c are out out' (Err failure.RootFault) h = next_by lines c are h.0
  ended_by lines c are out out' (Err failure.RepositoryFault) h = next_by lines c are h.0
  ended_by lines c are out out' (Err failure.Memory) h = next_by lines c are h.0
  ended_by lines c are out out' (Err failure.Usage) h = absurd h
  ended_by lines c are out out' (Err failure.InputFault) h = absurd h
  ended_by lines c are out out' (Err (failure.Damaged path)) h = absurd h

  words_ended : (lines : List CallLine) (expected : Result Command Failure) → IsOnly (AreWords l.line.words) expected → (out out' : SinkState) (end : End) → LineEnds expected l s next out out' end → OneMore lines
  words_ended lines (Ok c) are out out' end h = ended_by lines c are out out' end h.0
  words_ended lines (Err e) are out out' end h = inl h.1

  line_ended : (lines : List CallLine) (out out' : SinkState) (end : End) → EndsOne l s next out out' end → OneMore lines
  line_ended lines out out' end (inl h) = words_ended lines h.0 h.1 out out' end h.2
  line_ended lines out out' end (inr h) = inl h.1

  -- it isn't done: as the machine has it
  refused_line : (c : Command) → IsOnly (AreWords l.line.words) (Ok c) → (r : Refusal) → LineOutcome (Ok c) l s (Err r) → IsState s → AnswersLine l s (undone_with s (Err (failure.Refused r)))
  refused_line c are r is state = record {
    expected = Ok c;
    are = are.is;
    is = (
      Err r,
      subst (λ (test : Result (Unit {0}) Refusal). Then test (λ _. OwnOutcome (shown_as l.shown (meaning c)) s l.line.input) (Err r)) (sym dirs) is,
      refl,
    );
    keeps = state;
  }

  none_line : (e : Failure) → IsOnly (AreWords l.line.words) (Err e) → IsState s → AnswersLine l s (undone_with s (Err e))
  none_line e are state = record { expected = Err e; are = are.is; is = refl; keeps = state }

  -- or for a fault or want of memory
  abbrev StopsSo : SinkState → SinkState → End → Type 0
  StopsSo out out' end = (AnswersLine l s (undone_with s end) × (next ≡ s) × Appends out.written out'.written []) ⊎ WritesTo end out out' []

  stops_by : (c : Command) → IsOnly (AreWords l.line.words) (Ok c) → IsState s → (out out' : SinkState) (end : End) → (end ≡ Ok tt → ⊥) → EndsWriting (LineOutcome (Ok c) l s) s next out out' end → StopsSo out out' end
  stops_by c are state out out' (Ok x) some h = absurd (some refl)
  stops_by c are state out out' (Err (failure.Refused r)) some h = inl (refused_line c are r h.0 state, h.1, kept_appends out.written out'.written h.2)
  stops_by c are state out out' (Err failure.OutputFault) some h = inr tt
  stops_by c are state out out' (Err failure.RootFault) some h = inr (kept_appends out.written out'.written h.1)
  stops_by c are state out out' (Err failure.RepositoryFault) some h = inr (kept_appends out.written out'.written h.1)
  stops_by c are state out out' (Err failure.Memory) some h = inr (kept_appends out.written out'.written h.1)
  stops_by c are state out out' (Err failure.Usage) some h = absurd h
  stops_by c are state out out' (Err failure.InputFault) some h = absurd h
  stops_by c are state out out' (Err (failure.Damaged path)) some h = absurd h

  words_stop : (expected : Result Command Failure) → IsOnly (AreWords l.line.words) expected → IsState s → (out out' : SinkState) (end : End) → (end ≡ Ok tt → ⊥) → LineEnds expected l s next out out' end → StopsSo out out' end
  words_stop (Ok c) are state out out' end some h = stops_by c are state out out' end some h.0
  words_stop (Err e) are state out out' end some h =
      inl (subst (λ (x : End). AnswersLine l s (undone_with s x)) (sym h.0) (none_line e are state), h.1, still_appends out out' h.2)

  line_stops : IsState s → (out out' : SinkState) (end : End) → (end ≡ Ok tt → ⊥) → EndsOne l s next out out' end → StopsSo out out' end
  line_stops state out out' end some (inl h) = words_stop h.0 h.1 state out out' end some h.2
  line_stops state out out' end some (inr h) = inr (subst (λ (x : End). WritesTo x out out' []) (sym h.0) (still_appends out out' h.2))

-- a line that is done comes before the others
first_further : (l : CallLine) (lines : List CallLine) (s next before last : State) (count : ℕ) (bytes : List ℕ) → AnswersLine l s (done_with next bytes) → (last ≡ before) ⊎ (IsState last → AfterLines count lines next last)
    → (last ≡ before) ⊎ (IsState last → AfterLines (suc count) (l ∷ lines) s last)
first_further l lines s next before last count bytes line (inl same) = inl same
first_further l lines s next before last count bytes line (inr one) = inr (λ state. (done_with next bytes, line, refl, one state))

-- Lines from a state: so many lead to the one state and write this, and one more leads to the other state, or it is the same. The machine
-- answers so; or a fault or want of memory ended them.
pub record LinesCount {T P : Type 0} (root_disk : DiskModel T) (repo_disk : DiskModel P) (lines : List CallLine) (s : State) (out : SinkState) (new : Moment T P) (end : End) : Type 0 where
  pub count : ℕ
  pub before : State
  pub last : State
  pub counted : AfterLines count lines s before
  pub further : (last ≡ before) ⊎ (IsState last → AfterLines (suc count) lines s last)
  pub crashes : CrashesTo root_disk repo_disk (Contains (before ∷ last ∷ [])) new.at.root new.at.repo
  pub whole : end ≡ Ok tt → AfterLines (length lines) lines s last × StandsFor root_disk repo_disk new.at last
  pub outs : List ℕ
  pub wrote : WriteLines count lines s before outs
  pub told : (LinesAnswered lines s before out new.out outs end × (last ≡ before)) ⊎ WritesTo end out new.out outs

-- ---- one line, on two disks

module _ {T P : Type 0} {root_disk : DiskModel T} {repo_disk : DiskModel P} (root_disk_laws : IsDisk root_disk) (repo_disk_laws : IsDisk repo_disk) (repo_laws : IsStore repository_store) (root_told : IsTrue root_disk.tells) (repo_told : IsTrue repo_disk.tells) where
  -- what both disks store keeps the rules
  stands_state : (m : Moment T P) (s : State) → StandsFor root_disk repo_disk m.at s → IsState s
  stands_state m s stands = record { root = the_system (root_disk.reads m.at.root) s.root stands.root.stored; repository = stands.repo.stored.repository }

  stands_dirs : (m : Moment T P) (s : State) → AreReady root_disk repo_disk m.at → StandsFor root_disk repo_disk m.at s → fixed_dirs (tree_of s.root) ≡ Ok tt
  stands_dirs m s ready stands = state_dirs (root_disk.reads m.at.root) s.root (root_disk_laws.reads_well_formed m.at.root) (rest_reads root_laws m.at.root s.root stands.root) ∙ (ready.root root_told).fixed

  words_ready : (l : CallLine) (old new : Moment T P) (expected : Result Command Failure) → RunsOf root_disk repo_disk expected l old new (Ok tt) → AreReady root_disk repo_disk new.at
  words_ready l old new (Ok c) (inl refuses) = absurd (cc refuses.is)
  words_ready l old new (Ok c) (inr runs) = runs.again refl
  words_ready l old new (Err e) h = absurd (cc h.1)

  ready_after : (l : CallLine) (old new : Moment T P) → RunsOne root_disk repo_disk l old new (Ok tt) → AreReady root_disk repo_disk new.at
  ready_after l old new (inl was) = words_ready l old new was.0 was.2
  ready_after l old new (inr none) = absurd (cc none.is)

  -- ---- lines

  stands_left : (m : Moment T P) (s t : State) → StandsFor root_disk repo_disk m.at s → CrashesTo root_disk repo_disk (Contains (s ∷ t ∷ [])) m.at.root m.at.repo
  stands_left m s t stands image far is is_far = record {
    state = s;
    among = contains_first s (t ∷ []);
    root = rest_image root_laws m.at.root s.root stands.root image is;
    repo = rest_image repo_laws m.at.repo s.repository stands.repo far is_far;
  }

  lines_count : (lines : List CallLine) (s : State) (old new : Moment T P) (end : End) → AreReady root_disk repo_disk old.at → StandsFor root_disk repo_disk old.at s → RunsLines root_disk repo_disk lines old new end → LinesCount root_disk repo_disk lines s old.out new end
  lines_count [] s old new end ready stands h =
      let still = subst (λ (m : Moment T P). StandsFor root_disk repo_disk m.at s) (sym h.0) stands in
      record {
        count = zero;
        before = s;
        last = s;
        counted = refl;
        further = inl refl;
        crashes = stands_left new s s still;
        whole = λ ok. (refl, still);
        outs = [];
        wrote = (refl, refl);
        told = inl (
          record {
            all = none_run (Ok tt);
            answers = refl;
            ended = sym h.1;
            out_is = refl;
            leads = refl;
            appends = still_appends old.out new.out (ap (λ (m : Moment T P). m.out) h.0);
          },
          refl,
        );
      }
  lines_count (l ∷ lines) s old new end ready stands (inl stop) =
      let f = one_from root_disk_laws repo_disk_laws repo_laws root_told repo_told l s old new end stands stop.runs in
      record {
        count = zero;
        before = s;
        last = f.next;
        counted = refl;
        further = line_ended l s f.next (stands_dirs old s ready stands) lines old.out new.out end f.ends;
        crashes = step_left root_disk_laws repo_disk_laws s f.next old.at.root new.at.root old.at.repo new.at.repo (record { on_root = f.root.images; on_repo = f.repo.images; apart = f.apart });
        whole = λ ok. absurd (cc (sym stop.is ∙ ok));
        outs = [];
        wrote = (refl, refl);
        told = ⊎_elim
            (λ a. inl (
              record {
                all = first_then (undone_with s end) (none_run end);
                answers = (undone_with s end, a.0, inl (stop.failure, stop.is, refl));
                ended = refl;
                out_is = refl;
                leads = refl;
                appends = a.2;
              },
              a.1,
            ))
            (λ w. inr w)
            (line_stops l s f.next (stands_dirs old s ready stands) (stands_state old s stands) old.out new.out end (λ ok. absurd (cc (sym stop.is ∙ ok))) f.ends);
      }
  lines_count (l ∷ lines) s old new end ready stands (inr more) =
      let mid = more.0 in
      let f = one_from root_disk_laws repo_disk_laws repo_laws root_told repo_told l s old mid (Ok tt) stands more.1 in
      let there : StandsFor root_disk repo_disk mid.at f.next = record { root = f.root.rests (omega arith); repo = f.repo.rests (omega arith) } in
      let d = line_done l s f.next (stands_dirs old s ready stands) old.out mid.out f.ends (stands_state mid f.next there) in
      let t = lines_count lines f.next mid new end (ready_after l old mid more.1) there more.2 in
      record {
        count = suc t.count;
        before = t.before;
        last = t.last;
        counted = (done_with f.next d.0, d.1, refl, t.counted);
        further = first_further l lines s f.next t.before t.last (suc t.count) d.0 d.1 t.further;
        crashes = t.crashes;
        whole = λ ok. let w = t.whole ok in ((done_with f.next d.0, d.1, refl, w.0), w.1);
        outs = d.0 ++ t.outs;
        wrote = (done_with f.next d.0, d.1, refl, t.outs, t.wrote, refl);
        told = ⊎_elim
            (λ a. inl (
              record {
                all = first_then (done_with f.next d.0) a.0.all;
                answers = (done_with f.next d.0, d.1, inr (a.0.all, refl, a.0.answers, refl));
                ended = a.0.ended;
                out_is = ap (λ (o : List ℕ). d.0 ++ o) a.0.out_is;
                leads = a.0.leads;
                appends = appends_more old.out.written mid.out.written new.out.written d.0 t.outs d.2 a.0.appends;
              },
              a.1,
            ))
            (λ w. inr (writes_more old.out mid.out new.out d.0 t.outs d.2 end w))
            t.told;
      }

  -- ---- what a crash leaves

  module _ (lines : List CallLine) (s : State) (new : Moment T P) (end : End) (out : SinkState) (h : LinesCount root_disk repo_disk lines s out new end) where
    recovered_state : (Is : State → Type 0) (image far : Tree) (c : RecoversIn Is image far) → IsState c.state
    recovered_state Is image far c = record { root = the_system c.root.tree c.state.root c.root.stored; repository = c.repo.stored.repository }

    at_count : (count : ℕ) (t : State) (image far : Tree) (c : RecoversIn (Contains (h.before ∷ h.last ∷ [])) image far) → t ≡ c.state → AfterLines count lines s t → RecoversAfter lines s count image far
    at_count count t image far c same counted = record { state = c.state; after = subst (λ (x : State). AfterLines count lines s x) same counted; root = c.root; repo = c.repo }

    at_last : (image far : Tree) (c : RecoversIn (Contains (h.before ∷ h.last ∷ [])) image far) → h.last ≡ c.state → RecoversAfter lines s h.count image far ⊎ RecoversAfter lines s (suc h.count) image far
    at_last image far c same = ⊎_elim
        (λ still. inl (at_count h.count h.before image far c (sym still ∙ same) h.counted))
        (λ one. inr (at_count (suc h.count) h.last image far c same (one (subst IsState (sym same) (recovered_state (Contains (h.before ∷ h.last ∷ [])) image far c)))))
        h.further

    crash_each : (image far : Tree) → IsImageOf root_disk new.at.root image → IsImageOf repo_disk new.at.repo far → RecoversAfter lines s h.count image far ⊎ RecoversAfter lines s (suc h.count) image far
    crash_each image far is is_far = by (h.crashes image far is is_far)
      where
        by : RecoversIn (Contains (h.before ∷ h.last ∷ [])) image far → RecoversAfter lines s h.count image far ⊎ RecoversAfter lines s (suc h.count) image far
        by c = ⊎_elim
            (λ first. inl (at_count h.count h.before image far c first h.counted))
            (λ later. ⊎_elim (λ second. at_last image far c second) (λ none. absurd (nothing_in c.state none)) (contains_cases h.last c.state [] later))
            (contains_cases h.before c.state (h.last ∷ []) c.among)

    crash_all : end ≡ Ok tt → (image far : Tree) → IsImageOf root_disk new.at.root image → IsImageOf repo_disk new.at.repo far → RecoversAfter lines s (length lines) image far
    crash_all ok image far is is_far =
        let w = h.whole ok in
        record {
          state = h.last;
          after = w.0;
          root = rest_image root_laws new.at.root h.last.root w.1.root image is;
          repo = rest_image repo_laws new.at.repo h.last.repository w.1.repo far is_far;
        }

  pub run_lines : (takes : Bool) (AreLines : Making) (before now : CallState T P) (err err' : SinkState) (status : ℕ) (run : LinesWereRun root_disk repo_disk takes AreLines before now err err' status) (s : State) → RecoversBoth root_disk repo_disk before s
      → LinesCount root_disk repo_disk run.lines s before.out (record { at = disks now.root now.repo run.last; out = now.out }) run.end
  run_lines takes AreLines before now err err' status run s both =
      let begun = after_opening root_disk repo_disk before run.root run.repo run.opened in
      let ended : Moment T P = record { at = disks now.root now.repo run.last; out = now.out } in
      let ready = opened_ready root_disk_laws before.root run.root before.repo run.repo run.opened run.opens in
      let root_rests = opened_root_rests before.root run.root run.opened.db s.root (run.opens.opens_root.opened root_told) both.root in
      let repo_rests = opened_rests repo_laws before.repo run.repo run.opened.catalogue s.repository (run.opens.opens.opened repo_told) both.repo in
      lines_count run.lines s begun ended run.end ready (record { root = root_rests; repo = repo_rests }) run.runs

  pub run_counted : (takes : Bool) (AreLines : Making) (before now : CallState T P) (err err' : SinkState) (status : ℕ) (run : LinesWereRun root_disk repo_disk takes AreLines before now err err' status) (s : State) → RecoversBoth root_disk repo_disk before s
      → CrashesAfter root_disk repo_disk run.lines s run.end now.root now.repo
  run_counted takes AreLines before now err err' status run s both =
      let h = run_lines takes AreLines before now err err' status run s both in
      let ended : Moment T P = record { at = disks now.root now.repo run.last; out = now.out } in
      record { count = h.count; each = crash_each run.lines s ended run.end before.out h; all = crash_all run.lines s ended run.end before.out h }
