-- The clause of a command's own function, where it only reads the disks.
use Rattle.std.proofs.Common.{◌≡◌, ◌≤◌, ℕ, List, Result, Ok, Err, refl, sym, ap, subst, inl, inr, arith}
use Rattle.std.specs.Prelude.{IsTrue}
use Rattle.std.specs.FinMap.{get}
use Rattle.cny_laws.specs.system-core.cny-base.declared.refusal.Refusal.{Refusal}
use Rattle.cny_laws.specs.system-core.tree-disk.Tree.{Tree}
use Rattle.cny_laws.specs.system-core.tree-disk.Disk.{DiskModel, IsDisk, HasRead, Reads}
use Rattle.cny_laws.specs.system-core.tree-disk.Clear.{is_within}
use Rattle.cny_laws.specs.system-core.tree-disk.Confined.{Among}
use Rattle.cny_laws.proofs.system-core.tree-disk.ConfinedLaws.{confined_read, leaves_weaker}
use Rattle.cny_laws.proofs.system-core.tree-disk.Laws.{same_tree}
use Rattle.cny_laws.specs.system-core.tree-disk.Steps.{no_name}
use Rattle.cny_laws.specs.system-core.tree-disk.Unfailed.{UnlessFailed}
use Rattle.cny_laws.proofs.system-core.tree-disk.Unfailed.{unfailed_confined, unfailed_weaker}
use Rattle.repo_load.specs.Files.{repository_base}
use Rattle.cny_laws.specs.declared.failure.Failure.{Failure}
use Rattle.cny_laws.specs.declared.failure.Failure.TheVariants as failure
use Rattle.cli_call.specs.Alone.{ActsOnRepository}
use Rattle.cli_call.specs.Command.{Disks, AreReady, Rest, ReadsSame, StandsFor, HasFailureCause, Goes, AnswersAs, Performs, PerformsFrom, end_of}
use Rattle.cny_laws.specs.Shown.{IsShown}
use Rattle.cny_laws.specs.Report.{End}
use Rattle.cny_laws.specs.State.{State, nothing, Effect, IsNext, Meaning, Takes}
use Rattle.cny_laws.specs.Store.{Store, IsStore, RestsAt}
use Rattle.cny_laws.specs.Stores.{root_store, repository_store}
use Rattle.cli_call.proofs.StoreLaws.{nothing_done, read_settled, rest_lives, rest_read_on, rest_reads}

-- a call that only reads shows one tree
pub read_shown : {D : Type 0} {disk : DiskModel D} → IsDisk disk → {old new : D} {Answer : Type 0} → HasRead disk old new Answer → UnlessFailed disk old new (λ t. t ≡ disk.reads old)
read_shown {disk = disk} laws {old = old} read = unfailed_confined (confined_read laws (Among no_name) read) (λ t agrees. same_tree t (disk.reads old) (λ p. agrees p (λ among. absurd cc)))

-- the same of one disk under other names
pub read_at : {D : Type 0} {disk : DiskModel D} (a b c d : D) → a ≡ b → c ≡ d → Reads disk a c (Unit {0}) → Reads disk b d (Unit {0})
read_at {D = D} {disk = disk} a b c d before after read = subst (λ (x : D). Reads disk x d (Unit {0})) before (subst (λ (x : D). Reads disk a x (Unit {0})) after read)

-- the same of a disk that was lent: it is given back by its name, as what it became
pub read_lent : {D N : Type 0} {disk : DiskModel D} (lent now : D) {old new : D} {first last : N} → lent ≡ old → last ≡ first → (first ≡ last → new ≡ now) → Reads disk lent now (Unit {0}) → Reads disk old new (Unit {0})
read_lent lent now {old = old} {new = new} before same back read = read_at lent old now new before (sym (back (sym same))) read

-- while a disk is only read, it stays at its state
pub goes_read : {D X : Type 0} {store : Store X} → IsStore store → {disk : DiskModel D} → IsDisk disk → (old new : D) (x : X) (end : End) → HasRead disk old new (Unit {0}) → RestsAt store disk old x → Goes store disk x x old new end
goes_read laws disk_laws old new x end read rests = record {
  images = leaves_weaker (λ image h. inl h) (rest_lives laws disk_laws old new x read rests);
  rests = λ le. rest_read_on laws old new x read rests;
  reads = inl (rest_reads laws new x (rest_read_on laws old new x read rests));
}

module _ {T P : Type 0} (root_disk : DiskModel T) (repo_disk : DiskModel P) where
  -- what a command that only reads answers from a state that the disks store
  abbrev pub AnswersReading : Meaning → List ℕ → Disks T P → Result (List ℕ) Failure → Type 0
  AnswersReading m input old (Ok text) = IsTrue root_disk.tells → IsTrue repo_disk.tells → (s : State) → StandsFor root_disk repo_disk old s → m.IsOutcome s input (Ok (record { change = nothing; out = text }))
  AnswersReading m input old (Err (failure.Refused r)) = IsTrue root_disk.tells → IsTrue repo_disk.tells → (s : State) → StandsFor root_disk repo_disk old s → m.IsOutcome s input (Err r)
  AnswersReading m input old (Err (failure.Damaged path)) = IsTrue root_disk.tells → IsTrue repo_disk.tells → (s : State) → StandsFor root_disk repo_disk old s → ⊥
  AnswersReading m input old (Err failure.RootFault) = Unit {0}
  AnswersReading m input old (Err failure.RepositoryFault) = Unit {0}
  AnswersReading m input old (Err failure.Memory) = Unit {0}
  AnswersReading m input old _ = ⊥

  -- both disks were only read
  pub record AreRead (old new : Disks T P) : Type 0 where
    pub root_later : root_disk.faults old.root ≤ root_disk.faults new.root
    pub repo_later : repo_disk.faults old.repo ≤ repo_disk.faults new.repo
    pub root : IsTrue root_disk.tells → HasRead root_disk old.root new.root (Unit {0})
    pub repo : IsTrue repo_disk.tells → HasRead repo_disk old.repo new.repo (Unit {0})

module _ {T P : Type 0} {root_disk : DiskModel T} {repo_disk : DiskModel P} (root_laws : IsDisk root_disk) (repo_laws : IsDisk repo_disk) where
  -- nothing was done on them
  pub none_read : (old new : Disks T P) → new.root ≡ old.root → new.repo ≡ old.repo → AreRead root_disk repo_disk old new
  none_read old new same_root same_repo = record {
    root_later = omega (arith, ap root_disk.faults same_root);
    repo_later = omega (arith, ap repo_disk.faults same_repo);
    root = λ told. subst (λ (d : T). HasRead root_disk old.root d (Unit {0})) (sym same_root) (nothing_done root_laws old.root);
    repo = λ told. subst (λ (d : P). HasRead repo_disk old.repo d (Unit {0})) (sym same_repo) (nothing_done repo_laws old.repo);
  }

  module _ (root_store_laws : IsStore root_store) (repo_store_laws : IsStore repository_store) (m : Meaning) (input : List ℕ) (old new : Disks T P) (ready : AreReady root_disk repo_disk old) (read : AreRead root_disk repo_disk old new) where
    rest_on : Rest root_disk repo_disk new
    rest_on = record {
      root = λ told. read_settled (read.root told) (ready.root told).flag_clear (ready.root told).synced;
      repo = λ told. read_settled (read.repo told) (ready.repo told).settled.flag_clear (ready.repo told).settled.synced;
    }

    same_on : ReadsSame root_disk repo_disk old new
    same_on = record { root = λ told. (read.root told).same.reads; repo = λ told. (read.repo told).same.reads }

    answers_reading : (s : State) → IsTrue root_disk.tells → IsTrue repo_disk.tells → StandsFor root_disk repo_disk old s → (result : Result (List ℕ) Failure) → AnswersReading root_disk repo_disk m input old result → AnswersAs (m.IsOutcome s input) s s result
    answers_reading s root repo stands (Ok text) h = record { effect = record { change = nothing; out = text }; is = h root repo s stands; leads = refl; bytes = refl }
    answers_reading s root repo stands (Err (failure.Refused r)) h = (h root repo s stands, refl)
    answers_reading s root repo stands (Err (failure.Damaged path)) h = absurd (h root repo s stands)
    answers_reading s root repo stands (Err failure.RootFault) h = inl refl
    answers_reading s root repo stands (Err failure.RepositoryFault) h = inl refl
    answers_reading s root repo stands (Err failure.Memory) h = inl refl
    answers_reading s root repo stands _ h = absurd h

    pub performs_reading : (result : Result (List ℕ) Failure) → HasFailureCause root_disk repo_disk old new result → AnswersReading root_disk repo_disk m input old result → Performs root_disk repo_disk m input old new result
    performs_reading result cause answers = record {
      root_later = read.root_later;
      repo_later = read.repo_later;
      cause = cause;
      rest = λ le. rest_on;
      same = λ none. same_on;
      within = λ told. confined_read repo_laws (Among (is_within repository_base)) (read.repo told);
      told = λ root repo s stands. record {
        next = s;
        answers = answers_reading s root repo stands result answers;
        apart = inl refl;
        root = goes_read root_store_laws root_laws old.root new.root s.root (end_of result) (read.root root) stands.root;
        repo = goes_read repo_store_laws repo_laws old.repo new.repo s.repository (end_of result) (read.repo repo) stands.repo;
        outside = λ q out left. ap (λ (t : Tree). get t q) (read.root root).same.reads;
        seen = unfailed_weaker (λ t is. inl is) (read_shown root_laws (read.root root));
      };
    }

-- ---- a command that changes the repository alone

module _ {T P : Type 0} {root_disk : DiskModel T} {repo_disk : DiskModel P} (root_laws : IsDisk root_disk) (root_store_laws : IsStore root_store) where
  -- it was performed as any command is
  pub acts_performed : (m : Meaning) (input : List ℕ) (old new : Disks T P) (result : Result (List ℕ) Failure) → AreReady root_disk repo_disk old → ActsOnRepository root_disk repo_disk m input old new result → Performs root_disk repo_disk m input old new result
  acts_performed m input old new result ready acts =
      let read = subst (λ (d : T). HasRead root_disk old.root d (Unit {0})) (sym acts.root) (nothing_done root_laws old.root) in
      record {
        root_later = omega (arith, ap root_disk.faults acts.root);
        repo_later = acts.later;
        cause = acts.cause;
        rest = λ le. record {
          root = λ told. read_settled read (ready.root told).flag_clear (ready.root told).synced;
          repo = acts.rest le;
        };
        same = λ none. record { root = λ told. read.same.reads; repo = acts.same none };
        within = acts.within;
        told = λ root repo s stands.
            let changed = acts.told repo s stands.repo in
            record {
              next = record { root = s.root; repository = changed.next };
              answers = changed.answers;
              apart = inl refl;
              root = goes_read root_store_laws root_laws old.root new.root s.root (end_of result) read stands.root;
              repo = changed.goes;
              outside = λ q out left. ap (λ (t : Tree). get t q) read.same.reads;
              seen = unfailed_weaker (λ t is. inl is) (read_shown root_laws read);
            };
      }

-- ---- a meaning that has all outcomes of another

module _ {One Two : Result Effect Refusal → Type 0} (more : (outcome : Result Effect Refusal) → One outcome → Two outcome) where
  pub takes_more : {s next : State} {HasBytes : List ℕ → Type 0} → Takes One s next HasBytes → Takes Two s next HasBytes
  takes_more takes = record { effect = takes.effect; is = more (Ok takes.effect) takes.is; leads = takes.leads; bytes = takes.bytes }

  pub next_more : {s next : State} → IsNext One s next → IsNext Two s next
  next_more (inl same) = inl same
  next_more (inr takes) = inr (takes_more takes)

  pub answers_more : (s next : State) (result : Result (List ℕ) Failure) → AnswersAs One s next result → AnswersAs Two s next result
  answers_more s next (Ok text) h = takes_more h
  answers_more s next (Err (failure.Refused r)) h = (more (Err r) h.0, h.1)
  answers_more s next (Err failure.RootFault) h = next_more h
  answers_more s next (Err failure.RepositoryFault) h = next_more h
  answers_more s next (Err failure.Memory) h = next_more h
  answers_more s next _ h = h

  pub shown_more : (s : State) (before t : Tree) → IsShown One s before t → IsShown Two s before t
  shown_more s before t (inl same) = inl same
  shown_more s before t (inr h) = inr (h.0, more (Ok h.0) h.1, h.2)

  pub performs_from_more : {T P : Type 0} {root_disk : DiskModel T} {repo_disk : DiskModel P} (s : State) (old new : Disks T P) (result : Result (List ℕ) Failure) → PerformsFrom root_disk repo_disk One s old new result → PerformsFrom root_disk repo_disk Two s old new result
  performs_from_more {root_disk = root_disk} s old new result from = record {
    next = from.next;
    answers = answers_more s from.next result from.answers;
    apart = from.apart;
    root = from.root;
    repo = from.repo;
    outside = λ q out left. from.outside q out (λ e is. left e (more (Ok e) is));
    seen = unfailed_weaker (shown_more s (root_disk.reads old.root)) from.seen;
  }

-- so it was performed too
pub performs_more : {T P : Type 0} {root_disk : DiskModel T} {repo_disk : DiskModel P} (one two : Meaning) (from input : List ℕ) → ((s : State) (outcome : Result Effect Refusal) → one.IsOutcome s from outcome → two.IsOutcome s input outcome)
    → (old new : Disks T P) (result : Result (List ℕ) Failure) → Performs root_disk repo_disk one from old new result → Performs root_disk repo_disk two input old new result
performs_more one two from input more old new result done = record {
  root_later = done.root_later;
  repo_later = done.repo_later;
  cause = done.cause;
  rest = done.rest;
  same = done.same;
  within = done.within;
  told = λ root repo s stands. performs_from_more (more s) s old new result (done.told root repo s stands);
}

-- the same of the repository alone, where it stores a state
pub acts_more : {T P : Type 0} {root_disk : DiskModel T} {repo_disk : DiskModel P} (one two : Meaning) (from input : List ℕ) (old new : Disks T P) (result : Result (List ℕ) Failure)
    → (IsTrue repo_disk.tells → (s : State) → RestsAt repository_store repo_disk old.repo s.repository → (outcome : Result Effect Refusal) → one.IsOutcome s from outcome → two.IsOutcome s input outcome)
    → ActsOnRepository root_disk repo_disk one from old new result → ActsOnRepository root_disk repo_disk two input old new result
acts_more one two from input old new result more acts = record {
  root = acts.root;
  later = acts.later;
  cause = acts.cause;
  damaged = acts.damaged;
  rest = acts.rest;
  same = acts.same;
  within = acts.within;
  told = λ told s rests. let done = acts.told told s rests in record {
    next = done.next;
    answers = answers_more (more told s rests) s (record { root = s.root; repository = done.next }) result done.answers;
    goes = done.goes;
  };
}
