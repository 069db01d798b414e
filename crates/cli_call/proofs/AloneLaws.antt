-- The clause of a command that works on one disk alone, where it only reads it.
use Rattle.std.proofs.Common.{◌≡◌, ℕ, Bool, List, Result, Ok, Err, refl, ap, inl, subst, arith}
use Rattle.std.specs.Prelude.{IsTrue}
use Rattle.std.specs.FinMap.{get}
use Rattle.cny_laws.specs.system-core.cny-base.declared.refusal.Fault.{Fault}
use Rattle.cny_laws.specs.system-core.cny-base.declared.refusal.Fault.TheVariants as fault
use Rattle.cny_laws.specs.system-core.cny-base.declared.refusal.Refusal.{Refusal}
use Rattle.cny_laws.specs.system-core.tree-disk.Clear.{is_within}
use Rattle.cny_laws.specs.system-core.tree-disk.Confined.{Among}
use Rattle.cny_laws.specs.system-core.tree-disk.Tree.{Name, Tree}
use Rattle.cny_laws.specs.system-core.tree-disk.Disk.{DiskModel, IsDisk, HasRead}
use Rattle.cny_laws.proofs.system-core.tree-disk.ConfinedLaws.{confined_read}
use Rattle.cny_laws.proofs.system-core.tree-disk.Unfailed.{unfailed_weaker}
use Rattle.cny_laws.specs.declared.failure.Failure.{Failure}
use Rattle.cny_laws.specs.declared.failure.Failure.TheVariants as failure
use Rattle.repo_load.specs.Files.{repository_base}
use Rattle.cli_call.specs.Alone.{ActsOnRepository, AnswersByTree, PerformsAlone}
use Rattle.cny_laws.specs.Call.{HasTree}
use Rattle.cli_call.specs.Command.{AreReady, Disks, AnswersAs, HasFailureCause, end_of}
use Rattle.cli_call.proofs.CommandLaws.{answers_more, goes_read, read_shown, shown_more}
use Rattle.cny_laws.specs.Failures.{failure_of_fault}
use Rattle.cny_laws.specs.State.{State, nothing, Effect, Meaning}
use Rattle.cny_laws.specs.Store.{IsStore, NamesDamaged, RestsAt}
use Rattle.cny_laws.specs.Stores.{root_store, repository_store}
use Rattle.cli_call.proofs.StoreLaws.{nothing_done}

-- a fault of a reader names no damaged file
pub fault_undamaged : {X : Type 0} (f : Fault) (path : Name) → ◌≡◌ {A = Result X Failure} (Err (failure_of_fault f)) (Err (failure.Damaged path)) → ⊥
fault_undamaged (fault.Refused r) path is = cc is
fault_undamaged fault.Memory path is = cc is

-- what it answers from each state of which this is so, where the root is told
abbrev pub AnswersWhere : Bool → (State → Type 0) → Meaning → List ℕ → Result (List ℕ) Failure → Type 0
AnswersWhere tells Is m input (Ok text) = IsTrue tells → (s : State) → Is s → m.IsOutcome s input (Ok (record { change = nothing; out = text }))
AnswersWhere tells Is m input (Err (failure.Refused r)) = IsTrue tells → (s : State) → Is s → m.IsOutcome s input (Err r)
AnswersWhere tells Is m input (Err failure.RootFault) = Unit {0}
AnswersWhere tells Is m input (Err failure.Memory) = Unit {0}
AnswersWhere tells Is m input (Err (failure.Damaged path)) = IsTrue tells → (s : State) → Is s → ⊥
AnswersWhere tells Is m input _ = ⊥

pub where_weaker : {tells : Bool} {One Two : State → Type 0} (m : Meaning) (input : List ℕ) → (IsTrue tells → (s : State) → Two s → One s) → (result : Result (List ℕ) Failure) → AnswersWhere tells One m input result → AnswersWhere tells Two m input result
where_weaker m input more (Ok text) h = λ told s is. h told s (more told s is)
where_weaker m input more (Err (failure.Refused r)) h = λ told s is. h told s (more told s is)
where_weaker m input more (Err failure.RootFault) h = tt
where_weaker m input more (Err failure.Memory) h = tt
where_weaker m input more (Err (failure.Damaged path)) h = λ told s is. h told s (more told s is)
where_weaker m input more _ h = absurd h

pub where_answers : {tells : Bool} (Is : State → Type 0) (m : Meaning) (input : List ℕ) (s : State) → IsTrue tells → Is s → (result : Result (List ℕ) Failure) → AnswersWhere tells Is m input result → AnswersAs (m.IsOutcome s input) s s result
where_answers Is m input s told is (Ok text) h = record { effect = record { change = nothing; out = text }; is = h told s is; leads = refl; bytes = refl }
where_answers Is m input s told is (Err (failure.Refused r)) h = (h told s is, refl)
where_answers Is m input s told is (Err failure.RootFault) h = inl refl
where_answers Is m input s told is (Err failure.Memory) h = inl refl
where_answers Is m input s told is (Err (failure.Damaged path)) h = absurd (h told s is)
where_answers Is m input s told is _ h = absurd h

-- what it answers from a state whose root the root's disk stores, whatever repository the state has
abbrev pub AnswersAlone : {T : Type 0} → DiskModel T → Meaning → List ℕ → T → Result (List ℕ) Failure → Type 0
AnswersAlone root_disk m input root result = AnswersWhere root_disk.tells (λ s. RestsAt root_store root_disk root s.root) m input result

module _ {T P : Type 0} {root_disk : DiskModel T} (repo_disk : DiskModel P) (root_laws : IsDisk root_disk) (root_store_laws : IsStore root_store) (m : Meaning) (input : List ℕ) (old new : Disks T P) where
  pub alone_reading : (result : Result (List ℕ) Failure) → new.repo ≡ old.repo → (IsTrue root_disk.tells → HasRead root_disk old.root new.root (Unit {0})) → AnswersAlone root_disk m input old.root result
      → NamesDamaged root_store root_disk new.root result → PerformsAlone root_disk repo_disk m input old new result
  alone_reading result same read answers damaged = record {
    repo = same;
    damaged = damaged;
    told = λ told s rests. record {
      next = s;
      answers = where_answers (λ t. RestsAt root_store root_disk old.root t.root) m input s told rests result answers;
      stays = refl;
      root = goes_read root_store_laws root_laws old.root new.root s.root (end_of result) (read told) rests;
      outside = λ q out left. ap (λ (t : Tree). get t q) (read told).same.reads;
      seen = unfailed_weaker (λ t is. inl is) (read_shown root_laws (read told));
    };
  }

-- what it answers by the root's tree and its installed list alone
pub tree_reading : {T P : Type 0} {root_disk : DiskModel T} (repo_disk : DiskModel P) (m : Meaning) (input : List ℕ) (old new : Disks T P) (result : Result (List ℕ) Failure) → new.repo ≡ old.repo → (IsTrue root_disk.tells → HasRead root_disk old.root new.root (Unit {0}))
    → AnswersWhere root_disk.tells (HasTree root_disk old.root old.opened) m input result → AnswersByTree root_disk repo_disk m input old new result
tree_reading {root_disk = root_disk} repo_disk m input old new result same read answers = record { root = read; repo = same; answers = λ told s has. where_answers (HasTree root_disk old.root old.opened) m input s told has result answers }

-- a meaning that has all outcomes of another was performed too
pub alone_more : {T P : Type 0} {root_disk : DiskModel T} {repo_disk : DiskModel P} (one two : Meaning) (from input : List ℕ) → ((s : State) (outcome : Result Effect Refusal) → one.IsOutcome s from outcome → two.IsOutcome s input outcome)
    → (old new : Disks T P) (result : Result (List ℕ) Failure) → PerformsAlone root_disk repo_disk one from old new result → PerformsAlone root_disk repo_disk two input old new result
alone_more {root_disk = root_disk} one two from input more old new result done = record {
  repo = done.repo;
  damaged = done.damaged;
  told = λ told s rests. let d = done.told told s rests in record {
    next = d.next;
    answers = answers_more (more s) s d.next result d.answers;
    stays = d.stays;
    root = d.root;
    outside = λ q out left. d.outside q out (λ e is. left e (more s (Ok e) is));
    seen = unfailed_weaker (shown_more (more s) s (root_disk.reads old.root)) d.seen;
  };
}

-- ---- the repository alone

-- what it answers from a state whose repository the repository's disk stores, whatever root the state has
abbrev pub AnswersApart : {P : Type 0} → DiskModel P → Meaning → List ℕ → P → Result (List ℕ) Failure → Type 0
AnswersApart repo_disk m input repo (Ok text) = IsTrue repo_disk.tells → (s : State) → RestsAt repository_store repo_disk repo s.repository → m.IsOutcome s input (Ok (record { change = nothing; out = text }))
AnswersApart repo_disk m input repo (Err (failure.Refused r)) = IsTrue repo_disk.tells → (s : State) → RestsAt repository_store repo_disk repo s.repository → m.IsOutcome s input (Err r)
AnswersApart repo_disk m input repo (Err failure.Memory) = Unit {0}
AnswersApart repo_disk m input repo _ = ⊥

module _ {T P : Type 0} {root_disk : DiskModel T} {repo_disk : DiskModel P} (repo_laws : IsDisk repo_disk) (store_laws : IsStore repository_store) (m : Meaning) (input : List ℕ) (at : Disks T P) (ready : AreReady root_disk repo_disk at) where
  answers_apart : (s : State) → IsTrue repo_disk.tells → RestsAt repository_store repo_disk at.repo s.repository → (result : Result (List ℕ) Failure) → AnswersApart repo_disk m input at.repo result → AnswersAs (m.IsOutcome s input) s s result
  answers_apart s told rests (Ok text) h = record { effect = record { change = nothing; out = text }; is = h told s rests; leads = refl; bytes = refl }
  answers_apart s told rests (Err (failure.Refused r)) h = (h told s rests, refl)
  answers_apart s told rests (Err failure.Memory) h = inl refl
  answers_apart s told rests _ h = absurd h

  cause_apart : (result : Result (List ℕ) Failure) → AnswersApart repo_disk m input at.repo result → HasFailureCause root_disk repo_disk at at result
  cause_apart (Ok text) h = tt
  cause_apart (Err (failure.Refused r)) h = tt
  cause_apart (Err failure.Memory) h = tt
  cause_apart _ h = absurd h

  -- it answers from what was opened, and reads nothing more
  pub answered_apart : (result : Result (List ℕ) Failure) → AnswersApart repo_disk m input at.repo result → ActsOnRepository root_disk repo_disk m input at at result
  answered_apart result h = record {
    root = refl;
    later = omega arith;
    cause = cause_apart result h;
    damaged = λ path is. absurd (subst (AnswersApart repo_disk m input at.repo) is h);
    rest = λ le told. (ready.repo told).settled;
    same = λ none told. refl;
    within = λ told. confined_read repo_laws (Among (is_within repository_base)) (nothing_done repo_laws at.repo);
    told = λ told s rests. record {
      next = s.repository;
      answers = answers_apart s told rests result h;
      goes = goes_read store_laws repo_laws at.repo at.repo s.repository (end_of result) (nothing_done repo_laws at.repo) rests;
    };
  }
