-- The clauses of a command that changes the root alone, from what the root went through from each state that it stored.
use Rattle.std.proofs.Common.{◌≡◌, ◌≤◌, ℕ, List, Result, refl, sym, ap, subst, inl, inr, ⊎_elim, arith}
use Rattle.std.specs.Prelude.{IsTrue}
use Rattle.cny_laws.specs.system-core.cny-base.declared.refusal.Refusal.{Refusal}
use Rattle.cny_laws.specs.system-core.tree-disk.Tree.{Tree}
use Rattle.cny_laws.specs.system-core.tree-disk.Disk.{DiskModel, IsDisk, HasRead}
use Rattle.cny_laws.specs.system-core.tree-disk.Clear.{is_within}
use Rattle.cny_laws.specs.system-core.tree-disk.Confined.{Among, Confined}
use Rattle.cny_laws.proofs.system-core.tree-disk.ConfinedLaws.{confined_start}
use Rattle.cny_laws.specs.system-core.tree-disk.Unfailed.{UnlessFailed}
use Rattle.repo_load.specs.Files.{repository_base}
use Rattle.local_db.specs.Stores.{RecoversToSystem}
use Rattle.cny_laws.specs.system-core.RootWriting.{RecoversToEitherSystem}
use Rattle.cny_laws.specs.declared.failure.Failure.{Failure}
use Rattle.cli_call.specs.Alone.{PerformsAlone}
use Rattle.cli_call.specs.Command.{Disks, AreReady, HasFailureCause, Goes, AnswersAs, Performs, end_of}
use Rattle.cny_laws.specs.Report.{ChangesNothing, status_of}
use Rattle.cny_laws.specs.Shown.{KeepsOthers, IsShown}
use Rattle.cli_call.proofs.CommandLaws.{goes_read}
use Rattle.cny_laws.specs.State.{RootState, State, Effect, Meaning}
use Rattle.cny_laws.specs.Store.{IsStore, IsSettled, NamesDamaged, OneOf, Recovers, RestsAt}
use Rattle.cli_call.proofs.StoreLaws.{nothing_done, read_settled}
use Rattle.cny_laws.specs.Stores.{root_store, repository_store}

-- What the root went through from a state that it stored, and what was answered.
pub record ChangesRoot {T : Type 0} (root_disk : DiskModel T) (IsOutcome : Result Effect Refusal → Type 0) (s : State) (old new : T) (result : Result (List ℕ) Failure) : Type 0 where
  pub next : RootState
  pub answers : AnswersAs IsOutcome s (record { root = next; repository = s.repository }) result
  pub goes : Goes root_store root_disk s.root next old new (end_of result)
  pub outside : KeepsOthers IsOutcome s (root_disk.reads old) (root_disk.reads new)
  pub seen : UnlessFailed root_disk old new (IsShown IsOutcome s (root_disk.reads old))

-- a tree that recovers to one of two systems
pub of_system : (s : RootState) (image : Tree) → RecoversToSystem image s → Recovers root_store image s
of_system s image rec = record { tree = rec.0; recovers = rec.1; stored = rec.2 }

pub of_either : (s t : RootState) (image : Tree) → RecoversToEitherSystem s t image → OneOf root_store s t image
of_either s t image either = ⊎_elim (λ one. inl (of_system s image one)) (λ two. inr (of_system t image two)) either

module _ {T P : Type 0} {root_disk : DiskModel T} (repo_disk : DiskModel P) (m : Meaning) (input : List ℕ) (old new : Disks T P) (result : Result (List ℕ) Failure) (same_repo : new.repo ≡ old.repo)
    (changes : IsTrue root_disk.tells → (s : State) → RestsAt root_store root_disk old.root s.root → ChangesRoot root_disk (m.IsOutcome s input) s old.root new.root result) where
  pub alone_on_root : NamesDamaged root_store root_disk new.root result → PerformsAlone root_disk repo_disk m input old new result
  alone_on_root damaged = record {
    repo = same_repo;
    damaged = damaged;
    told = λ told s rests. let c = changes told s rests in record {
      next = record { root = c.next; repository = s.repository };
      answers = c.answers;
      stays = refl;
      root = c.goes;
      outside = c.outside;
      seen = c.seen;
    };
  }

  module _ (repo_disk_laws : IsDisk repo_disk) (repo_laws : IsStore repository_store) (ready : AreReady root_disk repo_disk old) (later : root_disk.faults old.root ≤ root_disk.faults new.root) (cause : HasFailureCause root_disk repo_disk old new result)
      (settles : status_of (end_of result) ≤ 4 → IsTrue root_disk.tells → IsSettled root_disk root_store.base new.root)
      (keeps : ChangesNothing (end_of result) → IsTrue root_disk.tells → root_disk.reads new.root ≡ root_disk.reads old.root) where
    read_repo : HasRead repo_disk old.repo new.repo (Unit {0})
    read_repo = subst (λ (d : P). HasRead repo_disk old.repo d (Unit {0})) (sym same_repo) (nothing_done repo_disk_laws old.repo)

    pub performs_on_root : Performs root_disk repo_disk m input old new result
    performs_on_root = record {
      root_later = later;
      repo_later = omega (arith, ap repo_disk.faults same_repo);
      cause = cause;
      rest = λ le. record {
        root = settles le;
        repo = λ told. read_settled read_repo (ready.repo told).settled.flag_clear (ready.repo told).settled.synced;
      };
      same = λ none. record { root = keeps none; repo = λ told. read_repo.same.reads };
      within = λ told. subst (λ (d : P). Confined repo_disk (Among (is_within repository_base)) old.repo d) (sym same_repo) (confined_start repo_disk_laws (Among (is_within repository_base)) old.repo);
      told = λ root repo s stands. let c = changes root s stands.root in record {
        next = record { root = c.next; repository = s.repository };
        answers = c.answers;
        apart = inr refl;
        root = c.goes;
        repo = goes_read repo_laws repo_disk_laws old.repo new.repo s.repository (end_of result) read_repo stands.repo;
        outside = c.outside;
        seen = c.seen;
      };
    }
