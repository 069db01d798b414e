-- A command that was performed after both disks were only read.
use Rattle.std.proofs.Common.{◌≡◌, ◌≤◌, ℕ, List, Result, Err, ap, ◌∙◌, inl, subst, arith}
use Rattle.std.specs.Prelude.{IsTrue}
use Rattle.std.specs.FinMap.{get}
use Rattle.cny_laws.specs.system-core.cny-base.declared.refusal.Refusal.{Refusal}
use Rattle.cny_laws.specs.system-core.tree-disk.Tree.{Tree}
use Rattle.cny_laws.specs.system-core.tree-disk.Disk.{DiskModel, IsDisk, HasRead}
use Rattle.cny_laws.specs.system-core.tree-disk.Clear.{is_within}
use Rattle.cny_laws.specs.system-core.tree-disk.Confined.{Among}
use Rattle.cny_laws.proofs.system-core.tree-disk.ConfinedLaws.{confined_read, confined_then, leaves_then, leaves_weaker}
use Rattle.repo_load.specs.Files.{repository_base}
use Rattle.cny_laws.proofs.system-core.tree-disk.Moments.{rose_before}
use Rattle.cny_laws.proofs.system-core.tree-disk.Unfailed.{unfailed_then, unfailed_weaker}
use Rattle.cny_laws.specs.declared.failure.Failure.{Failure}
use Rattle.cny_laws.specs.declared.failure.Failure.TheVariants as failure
use Rattle.cli_call.specs.Command.{Disks, Goes, HasFailureCause, Performs, PerformsFrom, StandsFor}
use Rattle.cny_laws.specs.Shown.{IsShown}
use Rattle.cli_call.proofs.CommandLaws.{AreRead, performs_from_more, read_shown}
use Rattle.cny_laws.specs.Report.{End}
use Rattle.cli_call.proofs.RootLaws.{root_laws}
use Rattle.cny_laws.specs.State.{Effect, Meaning, State}
use Rattle.cny_laws.specs.Store.{IsStore, RestsAt, Store}
use Rattle.cli_call.proofs.StoreLaws.{rest_lives, rest_read_on}
use Rattle.cny_laws.specs.Stores.{repository_store}

-- what a disk went through, from an earlier moment since which it was only read
goes_since : {D X : Type 0} {store : Store X} → IsStore store → {disk : DiskModel D} → IsDisk disk → (old mid new : D) (x y : X) (end : End) → HasRead disk old mid (Unit {0}) → RestsAt store disk old x
    → Goes store disk x y mid new end → Goes store disk x y old new end
goes_since laws disk_laws old mid new x y end read rests goes = record {
  images = leaves_then (leaves_weaker (λ image h. inl h) (rest_lives laws disk_laws old mid x read rests)) goes.images;
  rests = goes.rests;
  reads = goes.reads;
}

shown_since : (IsOutcome : Result Effect Refusal → Type 0) (s : State) (before now t : Tree) → now ≡ before → IsShown IsOutcome s now t → IsShown IsOutcome s before t
shown_since IsOutcome s before now t same shown = subst (λ (u : Tree). IsShown IsOutcome s u t) same shown

module _ {T P : Type 0} {root_disk : DiskModel T} {repo_disk : DiskModel P} where
  cause_since : (old mid new : Disks T P) (result : Result (List ℕ) Failure) → AreRead root_disk repo_disk old mid → HasFailureCause root_disk repo_disk mid new result → HasFailureCause root_disk repo_disk old new result
  cause_since old mid new (Err failure.RootFault) read cause = rose_before (root_disk.faults old.root) (root_disk.faults mid.root) (root_disk.faults new.root) read.root_later cause
  cause_since old mid new (Err failure.RepositoryFault) read cause = rose_before (repo_disk.faults old.repo) (repo_disk.faults mid.repo) (repo_disk.faults new.repo) read.repo_later cause
  cause_since old mid new _ read cause = cause

  module _ (root_disk_laws : IsDisk root_disk) (repo_disk_laws : IsDisk repo_disk) (store_laws : IsStore repository_store) (old mid new : Disks T P) (read : AreRead root_disk repo_disk old mid) (result : Result (List ℕ) Failure) where
    -- the state still stands
    stands_on : IsTrue root_disk.tells → IsTrue repo_disk.tells → (s : State) → StandsFor root_disk repo_disk old s → StandsFor root_disk repo_disk mid s
    stands_on root repo s stands = record {
      root = rest_read_on root_laws old.root mid.root s.root (read.root root) stands.root;
      repo = rest_read_on store_laws old.repo mid.repo s.repository (read.repo repo) stands.repo;
    }

    from_since : (IsOutcome : Result Effect Refusal → Type 0) (s : State) → IsTrue root_disk.tells → IsTrue repo_disk.tells → root_disk.faults mid.root ≤ root_disk.faults new.root → StandsFor root_disk repo_disk old s
        → PerformsFrom root_disk repo_disk IsOutcome s mid new result → PerformsFrom root_disk repo_disk IsOutcome s old new result
    from_since IsOutcome s root repo late stands from = record {
      next = from.next;
      answers = from.answers;
      apart = from.apart;
      root = goes_since root_laws root_disk_laws old.root mid.root new.root s.root from.next.root _ (read.root root) stands.root from.root;
      repo = goes_since store_laws repo_disk_laws old.repo mid.repo new.repo s.repository from.next.repository _ (read.repo repo) stands.repo from.repo;
      outside = λ q out left. from.outside q out left ∙ ap (λ (t : Tree). get t q) (read.root root).same.reads;
      seen = unfailed_then read.root_later late
          (unfailed_weaker (λ t is. inl is) (read_shown root_disk_laws (read.root root)))
          (unfailed_weaker (λ t shown. shown_since IsOutcome s (root_disk.reads old.root) (root_disk.reads mid.root) t (read.root root).same.reads shown) from.seen);
    }

    -- so it was performed from then on, also by a meaning that has its outcomes on what the disks store
    pub performs_since : (one two : Meaning) (from input : List ℕ)
        → (IsTrue root_disk.tells → IsTrue repo_disk.tells → (s : State) → StandsFor root_disk repo_disk old s → (outcome : Result Effect Refusal) → one.IsOutcome s from outcome → two.IsOutcome s input outcome)
        → Performs root_disk repo_disk one from mid new result → Performs root_disk repo_disk two input old new result
    performs_since one two from input more done = record {
      root_later = omega (arith, read.root_later, done.root_later);
      repo_later = omega (arith, read.repo_later, done.repo_later);
      cause = cause_since old mid new result read done.cause;
      rest = done.rest;
      same = λ none. record {
        root = λ told. (done.same none).root told ∙ (read.root told).same.reads;
        repo = λ told. (done.same none).repo told ∙ (read.repo told).same.reads;
      };
      within = λ told. confined_then (confined_read repo_disk_laws (Among (is_within repository_base)) (read.repo told)) (done.within told);
      told = λ root repo s stands.
          from_since (two.IsOutcome s input) s root repo done.root_later stands
          (performs_from_more (more root repo s stands) s mid new result (done.told root repo s (stands_on root repo s stands)));
    }
