-- How a command is performed, by what its own function says.
use Rattle.std.proofs.Common.{◌≡◌, ℕ, Bool, true, false, List, Result, refl, subst, sym, ◌∙◌}
use Rattle.std.specs.Prelude.{IsTrue, OnOk}
use Rattle.std.proofs.lemmas.Bool.{false≢true}
use Rattle.root_commands.specs.cli-call.tree-disk.Disk.{DiskModel, HasRead, IsDisk, Reads}
use Rattle.root_commands.specs.cli-call.cny-laws.Call.{FilesStay}
use Rattle.root_commands.specs.cli-call.cny-laws.declared.failure.Failure.{Failure}
use Rattle.root_commands.specs.cli-call.Alone.{ActsOnRepository, AnswersByContents, AnswersByLists, AnswersByOpened, AnswersByRecords, AnswersByTree, PerformsAlone}
use Rattle.root_commands.specs.cli-call.Command.{AreReady, Disks, Performs}
use Rattle.root_commands.proofs.cli-call.CommandLaws.{acts_performed}
use Rattle.root_commands.proofs.cli-call.OpenedEnds.{files_read}
use Rattle.root_commands.proofs.cli-call.RootLaws.{root_laws}
use Rattle.root_commands.proofs.cli-call.StoreLaws.{nothing_done}
use Rattle.root_commands.specs.Records.{NoneIs}
use Rattle.cli_words.specs.declared.words.Command.{Command}
use Rattle.conary_cli.specs.Commands.{is_of_contents, is_of_lists, is_of_opened, is_of_records, is_of_repository, is_of_root, is_of_tree, meaning, reads_repository, reads_root, PerformsCommand}
use Rattle.conary_cli.specs.Records.{EndsWhole, IsDamagedFirst, IsDamagedFor}
use Rattle.conary_cli.proofs.RecordEnds.{none_read}

-- what holds after Ok of the command's own function holds after Ok of what `perform` answers
pub again_as : {A E : Type 0} (X : Type 0) (own shown : Result A E) → shown ≡ own → OnOk own X → OnOk shown X
again_as {A = A} {E = E} X own shown is h = subst (λ (r : Result A E). OnOk r X) (sym is) h

pub never : {A : Type 0} (b : Bool) → b ≡ false → b ≡ true → A
never b off on = absurd (false≢true (sym off ∙ on))

-- a disk on which nothing was done was only read
pub untouched : {D : Type 0} {disk : DiskModel D} → IsDisk disk → (old new : D) → new ≡ old → Reads disk old new (Unit {0})
untouched {D = D} {disk = disk} laws old new same told = subst (λ (d : D). HasRead disk old d (Unit {0})) (sym same) (nothing_done laws old)

module _ {T P : Type 0} {root_disk : DiskModel T} {repo_disk : DiskModel P} (root_disk_laws : IsDisk root_disk) (repo_disk_laws : IsDisk repo_disk) (input : List ℕ) (old new : Disks T P) (result : Result (List ℕ) Failure) where
  -- it reads no record
  abbrev pub ReadsNone : Command → Type 0
  ReadsNone c = NoneIs (IsDamagedFor c (root_disk.reads old.root) old.opened.db)

  abbrev pub RefusedNone : Command → Type 0
  RefusedNone c = NoneIs (IsDamagedFirst c (root_disk.reads old.root) old.opened.db)

  abbrev pub Whole : Command → Type 0
  Whole c = IsTrue root_disk.tells → EndsWhole c (root_disk.reads old.root) old.opened.db result

  no_record : (c : Command) → ReadsNone c → RefusedNone c → Whole c
  no_record c none first told = none_read c c (root_disk.reads old.root) old.opened.db result refl none first

  abbrev RootRead : Type 0
  RootRead = Reads root_disk old.root new.root (Unit {0})

  abbrev RepoRead : Type 0
  RepoRead = Reads repo_disk old.repo new.repo (Unit {0})

  -- by what was read when the disks were opened, where the repository is told, if it works on both
  abbrev pub ByOpened : Command → Type 0
  ByOpened c = is_of_opened c ≡ true → (is_of_root c ≡ false → IsTrue repo_disk.tells) → AnswersByOpened root_disk repo_disk (meaning c) input old new result

  -- also by the contents that stand whole
  abbrev pub ByContents : Command → Type 0
  ByContents c = is_of_contents c ≡ true → AnswersByContents root_disk repo_disk (meaning c) input old new result

  -- by the records of the root's jobs
  abbrev pub ByRecords : Command → Type 0
  ByRecords c = is_of_records c ≡ true → AnswersByRecords root_disk repo_disk (meaning c) input old new result

  -- the files of commits and contents stay
  abbrev pub KeepsFiles : Command → Type 0
  KeepsFiles c = FilesStay repo_disk old.opened.catalogue (is_of_opened c) old.repo new.repo

  reading : (c : Command) → RepoRead → KeepsFiles c
  reading c read = files_read repo_disk_laws old.opened.catalogue (is_of_opened c) old.repo new.repo read

  no_contents : (c : Command) → is_of_contents c ≡ false → ByContents c
  no_contents c off is = never (is_of_contents c) off is

  no_opened : (c : Command) → is_of_opened c ≡ false → ByOpened c
  no_opened c off is = never (is_of_opened c) off is

  -- on the root alone, and neither on its tree nor on the lists alone
  of_root : (c : Command) → is_of_repository c ≡ false → is_of_lists c ≡ false → is_of_tree c ≡ false → is_of_contents c ≡ false → ByOpened c → ByRecords c → Performs root_disk repo_disk (meaning c) input old new result → PerformsAlone root_disk repo_disk (meaning c) input old new result
      → (reads_root c ≡ true → RootRead) → Whole c → PerformsCommand root_disk repo_disk c input old new result
  of_root c off none none' bare opened by_records performs alone read whole = record {
    performs = record {
      performs = performs;
      alone = λ is. alone;
      apart = λ is. never (is_of_repository c) off is;
      tree = λ is. never (is_of_tree c) none' is;
      opened = opened;
      by_contents = no_contents c bare;
      by_records = by_records;
      files = reading c (untouched repo_disk_laws old.repo new.repo alone.repo);
      lists = λ is. never (is_of_lists c) none is;
      root_read = read;
      repo_read = λ is. untouched repo_disk_laws old.repo new.repo alone.repo;
    };
    records = whole;
  }

  -- of one that reads records
  pub on_records : (c : Command) → is_of_repository c ≡ false → is_of_lists c ≡ false → is_of_tree c ≡ false → is_of_contents c ≡ false → is_of_opened c ≡ false → ByRecords c → Performs root_disk repo_disk (meaning c) input old new result → PerformsAlone root_disk repo_disk (meaning c) input old new result
      → (reads_root c ≡ true → RootRead) → Whole c → PerformsCommand root_disk repo_disk c input old new result
  on_records c off none none' bare shut by_records performs alone read whole = of_root c off none none' bare (no_opened c shut) by_records performs alone read whole

  -- of a job, which reads none
  pub on_root : (c : Command) → is_of_repository c ≡ false → is_of_lists c ≡ false → is_of_tree c ≡ false → is_of_contents c ≡ false → is_of_records c ≡ false → reads_root c ≡ false → Performs root_disk repo_disk (meaning c) input old new result → PerformsAlone root_disk repo_disk (meaning c) input old new result
      → AnswersByOpened root_disk repo_disk (meaning c) input old new result → ReadsNone c → RefusedNone c → PerformsCommand root_disk repo_disk c input old new result
  on_root c off none none' bare unread writes performs alone opened reads refused = of_root c off none none' bare (λ is told. opened) (never (is_of_records c) unread) performs alone (λ is. never (reads_root c) writes is) (no_record c reads refused)

  -- of one that works on its tree and its list, where it works on the root alone
  pub on_tree : (c : Command) → is_of_repository c ≡ false → is_of_lists c ≡ false → is_of_opened c ≡ false → is_of_records c ≡ false → ByContents c → Performs root_disk repo_disk (meaning c) input old new result → (is_of_root c ≡ true → PerformsAlone root_disk repo_disk (meaning c) input old new result)
      → (is_of_tree c ≡ true → AnswersByTree root_disk repo_disk (meaning c) input old new result) → RootRead → RepoRead → ReadsNone c → RefusedNone c → PerformsCommand root_disk repo_disk c input old new result
  on_tree c off none shut unread whole performs alone tree root_read repo_read reads refused = record {
    performs = record {
      performs = performs;
      alone = alone;
      apart = λ is. never (is_of_repository c) off is;
      tree = tree;
      opened = no_opened c shut;
      by_contents = whole;
      by_records = never (is_of_records c) unread;
      files = reading c repo_read;
      lists = λ is. never (is_of_lists c) none is;
      root_read = λ is. root_read;
      repo_read = λ is. repo_read;
    };
    records = no_record c reads refused;
  }

  -- of one that works on lists
  pub on_list : (c : Command) → is_of_repository c ≡ false → is_of_tree c ≡ false → is_of_opened c ≡ false → is_of_records c ≡ false → ByContents c → Performs root_disk repo_disk (meaning c) input old new result → PerformsAlone root_disk repo_disk (meaning c) input old new result
      → AnswersByLists root_disk repo_disk (meaning c) input old new result → ReadsNone c → RefusedNone c → PerformsCommand root_disk repo_disk c input old new result
  on_list c off none shut unread whole performs alone lists reads refused = record {
    performs = record {
      performs = performs;
      alone = λ is. alone;
      apart = λ is. never (is_of_repository c) off is;
      tree = λ is. never (is_of_tree c) none is;
      opened = no_opened c shut;
      by_contents = whole;
      by_records = never (is_of_records c) unread;
      files = reading c (untouched repo_disk_laws old.repo new.repo lists.repo);
      lists = λ is. lists;
      root_read = λ is. untouched root_disk_laws old.root new.root lists.root;
      repo_read = λ is. untouched repo_disk_laws old.repo new.repo lists.repo;
    };
    records = no_record c reads refused;
  }

  -- on the repository alone
  all_of_repository : AreReady root_disk repo_disk old → (c : Command) → is_of_root c ≡ false → is_of_tree c ≡ false → is_of_opened c ≡ false → is_of_records c ≡ false → ByContents c → KeepsFiles c → ActsOnRepository root_disk repo_disk (meaning c) input old new result
      → (is_of_lists c ≡ true → AnswersByLists root_disk repo_disk (meaning c) input old new result) → (reads_repository c ≡ true → RepoRead) → ReadsNone c → RefusedNone c → PerformsCommand root_disk repo_disk c input old new result
  all_of_repository ready c off none shut unread whole files acts lists read reads refused = record {
    performs = record {
      performs = acts_performed root_disk_laws root_laws (meaning c) input old new result ready acts;
      alone = λ is. never (is_of_root c) off is;
      apart = λ is. acts;
      tree = λ is. never (is_of_tree c) none is;
      opened = no_opened c shut;
      by_contents = whole;
      by_records = never (is_of_records c) unread;
      files = files;
      lists = lists;
      root_read = λ is. untouched root_disk_laws old.root new.root acts.root;
      repo_read = read;
    };
    records = no_record c reads refused;
  }

  -- of one that commits
  pub on_repository : AreReady root_disk repo_disk old → (c : Command) → is_of_root c ≡ false → is_of_tree c ≡ false → is_of_opened c ≡ false → is_of_records c ≡ false → is_of_lists c ≡ false → reads_repository c ≡ false → ByContents c → KeepsFiles c → ActsOnRepository root_disk repo_disk (meaning c) input old new result
      → ReadsNone c → RefusedNone c → PerformsCommand root_disk repo_disk c input old new result
  on_repository ready c off none shut unread none' writes whole files acts reads refused = all_of_repository ready c off none shut unread whole files acts (λ is. never (is_of_lists c) none' is) (λ is. never (reads_repository c) writes is) reads refused

  -- of one that works on lists
  pub on_catalogue : AreReady root_disk repo_disk old → (c : Command) → is_of_root c ≡ false → is_of_tree c ≡ false → is_of_opened c ≡ false → is_of_records c ≡ false → ByContents c → ActsOnRepository root_disk repo_disk (meaning c) input old new result → AnswersByLists root_disk repo_disk (meaning c) input old new result
      → ReadsNone c → RefusedNone c → PerformsCommand root_disk repo_disk c input old new result
  on_catalogue ready c off none shut unread whole acts lists reads refused = all_of_repository ready c off none shut unread whole (reading c (untouched repo_disk_laws old.repo new.repo lists.repo)) acts (λ is. lists) (λ is. untouched repo_disk_laws old.repo new.repo lists.repo) reads refused

  -- of one that reads its contents
  pub on_contents : AreReady root_disk repo_disk old → (c : Command) → is_of_root c ≡ false → is_of_tree c ≡ false → is_of_opened c ≡ false → is_of_records c ≡ false → is_of_lists c ≡ false → ByContents c → ActsOnRepository root_disk repo_disk (meaning c) input old new result → RepoRead
      → ReadsNone c → RefusedNone c → PerformsCommand root_disk repo_disk c input old new result
  on_contents ready c off none shut unread none' whole acts read reads refused = all_of_repository ready c off none shut unread whole (reading c read) acts (λ is. never (is_of_lists c) none' is) (λ is. read) reads refused

  -- on both
  pub on_both : (c : Command) → is_of_root c ≡ false → is_of_repository c ≡ false → is_of_lists c ≡ false → is_of_tree c ≡ false → is_of_records c ≡ false → ByOpened c → ByContents c → KeepsFiles c → Performs root_disk repo_disk (meaning c) input old new result → (reads_root c ≡ true → RootRead)
      → (reads_repository c ≡ true → RepoRead) → ReadsNone c → RefusedNone c → PerformsCommand root_disk repo_disk c input old new result
  on_both c off off' none none' unread opened whole files performs root_read repo_read reads refused = record {
    performs = record {
      performs = performs;
      alone = λ is. never (is_of_root c) off is;
      apart = λ is. never (is_of_repository c) off' is;
      tree = λ is. never (is_of_tree c) none' is;
      opened = opened;
      by_contents = whole;
      by_records = never (is_of_records c) unread;
      files = files;
      lists = λ is. never (is_of_lists c) none is;
      root_read = root_read;
      repo_read = repo_read;
    };
    records = no_record c reads refused;
  }

-- of the command that was given, and of the bytes that were answered
pub performs_as : {T P : Type 0} {root_disk : DiskModel T} {repo_disk : DiskModel P} (c d : Command) (input : List ℕ) (old new : Disks T P) (r q : Result (List ℕ) Failure) → c ≡ d → q ≡ r → PerformsCommand root_disk repo_disk d input old new r
    → PerformsCommand root_disk repo_disk c input old new q
performs_as {root_disk = root_disk} {repo_disk = repo_disk} c d input old new r q is same done =
    subst (λ (x : Result (List ℕ) Failure). PerformsCommand root_disk repo_disk c input old new x) (sym same) (subst (λ (x : Command). PerformsCommand root_disk repo_disk x input old new r) (sym is) done)
