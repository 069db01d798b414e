-- How a commit of a change set ends whatever contents are damaged: one without contents by the catalogue alone, any other also by the
-- contents that stand whole.
use Rattle.std.proofs.Common.{◌≡◌, ◌||◌, inl, inr, ℕ, ◌≤◌, Bool, false, true, IsTrue, List, [], ◌∷◌, Result, Ok, Err, IfErr, refl, sym, ap, ◌∙◌, subst, length-append, arith}
use Rattle.std.specs.FinMap.{get}
use Rattle.std.specs.Prelude.{Contains, IfOk}
use Rattle.cli_call.specs.cny-base.declared.limits.TheConstants.{COMMITS_LIMIT}
use Rattle.cli_call.specs.cny-base.declared.refusal.Refusal.{Refusal}
use Rattle.cli_call.specs.cny-base.declared.stop.Stop.{Stop}
use Rattle.cli_call.specs.cny-base.declared.stop.Stop.TheVariants as stop
use Rattle.cli_call.specs.tree-disk.Disk.{DiskModel, HasRead, IsDisk, Reads}
use Rattle.cli_call.specs.tree-disk.Confined.{Confined}
use Rattle.cli_call.specs.tree-disk.Tree.{Name}
use Rattle.cli_call.proofs.tree-disk.ConfinedLaws.{confined_wider}
use Rattle.cli_call.specs.trove-parts.declared.id.TroveId.{TroveId}
use Rattle.cli_call.specs.trove-stream.declared.parts.TroveParts.{TroveParts}
use Rattle.cli_call.specs.change-set.declared.change.Carried.{Carried}
use Rattle.cli_call.specs.change-set.declared.change.ChangeSet.{ChangeSet}
use Rattle.cli_call.specs.change-set.ChangeSet.{HasContents}
use Rattle.cli_call.specs.content-store.Contents.{ContentMap}
use Rattle.cli_call.specs.content-store.Store.{content_path, IsContentName}
use Rattle.cny_version.proofs.cny-base.Lists.{nothing_in}
use Rattle.cli_call.specs.local-db.declared.format.Format.TheVariants.{Two}
use Rattle.cli_call.specs.local-db.Stores.{HoldsDatabase}
use Rattle.repo_index.specs.Catalogue.{CatalogueParts, has_content}
use Rattle.repo_load.specs.Files.{commit_file, contents_dir, HoldsCatalogue}
use Rattle.repo_load.specs.Loading.{IsCatalogue}
use Rattle.repo_load.specs.State.{catalogue_of, RepositoryState}
use Rattle.repo_load.proofs.Following.{troves_push}
use Rattle.repository.specs.Order.{IsFirstStop}
use Rattle.repository.specs.Outcome.{committed_contents, AreSound, EndsSo, IsCommitDone, CommitStopsSo}
use Rattle.repository.specs.Preparing.{IsWrittenName}
use Rattle.repository.specs.Steps.{after_commit, catalogue_after}
use Rattle.repository.specs.Tests.{later_refusal, IsRefused, Passes}
use Rattle.cny_report.specs.Troves.{committed_text}
use Rattle.cli_call.specs.cny-laws.declared.failure.Failure.{Failure}
use Rattle.cli_call.specs.cny-laws.declared.failure.Failure.TheVariants as failure
use Rattle.cli_call.specs.cny-laws.Call.{FilesStay, HasOpened, IsKeptFile}
use Rattle.cli_call.specs.cny-laws.State.{State}
use Rattle.cli_call.specs.cny-laws.Stops.{repository_failure, repository_result}
use Rattle.cli_call.specs.Alone.{AnswersByContents, AnswersByOpened, AnswersOpened}
use Rattle.cli_call.specs.Command.{AreReady, Disks}
use Rattle.cli_call.proofs.OpenedEnds.{database_held, memory_opened, opened_contents, repo_fault_opened, root_moments, same_holds}
use Rattle.cli_call.proofs.StoreLaws.{nothing_done}
use Rattle.repo_commands.specs.Commit.{commit_of, committed, Commits}
use Rattle.repo_commands.proofs.WholeContents.{no_ids, passes_whole, refused_whole}

-- a commit writes no file of a commit that is there
abbrev pub KeepsCommits : Type 0
KeepsCommits = (c : CatalogueParts) (change : ChangeSet) (number : ℕ) → HasContents change → c.commits ≤ COMMITS_LIMIT → number ≤ c.commits → IsWrittenName c change.contents (commit_file number) → ⊥

-- and none of a content, but of those that it carries and no trove records
abbrev pub KeepsContents : Type 0
KeepsContents = (c : CatalogueParts) (change : ChangeSet) (name : List ℕ) → HasContents change → IsContentName name
    → ((content : Carried) → Contains change.contents content → content.name ≡ name → has_content name c.troves ≡ true) → IsWrittenName c change.contents (content_path contents_dir name) → ⊥

-- ---- values

-- without contents no test looks at those that are held
later_same : (c : CatalogueParts) (held other : ContentMap) (troves : List TroveParts) → later_refusal c held [] troves ≡ later_refusal c other [] troves
later_same c held other [] = refl
later_same c held other (t ∷ troves) = refl

-- the catalogue after a commit is that of the commits after it
after_catalogue : (troves : List TroveParts) (contents : List Carried) (r : RepositoryState) → catalogue_after troves (catalogue_of r.commits) ≡ catalogue_of (after_commit troves contents r).commits
after_catalogue [] contents r = refl
after_catalogue (t ∷ troves) contents r =
    let long = length-append r.commits ((t ∷ troves) ∷ []) in
    λ i. record { commits = sym long i; troves = sym (troves_push r.commits (t ∷ troves)) i }

module _ (set : ChangeSet) (none : set.contents ≡ []) (c : CatalogueParts) (held other : ContentMap) where
  tests_same : (troves : List TroveParts) → later_refusal c other set.contents troves ≡ later_refusal c held set.contents troves
  tests_same troves = subst (λ (l : List Carried). later_refusal c other l troves ≡ later_refusal c held l troves) (sym none) (later_same c other held troves)

  passes_same : (troves : List TroveParts) → Passes c held set troves → Passes c other set troves
  passes_same troves p = record { made = p.made; passed = tests_same troves ∙ p.passed }

  refused_same : (refused : Refusal) → IsRefused c held set refused → IsRefused c other set refused
  refused_same refused (inl first) = inl first
  refused_same refused (inr later) = inr (record { troves = later.troves; made = later.made; fails = tests_same later.troves ∙ later.fails })

-- ---- files

few_commits : (c : CatalogueParts) → IsCatalogue c → c.commits ≤ COMMITS_LIMIT
few_commits c rules = subst (λ (k : CatalogueParts). k.commits ≤ COMMITS_LIMIT) (sym rules.is) rules.rules.few

-- it leaves the files of the commits and of committed contents, and where it carries none those of all contents
module _ {P : Type 0} (disk : DiskModel P) (set : ChangeSet) (has : HasContents set) (c : CatalogueParts) (rules : IsCatalogue c) (old new : P) (keeps_commits : KeepsCommits) (keeps_contents : KeepsContents)
    (only : IsTrue disk.tells → Confined disk (IsWrittenName c set.contents) old new) where
  named : (all : Bool) → (all ≡ true → set.contents ≡ []) → (name : List ℕ) → (all || has_content name c.troves) ≡ true → (carried : Carried) → Contains set.contents carried → has_content name c.troves ≡ true
  named true none name is carried among = absurd (nothing_in carried (subst (λ (l : List Carried). Contains l carried) (none refl) among))
  named false none name is carried among = is

  pub files_stay : (all : Bool) → (all ≡ true → set.contents ≡ []) → FilesStay disk c all old new
  files_stay all none told = confined_wider (λ q written kept. left q written kept) (only told)
    where
      left : (q : Name) → IsWrittenName c set.contents q → IsKeptFile c all q → ⊥
      left q written (inl commit) = keeps_commits c set commit.0 has (few_commits c rules) commit.1 (subst (IsWrittenName c set.contents) commit.2 written)
      left q written (inr content) = keeps_contents c set content.0 has content.1 (λ carried among same. named all none content.0 content.2 carried among) (subst (IsWrittenName c set.contents) content.3 written)

-- ---- the clauses

module _ {T P : Type 0} {root_disk : DiskModel T} {repo_disk : DiskModel P} (root_disk_laws : IsDisk root_disk) (set : ChangeSet) (input : List ℕ) (old new : Disks T P) (ready : AreReady root_disk repo_disk old) (root_same : new.root ≡ old.root) (c' : CatalogueParts) where
  abbrev Ends : Result (List TroveId) Stop → Type 0
  Ends r = EndsSo repo_disk set old.opened.catalogue c' old.repo new.repo r

  -- the contents that stand whole, and those that are damaged are none of them
  abbrev there : ContentMap
  there = committed_contents old.opened.catalogue.troves (repo_disk.reads old.repo)

  -- what is so of the catalogue is so of the commits of a state that has it
  of_commits : (s : State) → HasOpened root_disk old.root old.opened s → (Q : CatalogueParts → Type 0) → Q old.opened.catalogue → Q (catalogue_of s.repository.commits)
  of_commits s has Q h = subst Q (sym has.catalogue) h

  root_read : Reads root_disk old.root new.root (Unit {0})
  root_read told = subst (λ (d : T). HasRead root_disk old.root d (Unit {0})) (sym root_same) (nothing_done root_disk_laws old.root)

  -- ---- on a state on which the tests end as on the disk

  told_on : (ids : List TroveId) (text : List ℕ) (d : IsCommitDone repo_disk set old.opened.catalogue c' ids old.repo new.repo) → text ≡ committed_text ids → (s : State) → HasOpened root_disk old.root old.opened s
      → Passes old.opened.catalogue s.repository.contents set d.troves → AnswersOpened root_disk repo_disk (Commits set s.repository) s old new (Ok text)
  told_on ids text d is s has passes =
      let next : State = record { root = s.root; repository = after_commit d.troves set.contents s.repository } in
      record {
        next = next;
        answers = record {
          effect = committed s.repository set d.troves;
          is = record { troves = d.troves; passes = of_commits s has (λ k. Passes k s.repository.contents set d.troves) passes; is = refl };
          leads = refl;
          bytes = sym (is ∙ ap committed_text d.ids_are);
        };
        holds = λ le. record {
          outer = λ told q out. ap (λ (r : T). get (root_disk.reads r) q) root_same ∙ has.outer q out;
          database = λ t. database_held old.root old.opened s has (root_disk.reads new.root) (subst (λ (r : T). HoldsDatabase Two (root_disk.reads r) old.opened.db.installed old.opened.db.oldest old.opened.db.newest) (sym root_same) (ready.root t).holds);
          catalogue = λ t. subst (λ (k : CatalogueParts). HoldsCatalogue (repo_disk.reads new.repo) k)
              (d.catalogue_is ∙ ap (catalogue_after d.troves) (sym has.catalogue) ∙ after_catalogue d.troves set.contents s.repository) d.rests.holds;
        };
        moments = root_moments root_disk_laws old new ready root_read s next has;
      }

  refused_on : (refused : Refusal) → (IsTrue repo_disk.tells → repo_disk.reads new.repo ≡ repo_disk.reads old.repo) → (s : State) → HasOpened root_disk old.root old.opened s → IsRefused old.opened.catalogue s.repository.contents set refused
      → AnswersOpened root_disk repo_disk (Commits set s.repository) s old new (Err (failure.Refused refused))
  refused_on refused same s has fails = record {
    next = s;
    answers = (of_commits s has (λ k. IsRefused k s.repository.contents set refused) fails, refl);
    holds = λ le. same_holds old new ready (λ told. ap root_disk.reads root_same) same s has;
    moments = root_moments root_disk_laws old new ready root_read s s has;
  }

  -- its ids couldn't be told, for want of memory
  pub told_memory : AnswersByOpened root_disk repo_disk (commit_of set) input old new (Err failure.Memory)
  told_memory = memory_opened root_disk_laws (commit_of set) input old new ready root_read

  -- ---- a set without contents, by the catalogue alone

  module _ (none : set.contents ≡ []) where
    abbrev pub Answered : Result (List ℕ) Failure → Type 0
    Answered f = AnswersByOpened root_disk repo_disk (commit_of set) input old new f

    stopped : (e : Stop) → CommitStopsSo repo_disk set old.opened.catalogue c' old.repo new.repo e → Answered (Err (repository_failure e))
    stopped (stop.Refused refused) ends = λ told s has. refused_on refused (λ t. ends.0.same.reads) s has (refused_same set none old.opened.catalogue there s.repository.contents refused ends.0.answer)
    stopped (stop.Damaged path) ends = let source = ends.0.answer in absurd (nothing_in source.content (subst (λ (l : List Carried). Contains l source.content) none source.listed))
    stopped stop.Failed ends = repo_fault_opened root_disk_laws (commit_of set) input old new ready root_read
    stopped stop.Memory ends = memory_opened root_disk_laws (commit_of set) input old new ready root_read
    stopped stop.FarFailed ends = absurd ends
    stopped (stop.FarDamaged path) ends = absurd ends

    -- by the result, with its stop as a failure
    pub failed_opened : (r : Result (List TroveId) Stop) → Ends r → (f : Failure) → repository_result r ≡ Err f → Answered (Err f)
    failed_opened (Ok ids) ends f is = absurd (cc is)
    failed_opened (Err e) ends f is = subst (λ (x : Result (List TroveId) Failure). IfErr x (λ k. Answered (Err k))) is (stopped e ends)

    pub told_opened : (r : Result (List TroveId) Stop) → Ends r → (ids : List TroveId) → repository_result r ≡ Ok ids → (text : List ℕ) → text ≡ committed_text ids → Answered (Ok text)
    told_opened (Ok made) ends ids is text text_is = λ told s has.
        let d : IsCommitDone repo_disk set old.opened.catalogue c' ids old.repo new.repo = subst (λ (x : Result (List TroveId) Failure). IfOk x (λ k. IsCommitDone repo_disk set old.opened.catalogue c' k old.repo new.repo)) is ends in
        told_on ids text d text_is s has (passes_same set none old.opened.catalogue there s.repository.contents d.troves d.passes)
    told_opened (Err e) ends ids is text text_is = absurd (cc is)

  -- ---- any set, by the catalogue and the contents that stand whole

  abbrev pub AnsweredWhole : Result (List ℕ) Failure → Type 0
  AnsweredWhole f = AnswersByContents root_disk repo_disk (commit_of set) input old new f

  stopped_whole : (e : Stop) → CommitStopsSo repo_disk set old.opened.catalogue c' old.repo new.repo e → IsFirstStop old.opened.catalogue (repo_disk.reads old.repo) set e → AnsweredWhole (Err (repository_failure e))
  stopped_whole (stop.Refused refused) ends first = λ told repo_told whole s has contents. refused_on refused (λ t. ends.0.same.reads) s has
      (refused_whole old.opened.catalogue (repo_disk.reads old.repo) s.repository.contents contents set refused first)
  stopped_whole (stop.Damaged path) ends first = λ told repo_told whole. absurd (omega (arith, whole))
  stopped_whole stop.Failed ends first = opened_contents (commit_of set) input old new (Err failure.RepositoryFault) (repo_fault_opened root_disk_laws (commit_of set) input old new ready root_read)
  stopped_whole stop.Memory ends first = opened_contents (commit_of set) input old new (Err failure.Memory) (memory_opened root_disk_laws (commit_of set) input old new ready root_read)
  stopped_whole stop.FarFailed ends first = absurd ends
  stopped_whole (stop.FarDamaged path) ends first = absurd ends

  failed_told : (r : Result (List TroveId) Stop) → Ends r → IfErr r (IsFirstStop old.opened.catalogue (repo_disk.reads old.repo) set) → (f : Failure) → repository_result r ≡ Err f → AnsweredWhole (Err f)
  failed_told (Ok ids) ends first f is = absurd (cc is)
  failed_told (Err e) ends first f is = subst (λ (x : Result (List TroveId) Failure). IfErr x (λ k. AnsweredWhole (Err k))) is (stopped_whole e ends first)

  pub failed_whole : (r : Result (List TroveId) Stop) → (IsTrue repo_disk.tells → Ends r) → (IsTrue repo_disk.tells → IfErr r (IsFirstStop old.opened.catalogue (repo_disk.reads old.repo) set)) → (f : Failure) → repository_result r ≡ Err f → AnsweredWhole (Err f)
  failed_whole r ends first f is told repo_told = failed_told r (ends repo_told) (first repo_told) f is told repo_told

  pub told_whole : (r : Result (List TroveId) Stop) → (IsTrue repo_disk.tells → Ends r) → (IsTrue repo_disk.tells → IfOk r (λ ids. (ids ≡ [] → ⊥) → AreSound set.contents old.opened.catalogue.troves (repo_disk.reads old.repo))) → (ids : List TroveId) → repository_result r ≡ Ok ids
      → (text : List ℕ) → text ≡ committed_text ids → AnsweredWhole (Ok text)
  told_whole (Ok made) ends sound ids is text text_is = λ told repo_told whole s has contents.
      let d : IsCommitDone repo_disk set old.opened.catalogue c' ids old.repo new.repo = subst (λ (x : Result (List TroveId) Failure). IfOk x (λ k. IsCommitDone repo_disk set old.opened.catalogue c' k old.repo new.repo)) is (ends repo_told) in
      let free : (ids ≡ [] → ⊥) → AreSound set.contents old.opened.catalogue.troves (repo_disk.reads old.repo) =
      subst (λ (x : Result (List TroveId) Failure). IfOk x (λ k. (k ≡ [] → ⊥) → AreSound set.contents old.opened.catalogue.troves (repo_disk.reads old.repo))) is (sound repo_told) in
      told_on ids text d text_is s has
      (passes_whole old.opened.catalogue (repo_disk.reads old.repo) s.repository.contents contents set d.troves (λ full. free (λ none. full (no_ids d.troves (sym d.ids_are ∙ none)))) d.passes)
  told_whole (Err e) ends sound ids is text text_is = absurd (cc is)
