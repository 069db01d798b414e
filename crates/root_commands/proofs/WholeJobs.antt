-- How a job with the contents of the repository behind it ends, on each state that has what was read when the disks were opened, and the
-- contents that stand whole.
use Rattle.std.proofs.Common.{◌≡◌, ℕ, List, Result, Ok, Err, refl, subst}
use Rattle.std.specs.Prelude.{IsTrue, Option}
use Rattle.cli_call.specs.cny-base.declared.options.Options.{Options}
use Rattle.cli_call.specs.cny-base.declared.refusal.Refusal.{Refusal}
use Rattle.cli_call.specs.cny-base.declared.stop.Stop.{Stop}
use Rattle.cli_call.specs.change-set.declared.change.Carried.{Carried}
use Rattle.cli_call.specs.content-store.Contents.{Answers}
use Rattle.cli_call.specs.tree-disk.Disk.{DiskModel, IsDisk}
use Rattle.cli_call.specs.trove-stream.declared.parts.TroveParts.{TroveParts}
use Rattle.repo_index.specs.Catalogue.{CatalogueParts}
use Rattle.repo_load.specs.Contents.{FindsContent}
use Rattle.repo_load.specs.RepoContents.{repo_contents, HasSearched}
use Rattle.repo_load.specs.declared.repo_contents.RepoContents.{RepoContents}
use Rattle.local_db.specs.declared.format.Format.TheVariants.{Two}
use Rattle.local_db.specs.Stores.{HoldsDatabase}
use Rattle.cli_call.specs.system-core.declared.done.Done.{Done}
use Rattle.cli_call.specs.system-core.Job.{Sources, sources_of}
use Rattle.cli_call.specs.system-core.Lists.{ListStep}
use Rattle.cli_call.proofs.system-core.Managed.{KeepsOut}
use Rattle.cny_report.specs.Jobs.{changes_text}
use Rattle.cli_call.specs.Alone.{AnswersByContents, AnswersOpened}
use Rattle.cli_call.specs.Command.{disks, AreReady, Disks}
use Rattle.cli_call.specs.cny-laws.Call.{HasWholeContents}
use Rattle.cli_call.specs.cny-laws.State.{Effect, Meaning, RootState, State}
use Rattle.cli_call.specs.cny-laws.Stops.{root_failure, root_result}
use Rattle.cli_call.specs.cny-laws.declared.failure.Failure.{Failure}
use Rattle.cli_call.specs.cny-laws.declared.failure.Failure.TheVariants as failure
use Rattle.cli_call.specs.cny-laws.declared.opened.Opened.{Opened}
use Rattle.cli_call.proofs.CommandLaws.{answers_more}
use Rattle.cli_call.proofs.RootResults.{root_ok, same_failure}
use Rattle.root_commands.specs.JobOutcome.{JobOutcome}
use Rattle.root_commands.specs.Update.{answers_of, job_from, JobFrom}
use Rattle.root_commands.proofs.JobOpened.{done_in, stopped_in, untold_in, Calls, Moves}
use Rattle.root_commands.proofs.MoreAnswers.{passes_more, refusal_more}

-- the outcome of a job with contents that answer at least as much
job_more : {D : Type 0} (disk : DiskModel D) (carried : List Carried) (options : Options) (one two : Answers) → ((name : List ℕ) (found : Option (List ℕ)) → one name found → two name found) → (step : ListStep) (s : RootState) (o : Result Effect Refusal)
    → JobOutcome (sources_of carried one options) step s o → JobOutcome (sources_of carried two options) step s o
job_more disk carried options one two more step s (Ok e) is = record {
  list = is.list;
  leads = is.leads;
  puts = is.puts;
  passes = passes_more carried options one two more s is.list is.puts is.passes;
  changes = is.changes;
  are = is.are;
  change = is.change;
  out = is.out;
}
job_more disk carried options one two more step s (Err why) is = refusal_more carried options one two more s disk step why is

module _ {T P : Type 0} {root_disk : DiskModel T} {repo_disk : DiskModel P} (root_disk_laws : IsDisk root_disk) (root root' : T) (far far' : RepoContents P) (opened opened' : Opened) (known : far.catalogue.now ≡ opened.catalogue)
    (ready : AreReady root_disk repo_disk (disks root far.disk.now opened)) (searched : HasSearched repo_disk far far') (options : Options) (carried : List Carried) (step : List TroveParts → ListStep)
    (keeps : (list : List TroveParts) → (step opened.db.installed).leads list → KeepsOut list) (input : List ℕ) where
  abbrev pub from : Sources
  from = sources_of carried (let contents = repo_contents repo_disk in contents.answers far) options

  abbrev old : Disks T P
  old = disks root far.disk.now opened

  abbrev new : Disks T P
  new = disks root' far'.disk.now opened'

  abbrev pub Whole : Result (List ℕ) Failure → Type 0
  Whole f = AnswersByContents root_disk repo_disk (job_from options carried step) input old new f

  pub same_repo : IsTrue repo_disk.tells → repo_disk.reads far'.disk.now ≡ repo_disk.reads far.disk.now
  same_repo told = let read = searched.same told in read.same.reads

  -- what a search answers is so of the state's contents
  answered : IsTrue repo_disk.tells → (s : State) → HasWholeContents repo_disk far.disk.now opened s → (name : List ℕ) (found : Option (List ℕ)) → (let contents = repo_contents repo_disk in contents.answers far name found) → answers_of s.repository.contents name found
  answered told s whole name found is = whole name found (subst (λ (c : CatalogueParts). FindsContent c.troves name (repo_disk.reads far.disk.now) found) known (is.stands told))

  as_state : IsTrue repo_disk.tells → (s : State) → HasWholeContents repo_disk far.disk.now opened s → (f : Result (List ℕ) Failure) → AnswersOpened root_disk repo_disk (JobOutcome from (step s.root.installed) s.root) s old new f
      → AnswersOpened root_disk repo_disk (JobFrom options carried step s) s old new f
  as_state told s whole f by = record {
    next = by.next;
    answers = answers_more (job_more root_disk carried options (let contents = repo_contents repo_disk in contents.answers far) (answers_of s.repository.contents) (answered told s whole) (step s.root.installed) s.root) s by.next f by.answers;
    holds = by.holds;
    moments = by.moments;
  }

  pub failed_whole : (r : Result Done Stop) (f : Failure) → root_result r ≡ Err f → Calls root_disk_laws root root' far.disk.now far'.disk.now opened opened' ready same_repo from step keeps r → Moves root_disk_laws root root' far.disk.now far'.disk.now opened opened' ready same_repo from step keeps → Whole (Err f)
  failed_whole (Ok made) f is calls goes = absurd (cc is)
  failed_whole (Err e) f is calls goes = subst (λ (x : Failure). Whole (Err x)) (same_failure {X = Done} is)
      (λ told repo_told low s has whole. as_state repo_told s whole (Err (root_failure e)) (stopped_in root_disk_laws root root' far.disk.now far'.disk.now opened opened' ready same_repo from step keeps told s has e calls goes low))

  pub told_whole : (r : Result Done Stop) (made : Done) (text : List ℕ) → root_result r ≡ Ok made → Calls root_disk_laws root root' far.disk.now far'.disk.now opened opened' ready same_repo from step keeps r
      → (IsTrue root_disk.tells → HoldsDatabase Two (root_disk.reads root') opened'.db.installed opened'.db.oldest opened'.db.newest) → text ≡ changes_text made.changes → Whole (Ok text)
  told_whole r made text is calls held text_is = λ told repo_told low s has whole.
      as_state repo_told s whole (Ok text)
      (done_in root_disk_laws root root' far.disk.now far'.disk.now opened opened' ready same_repo from step keeps told s has made text text_is
      (subst (Calls root_disk_laws root root' far.disk.now far'.disk.now opened opened' ready same_repo from step keeps) (root_ok r made is) calls) (held told))

  pub untold_whole : (r : Result Done Stop) (made : Done) → root_result r ≡ Ok made → Calls root_disk_laws root root' far.disk.now far'.disk.now opened opened' ready same_repo from step keeps r
      → (IsTrue root_disk.tells → HoldsDatabase Two (root_disk.reads root') opened'.db.installed opened'.db.oldest opened'.db.newest) → Whole (Err failure.Memory)
  untold_whole r made is calls held = λ told repo_told low s has whole.
      as_state repo_told s whole (Err failure.Memory)
      (untold_in root_disk_laws root root' far.disk.now far'.disk.now opened opened' ready same_repo from step keeps told s has made (changes_text made.changes) refl
      (subst (Calls root_disk_laws root root' far.disk.now far'.disk.now opened opened' ready same_repo from step keeps) (root_ok r made is) calls) (held told))

-- the same disks under other names
pub whole_at : {T P : Type 0} {root_disk : DiskModel T} {repo_disk : DiskModel P} (root root' : T) (opened opened' : Opened) (m : Meaning) (input : List ℕ) (result : Result (List ℕ) Failure) (a b c d : P) → a ≡ b → c ≡ d
    → AnswersByContents root_disk repo_disk m input (disks root a opened) (disks root' c opened') result → AnswersByContents root_disk repo_disk m input (disks root b opened) (disks root' d opened') result
whole_at {P = P} {root_disk = root_disk} {repo_disk = repo_disk} root root' opened opened' m input result a b c d before after done =
    subst (λ (x : P). AnswersByContents root_disk repo_disk m input (disks root x opened) (disks root' d opened') result) before
    (subst (λ (x : P). AnswersByContents root_disk repo_disk m input (disks root a opened) (disks root' x opened') result) after done)
