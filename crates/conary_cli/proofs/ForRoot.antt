-- The commands that work on the root alone mean the same beside each repository.
use Rattle.std.proofs.Common.{◌≡◌, ℕ, true, false, List, Result, Ok, None, Some, Option, refl, ap, ⊎_elim}
use Rattle.root_commands.specs.cli-call.cny-base.declared.options.Options.{Options}
use Rattle.root_commands.specs.cli-call.cny-base.declared.refusal.Refusal.{Refusal}
use Rattle.root_commands.specs.cli-call.Answer.{answer}
use Rattle.root_commands.specs.cli-call.cny-laws.State.{nothing, on_repository, Change, Effect, RootState}
use Rattle.repo_load.specs.State.{RepositoryState}
use Rattle.cny_manifest.specs.declared.made.Made.{Made}
use Rattle.cli_words.specs.declared.words.Command.{Command}
use Rattle.cli_words.specs.declared.words.Command.TheVariants as command
use Rattle.root_commands.proofs.cli-call.ForRoot.{IsOfRoot}
use Rattle.root_commands.specs.cli-call.trove-stream.declared.parts.TroveParts.{TroveParts}
use Rattle.root_commands.specs.cli-call.trove-stream.Installed.{trove_of}
use Rattle.root_commands.specs.cli-call.system-core.Job.{Sources}
use Rattle.root_commands.specs.cli-call.system-core.Lists.{ListStep}
use Rattle.root_commands.specs.Install.{first_reserved, InstallsMade, UnlessReserved}
use Rattle.root_commands.specs.JobOutcome.{JobOutcome}
use Rattle.root_commands.specs.Listing.{described_of, listed}
use Rattle.conary_cli.specs.Commands.{is_of_contents, is_of_repository, is_of_root, meaning}

-- none of these is a change of the repository
unchanged_stays : (change : Change) (y : RepositoryState) → change ≡ nothing → change ≡ on_repository y → ⊥
unchanged_stays change y same is = absurd (cc (same, is))

answer_stays : (text : List ℕ) (e : Effect) (y : RepositoryState) → (let r : Result Effect Refusal = Ok e in r ≡ Ok (answer text)) → e.change ≡ on_repository y → ⊥
answer_stays text e y same is = absurd (cc (same, is))

job_stays : (from : Sources) (step : ListStep) (s : RootState) (e : Effect) (y : RepositoryState) → JobOutcome from step s (Ok e) → e.change ≡ on_repository y → ⊥
job_stays from step s e y job is = ⊎_elim (λ no. let same = no.1 in absurd (cc (same, is))) (λ new. let now = new.1 in absurd (cc (now, is))) job.change

reserved_stays : (options : Options) (made : Made) (s : RootState) (reserved : Option (List ℕ)) (e : Effect) (y : RepositoryState) → UnlessReserved reserved (InstallsMade options made s) (Ok e) → e.change ≡ on_repository y → ⊥
reserved_stays options made s None e y job is = job_stays _ _ s e y job is
reserved_stays options made s (Some path) e y refused is = absurd (cc refused)

described_stays : (name : List ℕ) (found : Option TroveParts) (e : Effect) (y : RepositoryState) → Ok e ≡ described_of name found → e.change ≡ on_repository y → ⊥
described_stays name None e y same is = absurd (cc same)
described_stays name (Some trove) e y same is = answer_stays _ e y same is

listed_stays : (name : Option (List ℕ)) (installed : List TroveParts) (e : Effect) (y : RepositoryState) → Ok e ≡ listed name installed → e.change ≡ on_repository y → ⊥
listed_stays None installed e y same is = answer_stays _ e y same is
listed_stays (Some name) installed e y same is = described_stays name (trove_of name installed) e y same is

pub of_root : (c : Command) → is_of_root c ≡ true → IsOfRoot (meaning c)
of_root (command.Install options) on = record {
  same = λ s r input outcome h. h;
  stays = λ s input e y h is. ⊎_elim
      (λ makes. reserved_stays options makes.made s.root (first_reserved makes.made.troves) e y makes.is is)
      (λ fault. let refused = fault.is in absurd (cc refused))
      h;
}
of_root command.ShowChangeSet on = record {
  same = λ s r input outcome h. h;
  stays = λ s input e y h is. unchanged_stays e.change y (ap (λ (x : Effect). x.change) h.2) is;
}
of_root (command.Cook next) on = absurd (cc on)
of_root command.Commit on = absurd (cc on)
of_root (command.ListCommitted name) on = absurd (cc on)
of_root (command.Update specs options resolve) on = absurd (cc on)
of_root (command.UpdateByInput options) on = absurd (cc on)
of_root (command.Sync options) on = absurd (cc on)
of_root (command.Erase names replace) on = record {
  same = λ s r input outcome h. h;
  stays = λ s input e y h is. job_stays _ _ s.root e y h is;
}
of_root (command.Rollback number) on = record {
  same = λ s r input outcome h. h;
  stays = λ s input e y h is. let same = h.change in absurd (cc (same, is));
}
of_root (command.ListInstalled name) on = record {
  same = λ s r input outcome h. h;
  stays = λ s input e y h is. listed_stays name s.root.installed e y h is;
}
of_root (command.Verify true names) on = absurd (cc on)
of_root (command.Verify false names) on = record {
  same = λ s r input outcome h. h;
  stays = λ s input e y h is. unchanged_stays e.change y (ap (λ (x : Effect). x.change) h.1) is;
}
of_root command.ListJobs on = record {
  same = λ s r input outcome h. h;
  stays = λ s input e y h is. let same = h.effect_is in absurd (cc (same, is));
}
of_root (command.LocalChanges name) on = record {
  same = λ s r input outcome h. h;
  stays = λ s input e y h is. let same = h.answered.0 in absurd (cc (same, is));
}
of_root (command.SendChanges from to) on = absurd (cc on)
of_root command.Serve on = absurd (cc on)
of_root command.AskMirror on = absurd (cc on)
of_root command.TakeMirror on = absurd (cc on)
of_root (command.Move way label given) on = absurd (cc on)

-- they aren't among those that work on the repository, or on its contents
pub not_apart : (c : Command) → is_of_root c ≡ true → is_of_repository c ≡ false
not_apart (command.Install options) on = refl
not_apart command.ShowChangeSet on = refl
not_apart (command.Erase names replace) on = refl
not_apart (command.Rollback number) on = refl
not_apart (command.ListInstalled name) on = refl
not_apart (command.Verify full names) on = refl
not_apart command.ListJobs on = refl
not_apart (command.LocalChanges name) on = refl
not_apart _ on = absurd (cc on)

pub no_contents : (c : Command) → is_of_root c ≡ true → is_of_contents c ≡ false
no_contents (command.Install options) on = refl
no_contents command.ShowChangeSet on = refl
no_contents (command.Erase names replace) on = refl
no_contents (command.Rollback number) on = refl
no_contents (command.ListInstalled name) on = refl
no_contents (command.Verify true names) on = absurd (cc on)
no_contents (command.Verify false names) on = refl
no_contents command.ListJobs on = refl
no_contents (command.LocalChanges name) on = refl
no_contents _ on = absurd (cc on)
