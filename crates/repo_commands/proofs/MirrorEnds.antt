-- How `mirror ask` ends, from the catalogue, and `mirror take` on an input that is no reply.
use Rattle.std.proofs.Common.{◌≡◌, inr, ℕ, List, Result, Ok, Err, refl, sym, ap, subst}
use Rattle.cli_call.specs.cny-base.declared.refusal.Fault.{Fault}
use Rattle.cli_call.specs.cny-base.declared.refusal.Fault.TheVariants.{Refused}
use Rattle.cli_call.specs.cny-base.declared.refusal.Refusal.{Refusal}
use Rattle.cli_call.specs.tree-disk.Disk.{DiskModel, IsDisk}
use Rattle.cli_call.specs.change-set.declared.change.ChangeSet.{ChangeSet}
use Rattle.cli_call.specs.trove-stream.declared.parts.TroveParts.{TroveParts}
use Rattle.repo_load.specs.State.{troves_of}
use Rattle.repo_mirror.specs.Faults.{IsMalformed}
use Rattle.repo_mirror.specs.Replies.{IsReplyFault}
use Rattle.repo_mirror.specs.Asking.{AsksSo, IsAsked}
use Rattle.cli_call.specs.cny-laws.Failures.{failure_of_fault}
use Rattle.cli_call.specs.cny-laws.State.{Effect}
use Rattle.cli_call.specs.cny-laws.Store.{IsStore}
use Rattle.cli_call.specs.cny-laws.Stores.{repository_store}
use Rattle.cli_call.specs.Alone.{ActsOnRepository, AnswersByContents, AnswersByLists}
use Rattle.cli_call.specs.Answer.{answer}
use Rattle.cli_call.specs.Command.{Disks, AreReady}
use Rattle.cli_call.proofs.Answered.{acted, fault_acted, fault_listed, result_of, text_listed}
use Rattle.cli_call.proofs.OpenedEnds.{fault_whole}
use Rattle.cli_call.proofs.ReadingEnds.{CatalogueIs, troves_at}
use Rattle.cli_call.proofs.StoreLaws.{nothing_done}
use Rattle.repo_commands.specs.AskMirror.{ask_mirror, AnswersAsked}
use Rattle.repo_commands.specs.Commit.{Commits}
use Rattle.repo_commands.specs.TakeMirror.{take_mirror, OfReply}

-- the refusal of a fault
refusal_asked : (troves : List TroveParts) (f : Fault) (r : Refusal) → f ≡ Refused r → AsksSo troves (Err f) → IsAsked troves (Err r)
refusal_asked troves f r same asks = subst (λ (x : Fault). AsksSo troves (Err x)) same asks

-- an input that is no reply is refused with the place of its first fault
fault_at : (input : List ℕ) (f : Fault) → IsMalformed (IsReplyFault input) f → (r : Refusal) → f ≡ Refused r → (IsOutcome : ChangeSet → Result Effect Refusal → Type 0) → OfReply input IsOutcome (Err r)
fault_at input f is r same IsOutcome = let at = subst (IsMalformed (IsReplyFault input)) same is in inr (record { place = at.0; first = at.2; is = ap Err at.1 })

module _ {T P : Type 0} {root_disk : DiskModel T} {repo_disk : DiskModel P} (input : List ℕ) (m : Disks T P) where
  -- by the lists that were read when the disks were opened
  pub asked_by_lists : (r : Result (List ℕ) Fault) → AsksSo m.opened.catalogue.troves r → AnswersByLists root_disk repo_disk ask_mirror input m m (result_of r)
  asked_by_lists (Ok bytes) asks = text_listed ask_mirror input m bytes (λ s has. (bytes, subst (λ (l : List TroveParts). IsAsked l (Ok bytes)) (sym has.committed) asks, refl))
  asked_by_lists (Err f) asks = fault_listed ask_mirror input m f
      (λ r same s has. subst (λ (l : List TroveParts). IsAsked l (Err r)) (sym has.committed) (refusal_asked m.opened.catalogue.troves f r same asks))

  module _ (repo_disk_laws : IsDisk repo_disk) (store_laws : IsStore repository_store) (ready : AreReady root_disk repo_disk m) where
    -- by the repository
    pub asked_acts : CatalogueIs → (r : Result (List ℕ) Fault) → AsksSo m.opened.catalogue.troves r → ActsOnRepository root_disk repo_disk ask_mirror input m m (result_of r)
    asked_acts law (Ok bytes) asks = acted repo_disk_laws store_laws ask_mirror input m ready (Ok (answer bytes))
        (λ told s rests o is. subst (AnswersAsked (troves_of s.repository.commits)) is
        (bytes, subst (λ (l : List TroveParts). IsAsked l (Ok bytes)) (troves_at law m ready told s rests) asks, refl))
        (Ok bytes) refl
    asked_acts law (Err f) asks = fault_acted repo_disk_laws store_laws ask_mirror input m ready f
        (λ r same told s rests. subst (λ (l : List TroveParts). IsAsked l (Err r)) (troves_at law m ready told s rests) (refusal_asked m.opened.catalogue.troves f r same asks))

    -- the input is no reply
    pub no_reply : (f : Fault) → IsMalformed (IsReplyFault input) f → ActsOnRepository root_disk repo_disk take_mirror input m m (Err (failure_of_fault f))
    no_reply f is = fault_acted repo_disk_laws store_laws take_mirror input m ready f (λ r same told s rests. fault_at input f is r same (λ set. Commits set s.repository))

  -- the same by the contents that stand whole
  pub no_reply_whole : IsDisk root_disk → AreReady root_disk repo_disk m → (f : Fault) → IsMalformed (IsReplyFault input) f → AnswersByContents root_disk repo_disk take_mirror input m m (Err (failure_of_fault f))
  no_reply_whole root_disk_laws ready f is = fault_whole root_disk_laws take_mirror input m m ready (λ told. nothing_done root_disk_laws m.root) (λ told. refl) f (λ r same told s has. fault_at input f is r same (λ set. Commits set s.repository))
