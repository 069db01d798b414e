-- How `rq` ends, from the catalogue.
use Rattle.std.proofs.Common.{ℕ, List, Option, Result, sym, ap, ◌∙◌}
use Rattle.cli_call.specs.cny-base.declared.refusal.Fault.{Fault}
use Rattle.cli_call.specs.tree-disk.Disk.{DiskModel, IsDisk}
use Rattle.cli_call.specs.Alone.{ActsOnRepository}
use Rattle.cli_call.specs.Command.{Disks, AreReady}
use Rattle.cli_call.specs.Answer.{AnswersSo}
use Rattle.cli_call.proofs.Answered.{acted, result_of}
use Rattle.cli_call.specs.cny-laws.Store.{IsStore}
use Rattle.cli_call.specs.cny-laws.Stores.{repository_store}
use Rattle.repo_commands.specs.Listing.{listed, list_committed}
use Rattle.cli_call.proofs.ReadingEnds.{CatalogueIs, troves_at}

module _ {T P : Type 0} {root_disk : DiskModel T} {repo_disk : DiskModel P} (law : CatalogueIs) (name : Option (List ℕ)) (input : List ℕ) (m : Disks T P) (ready : AreReady root_disk repo_disk m) where
  pub lists_performed : IsDisk repo_disk → IsStore repository_store → (r : Result (List ℕ) Fault) → AnswersSo (listed name m.opened.catalogue.troves) r → ActsOnRepository root_disk repo_disk (list_committed name) input m m (result_of r)
  lists_performed repo_disk_laws store_laws r lists =
      acted repo_disk_laws store_laws (list_committed name) input m ready (listed name m.opened.catalogue.troves)
      (λ told s rests o is. sym (ap (listed name) (sym (troves_at law m ready told s rests)) ∙ is)) r lists
