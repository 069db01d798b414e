-- `commit` and `cook` have one outcome.
use Rattle.std.proofs.Common.{◌≡◌, Bool, Result, Ok, Err, refl, sym, ap, ◌∙◌}
use Rattle.conary_cli.specs.cli-call.cny-base.declared.refusal.Refusal.{Refusal}
use Rattle.conary_cli.specs.cli-call.trove-stream.declared.parts.TroveParts.{TroveParts}
use Rattle.conary_cli.specs.cli-call.trove-stream.declared.rel.RelParts.{RelParts}
use Rattle.conary_cli.specs.cli-call.change-rel.trove-stream.Leads.{Leads}
use Rattle.conary_cli.specs.cli-call.change-set.declared.change.ChangeSet.{ChangeSet}
use Rattle.repo_load.specs.State.{catalogue_of, troves_of, RepositoryState}
use Rattle.repository.specs.Steps.{after_commit, IsCommitStep}
use Rattle.repository.specs.Tests.{IsRefused}
use Rattle.repository.proofs.Unique.{make_once}
use Rattle.conary_cli.specs.repo-commands.Commit.{commit, committed, Commits}
use Rattle.conary_cli.specs.repo-commands.Cook.{cook, cooked_set, Cooks, CommitsSet}
use Rattle.outcome_laws.specs.OneOutcome.{AtMostOne, HasOneOutcome}
use Rattle.outcome_laws.proofs.Tests.{done, refused, with_shared, SetLaws, set_once, ManifestLaws, manifest_once}

-- A relative trove leads from a trove to one at most; a commit is refused for one reason at most, and isn't made then.
pub record CommitLaws : Type 0 where
  pub led : (rel : RelParts) (old a b : TroveParts) → Leads rel old a → Leads rel old b → a ≡ b
  pub refusal : (r : RepositoryState) (change : ChangeSet) (a b : Refusal) → IsRefused (catalogue_of r.commits) r.contents change a → IsRefused (catalogue_of r.commits) r.contents change b → a ≡ b
  pub apart : (r : RepositoryState) (change : ChangeSet) (new : RepositoryState) (refusal : Refusal) → IsCommitStep r change new → IsRefused (catalogue_of r.commits) r.contents change refusal → ⊥

module _ (laws : CommitLaws) where
  pub commits_once : (set : ChangeSet) (r : RepositoryState) → AtMostOne (Commits set r)
  commits_once set r (Ok x) (Ok y) h g = ap done (h.is ∙ ap (committed r set) (make_once laws.led (troves_of r.commits) set.parts h.troves g.troves h.passes.made.make g.passes.made.make) ∙ sym g.is)
  commits_once set r (Ok x) (Err q) h g = absurd (laws.apart r set (after_commit h.troves set.contents r) q (record { troves = h.troves; passes = h.passes; is = refl }) g)
  commits_once set r (Err p) (Ok y) h g = absurd (laws.apart r set (after_commit g.troves set.contents r) p (record { troves = g.troves; passes = g.passes; is = refl }) h)
  commits_once set r (Err p) (Err q) h g = ap refused (laws.refusal r set p q h g)

  commits_set_once : (r : RepositoryState) (set : Result ChangeSet Refusal) → AtMostOne (CommitsSet r set)
  commits_set_once r (Ok set) = commits_once set r
  commits_set_once r (Err p) = λ a b h g. h ∙ sym g

  pub commit_once : SetLaws → HasOneOutcome commit
  commit_once set_laws = with_shared commit (λ s input state. set_once set_laws input (λ (set : ChangeSet). Commits set s.repository) (λ set. commits_once set s.repository))

  pub cook_once : ManifestLaws → (next : Bool) → HasOneOutcome (cook next)
  cook_once manifest_laws next = with_shared (cook next) (λ s input state. manifest_once manifest_laws input (Cooks next s.repository)
      (λ made. commits_set_once s.repository (cooked_set next (troves_of s.repository.commits) made)))
