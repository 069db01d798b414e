-- Sound lists stay sound.
use Rattle.std.proofs.Common.{◌≡◌, ◌-◌, List, [], ◌∷◌, take, All, refl, subst}
use Rattle.std.proofs.lemmas.List.Elements.{All-cons, All-head, All-nil, All-tail, All-take}
use Rattle.conary_cli.specs.cli-call.cny-base.declared.limits.TheConstants.{STACK_LIMIT}
use Rattle.conary_cli.specs.cli-call.trove-stream.declared.parts.TroveParts.{TroveParts}
use Rattle.conary_cli.specs.cli-call.tree-disk.Tree.{Tree}
use Rattle.conary_cli.specs.cli-call.journal-log.declared.put.Put.{Put}
use Rattle.conary_cli.specs.root-commands.dep-closure.Closed.{HasAllMet}
use Rattle.conary_cli.specs.cli-call.local-db.SystemState.{empty_system, StackItem}
use Rattle.conary_cli.specs.cli-call.local-db.Steps.{after_job, after_rollback, old_of}
use Rattle.conary_cli.specs.cli-call.cny-laws.State.{RootState}
use Rattle.outcome_laws.specs.RootSteps.{HasSoundLists, IsRootStep, IsSound}
use Rattle.outcome_laws.proofs.SinceJobs.{step_on}

abbrev IsSoundBefore : StackItem → Type 0
IsSoundBefore o = IsSound o.list

job_sound : (puts : List Put) (list : List TroveParts) (x : RootState) → IsSound list → HasSoundLists x → HasSoundLists (after_job puts list x)
job_sound puts list x sound h = record {
  installed = sound;
  stacked = All-cons IsSoundBefore (old_of puts x) (take (STACK_LIMIT - 1) x.stack) h.installed (All-take IsSoundBefore (STACK_LIMIT - 1) x.stack h.stacked);
}

back_sound : (o : StackItem) (olds : List StackItem) (x : RootState) → x.stack ≡ o ∷ olds → HasSoundLists x → HasSoundLists (after_rollback o olds x)
back_sound o olds x stack h = record { installed = All-head IsSoundBefore o olds all; stacked = All-tail IsSoundBefore o olds all }
  where
    all : All IsSoundBefore (o ∷ olds)
    all = subst (All IsSoundBefore) stack h.stacked

pub sound_on : (x y : RootState) → HasSoundLists x → IsRootStep x y → HasSoundLists y
sound_on = step_on HasSoundLists job_sound back_sound

pub empty_sound : (tree : Tree) → HasSoundLists (empty_system tree)
empty_sound tree = record {
  installed = record { closed = All-nil (HasAllMet []); unshared = λ path. refl };
  stacked = All-nil IsSoundBefore;
}
