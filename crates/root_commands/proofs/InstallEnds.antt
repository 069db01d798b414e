-- How `install` ends.
use Rattle.std.proofs.Common.{◌≡◌, ℕ, List, [], ◌∷◌, ◌++◌, map, Option, Some, None, Result, Ok, Err, IfErr, All, refl, sym, ap, ◌∙◌, subst, inl, inr, arith}
use Rattle.std.specs.Option.{option_or}
use Rattle.std.proofs.lemmas.List.Elements.{All-head, All-tail, All-weaker}
use Rattle.cli_call.specs.cny-base.declared.options.Options.{Options}
use Rattle.cli_call.specs.cny-base.declared.refusal.Fault.{Fault}
use Rattle.cli_call.specs.cny-base.declared.refusal.Fault.TheVariants as fault
use Rattle.cli_call.specs.cny-base.declared.refusal.Refusal.{Refusal}
use Rattle.cli_call.specs.cny-base.declared.stop.Stop.{Stop}
use Rattle.cli_call.specs.cny-base.declared.stop.Stop.TheVariants as stop
use Rattle.sha1.specs.Sha1.{sha1}
use Rattle.cli_call.specs.tree-disk.Disk.{DiskModel, IsDisk}
use Rattle.cli_call.specs.trove-stream.declared.parts.TroveParts.{TroveParts}
use Rattle.cli_call.specs.trove-stream.Forbidden.{first_forbidden}
use Rattle.cli_call.specs.change-set.declared.change.Carried.{Carried}
use Rattle.cli_call.specs.change-set.declared.change.Part.TheVariants.{Whole}
use Rattle.cli_call.specs.change-set.ChangeSet.{IsContentOf}
use Rattle.cli_call.specs.change-set.Contents.{IfRefused}
use Rattle.cli_call.specs.content-store.Contents.{empty_contents}
use Rattle.cli_call.specs.content-store.declared.contents.NoContents.{NoContents}
use Rattle.cny_manifest.specs.declared.made.Made.{Made}
use Rattle.cny_manifest.specs.FirstFault.{IsFaultOf}
use Rattle.cny_manifest.specs.Makes.{HasOwnContents, Makes}
use Rattle.cli_call.specs.system-core.declared.done.Done.{Done}
use Rattle.cli_call.specs.system-core.Steps.{HasStepCause, HasOwnCause}
use Rattle.cli_call.specs.cny-laws.declared.opened.Opened.{Opened}
use Rattle.cli_call.specs.Alone.{PerformsAlone}
use Rattle.cli_call.proofs.AloneLaws.{AnswersAlone, fault_undamaged}
use Rattle.cli_call.specs.Command as command
use Rattle.cli_call.specs.Command.{disks, AreReady, Performs}
use Rattle.cli_call.specs.cny-laws.Failures.{failure_of_fault}
use Rattle.cli_call.proofs.ReadingRoot.{read_alone, read_performed}
use Rattle.cli_call.specs.cny-laws.State.{Effect, State}
use Rattle.cli_call.specs.cny-laws.Store.{IsStore}
use Rattle.cli_call.proofs.StoreLaws.{nothing_done}
use Rattle.cli_call.specs.cny-laws.Stores.{repository_store}
use Rattle.update_job.specs.Allowed.{AreAllowed, IsFirstReserved}
use Rattle.root_commands.specs.Install.{first_reserved, install, install_made, InstallsMade, UnlessReserved}
use Rattle.update_job.specs.trove-stream.Forbidden.{IsAllowed}
use Rattle.cli_call.proofs.system-core.CallLaws.{no_rise as none_rose}

-- ---- paths that no trove may record

-- the first trove records none
none_first : (t : TroveParts) (troves : List TroveParts) → first_forbidden t.files ≡ None → first_reserved (t ∷ troves) ≡ first_reserved troves
none_first t troves none = ap (λ (o : Option (List ℕ)). option_or o (first_reserved troves)) none

some_first : (t : TroveParts) (troves : List TroveParts) (path : List ℕ) → first_forbidden t.files ≡ Some path → first_reserved (t ∷ troves) ≡ Some path
some_first t troves path some = ap (λ (o : Option (List ℕ)). option_or o (first_reserved troves)) some

allowed_none : (troves : List TroveParts) → AreAllowed troves → first_reserved troves ≡ None
allowed_none [] allowed = refl
allowed_none (t ∷ troves) allowed = none_first t troves (All-head IsAllowed t troves allowed) ∙ allowed_none troves (All-tail IsAllowed t troves allowed)

-- the first path is that of the first trove that records one
reserved_at : (front : List TroveParts) (t : TroveParts) (behind : List TroveParts) (path : List ℕ) → AreAllowed front → first_forbidden t.files ≡ Some path → first_reserved (front ++ t ∷ behind) ≡ Some path
reserved_at [] t behind path allowed some = some_first t behind path some
reserved_at (u ∷ front) t behind path allowed some =
    none_first u (front ++ t ∷ behind) (All-head IsAllowed u front allowed) ∙ reserved_at front t behind path (All-tail IsAllowed u front allowed) some

-- ---- no contents behind

own_cause : (far far' : NoContents) (rose : Type 0) (e : Stop) → HasStepCause (empty_contents {C = NoContents}) far far' rose e → HasOwnCause rose e
own_cause far far' rose stop.Failed h = h
own_cause far far' rose stop.Memory h = tt
own_cause far far' rose (stop.Refused why) h = tt
own_cause far far' rose (stop.Damaged path) h = h
own_cause far far' rose stop.FarFailed h = none_rose h
own_cause far far' rose (stop.FarDamaged path) h = h.damaged refl

pub own_causes : (far far' : NoContents) (rose : Type 0) (r : Result Done Stop) → IfErr r (HasStepCause (empty_contents {C = NoContents}) far far' rose) → IfErr r (HasOwnCause rose)
own_causes far far' rose (Ok made) h = tt
own_causes far far' rose (Err e) h = own_cause far far' rose e h

-- the contents of a manifest have their names
pub named_contents : (made : Made) → HasOwnContents made → All (λ (content : Carried). content.name ≡ sha1 content.bytes) made.contents
named_contents made own = All-weaker (IsContentOf (map Whole made.troves)) (λ (content : Carried). content.name ≡ sha1 content.bytes) (λ content is. is.hash) made.contents own.contents

-- ---- the whole

module _ {T P : Type 0} {root_disk : DiskModel T} (repo_disk : DiskModel P) (root_disk_laws : IsDisk root_disk) (options : Options) (input : List ℕ) (root : T) (repo : P) (opened : Opened) where
  answers_fault : (f : Fault) → ((why : Refusal) → f ≡ fault.Refused why → (s : State) → (install options).IsOutcome s input (Err why)) → AnswersAlone root_disk (install options) input root (Err (failure_of_fault f))
  answers_fault (fault.Refused why) refuses = λ told s rests. refuses why refl s
  answers_fault fault.Memory refuses = tt

  fault_cause : (f : Fault) → command.HasFailureCause root_disk repo_disk (disks root repo opened) (disks root repo opened) (Err (failure_of_fault f))
  fault_cause (fault.Refused why) = tt
  fault_cause fault.Memory = tt

  module _ (f : Fault) (refuses : (why : Refusal) → f ≡ fault.Refused why → (s : State) → (install options).IsOutcome s input (Err why)) where
    pub fault_alone : PerformsAlone root_disk repo_disk (install options) input (disks root repo opened) (disks root repo opened) (Err (failure_of_fault f))
    fault_alone = read_alone repo_disk root_disk_laws root root repo opened (install options) input (λ told. nothing_done root_disk_laws root) (Err (failure_of_fault f)) (answers_fault f refuses) (λ path named. absurd (fault_undamaged f path named))

    pub fault_performs : IsDisk repo_disk → IsStore repository_store → AreReady root_disk repo_disk (disks root repo opened) → Performs root_disk repo_disk (install options) input (disks root repo opened) (disks root repo opened) (Err (failure_of_fault f))
    fault_performs repo_laws store_laws ready = read_performed repo_disk root_disk_laws root root repo opened (install options) input (λ told. nothing_done root_disk_laws root) (Err (failure_of_fault f)) (answers_fault f refuses)
        repo_laws store_laws ready (omega arith) (fault_cause f)

-- the input is no manifest
pub unread_refuses : (options : Options) (input : List ℕ) (f : Fault) → IsFaultOf input f → (why : Refusal) → f ≡ fault.Refused why → (s : State) → (install options).IsOutcome s input (Err why)
unread_refuses options input f is why same s = inr (record { fault = why; first = subst (IsFaultOf input) same is; is = refl })

-- a path is reserved
pub reserved_refuses : (options : Options) (input : List ℕ) (made : Made) → Makes input made → (f : Fault) → IfRefused (IsFirstReserved made.troves) f → (why : Refusal) → f ≡ fault.Refused why → (s : State) → (install options).IsOutcome s input (Err why)
reserved_refuses options input made makes f is why same s =
    let first : IsFirstReserved made.troves why = subst (IfRefused (IsFirstReserved made.troves)) same is in
    let path = first.reserved.path in
    let named : first_reserved made.troves ≡ Some path = ap first_reserved first.is ∙ reserved_at first.front first.trove first.behind path first.allowed first.reserved.first in
    inl (record { made = made; makes = makes; is = subst (λ (o : Option (List ℕ)). UnlessReserved o (InstallsMade options made s.root) (Err why)) (sym named) (ap Err first.reserved.refused) })

-- what the manifest makes is installed, where the given troves, which are those, are allowed
pub installs_more : (options : Options) (input : List ℕ) (made : Made) {given : List TroveParts} → Makes input made → given ≡ made.troves → AreAllowed given → (s : State) (outcome : Result Effect Refusal) → (install_made options made).IsOutcome s input outcome → (install options).IsOutcome s input outcome
installs_more options input made makes same allowed s outcome is =
    let none = allowed_none made.troves (subst AreAllowed same allowed) in
    inl (record { made = made; makes = makes; is = subst (λ (o : Option (List ℕ)). UnlessReserved o (InstallsMade options made s.root) outcome) (sym none) is })
