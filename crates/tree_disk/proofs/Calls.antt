-- A call of the disk, as a step.
use Rattle.std.proofs.Common.{◌≡◌, Bool, true, IsTrue, Result, Ok, Err, inl, inr, ⊎_elim, refl, sym, ◌∙◌, ap, subst}
use Rattle.std.specs.Prelude.{OnOk}
use Rattle.std.specs.FinMap.{get}
use Rattle.cny_base.specs.declared.stop.Stop.{Stop}
use Rattle.tree_disk.specs.declared.disk.DiskStop.{DiskStop}
use Rattle.tree_disk.specs.declared.disk.DiskStop.TheVariants as disk_stop
use Rattle.tree_disk.specs.Tree.{Name, Tree}
use Rattle.tree_disk.specs.Disk.{DiskModel, IsDisk, HasCause, HasChanged, HasSynced, Changes, Syncs, InOneStep, Shows}
use Rattle.tree_disk.specs.Moments.{shows_weaker}
use Rattle.tree_disk.specs.Unfailed.{IsEither, UnlessFailed}
use Rattle.tree_disk.specs.Confined.{Among}
use Rattle.tree_disk.proofs.ConfinedLaws.{confined_synced, confined_changed}
use Rattle.tree_disk.specs.Steps.{step_of, Ended, Makes, no_name}

module _ {D : Type 0} {disk : DiskModel D} (laws : IsDisk disk) where
  call_ended : (can : Bool) (names : Name → Bool) (after : Tree) (old new : D) (r : Result Unit DiskStop)
      → HasCause disk can old new r → (IsTrue disk.tells → can ≡ true) → Changes disk names can after old new r
      → Ended disk.tells after (disk.reads new) (step_of r) (disk.faults old) (disk.faults new)
  call_ended can names after old new (Ok u) cause allowed told = λ tells. (told tells).done.1
  call_ended can names after old new (Err disk_stop.Failed) cause allowed told = cause.failed refl
  call_ended can names after old new (Err disk_stop.Memory) cause allowed told = tt
  call_ended can names after old new (Err disk_stop.Refused) cause allowed told = tt

  pub makes_call : {can : Bool} {names : Name → Bool} {change : Tree → Tree} {old new : D} {r : Result Unit DiskStop} {s : Result Unit Stop}
      → HasCause disk can old new r → (IsTrue disk.tells → can ≡ true)
      → (IsTrue disk.tells → HasChanged disk names can (change (disk.reads old)) old new r) → s ≡ step_of r
      → Makes disk names change old new s
  makes_call {can = can} {names = names} {change = change} {old = old} {new = new} {r = r} cause allowed told is = subst (Makes disk names change old new) (sym is) (record {
    later = cause.later;
    ended = call_ended can names (change (disk.reads old)) old new r cause allowed told;
    outside = λ tells. (told tells).outside;
    confined = λ tells. confined_changed laws (told tells);
  })

  -- what a single call shows meanwhile
  pub one_step_call : {can : Bool} {names : Name → Bool} {after : Tree} {old new : D} {r : Result Unit DiskStop} {s : Result Unit Stop}
      → (IsTrue disk.tells → HasChanged disk names can after old new r) → s ≡ step_of r → IsTrue disk.tells → OnOk s (InOneStep disk old new)
  one_step_call {old = old} {new = new} {r = r} told is tells = subst (λ x. OnOk x (InOneStep disk old new)) (sym is) (by r (told tells).one_step)
    where
      by : (r : Result Unit DiskStop) → OnOk r (InOneStep disk old new) → OnOk (step_of r) (InOneStep disk old new)
      by (Ok u) step = step
      by (Err disk_stop.Failed) step = tt
      by (Err disk_stop.Memory) step = tt
      by (Err disk_stop.Refused) step = tt

  -- what readers see of a single call that didn't fail
  pub seen_call : {can : Bool} {names : Name → Bool} {after : Tree} {old new : D} {r : Result Unit DiskStop}
      → HasCause disk can old new r → (IsTrue disk.tells → HasChanged disk names can after old new r) → IsTrue disk.tells
      → UnlessFailed disk old new (IsEither (disk.reads old) after)
  seen_call {can = can} {names = names} {after = after} {old = old} {new = new} {r = r} cause told tells none = by r cause (told tells)
    where
      by : (r : Result Unit DiskStop) → HasCause disk can old new r → HasChanged disk names can after old new r → Shows disk old new (IsEither (disk.reads old) after)
      by (Ok u) cause call = shows_weaker (λ t is. ⊎_elim (λ was. inl was) (λ now. inr (now ∙ call.done.1)) is) call.one_step
      by (Err disk_stop.Failed) cause call = absurd (none (cause.failed refl))
      by (Err disk_stop.Memory) cause call = shows_weaker (λ t is. inl is) (call.unchanged (inr refl)).visible
      by (Err disk_stop.Refused) cause call = shows_weaker (λ t is. inl is) (call.unchanged (inl refl)).visible

  sync_ended : (old new : D) (r : Result Unit DiskStop) → HasCause disk true old new r → Syncs disk old new r
      → Ended disk.tells (disk.reads old) (disk.reads new) (step_of r) (disk.faults old) (disk.faults new)
  sync_ended old new (Ok u) cause told = λ tells. (told tells).reads
  sync_ended old new (Err disk_stop.Failed) cause told = cause.failed refl
  sync_ended old new (Err disk_stop.Memory) cause told = tt
  sync_ended old new (Err disk_stop.Refused) cause told = tt

  pub makes_sync : {old new : D} {r : Result Unit DiskStop} {s : Result Unit Stop} → HasCause disk true old new r
      → (IsTrue disk.tells → HasSynced disk old new r) → s ≡ step_of r → Makes disk no_name (λ tree. tree) old new s
  makes_sync {old = old} {new = new} {r = r} cause told is = subst (Makes disk no_name (λ tree. tree) old new) (sym is) (record {
    later = cause.later;
    ended = sync_ended old new r cause told;
    outside = λ tells p other. ap (λ (t : Tree). get t p) (told tells).reads;
    confined = λ tells. confined_synced laws (Among no_name) (told tells);
  })
