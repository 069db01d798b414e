-- How the writing of a commit ends.
use Rattle.std.proofs.Common.{◌≡◌, ◌<◌, ◌≤◌, false, IsTrue, All, List, Result, Ok, Err, OnOk, OnErr, IfErr, IsErrAnd, IsErrOf, refl, arith}
use Rattle.repo_load.specs.cny-base.Count.{Rose}
use Rattle.repo_load.specs.cny-base.declared.limits.TheConstants.{COMMITS_LIMIT}
use Rattle.repo_load.specs.cny-base.declared.stop.Stop.{Stop}
use Rattle.repo_load.specs.cny-base.declared.stop.Stop.TheVariants.{Refused, Memory, Failed, Damaged, FarFailed, FarDamaged}
use Rattle.repo_load.specs.trove-stream.declared.parts.TroveParts.{TroveParts}
use Rattle.repo_load.specs.trove-stream.Trove.{IsTrove}
use Rattle.repo_load.specs.tree-disk.Disk.{DiskModel, IsDisk}
use Rattle.repo_load.specs.tree-disk.Confined.{Among, Confined, IsSynced, LeavesOnly}
use Rattle.repo_load.proofs.tree-disk.ConfinedLaws.{confined_start, confined_then, confined_wider, leaves_weaker}
use Rattle.repo_load.proofs.tree-disk.Moments.{rose_before}
use Rattle.repo_load.specs.tree-disk.Steps.{IsDiskStop}
use Rattle.tree_journal.specs.Apply as apply
use Rattle.tree_journal.specs.Apply.{is_own_or_target}
use Rattle.tree_journal.specs.Recovery.{is_committed}
use Rattle.change_set.specs.declared.change.Carried.{Carried}
use Rattle.repo_index.specs.Catalogue.{CatalogueParts}
use Rattle.repo_load.specs.Counts.{IsPreparedName}
use Rattle.repo_load.specs.Files.{repository_base, FitsTrove}
use Rattle.repository.specs.Outcome.{MayCommit}
use Rattle.tree_journal.specs.Preparing.{Prepares, StopsBefore}
use Rattle.repository.specs.Preparing.{IsPreparedFor, IsUntold, IsWrittenFrom, IsWrittenName, WritesCommit}
use Rattle.repository.proofs.Applied.{all_moments, before_image, done_reads, done_tree, mid_reads, puts_of, stopped_reads}
use Rattle.tree_journal.proofs.Preparing.{stopped_ends}
use Rattle.repository.proofs.Within.{applied_written, prepared_within, written_within}

abbrev failing : Stop → Result (Unit {0}) Stop
failing e = Err e

on_err : {X E : Type 0} (P : Type 0) (r : Result X E) (e : E) → IsErrAnd r (λ s. s ≡ e) → OnOk r P
on_err P (Ok x) e is = absurd is
on_err P (Err s) e is = tt

module _ {D : Type 0} {disk : DiskModel D} (laws : IsDisk disk) (c : CatalogueParts) (contents : List Carried) (troves : List TroveParts) (few : c.commits < COMMITS_LIMIT) where
  -- what was prepared, and a stop passed on by `?`
  pub writes_stopped : {old mid : D} (e : Stop) (r : Result (Unit {0}) Stop) → (IsTrue disk.tells → MayCommit disk c old) → disk.faults old ≤ disk.faults mid → (IsTrue disk.tells → Confined disk (IsPreparedName c) old mid) → (IsTrue disk.tells → Confined disk (IsWrittenName c contents) old mid)
      → StopsBefore (IsUntold disk.tells) (disk.faults old) (disk.faults mid) e → IsErrAnd r (λ s. s ≡ e) → WritesCommit disk c contents troves old mid r
  writes_stopped {old = old} {mid = mid} e r rests later confined only stops is = record {
    later = later;
    ends = stopped_ends (IsUntold disk.tells) disk.tells (IsWrittenFrom c contents troves (disk.reads old) (disk.reads mid)) (disk.faults old) (disk.faults mid) e r is stops;
    flag_clear = λ tells. on_err (is_committed repository_base (disk.reads mid) ≡ false) r e is;
    synced = λ tells. on_err (IsSynced disk mid) r e is;
    any_moment = λ tells. leaves_weaker (before_image laws c contents troves few old mid (rests tells) (confined tells)) (confined tells).images;
    stopped = λ tells. mid_reads laws c contents troves few old mid (rests tells) (confined tells);
    confined = λ tells. confined_wider (prepared_within c) (confined tells);
    only = only;
  }

  -- want of memory before the first call
  pub writes_nothing : (d : D) (r : Result (Unit {0}) Stop) → (IsTrue disk.tells → MayCommit disk c d) → IsErrAnd r (λ s. s ≡ Memory) → WritesCommit disk c contents troves d d r
  writes_nothing d r rests is = writes_stopped Memory r rests (omega arith) (λ tells. confined_start laws (IsPreparedName c) d) (λ tells. confined_start laws (IsWrittenName c contents) d) tt is

  -- the file was applied
  pub writes_applied : {old mid new : D} (r : Result (Unit {0}) Stop) → All IsTrove troves → All FitsTrove troves → (IsTrue disk.tells → MayCommit disk c old) → Prepares disk (IsUntold disk.tells) (IsPreparedName c) (IsPreparedFor c contents) old mid (Ok tt) → (IsTrue disk.tells → Confined disk (IsWrittenName c contents) old mid) → disk.faults mid ≤ disk.faults new
      → (IsTrue disk.tells → LeavesOnly disk mid new (apply.IsBeforeOrAfter disk repository_base (puts_of c troves) mid))
      → (IsTrue disk.tells → OnOk r (apply.IsAtRest disk repository_base (apply.goal repository_base (puts_of c troves) (disk.reads mid)) new))
      → (IsTrue disk.tells → OnErr r (apply.IsOneOf repository_base (puts_of c troves) (disk.reads mid) (disk.reads new)))
      → (IsTrue disk.tells → Confined disk (Among (is_own_or_target repository_base (puts_of c troves))) mid new)
      → (IsErrOf r Failed → Rose (disk.faults mid) (disk.faults new)) → IfErr r IsDiskStop → WritesCommit disk c contents troves old new r
  writes_applied {old = old} {mid = mid} {new = new} (Ok x) are fits rests prepared only later moments applied stopped within failed stops = record {
    later = omega (arith, prepared.later, later);
    ends = λ tells. done_tree laws c contents troves few old mid (rests tells) (prepared.confined tells) (disk.reads new) are fits (prepared.ends tells) (applied tells).stores;
    flag_clear = λ tells. (applied tells).flag_clear;
    synced = λ tells. (applied tells).synced;
    any_moment = λ tells. all_moments laws c contents troves few old mid (rests tells) (prepared.confined tells) are fits (prepared.ends tells) (moments tells);
    stopped = λ tells. done_reads laws c contents troves few old mid (rests tells) (prepared.confined tells) (disk.reads new) are fits (prepared.ends tells) (applied tells).flag_clear (applied tells).stores;
    confined = λ tells. confined_then (confined_wider (prepared_within c) (prepared.confined tells)) (confined_wider (written_within c troves) (within tells));
    only = λ tells. confined_then (only tells) (confined_wider (applied_written c contents troves) (within tells));
  }
  writes_applied {old = old} {mid = mid} {new = new} (Err e) are fits rests prepared only later moments applied stopped within failed stops = record {
    later = omega (arith, prepared.later, later);
    ends = by e stops failed;
    flag_clear = λ tells. tt;
    synced = λ tells. tt;
    any_moment = λ tells. all_moments laws c contents troves few old mid (rests tells) (prepared.confined tells) are fits (prepared.ends tells) (moments tells);
    stopped = λ tells. stopped_reads laws c contents troves few old mid (rests tells) (prepared.confined tells) (disk.reads new) are fits (prepared.ends tells) (stopped tells);
    confined = λ tells. confined_then (confined_wider (prepared_within c) (prepared.confined tells)) (confined_wider (written_within c troves) (within tells));
    only = λ tells. confined_then (only tells) (confined_wider (applied_written c contents troves) (within tells));
  }
    where
      by : (e : Stop) → IsDiskStop e → (IsErrOf (failing e) Failed → Rose (disk.faults mid) (disk.faults new)) → StopsBefore (IsUntold disk.tells) (disk.faults old) (disk.faults new) e
      by Failed stop rose = rose_before (disk.faults old) (disk.faults mid) (disk.faults new) prepared.later (rose refl)
      by Memory stop rose = tt
      by (Refused refusal) stop rose = absurd stop
      by (Damaged path) stop rose = absurd stop
      by FarFailed stop rose = absurd stop
      by (FarDamaged path) stop rose = absurd stop
