-- What holds up to each step of an application, and what a stop there leaves.
use Rattle.std.proofs.Common.{◌≡◌, ◌≤◌, Bool, true, IsTrue, List, ℕ, length, Result, Ok, Err, OnOk, IsErrAnd, refl, sym, ◌∙◌, subst}
use Rattle.journal_log.specs.cny-base.Path.{is_path}
use Rattle.journal_log.specs.cny-base.declared.stop.Stop.{Stop}
use Rattle.journal_log.specs.tree-disk.Tree.{Name, Tree, same_name}
use Rattle.journal_log.specs.tree-disk.Clear.{is_within}
use Rattle.journal_log.specs.tree-disk.Disk.{DiskModel, IsDisk, one_name}
use Rattle.journal_log.specs.tree-disk.Confined.{IsSynced, LeavesOnly}
use Rattle.journal_log.proofs.tree-disk.ConfinedLaws.{leaves_then}
use Rattle.journal_log.specs.tree-disk.Steps.{no_name, Makes}
use Rattle.journal_log.proofs.tree-disk.StepLaws.{makes_stop, makes_then, makes_then_stop, makes_wider}
use Rattle.journal_log.specs.tree-disk.Unfailed.{UnlessFailed}
use Rattle.journal_log.proofs.tree-disk.Unfailed.{unfailed_then}
use Rattle.journal_log.specs.declared.put.Put.{Put}
use Rattle.journal_log.proofs.NumberLaws.{numbered_targets}
use Rattle.journal_log.specs.Own.{gate, log, staged}
use Rattle.tree_journal.specs.Apply.{with_base, Applies, CanApply, IsAsBefore}
use Rattle.tree_journal.specs.Recovery.{RecoversTo}
use Rattle.tree_journal.specs.Staging.{outcome, HoldsNoOthers}
use Rattle.tree_journal.specs.Steps.{is_replay_name, replayed, with_own_file, with_staged, IsLogOf}
use Rattle.tree_journal.specs.Visible.{IsVisible}
use Rattle.tree_journal.proofs.BetweenSteps.{committed, is_log_or_staged, with_flag, with_log, IsOldOrNew, IsPrepared}
use Rattle.tree_journal.proofs.OwnNames.{staged_is_path}
use Rattle.tree_journal.proofs.Seen.{makes_answer}
use Rattle.tree_journal.proofs.StagedBytes.{others_past_log}
use Rattle.tree_journal.proofs.Applying.{after_sync, applies_prepared, applies_whole, before_sync, has_no_flag, ok_of_err, opening_leaves, opening_seen, prepared, replay_leaves, replay_seen, IsWritten}
use Rattle.journal_log.proofs.cny-base.Bools.{or_left, or_right}

-- ---- the changes of the tree, one after the other

base_within : (base q : Name) → IsTrue (same_name q base) → IsTrue (is_log_or_staged base q)
base_within base q h = or_left (same_name q base) _ h

log_within : (base q : Name) → IsTrue (is_within (log base) q) → IsTrue (is_log_or_staged base q)
log_within base q h = or_right (same_name q base) _ (or_left (is_within (log base) q) (is_within (staged base) q) h)

staged_within : (base q : Name) → IsTrue (is_within (staged base) q) → IsTrue (is_log_or_staged base q)
staged_within base q h = or_right (same_name q base) _ (or_right (is_within (log base) q) (is_within (staged base) q) h)

module _ {D : Type 0} {disk : DiskModel D} where
  -- a sync behind a change
  pub makes_synced : {names : Name → Bool} {change : Tree → Tree} {old mid new : D} {u : Unit {0}} {r : Result Unit Stop} → Makes disk names change old mid (Ok u) → Makes disk no_name (λ tree. tree) mid new r
      → Makes disk names change old new r
  makes_synced {change = change} so_far sync = makes_then {next = λ tree. tree} {goal = change} so_far (λ p none. absurd (cc none)) sync (λ tells. refl)

  -- one of the journal's files is written, at a path that is told
  pub file_at : (path own : Name) (bytes : List ℕ) {old new : D} {r : Result Unit Stop} → path ≡ own → Makes disk (is_within path) (with_own_file path bytes) old new r
      → Makes disk (is_within own) (with_own_file own bytes) old new r
  file_at path own bytes {old = old} {new = new} {r = r} is run = subst (λ (p : Name). Makes disk (is_within p) (with_own_file p bytes) old new r) is run

  module _ (base : Name) where
    -- the base is made
    pub makes_base : {old new : D} {r : Result Unit Stop} → Makes disk (one_name base) (with_base base) old new r → Makes disk (is_log_or_staged base) (with_base base) old new r
    makes_base run = makes_wider (base_within base) run

    -- and the bytes of the files are staged
    pub makes_stage : (puts made : List Put) {old mid new : D} {u : Unit {0}} {r : Result Unit Stop} → Makes disk (one_name base) (with_base base) old mid (Ok u)
        → Makes disk (is_within (staged base)) (with_staged base puts made) mid new r → Makes disk (is_log_or_staged base) (λ tree. with_staged base puts made (with_base base tree)) old new r
    makes_stage puts made so_far run =
        makes_then {next = with_staged base puts made} {goal = λ tree. with_staged base puts made (with_base base tree)} (makes_base so_far) (staged_within base) run (λ tells. refl)

    -- and the log is written
    pub makes_log : (puts made : List Put) (bytes : List ℕ) {old mid new : D} {u : Unit {0}} {r : Result Unit Stop} → Makes disk (is_log_or_staged base) (λ tree. with_staged base puts made (with_base base tree)) old mid (Ok u)
        → Makes disk (is_within (log base)) (with_own_file (log base) bytes) mid new r → Makes disk (is_log_or_staged base) (with_log base puts made bytes) old new r
    makes_log puts made bytes so_far run =
        makes_then {next = with_own_file (log base) bytes} {goal = with_log base puts made bytes} so_far (log_within base) run (λ tells. refl)

-- ---- up to the log

-- The log and the staged bytes stand, a crash leaves this, and up to now one left a tree that recovers to the one before.
pub record HasWritten {D : Type 0} (disk : DiskModel D) (base : Name) (puts made : List Put) (bytes : List ℕ) (old mid : D) : Type 0 where
  pub makes : Makes {X = Unit {0}} disk (is_log_or_staged base) (with_log base puts made bytes) old mid (Ok tt)
  pub any_moment : IsTrue disk.tells → LeavesOnly disk old mid (IsAsBefore disk base old)
  pub synced : IsTrue disk.tells → IsSynced disk mid
  pub others : IsTrue disk.tells → HoldsNoOthers base made (disk.reads mid)
  pub written : IsTrue disk.tells → IsWritten disk base puts made bytes old mid
  pub ready : IsTrue disk.tells → IsPrepared disk base made mid

-- What follows that: the flag is set and all is replayed, or a step of this stopped.
pub record Commits {D : Type 0} (disk : DiskModel D) (base : Name) (made : List Put) (mid new : D) (r : Result Unit Stop) : Type 0 where
  pub makes : Makes disk (is_replay_name base made) (committed base made) mid new r
  pub any_moment : IsTrue disk.tells → LeavesOnly disk mid new (IsOldOrNew base made (disk.reads mid))
  pub synced : IsTrue disk.tells → OnOk r (IsSynced disk new)
  pub seen : IsTrue disk.tells → UnlessFailed disk mid new (IsVisible base (disk.reads mid) (outcome base made (disk.reads mid)))

module _ {D : Type 0} (disk : DiskModel D) (laws : IsDisk disk) (base : Name) (path : is_path base ≡ true) (puts : List Put) (old : D) (can : IsTrue disk.tells → CanApply disk base puts old) where
  -- the first sync stopped
  pub applies_unsynced : {new : D} {e : Stop} {r : Result Unit Stop} → Makes {X = Unit {0}} disk no_name (λ tree. tree) old new (Err e) → IsErrAnd r (λ s. s ≡ e) → Applies disk base puts old new r
  applies_unsynced {new = new} {e = e} {r = r} sync is = applies_prepared disk laws base puts old can path (λ tree. tree) new r e is
      (makes_stop (makes_wider (λ p none. absurd (cc none)) sync) is)
      (λ tells. before_sync disk laws base path old (has_no_flag disk laws base puts old can tells) new (sync.confined tells))

  module _ {first : D} {u : Unit {0}} (sync : Makes disk no_name (λ tree. tree) old first (Ok u)) (first_synced : IsTrue disk.tells → IsSynced disk first) where
    -- what a crash leaves while the base, the staged bytes and the log are written
    writing_leaves : (change : Tree → Tree) {new : D} {r : Result Unit Stop} → Makes disk (is_log_or_staged base) change first new r → IsTrue disk.tells → LeavesOnly disk old new (IsAsBefore disk base old)
    writing_leaves change {new = new} run tells =
        let clear = has_no_flag disk laws base puts old can tells in
        leaves_then (before_sync disk laws base path old clear first (sync.confined tells))
        (after_sync disk laws base path old clear first new (sync.ended tells) (first_synced tells) (run.confined tells))

    -- one of these steps stopped
    pub applies_unwritten : (change : Tree → Tree) {new : D} {e : Stop} {r : Result Unit Stop} → Makes {X = Unit {0}} disk (is_log_or_staged base) change first new (Err e) → IsErrAnd r (λ s. s ≡ e) → Applies disk base puts old new r
    applies_unwritten change {new = new} {e = e} {r = r} run is = applies_prepared disk laws base puts old can path change new r e is
        (makes_then_stop {first = λ tree. tree} {next = change} (makes_wider (λ p none. absurd (cc none)) sync) (λ p h. h) run is)
        (writing_leaves change run)

    -- all of them are done
    pub has_written : (short : length base ≤ 1011) (made : List Put) (bytes : List ℕ) {based filed logged mid : D} {v w x y : Unit {0}} → IsLogOf base puts made bytes
        → Makes disk (one_name base) (with_base base) first based (Ok v) → Makes disk (is_within (staged base)) (with_staged base puts made) based filed (Ok w)
        → (IsTrue disk.tells → HoldsNoOthers base made (disk.reads filed))
        → Makes disk (is_within (log base)) (with_own_file (log base) bytes) filed logged (Ok x)
        → Makes disk no_name (λ tree. tree) logged mid (Ok y) → (IsTrue disk.tells → IsSynced disk mid) → HasWritten disk base puts made bytes old mid
    has_written short made bytes {filed = filed} {mid = mid} is_log make_base stage clear write_log last last_synced = record {
      makes = whole;
      any_moment = writing_leaves (with_log base puts made bytes) run;
      synced = last_synced;
      others = λ tells. subst (HoldsNoOthers base made) (sym (last.ended tells ∙ write_log.ended tells)) (others_past_log base path made bytes (disk.reads filed) (clear tells));
      written = written;
      ready = λ tells. prepared disk laws base puts old can path made bytes mid tells (written tells) (whole.outside tells) (last_synced tells);
    }
      where
        run : Makes {X = Unit {0}} disk (is_log_or_staged base) (with_log base puts made bytes) first mid (Ok tt)
        run = makes_answer (tt {0}) (makes_synced (makes_log base puts made bytes (makes_stage base puts made make_base stage) write_log) last)

        whole : Makes {X = Unit {0}} disk (is_log_or_staged base) (with_log base puts made bytes) old mid (Ok tt)
        whole = makes_then {first = λ tree. tree} {next = with_log base puts made bytes} {goal = with_log base puts made bytes} (makes_wider (λ p none. absurd (cc none)) sync) (λ p h. h) run (λ tells. refl)

        written : IsTrue disk.tells → IsWritten disk base puts made bytes old mid
        written tells = record { path = path; dir = staged_is_path base path short; is_log = is_log; can = can tells; reads = whole.ended tells }

  -- the whole of it
  pub applies_committed : {made : List Put} {bytes : List ℕ} {mid new : D} {r : Result Unit Stop} → IsLogOf base puts made bytes → HasWritten disk base puts made bytes old mid → Commits disk base made mid new r → Applies disk base puts old new r
  applies_committed {made = made} {bytes = bytes} {mid = mid} {new = new} {r = r} is_log first then =
      applies_whole disk laws base puts old can path made bytes (λ q. numbered_targets puts made q is_log.numbered) mid new first.written r first.others
      (with_log base puts made bytes) first.makes first.any_moment first.synced then.makes then.any_moment then.synced then.seen

-- ---- the flag, and what follows it

module _ {D : Type 0} (disk : DiskModel D) (base : Name) (path : is_path base ≡ true) (made : List Put) (mid : D) (ready : IsTrue disk.tells → IsPrepared disk base made mid) where
  gate_within : (q : Name) → IsTrue (is_within (gate base) q) → IsTrue (is_replay_name base made q)
  gate_within q h = or_left (is_within (gate base) q) _ h

  -- a step stopped before the flag was kept
  pub commits_unset : (change : Tree → Tree) {new : D} {e : Stop} {r : Result Unit Stop} → Makes {X = Unit {0}} disk (is_within (gate base)) change mid new (Err e) → IsErrAnd r (λ s. s ≡ e) → Commits disk base made mid new r
  commits_unset change {new = new} {e = e} {r = r} run is = record {
    makes = makes_stop (makes_wider gate_within run) is;
    any_moment = λ tells. opening_leaves disk base path made mid (ready tells) new (run.confined tells);
    synced = λ tells. ok_of_err _ (λ s. s ≡ e) r is;
    seen = λ tells. opening_seen disk base path made mid (ready tells) new (run.confined tells);
  }

  -- it is kept, and all is replayed
  pub commits_replayed : {flagged new : D} {u : Unit {0}} {r : Result Unit Stop} → Makes disk (is_within (gate base)) (with_flag base) mid flagged (Ok u)
      → Makes disk (is_replay_name base made) (replayed base made) flagged new r
      → (IsTrue disk.tells → LeavesOnly disk flagged new (λ image. RecoversTo base image (outcome base made (disk.reads flagged))))
      → (IsTrue disk.tells → OnOk r (IsSynced disk new))
      → (IsTrue disk.tells → UnlessFailed disk flagged new (IsVisible base (disk.reads flagged) (outcome base made (disk.reads flagged))))
      → Commits disk base made mid new r
  commits_replayed {flagged = flagged} {new = new} flag replay replay_leaves_only replay_synced replay_seen_so = record {
    makes = makes_then {next = replayed base made} {goal = committed base made} (makes_wider gate_within flag) (λ p h. h) replay (λ tells. refl);
    any_moment = λ tells. leaves_then (opening_leaves disk base path made mid (ready tells) flagged (flag.confined tells))
        (replay_leaves disk base path made mid (ready tells) flagged new (flag.ended tells) (replay_leaves_only tells));
    synced = replay_synced;
    seen = λ tells. unfailed_then flag.later replay.later (opening_seen disk base path made mid (ready tells) flagged (flag.confined tells))
        (replay_seen disk base path made mid (ready tells) flagged new (flag.ended tells) (replay_seen_so tells));
  }
