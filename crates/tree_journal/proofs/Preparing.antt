-- How calls that prepare a disk follow one another.
use Rattle.std.proofs.Common.{◌≡◌, ℕ, ◌≤◌, Bool, IsTrue, Result, Ok, Err, IsErrAnd, sym, subst, arith}
use Rattle.journal_log.specs.cny-base.declared.refusal.Refusal.{Refusal}
use Rattle.journal_log.specs.cny-base.declared.stop.Stop.{Stop}
use Rattle.journal_log.specs.cny-base.declared.stop.Stop.TheVariants.{Refused, Memory, Failed, Damaged, FarFailed, FarDamaged}
use Rattle.journal_log.specs.tree-disk.Tree.{Name, Tree}
use Rattle.journal_log.specs.tree-disk.Disk.{DiskModel}
use Rattle.journal_log.specs.tree-disk.Confined.{Among, Confined}
use Rattle.journal_log.specs.tree-disk.Steps.{Ended, Makes}
use Rattle.journal_log.proofs.tree-disk.ConfinedLaws.{confined_on, confined_then, confined_wider}
use Rattle.journal_log.proofs.tree-disk.Moments.{rose_before}
use Rattle.journal_log.proofs.cny-base.Stops.{stopped}
use Rattle.tree_journal.specs.Preparing.{EndsWith, Prepares, StopsBefore}

module _ (refused : Refusal → Type 0) where
  -- a stop of an earlier count
  stops_earlier : (a b c : ℕ) (e : Stop) → a ≤ b → StopsBefore refused b c e → StopsBefore refused a c e
  stops_earlier a b c Failed le stops = rose_before a b c le stops
  stops_earlier a b c Memory le stops = tt
  stops_earlier a b c (Refused refusal) le stops = stops
  stops_earlier a b c (Damaged path) le stops = stops
  stops_earlier a b c FarFailed le stops = stops
  stops_earlier a b c (FarDamaged path) le stops = stops

  ends_stop : (told : Bool) (P : Type 0) (a b c : ℕ) (e : Stop) (r : Result (Unit {0}) Stop) → a ≤ b → IsErrAnd r (λ s. s ≡ e) → StopsBefore refused b c e → EndsWith told refused P r a c
  ends_stop told P a b c e (Ok x) le is stops = absurd is
  ends_stop told P a b c e (Err s) le is stops = subst (λ x. EndsWith told refused P (Err x) a c) (sym is) (stops_earlier a b c e le stops)

  -- the same of one count
  pub stopped_ends : (told : Bool) (P : Type 0) (a c : ℕ) (e : Stop) (r : Result (Unit {0}) Stop) → IsErrAnd r (λ s. s ≡ e) → StopsBefore refused a c e → EndsWith told refused P r a c
  stopped_ends told P a c e r is stops = ends_stop told P a a c e r (omega arith) is stops

  pub made_stops : (X : Type 0) (told : Bool) (after new : Tree) (e : Stop) (a c : ℕ) → Ended told after new (stopped {X = X} e) a c → StopsBefore refused a c e
  made_stops X told after new Failed a c ended = ended
  made_stops X told after new Memory a c ended = tt
  made_stops X told after new (Refused refusal) a c ended = absurd ended
  made_stops X told after new (Damaged path) a c ended = ended
  made_stops X told after new FarFailed a c ended = ended
  made_stops X told after new (FarDamaged path) a c ended = ended

module _ {D : Type 0} {disk : DiskModel D} {refused : Refusal → Type 0} {names : Name → Type 0} {P : Tree → Type 0} where
  -- a stop passed on by `?`, behind what was done
  pub prepares_stop : {old mid new : D} (e : Stop) {r : Result (Unit {0}) Stop} → disk.faults old ≤ disk.faults mid → (IsTrue disk.tells → Confined disk names old mid) → disk.faults mid ≤ disk.faults new
      → (IsTrue disk.tells → Confined disk names mid new) → StopsBefore refused (disk.faults mid) (disk.faults new) e → IsErrAnd r (λ s. s ≡ e) → Prepares disk refused names P old new r
  prepares_stop {old = old} {mid = mid} {new = new} e {r = r} early first late next stops is = record {
    later = omega (arith, early, late);
    ends = ends_stop refused disk.tells (P (disk.reads new)) (disk.faults old) (disk.faults mid) (disk.faults new) e r early is stops;
    confined = λ tells. confined_then (first tells) (next tells);
  }

  -- what was done, and one run more
  pub prepares_then : {old mid new : D} → disk.faults old ≤ disk.faults mid → (IsTrue disk.tells → Confined disk names old mid) → disk.faults mid ≤ disk.faults new
      → (IsTrue disk.tells → Confined disk names mid new) → (IsTrue disk.tells → P (disk.reads new)) → Prepares disk refused names P old new (Ok tt)
  prepares_then early first late next is = record {
    later = omega (arith, early, late);
    ends = is;
    confined = λ tells. confined_then (first tells) (next tells);
  }

  -- what was done, and a last change
  pub prepares_makes : {own : Name → Bool} {change : Tree → Tree} {old mid new : D} {r : Result (Unit {0}) Stop} → disk.faults old ≤ disk.faults mid → (IsTrue disk.tells → Confined disk names old mid) → ((q : Name) → Among own q → names q)
      → Makes disk own change mid new r → (IsTrue disk.tells → disk.reads new ≡ change (disk.reads mid) → P (disk.reads new)) → Prepares disk refused names P old new r
  prepares_makes {change = change} {old = old} {mid = mid} {new = new} {r = r} early first within makes so = record {
    later = omega (arith, early, makes.later);
    ends = by r makes.ended;
    confined = λ tells. confined_on (first tells) within (makes.confined tells);
  }
    where
      by : (r : Result (Unit {0}) Stop) → Ended disk.tells (change (disk.reads mid)) (disk.reads new) r (disk.faults mid) (disk.faults new) → EndsWith disk.tells refused (P (disk.reads new)) r (disk.faults old) (disk.faults new)
      by (Ok x) ended = λ tells. so tells (ended tells)
      by (Err e) ended = stops_earlier refused (disk.faults old) (disk.faults mid) (disk.faults new) e early (made_stops refused (Unit {0}) disk.tells (change (disk.reads mid)) (disk.reads new) e (disk.faults mid) (disk.faults new) ended)

module _ {D : Type 0} {disk : DiskModel D} {refused : Refusal → Type 0} where
  -- a first change that stopped, passed on by `?`
  pub makes_stopped : {X : Type 0} {names : Name → Type 0} {P : Tree → Type 0} {own : Name → Bool} {change : Tree → Tree} {old new : D} (e : Stop) {r : Result (Unit {0}) Stop} → ((q : Name) → Among own q → names q)
      → Makes {X = X} disk own change old new (Err e) → IsErrAnd r (λ s. s ≡ e) → Prepares disk refused names P old new r
  makes_stopped {X = X} {P = P} {change = change} {old = old} {new = new} e {r = r} within makes is = record {
    later = makes.later;
    ends = ends_stop refused disk.tells (P (disk.reads new)) (disk.faults old) (disk.faults old) (disk.faults new) e r (omega arith) is (made_stops refused X disk.tells (change (disk.reads old)) (disk.reads new) e (disk.faults old) (disk.faults new) makes.ended);
    confined = λ tells. confined_wider within (makes.confined tells);
  }

  -- more names, and less of the tree
  pub prepares_weaker : {few many : Name → Type 0} {P Q : Tree → Type 0} {old new : D} {r : Result (Unit {0}) Stop} → ((q : Name) → few q → many q) → ((t : Tree) → P t → Q t) → Prepares disk refused few P old new r → Prepares disk refused many Q old new r
  prepares_weaker {P = P} {Q = Q} {old = old} {new = new} {r = r} within so run = record {
    later = run.later;
    ends = by r run.ends;
    confined = λ tells. confined_wider within (run.confined tells);
  }
    where
      by : (r : Result (Unit {0}) Stop) → EndsWith disk.tells refused (P (disk.reads new)) r (disk.faults old) (disk.faults new) → EndsWith disk.tells refused (Q (disk.reads new)) r (disk.faults old) (disk.faults new)
      by (Ok x) ends = λ tells. so (disk.reads new) (ends tells)
      by (Err e) ends = ends
