-- What stands at a planned path, by its fingerprint.
use Rattle.std.proofs.Common.{ℕ, ◌≤◌, List, length, Option, refl, subst, arith}
use Rattle.local_db.specs.cny-base.declared.limits.TheConstants.{CONTENT_LIMIT}
use Rattle.local_db.specs.cny-base.declared.node.Node.{Node}
use Rattle.local_db.specs.journal-log.declared.put.Want.TheVariants as want
use Rattle.local_db.specs.MarkBytes.{IsMark}
use Rattle.local_db.specs.Steps.{want_of}
use Rattle.local_db.specs.SystemState.{IsSmall, IsTellable}
use Rattle.tree_scan.specs.Marks.{fingerprint}
use Rattle.job_targets.specs.Targets.{IsOldWant}
use Rattle.change_set.proofs.cny-stream.Digests.{digest_long}
use Rattle.local_db.proofs.Systems.{node_of_want as node_back}

-- ---- wants

pub old_file : (mode : ℕ) (bytes : List ℕ) → mode ≤ 4095 → length bytes ≤ CONTENT_LIMIT → IsOldWant (want.File mode bytes)
old_file mode bytes fits small = record { given = refl; marked = (fits, omega (arith, small), digest_long bytes); small = small }

pub tellable : (o : Option Node) → IsOldWant (want_of o) → IsTellable o
tellable o old = record {
  mark = subst (λ (p : Option Node). IsMark (fingerprint p)) (node_back o) old.marked;
  small = subst IsSmall (node_back o) old.small;
}
