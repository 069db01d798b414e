-- What the disk tells after one change more.
use Rattle.std.proofs.Common.{◌≡◌, inl, inr, ⊎_elim, ℕ, ◌+◌, ◌≤◌, Bool, true, false, cond, ◌||◌, [], ◌∷◌, ◌++◌, length, take, refl, sym, ◌∙◌, ap, subst, arith, length-append, Option}
use Rattle.std.proofs.lemmas.Bool.{cases_lt}
use Rattle.std.specs.FinMap.{from_entries}
use Rattle.tree_nodes.specs.cny-base.declared.node.Node.{Node}
use Rattle.tree_nodes.specs.tree-disk.Tree.{Name, put}
use Rattle.tree_nodes.specs.tree-disk.Disk.{Elapses, InOneStep, IsCrashImage}
use Rattle.tree_memory.specs.declared.change.Change.{Change}
use Rattle.tree_memory.specs.declared.change.Change.TheVariants.{Edit}
use Rattle.tree_memory.specs.declared.memory.MemoryTree.{MemoryTree}
use Rattle.tree_memory.specs.State.{State, settled, state_of, step, replay, tree_after, names_of, settles}
use Rattle.tree_memory.specs.Replay.{take_whole}
use Rattle.tree_memory.proofs.Replay.{replay_push, reads_step, take_push}
use Rattle.tree_memory.specs.Memory.{memory_disk, state, state_then, IsEdited}

unsynced_by : (change : Change) (s : State) (v : Bool) (p : Name) → v ≡ false
    → (cond v (settled (tree_after change s.reads)) (record { reads = tree_after change s.reads; synced = s.synced; unsynced = λ q. s.unsynced q || names_of change q })).unsynced p ≡ (s.unsynced p || names_of change p)
unsynced_by change s true p none = absurd (cc none)
unsynced_by change s false p none = refl

-- ---- one change more
pub record OneMore (old new : MemoryTree) (change : Change) : Type 0 where
  pub first : new.first ≡ old.first
  pub changes : new.changes.items ≡ old.changes.items ++ change ∷ []

module _ {old new : MemoryTree} {change : Change} (more : OneMore old new change) where
  pub state_pushed : state new ≡ step change (state old)
  state_pushed =
      ap (λ f. state_of f new.changes.items) more.first
      ∙ ap (state_of old.first) more.changes
      ∙ replay_push old.changes.items change (settled (from_entries old.first))

  longer : length new.changes.items ≡ length old.changes.items + 1
  longer = ap length more.changes ∙ length-append old.changes.items (change ∷ [])

  earlier : (k : ℕ) → k ≤ length old.changes.items → state_then new k ≡ state_then old k
  earlier k h =
      ap (λ f. state_of f (take k new.changes.items)) more.first
      ∙ ap (λ l. state_of old.first (take k l)) more.changes
      ∙ ap (state_of old.first) (take_push k old.changes.items change h)

  pub elapsed : Elapses memory_disk old new
  elapsed = record {
    later = omega (arith, longer);
    kept = λ k t h was. record {
      moment = was.moment;
      since = was.since;
      passed = omega (arith, longer, was.passed);
      image = subst (λ (s : State). IsCrashImage s.reads s.unsynced t) (sym (earlier was.moment was.passed)) was.image;
    };
    nothing_else = λ k t h was. ⊎_elim
        (λ lt.
        let last : was.moment ≡ length new.changes.items = omega (arith, longer, lt, was.passed) in
        inr (subst (λ (s : State). IsCrashImage s.reads s.unsynced t) (ap (state_then new) last ∙ ap (λ l. replay l (settled (from_entries new.first))) (take_whole new.changes.items)) was.image))
        (λ le. inl (record { moment = was.moment; since = was.since; passed = le; image = subst (λ (s : State). IsCrashImage s.reads s.unsynced t) (earlier was.moment le) was.image }))
        (cases_lt (length old.changes.items) was.moment);
  }

  -- it reads the tree before, and then the tree after
  pub in_one_step : InOneStep memory_disk old new
  in_one_step = record {
    later = omega (arith, longer);
    kept = λ k le. ap (λ (s : State). s.reads) (earlier k le);
    each = λ k lt le.
        let last : k ≡ length new.changes.items = omega (arith, longer, lt, le) in
        inr (ap (λ (s : State). s.reads) (ap (state_then new) last ∙ ap (λ l. replay l (settled (from_entries new.first))) (take_whole new.changes.items)));
  }

  pub reads_pushed : (state new).reads ≡ tree_after change (state old).reads
  reads_pushed = ap (λ (s : State). s.reads) state_pushed ∙ reads_step change (state old)

  pub unsynced_pushed : settles change ≡ false → (p : Name) → (state new).unsynced p ≡ ((state old).unsynced p || names_of change p)
  unsynced_pushed none p = ap (λ (s : State). s.unsynced p) state_pushed ∙ unsynced_by change (state old) (settles change) p none

-- ---- no change

pub edited : {old new : MemoryTree} (p q : Name) (o : Option Node) → OneMore old new (Edit p o) → new.turns ≡ old.turns → p ≡ q → IsEdited (put (state old).reads q o) old new
edited {old} {new} p q o more counts same = record {
  state = state_pushed more ∙ ap (λ (n : Name). settled (put (state old).reads n o)) same;
  one_step = in_one_step more;
  time = elapsed more;
  counts = record {
    calls = ap (λ s. s.schedule.calls) counts;
    stop = ap (λ s. s.left) counts;
    fails = ap (λ s. s.schedule.fails) counts;
    faults = ap (λ s. s.schedule.faults) counts;
  };
}
