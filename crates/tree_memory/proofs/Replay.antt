-- What a replay of changes leaves alone, and one change more.
use Rattle.std.specs.Prelude.{◌≡◌, ℕ, ◌≤◌, Bool, true, false, cond, ◌||◌, List, [], ◌∷◌, ◌++◌, length, take, Some, None, refl}
use Rattle.std.proofs.Common.{◌∙◌, ap, zero, suc, arith}
use Rattle.std.specs.FinMap.{get}
use Rattle.tree_nodes.specs.tree-disk.Tree.{Name, Tree, same_name, put, AgreesOutside}
use Rattle.tree_nodes.specs.tree-disk.Rows.{grown, of_mode}
use Rattle.tree_nodes.proofs.tree-disk.Laws.{get_put_other}
use Rattle.tree_memory.specs.declared.change.Change.{Change}
use Rattle.tree_memory.specs.declared.change.Change.TheVariants.{Append, Put, SetMode, Rename, Touch, TouchBoth, Sync, Edit}
use Rattle.tree_memory.specs.State.{State, settled, tree_after, names_of, settles, step, replay}
use Rattle.tree_nodes.proofs.cny-base.Bools.{first_false as left_false, second_false as right_false}

-- a change leaves every name that isn't its own
pub outside : (change : Change) (t : Tree) (p : Name) → names_of change p ≡ false → get (tree_after change t) p ≡ get t p
outside (Append q bytes) t p h = get_put_other t q (Some (grown (get t q) bytes)) p h
outside (Put q o) t p h = get_put_other t q o p h
outside (SetMode q mode) t p h = get_put_other t q (of_mode (get t q) mode) p h
outside (Rename from to) t p h =
    get_put_other (put t to (get t from)) from None p (left_false (same_name p from) (same_name p to) h)
    ∙ get_put_other t to (get t from) p (right_false (same_name p from) (same_name p to) h)
outside (Touch q) t p h = refl
outside (TouchBoth from to) t p h = refl
outside Sync t p h = refl
outside (Edit q o) t p h = get_put_other t q o p h

-- what isn't unsynced reads as at the last sync
abbrev pub Agrees : State → Type 0
Agrees s = AgreesOutside s.unsynced s.reads s.synced

agrees_step : (change : Change) (s : State) (v : Bool) → Agrees s
    → Agrees (cond v (settled (tree_after change s.reads)) (record { reads = tree_after change s.reads; synced = s.synced; unsynced = λ p. s.unsynced p || names_of change p }))
agrees_step change s true so p none = refl
agrees_step change s false so p none =
    outside change s.reads p (right_false (s.unsynced p) (names_of change p) none) ∙ so p (left_false (s.unsynced p) (names_of change p) none)

pub agrees_replay : (changes : List Change) (s : State) → Agrees s → Agrees (replay changes s)
agrees_replay [] s so = so
agrees_replay (change ∷ changes) s so = agrees_replay changes (step change s) (agrees_step change s (settles change) so)

-- ---- one change more

pub replay_push : (changes : List Change) (change : Change) (s : State) → replay (changes ++ change ∷ []) s ≡ step change (replay changes s)
replay_push [] change s = refl
replay_push (c ∷ changes) change s = replay_push changes change (step c s)

reads_step' : (change : Change) (s : State) (v : Bool)
    → (cond v (settled (tree_after change s.reads)) (record { reads = tree_after change s.reads; synced = s.synced; unsynced = λ p. s.unsynced p || names_of change p })).reads ≡ tree_after change s.reads
reads_step' change s true = refl
reads_step' change s false = refl

pub reads_step : (change : Change) (s : State) → (step change s).reads ≡ tree_after change s.reads
reads_step change s = reads_step' change s (settles change)

-- an earlier moment is as it was
pub take_push : (k : ℕ) (changes : List Change) (change : Change) → k ≤ length changes → take k (changes ++ change ∷ []) ≡ take k changes
take_push zero changes change h = refl
take_push (suc k) [] change h = absurd (omega arith)
take_push (suc k) (c ∷ changes) change h = ap (λ l. c ∷ l) (take_push k changes change (omega arith))
