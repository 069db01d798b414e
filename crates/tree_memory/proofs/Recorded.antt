-- What is kept of one change more.
use Rattle.std.proofs.Common.{◌≡◌, Bool, true, false, cond, List, [], ◌∷◌, ◌++◌, refl, sym, ◌∙◌, ap, subst, Result, Ok, Err, OnErr, is_ok}
use Rattle.tree_nodes.specs.cny-base.declared.node.Node.{Node}
use Rattle.tree_nodes.specs.tree-disk.Tree.{Name, Tree, WellFormed}
use Rattle.std.specs.FinMap.{from_entries}
use Rattle.tree_memory.specs.declared.change.Change.{Change}
use Rattle.tree_memory.specs.declared.change.Change.TheVariants.{Sync}
use Rattle.tree_memory.specs.State.{State, settled, state_of, tree_after}
use Rattle.tree_memory.proofs.Replay.{replay_push, reads_step}

-- a push that can't fail
pub went : {X E P : Type 0} (r : Result X E) → (P → ⊥) → OnErr r P → is_ok r ≡ true
went (Ok x) never h = refl
went (Err e) never h = absurd (never h)

pub pushed : {X E A : Type 0} (r : Result X E) (items new : List A) (x : A) → is_ok r ≡ true → new ≡ cond (is_ok r) (items ++ x ∷ []) items → new ≡ items ++ x ∷ []
pushed r items new x ok is = is ∙ ap (λ b. cond b (items ++ x ∷ []) items) ok

module _ (first : List (Name × Node)) (changes : List Change) (change : Change) (old new : Tree) (done : new ≡ tree_after change old) (told : old ≡ (state_of first changes).reads) where
  pub told_after : (later : List Change) → later ≡ changes ++ change ∷ [] → new ≡ (state_of first later).reads
  told_after later is =
      done ∙ ap (tree_after change) told
      ∙ sym (reads_step change (state_of first changes))
      ∙ ap (λ (s : State). s.reads) (sym (replay_push changes change (settled (from_entries first))))
      ∙ ap (λ l. (state_of first l).reads) (sym is)

  pub well_after : WellFormed (tree_after change (state_of first changes).reads) → WellFormed new
  well_after well = subst WellFormed (sym (done ∙ ap (tree_after change) told)) well

settled_by : (first : List (Name × Node)) (changes later : List Change) (b : Bool) → later ≡ cond b (changes ++ Sync ∷ []) changes → (state_of first changes).reads ≡ (state_of first later).reads
settled_by first changes later true is =
    ap (λ (s : State). s.reads) (sym (replay_push changes Sync (settled (from_entries first)))) ∙ ap (λ l. (state_of first l).reads) (sym is)
settled_by first changes later false is = ap (λ l. (state_of first l).reads) (sym is)

-- a sync leaves what is read, and so does one that found no memory
pub told_settled : {X E : Type 0} (first : List (Name × Node)) (changes : List Change) (t : Tree) → t ≡ (state_of first changes).reads → (r : Result X E) (later : List Change) → later ≡ cond (is_ok r) (changes ++ Sync ∷ []) changes → t ≡ (state_of first later).reads
told_settled first changes t told r later is = told ∙ settled_by first changes later (is_ok r) is
