-- What stands at the paths of a job, behind newer jobs and edits at other paths.
use Rattle.std.proofs.Common.{◌≡◌, inl, inr, ⊎_elim, ℕ, ◌-◌, Bool, true, false, ◌||◌, List, [], ◌∷◌, ◌++◌, map, take, drop, get_or, All, refl, sym, ◌∙◌, ap, subst, arith, append_assoc, take-append-drop}
use Rattle.std.specs.Prelude.{if◌then◌else◌}
use Rattle.std.proofs.lemmas.Bool.{cases_Bool}
use Rattle.std.proofs.lemmas.List.Elements.{All-cons, All-head, All-tail, All-take, Contains-get_or}
use Rattle.std.specs.FinMap.{get}
use Rattle.conary_cli.specs.cli-call.cny-base.declared.limits.TheConstants.{STACK_LIMIT}
use Rattle.conary_cli.specs.cli-call.trove-stream.declared.parts.TroveParts.{TroveParts}
use Rattle.conary_cli.specs.cli-call.tree-disk.Tree.{Name, Tree, same_name, put, AgreesOutside}
use Rattle.conary_cli.proofs.cli-call.tree-disk.Laws.{get_put_here, get_put_other, same_tree}
use Rattle.conary_cli.specs.cli-call.journal-log.declared.put.Put.{Put}
use Rattle.conary_cli.specs.cli-call.journal-log.Targets.{is_target, node_of, with_targets}
use Rattle.conary_cli.specs.cli-call.tree-scan.Marks.{fingerprint}
use Rattle.conary_cli.specs.cli-call.local-db.SystemState.{is_listed, AreNumbered, IsSystemState, StackItem}
use Rattle.conary_cli.specs.cli-call.local-db.Steps.{after_job, after_rollback, after_rollbacks, backs, old_of, paths_of, pushed, want_of}
use Rattle.conary_cli.proofs.cli-call.local-db.Sorted.{in_listed}
use Rattle.conary_cli.proofs.cli-call.local-db.Systems.{listed_backs, listed_paths, node_of_want}
use Rattle.conary_cli.proofs.cli-call.local-db.Writes.{not_both}
use Rattle.conary_cli.proofs.cli-call.local-db.tree-journal.WriteSets.{with_targets_outside}
use Rattle.conary_cli.specs.cli-call.cny-laws.Edits.{Edit, edited}
use Rattle.conary_cli.specs.cli-call.cny-laws.State.{RootState}
use Rattle.conary_cli.specs.cli-call.system-core.Restoring.{IsUnedited}
use Rattle.conary_cli.specs.cli-call.system-core.RestoringAll.{FollowEachOther, old_node, tree_before}
use Rattle.conary_cli.specs.cli-call.system-core.Several.{jobs_below, jobs_to}
use Rattle.conary_cli.proofs.cli-call.system-core.Counting.{numbers_apart, split_at}
use Rattle.conary_cli.proofs.cli-call.system-core.OneJob.{left_over, picked}
use Rattle.conary_cli.proofs.cli-call.cny-laws.EditedTrees.{differs_by, same_or_other}
use Rattle.outcome_laws.specs.RootSteps.{IsRootStep, IsSound}

-- ---- one step of the root

-- what a job keeps, and taking back the newest one
module _ (P : RootState → Type 0) (job_on : (puts : List Put) (list : List TroveParts) (x : RootState) → IsSound list → P x → P (after_job puts list x))
    (back_on : (o : StackItem) (olds : List StackItem) (x : RootState) → x.stack ≡ o ∷ olds → P x → P (after_rollback o olds x)) where
  backs_on : (os rest : List StackItem) (x : RootState) → x.stack ≡ os ++ rest → P x → P (after_rollbacks os rest x)
  backs_on [] rest x stack h = h
  backs_on (o ∷ os) rest x stack h = backs_on os rest (after_rollback o (os ++ rest) x) refl (back_on o (os ++ rest) x stack h)

  pub step_on : (x y : RootState) → P x → IsRootStep x y → P y
  step_on x y h (inl same) = subst P (sym same) h
  step_on x y h (inr (inl job)) = subst P (sym job.is) (job_on job.puts job.list x job.sound h)
  step_on x y h (inr (inr back)) = subst P (sym back.is) (backs_on (jobs_to back.number x.stack) (jobs_below back.number x.stack) x (split_at back.number x.stack) h)

-- ---- the trees of one job

-- the writes of old nodes, at these paths
abbrev backs_at : Tree → List Name → List Put
backs_at before paths = map (λ (p : Name). record { path = p; want = want_of (get before p) }) paths

-- each of the paths has its old node then
restored_at : (before : Tree) (paths : List Name) (tree : Tree) (q : Name) → is_listed paths q ≡ true → get (with_targets (backs_at before paths) tree) q ≡ get before q
restored_at before [] tree q listed = absurd (cc listed)
restored_at before (p ∷ paths) tree q listed = ⊎_elim
    (λ more. restored_at before paths (put tree p (node_of (want_of (get before p)))) q more)
    (λ last. ⊎_elim
    (λ same.
    listed_outside (put tree p (node_of (want_of (get before p)))) last
    ∙ ap (get (put tree p (node_of (want_of (get before p))))) same ∙ get_put_here tree p (node_of (want_of (get before p))) ∙ node_of_want (get before p) ∙ ap (get before) (sym same))
    (λ other. absurd (neither (same_name q p) (is_listed paths q) listed other last))
    (same_or_other q p))
    (cases_Bool (is_listed paths q))
  where
    neither : (a b : Bool) → (a || b) ≡ true → a ≡ false → b ≡ false → ⊥
    neither true b or first second = absurd (cc first)
    neither false b or first second = not_both b or second

    targets_at : (ps : List Name) → is_target (backs_at before ps) q ≡ is_listed ps q
    targets_at [] = refl
    targets_at (r ∷ ps) = ap (λ (b : Bool). same_name q r || b) (targets_at ps)

    listed_outside : (t : Tree) → is_listed paths q ≡ false → get (with_targets (backs_at before paths) t) q ≡ get t q
    listed_outside t out = with_targets_outside (backs_at before paths) t q (targets_at paths ∙ out)

module _ (o : StackItem) (tree : Tree) where
  -- what a rollback of the job leaves at a name
  pub back_node : (q : Name) → get (with_targets (backs o) tree) q ≡ (if is_listed o.paths q then get o.before q else get tree q)
  back_node q = ⊎_elim
      (λ own. restored_at o.before o.paths tree q own ∙ sym (picked (is_listed o.paths q) (get o.before q) (get tree q) own))
      (λ other. with_targets_outside (backs o) tree q (listed_backs o q ∙ other) ∙ sym (left_over (is_listed o.paths q) (get o.before q) (get tree q) other))
      (cases_Bool (is_listed o.paths q))

module _ (puts : List Put) (x : RootState) where
  -- a job changes no other name than its paths
  pub job_agrees : AgreesOutside (is_listed (old_of puts x).paths) (old_of puts x).before (old_of puts x).after
  job_agrees q out = sym (with_targets_outside puts x.tree q (sym (listed_paths puts q) ∙ out))

  -- taken back, it leaves what stood before it
  pub job_node : (q : Name) → (if is_listed (old_of puts x).paths q then get (old_of puts x).before q else get (with_targets puts x.tree) q) ≡ get x.tree q
  job_node q = ⊎_elim
      (λ own. picked (is_listed (paths_of puts) q) (get x.tree q) (get (with_targets puts x.tree) q) own)
      (λ other. left_over (is_listed (paths_of puts) q) (get x.tree q) (get (with_targets puts x.tree) q) other ∙ sym (job_agrees q other))
      (cases_Bool (is_listed (paths_of puts) q))

-- ---- stacks

-- what is on top of the job in the first items of a stack is on top of it in the whole
pub front_split : (n : ℕ) (stack newer : List StackItem) (o : StackItem) (olds : List StackItem) → take n stack ≡ newer ++ o ∷ olds → stack ≡ newer ++ o ∷ (olds ++ drop n stack)
front_split n stack newer o olds is = sym (take-append-drop n stack) ∙ ap (λ (l : List StackItem). l ++ drop n stack) is ∙ append_assoc newer (o ∷ olds) (drop n stack)

-- ---- the nodes at the paths of a job

-- With the newer jobs taken back, the job's own nodes stand at its paths.
abbrev pub Stands : StackItem → RootState → Type 0
Stands o x = (newer olds : List StackItem) → x.stack ≡ newer ++ o ∷ olds → (q : Name) → is_listed o.paths q ≡ true → old_node newer q (get x.tree q) ≡ get o.after q

module _ (o : StackItem) where
  -- a job was made
  job_stands : (puts : List Put) (list : List TroveParts) (x : RootState) → Stands o x → Stands o (after_job puts list x)
  job_stands puts list x h [] olds is q own = let first : old_of puts x ≡ o = cc is in ap (λ (p : StackItem). get p.after q) first
  job_stands puts list x h (p ∷ newer) olds is q own =
      let first : old_of puts x ≡ p = cc is in
      let rest : take (STACK_LIMIT - 1) x.stack ≡ newer ++ o ∷ olds = cc is in
      ap (old_node newer q) (ap (λ (j : StackItem). if is_listed j.paths q then get j.before q else get (with_targets puts x.tree) q) (sym first) ∙ job_node puts x q)
      ∙ h newer (olds ++ drop (STACK_LIMIT - 1) x.stack) (front_split (STACK_LIMIT - 1) x.stack newer o olds rest) q own

  -- the newest job was taken back
  back_stands : (p : StackItem) (olds : List StackItem) (x : RootState) → x.stack ≡ p ∷ olds → Stands o x → Stands o (after_rollback p olds x)
  back_stands p olds x stack h newer lower is q own =
      ap (old_node newer q) (back_node p x.tree q)
      ∙ h (p ∷ newer) lower (stack ∙ ap (λ (l : List StackItem). p ∷ l) is) q own

  pub stands_on : (x y : RootState) → Stands o x → IsRootStep x y → Stands o y
  stands_on = step_on (Stands o) (λ puts list x sound h. job_stands puts list x h) back_stands

  -- an edit at another path
  pub edit_stands : (e : Edit) (x : RootState) → is_listed o.paths e.path ≡ false → Stands o x → Stands o (edited x e)
  edit_stands e x out h newer olds is q own = ap (old_node newer q) (get_put_other x.tree e.path e.node q (differs_by (is_listed o.paths) q e.path own out)) ∙ h newer olds is q own

  -- it is on the stack once
  once : (x : RootState) (olds newer lower : List StackItem) → IsSystemState x → x.stack ≡ o ∷ olds → x.stack ≡ newer ++ o ∷ lower → newer ≡ []
  once x olds [] lower system stack is = refl
  once x olds (p ∷ newer) lower system stack is =
      let first : p ≡ o = cc (sym is ∙ stack) in
      let apart = numbers_apart p newer o lower (subst AreNumbered is system.numbered) in
      let same : p.number ≡ o.number = ap (λ (j : StackItem). j.number) first in
      absurd (omega (arith, apart, same))

  -- as it does right after the job
  pub stands_first : (x : RootState) (olds : List StackItem) → IsSystemState x → x.stack ≡ o ∷ olds → x.tree ≡ o.after → Stands o x
  stands_first x olds system stack tree newer lower is q own =
      ap (λ (l : List StackItem). old_node l q (get x.tree q)) (once x olds newer lower system stack is) ∙ ap (λ (t : Tree). get t q) tree

  -- and so, where it is the newest, nothing at its paths was edited
  pub stands_last : (x : RootState) (olds : List StackItem) → x.stack ≡ o ∷ olds → Stands o x → IsUnedited o x.tree
  stands_last x olds stack h k d lt = ap fingerprint (h [] olds stack (get_or o.paths k d) (in_listed o.paths (get_or o.paths k d) (Contains-get_or o.paths k d lt)))

-- ---- the whole tree, where nothing at all was edited

-- Each job of the stack changed its paths alone; and with the newer jobs taken back the tree is the one that the job left.
pub record Follows (o : StackItem) (x : RootState) : Type 0 where
  pub items : All (λ (p : StackItem). AgreesOutside (is_listed p.paths) p.before p.after) x.stack
  pub follow : (newer olds : List StackItem) → x.stack ≡ newer ++ o ∷ olds → FollowEachOther newer x.tree
  pub tree : (newer olds : List StackItem) → x.stack ≡ newer ++ o ∷ olds → tree_before newer x.tree ≡ o.after

abbrev ChangesItsPaths : StackItem → Type 0
ChangesItsPaths p = AgreesOutside (is_listed p.paths) p.before p.after

-- a job that nothing was edited after is taken back to the tree before it
all_back : (p : StackItem) (tree : Tree) → ChangesItsPaths p → tree ≡ p.after → with_targets (backs p) tree ≡ p.before
all_back p tree agrees same = same_tree (with_targets (backs p) tree) p.before (λ q. back_node p tree q ∙ ⊎_elim
    (λ own. picked (is_listed p.paths q) (get p.before q) (get tree q) own)
    (λ other. left_over (is_listed p.paths q) (get p.before q) (get tree q) other ∙ ap (λ (t : Tree). get t q) same ∙ sym (agrees q other))
    (cases_Bool (is_listed p.paths q)))

module _ (o : StackItem) where
  job_follows : (puts : List Put) (list : List TroveParts) (x : RootState) → Follows o x → Follows o (after_job puts list x)
  job_follows puts list x h = record {
    items = All-cons ChangesItsPaths (old_of puts x) (take (STACK_LIMIT - 1) x.stack) (job_agrees puts x) (All-take ChangesItsPaths (STACK_LIMIT - 1) x.stack h.items);
    follow = follow;
    tree = tree;
  }
    where
      follow : (newer olds : List StackItem) → pushed (old_of puts x) x.stack ≡ newer ++ o ∷ olds → FollowEachOther newer (with_targets puts x.tree)
      follow [] olds is = tt
      follow (p ∷ newer) olds is =
          let first : old_of puts x ≡ p = cc is in
          let rest : take (STACK_LIMIT - 1) x.stack ≡ newer ++ o ∷ olds = cc is in
          (ap (λ (j : StackItem). j.after) first, subst (λ (j : StackItem). FollowEachOther newer j.before) first (h.follow newer (olds ++ drop (STACK_LIMIT - 1) x.stack) (front_split (STACK_LIMIT - 1) x.stack newer o olds rest)))

      tree : (newer olds : List StackItem) → pushed (old_of puts x) x.stack ≡ newer ++ o ∷ olds → tree_before newer (with_targets puts x.tree) ≡ o.after
      tree [] olds is = let first : old_of puts x ≡ o = cc is in ap (λ (j : StackItem). j.after) first
      tree (p ∷ newer) olds is =
          let first : old_of puts x ≡ p = cc is in
          let rest : take (STACK_LIMIT - 1) x.stack ≡ newer ++ o ∷ olds = cc is in
          ap (λ (j : StackItem). tree_before newer j.before) (sym first) ∙ h.tree newer (olds ++ drop (STACK_LIMIT - 1) x.stack) (front_split (STACK_LIMIT - 1) x.stack newer o olds rest)

  back_follows : (p : StackItem) (olds : List StackItem) (x : RootState) → x.stack ≡ p ∷ olds → Follows o x → Follows o (after_rollback p olds x)
  back_follows p olds x stack h = record {
    items = All-tail ChangesItsPaths p olds items;
    follow = λ newer lower is. subst (FollowEachOther newer) (sym (before newer lower is)) (h.follow (p ∷ newer) lower (behind newer lower is)).1;
    tree = λ newer lower is. ap (tree_before newer) (before newer lower is) ∙ h.tree (p ∷ newer) lower (behind newer lower is);
  }
    where
      items : All ChangesItsPaths (p ∷ olds)
      items = subst (All ChangesItsPaths) stack h.items

      behind : (newer lower : List StackItem) → olds ≡ newer ++ o ∷ lower → x.stack ≡ (p ∷ newer) ++ o ∷ lower
      behind newer lower is = stack ∙ ap (λ (l : List StackItem). p ∷ l) is

      before : (newer lower : List StackItem) → olds ≡ newer ++ o ∷ lower → with_targets (backs p) x.tree ≡ p.before
      before newer lower is = all_back p x.tree (All-head ChangesItsPaths p olds items) (h.follow (p ∷ newer) lower (behind newer lower is)).0

  pub follows_on : (x y : RootState) → Follows o x → IsRootStep x y → Follows o y
  follows_on = step_on (Follows o) (λ puts list x sound h. job_follows puts list x h) back_follows

  pub follows_first : (x : RootState) (olds : List StackItem) → IsSystemState x → x.stack ≡ o ∷ olds → x.tree ≡ o.after → Follows o x
  follows_first x olds system stack tree = record {
    items = λ k d lt. (system.olds k d lt).same;
    follow = λ newer lower is. subst (λ (l : List StackItem). FollowEachOther l x.tree) (sym (once o x olds newer lower system stack is)) tt;
    tree = λ newer lower is. ap (λ (l : List StackItem). tree_before l x.tree) (once o x olds newer lower system stack is) ∙ tree;
  }

  pub follows_last : (x : RootState) (olds : List StackItem) → x.stack ≡ o ∷ olds → Follows o x → x.tree ≡ o.after
  follows_last x olds stack h = h.tree [] olds stack
