-- The second pass makes the targets, from the first write to the last.
use Rattle.std.proofs.Common.{◌≡◌, ◌≢◌, ◌⊎◌, inl, inr, ⊎_elim, ℕ, zero, suc, ◌+◌, ◌<◌, Bool, true, false, cond, not, ◌&&◌, ◌||◌, IsTrue, List, [], ◌∷◌, ◌++◌, map, length, get_or, take, drop, Option, Some, None, is_some, Contains, refl, sym, ◌∙◌, ap, subst}
use Rattle.std.proofs.lemmas.Bool.{cases_Bool}
use Rattle.std.proofs.lemmas.List.Elements.{All-contains}
use Rattle.std.specs.List.{All}
use Rattle.std.specs.FinMap.{get}
use Rattle.std.specs.declared.cmp.Ordering.TheVariants.{Less}
use Rattle.journal_log.specs.cny-base.Path.{is_path, root, parent}
use Rattle.journal_log.proofs.cny-base.Parent.{parent_is_path}
use Rattle.journal_log.specs.cny-base.Below.{is_below}
use Rattle.journal_log.proofs.cny-base.Below.{child_below, parent_first}
use Rattle.journal_log.specs.cny-base.declared.node.Node.{Node}
use Rattle.journal_log.specs.cny-base.declared.node.Node.TheVariants as node
use Rattle.journal_log.specs.tree-disk.Tree.{Name, Tree, same_name, put, is_dir, is_file, WellFormed}
use Rattle.journal_log.specs.tree-disk.Rows.{can_make, can_set_mode, with_mode, of_mode}
use Rattle.journal_log.specs.tree-disk.Laws.{same_means, get_put}
use Rattle.journal_log.proofs.tree-disk.Laws.{same_itself, get_put_here, get_put_other, same_tree}
use Rattle.journal_log.proofs.tree-disk.ClearLaws.{within_itself}
use Rattle.journal_log.specs.declared.put.Want.{Want}
use Rattle.journal_log.specs.declared.put.Want.TheVariants as want
use Rattle.journal_log.specs.declared.put.Put.{Put}
use Rattle.journal_log.specs.Own.{is_own, work}
use Rattle.journal_log.specs.WriteSet.{CanBeNamed, Rises}
use Rattle.journal_log.specs.Targets.{is_dir_want, node_of, is_target, with_targets}
use Rattle.tree_journal.specs.CanBePut.{CanBePut}
use Rattle.tree_journal.specs.Staging.{has_content, AllStaged, resolved, resolve, outcome}
use Rattle.tree_journal.specs.Passes.{obstructs, is_renamed, all_cleared, with_target, CanMake, CanMakeAll, CanMakeDir, CanMakeNow, CanMove, CanWork, CanReplay, CanMakePass, CanPutAll}
use Rattle.tree_journal.proofs.WriteSets.{neither, first_before, later_differs, with_targets_agree, rest_at, front_at}
use Rattle.tree_journal.proofs.OwnNames.{base_own, in_work, in_staged}
use Rattle.tree_journal.proofs.Staged.{AgreesStaged, resolved_same, content_same, all_staged_same, resolve_all_same, target_resolved, outcome_outside, dir_resolved, own_free}
use Rattle.tree_journal.proofs.ClearPass.{all_cleared_outside, not_obstructed, nothing_obstructs, CanClearPart, part_whole}
use Rattle.journal_log.proofs.tree-disk.Order.{name_cmp, not_back, not_itself}
use Rattle.journal_log.proofs.cny-base.Lists.{contains_first, contains_rest}
use Rattle.journal_log.proofs.tree-disk.Children.{or_none}

-- ---- one write

-- where a directory is wanted, nothing stands or a directory
or_dir : (o : Option Node) (w : Want) → obstructs w o ≡ false → is_renamed w ≡ false → (o ≡ None) ⊎ (is_dir o ≡ true)
or_dir None w h not_renamed = inl refl
or_dir (Some (node.Dir mode)) w h not_renamed = inr refl
or_dir (Some (node.File mode bytes)) w h not_renamed = absurd (cc (h, ap not not_renamed))
or_dir (Some (node.Link target)) w h not_renamed = absurd (cc (h, ap not not_renamed))

-- where a file or a link is wanted, no directory stands
no_dir : (o : Option Node) (w : Want) → obstructs w o ≡ false → is_dir_want w ≡ false → is_dir o ≡ false
no_dir None w h other = refl
no_dir (Some (node.Dir mode)) w h other = absurd (cc (h, ap not other))
no_dir (Some (node.File mode bytes)) w h other = refl
no_dir (Some (node.Link target)) w h other = refl

pub put_nothing : (base : Name) (tree : Tree) (p : Put) → p.want ≡ want.Nothing → CanMake tree p → tree ≡ with_target base p tree
put_nothing base tree p is can = same_tree tree (with_target base p tree) (λ q. at q (same_name q p.path) refl ∙ sym (get_put tree p.path (node_of (resolved base tree p.want)) q))
  where
    at : (q : Name) (b : Bool) → same_name q p.path ≡ b → get tree q ≡ cond (same_name q p.path) (node_of (resolved base tree p.want)) (get tree q)
    at q true same =
        ap (get tree) (same_means q p.path same) ∙ nothing_obstructs p.want (get tree p.path) is can.clear
        ∙ sym (ap (λ (b : Bool). cond b (node_of (resolved base tree p.want)) (get tree q)) same ∙ ap (λ (w : Want). node_of (resolved base tree w)) is)
    at q false other = sym (ap (λ (b : Bool). cond b (node_of (resolved base tree p.want)) (get tree q)) other)

pub none_empty : (dir : Bool) (o : Option Node) → dir ≡ true → o ≡ None → (dir && not (is_some o)) ≡ true
none_empty dir o is none = cc (is, ap (λ (x : Option Node). dir && not (is_some x)) none, ap (λ (b : Bool). b && true) is)

pub may_make_dir : (tree : Tree) (p : Put) → CanMake tree p → is_renamed p.want ≡ false → p.want ≢ want.Nothing → CanMakeDir tree p.path
may_make_dir tree p can not_renamed some = record {
  parent_stands = can.parent_stands some;
  clear = or_dir (get tree p.path) p.want can.clear not_renamed;
}

pub may_move : (base : Name) (tree : Tree) (p : Put) → CanMakeNow base tree p → is_dir_want p.want ≡ false → p.want ≢ want.Nothing → CanMove base tree p.path
may_move base tree p now other some = record {
  parent_stands = now.can.parent_stands some;
  clear = no_dir (get tree p.path) p.want now.can.clear other;
  workable = now.workable;
  not_own = now.not_own;
}

pub may_set_dir_mode : (tree : Tree) (path : Name) → is_dir (get tree path) ≡ true → can_set_mode tree path ≡ true
may_set_dir_mode tree path is = ap (λ (b : Bool). b || is_file (get tree path)) is

of_dir_mode : (o : Option Node) (mode : ℕ) → is_dir o ≡ true → of_mode o mode ≡ Some (node.Dir mode)
of_dir_mode None mode is = absurd (cc is)
of_dir_mode (Some (node.Dir old)) mode is = refl
of_dir_mode (Some (node.File old bytes)) mode is = absurd (cc is)
of_dir_mode (Some (node.Link target)) mode is = absurd (cc is)

pub with_dir_mode : (tree : Tree) (path : Name) (mode : ℕ) → is_dir (get tree path) ≡ true → with_mode tree path mode ≡ put tree path (Some (node.Dir mode))
with_dir_mode tree path mode is = ap (put tree path) (of_dir_mode (get tree path) mode is)

pub may_make_missing_dir : (tree : Tree) (path : Name) → CanMakeDir tree path → is_dir (get tree path) ≡ false → can_make tree path ≡ true
may_make_missing_dir tree path can other = ⊎_elim
    (λ none. none_empty (is_dir (get tree (parent path))) (get tree path) can.parent_stands none)
    (λ dir. absurd (cc (other, dir))) can.clear

-- ---- all writes

-- what a part of a write set needs, once the writes before it are made
pub record CanMakePart (puts : List Put) (tree : Tree) : Type 0 where
  pub rises : Rises puts
  pub paths : (p : Put) → Contains puts p → is_path p.path ≡ true
  pub not_root : (p : Put) → Contains puts p → p.path ≢ root
  pub nothing_below : (p q : Put) → Contains puts p → Contains puts q → is_below p.path q.path ≡ true → is_dir_want p.want ≡ false → q.want ≡ want.Nothing
  pub clear : (p : Put) → Contains puts p → obstructs p.want (get tree p.path) ≡ false
  pub above : (p : Put) → Contains puts p → p.want ≢ want.Nothing → is_target puts (parent p.path) ≡ false → is_dir (get tree (parent p.path)) ≡ true

make_first : (p : Put) (puts : List Put) (tree : Tree) → CanMakePart (p ∷ puts) tree → CanMake tree p
make_first p puts tree part = record {
  clear = part.clear p (contains_first p puts);
  parent_stands = λ some. part.above p (contains_first p puts) some (or_none (same_name (parent p.path) p.path) (is_target puts (parent p.path)) not_same not_later);
}
  where
    earlier : name_cmp (parent p.path) p.path ≡ Less
    earlier = ⊎_elim (λ top. absurd (part.not_root p (contains_first p puts) top)) (λ less. less) (parent_first p.path (part.paths p (contains_first p puts)))

    not_same : same_name (parent p.path) p.path ≡ false
    not_same = ⊎_elim (λ same. absurd (not_itself p.path (ap (λ (q : Name). name_cmp q p.path) (sym (same_means (parent p.path) p.path same)) ∙ earlier))) (λ other. other) (cases_Bool (same_name (parent p.path) p.path))

    not_later : is_target puts (parent p.path) ≡ false
    not_later = ⊎_elim (λ h. absurd (not_back p.path (parent p.path) (first_before p puts part.rises (parent p.path) h) earlier)) (λ h. h) (cases_Bool (is_target puts (parent p.path)))

-- the node that a write leaves, with the staged bytes of the tree at the start
module _ (base : Name) (start : Tree) where
  make_rest : (p : Put) (puts : List Put) (tree : Tree) → CanMakePart (p ∷ puts) tree → CanMakePart puts (put tree p.path (node_of (resolved base start p.want)))
  make_rest p puts tree part = record {
    rises = part.rises.1;
    paths = λ r in'. part.paths r (contains_rest p r puts in');
    not_root = λ r in'. part.not_root r (contains_rest p r puts in');
    nothing_below = λ r s r_in s_in. part.nothing_below r s (contains_rest p r puts r_in) (contains_rest p s puts s_in);
    clear = λ r in'. ap (obstructs r.want) (get_put_other tree p.path (node_of (resolved base start p.want)) r.path (later_differs p puts part.rises r in')) ∙ part.clear r (contains_rest p r puts in');
    above = λ r in' some free. by r in' some free (same_name (parent r.path) p.path) refl;
  }
    where
      by : (r : Put) → Contains puts r → r.want ≢ want.Nothing → is_target puts (parent r.path) ≡ false → (b : Bool) → same_name (parent r.path) p.path ≡ b
          → is_dir (get (put tree p.path (node_of (resolved base start p.want))) (parent r.path)) ≡ true
      by r in' some free false other =
          ap is_dir (get_put_other tree p.path (node_of (resolved base start p.want)) (parent r.path) other)
          ∙ part.above r (contains_rest p r puts in') some (or_none (same_name (parent r.path) p.path) (is_target puts (parent r.path)) other free)
      by r in' some free true same =
          ap (λ (q : Name). is_dir (get (put tree p.path (node_of (resolved base start p.want))) q)) up ∙ ap is_dir (get_put_here tree p.path (node_of (resolved base start p.want))) ∙ dir_resolved base start p.want ∙ wanted
        where
          up : parent r.path ≡ p.path
          up = same_means (parent r.path) p.path same

          low : is_below p.path r.path ≡ true
          low = ⊎_elim (λ top. absurd (part.not_root p (contains_first p puts) (sym up ∙ top))) (λ low. subst (λ (x : Name). is_below x r.path ≡ true) up low) (child_below r.path (part.paths r (contains_rest p r puts in')))

          wanted : is_dir_want p.want ≡ true
          wanted = ⊎_elim (λ is. is) (λ other. absurd (some (part.nothing_below p r (contains_first p puts) (contains_rest p r puts in') low other))) (cases_Bool (is_dir_want p.want))

  can_make_part : (puts : List Put) (tree : Tree) → CanMakePart puts tree → CanMakeAll base start puts tree
  can_make_part [] tree part = tt
  can_make_part (p ∷ puts) tree part = (make_first p puts tree part, can_make_part puts (put tree p.path (node_of (resolved base start p.want))) (make_rest p puts tree part))

-- After the first pass all targets can be made.
pub can_make_all : (base : Name) (start : Tree) (puts : List Put) (tree : Tree) → CanReplay base puts tree → WellFormed tree → CanMakeAll base start puts (all_cleared puts tree)
can_make_all base start puts tree can well = can_make_part base start puts (all_cleared puts tree) (record {
  rises = can.loggable.write_set.rises;
  paths = paths;
  not_root = part.not_root;
  nothing_below = part.nothing_below;
  clear = λ p in'. not_obstructed puts tree can.loggable.write_set.rises p in';
  above = λ p in' some free. ap is_dir (all_cleared_outside puts tree (parent p.path) free) ∙ above p in' free;
})
  where
    part : CanClearPart puts tree
    part = part_whole base puts tree can

    paths : (p : Put) → Contains puts p → is_path p.path ≡ true
    paths p in' = All-contains (λ (x : Put). IsTrue (is_path x.path)) puts p can.loggable.write_set.paths in'

    above : (p : Put) → Contains puts p → is_target puts (parent p.path) ≡ false → is_dir (get tree (parent p.path)) ≡ true
    above p in' free = ⊎_elim
        (λ top. ap (λ (q : Name). is_dir (get tree q)) top ∙ well.root_stands)
        (λ low. (All-contains (CanBePut puts tree) puts p can.can in').above (parent p.path) (parent_is_path p.path (paths p in')) low free)
        (child_below p.path (paths p in'))

-- ---- the steps of the pass

-- one write more
made_more : (base : Name) (start : Tree) (puts : List Put) (tree : Tree) (p : Put)
    → with_targets (map (resolve base start) (puts ++ p ∷ [])) tree ≡ put (with_targets (map (resolve base start) puts) tree) p.path (node_of (resolved base start p.want))
made_more base start [] tree p = refl
made_more base start (r ∷ puts) tree p = made_more base start puts (put tree r.path (node_of (resolved base start r.want))) p

pub one_more_made : (base : Name) (start : Tree) (puts : List Put) (tree : Tree) (i : ℕ) (p : Put) → i < length puts → p ≡ get_or puts i p
    → put (with_targets (map (resolve base start) (take i puts)) tree) p.path (node_of (resolved base start p.want)) ≡ with_targets (map (resolve base start) (take (i + 1) puts)) tree
one_more_made base start puts tree i p lt is = sym (ap (λ (l : List Put). with_targets (map (resolve base start) l) tree) (front_at puts i p lt is) ∙ made_more base start (take i puts) tree p)

pub can_make_next : (base : Name) (start : Tree) (puts : List Put) (tree : Tree) (i : ℕ) (p : Put) → i < length puts → p ≡ get_or puts i p
    → CanMakeAll base start (drop i puts) (with_targets (map (resolve base start) (take i puts)) tree)
    → CanMake (with_targets (map (resolve base start) (take i puts)) tree) p × CanMakeAll base start (drop (i + 1) puts) (with_targets (map (resolve base start) (take (i + 1) puts)) tree)
can_make_next base start puts tree i p lt is can =
    let parts : CanMakeAll base start (p ∷ drop (i + 1) puts) (with_targets (map (resolve base start) (take i puts)) tree) = subst (λ (l : List Put). CanMakeAll base start l (with_targets (map (resolve base start) (take i puts)) tree)) (rest_at puts i p lt is) can in
    (parts.0, subst (CanMakeAll base start (drop (i + 1) puts)) (one_more_made base start puts tree i p lt is) parts.1)

-- ---- a target at the loop's place

-- the first writes of a list have only targets of the list
pub front_target : (puts : List Put) (i : ℕ) (q : Name) → is_target puts q ≡ false → is_target (take i puts) q ≡ false
front_target puts zero q free = refl
front_target [] (suc i) q free = refl
front_target (p ∷ puts) (suc i) q free =
    let parts = neither (same_name q p.path) (is_target puts q) free in
    or_none (same_name q p.path) (is_target (take i puts) q) parts.0 (front_target puts i q parts.1)

-- while the targets are made, every name that is none of them is as at the start
pub front_outside : (base : Name) (start tree : Tree) (puts : List Put) (i : ℕ) (q : Name) → is_target puts q ≡ false
    → get (with_targets (map (resolve base start) (take i puts)) tree) q ≡ get tree q
front_outside base start tree puts i q free = outcome_outside base start (take i puts) tree q (front_target puts i q free)

module _ (base : Name) (path : is_path base ≡ true) (puts : List Put) (named : All (λ p. CanBeNamed base p.path) puts) (tree : Tree) (i : ℕ) where
  own_kept : (q : Name) → is_own base q ≡ true → get (with_targets (map (resolve base tree) (take i puts)) tree) q ≡ get tree q
  own_kept q own = front_outside base tree tree puts i q (own_free base puts named q own)

  -- the staged bytes are those of the start
  pub staged_kept : AgreesStaged base (with_targets (map (resolve base tree) (take i puts)) tree) tree
  staged_kept q within = own_kept q (in_staged base q within)

  pub can_make_now : (p : Put) → i < length puts → p ≡ get_or puts i p → CanMake (with_targets (map (resolve base tree) (take i puts)) tree) p
      → AllStaged base tree puts → CanWork base tree → CanMakeNow base (with_targets (map (resolve base tree) (take i puts)) tree) p
  can_make_now p lt is can stand work_now = record {
    can = can;
    workable = record {
      base_stands = ap is_dir (own_kept base (base_own base base (same_itself base))) ∙ work_now.base_stands;
      bare = own_kept (work base) (in_work base (work base) (within_itself (work base))) ∙ work_now.bare;
    };
    stands = content_same base path _ tree staged_kept p.want ∙ All-contains (λ (x : Put). IsTrue (has_content base tree x.want)) puts p stand (i, lt, sym is);
    not_own = (All-contains (λ (x : Put). CanBeNamed base x.path) puts p named (i, lt, sym is)).not_own;
  }

  -- the step's target is that of the whole
  pub step_made : (p : Put) → with_target base p (with_targets (map (resolve base tree) (take i puts)) tree)
      ≡ put (with_targets (map (resolve base tree) (take i puts)) tree) p.path (node_of (resolved base tree p.want))
  step_made p = ap (λ (w : Want). put (with_targets (map (resolve base tree) (take i puts)) tree) p.path (node_of w)) (resolved_same base path _ tree staged_kept p.want)

-- both passes give the tree with all targets
pub both_passes : (base : Name) (puts : List Put) (tree : Tree) → is_path base ≡ true → All (λ p. CanBeNamed base p.path) puts
    → outcome base puts (all_cleared puts tree) ≡ outcome base puts tree
both_passes base puts tree path named =
    ap (λ (l : List Put). with_targets l (all_cleared puts tree)) (resolve_all_same base path (all_cleared puts tree) tree (λ q within. all_cleared_outside puts tree q (own_free base puts named q (in_staged base q within))) puts)
    ∙ with_targets_agree (map (resolve base tree) puts) (all_cleared puts tree) tree (λ q free. all_cleared_outside puts tree q (sym (target_resolved base tree puts q) ∙ free))

-- after the first pass the second can be made
pub can_make_pass : (base : Name) → is_path base ≡ true → (puts : List Put) (tree : Tree) → CanPutAll base puts tree → WellFormed tree → CanMakePass base puts (all_cleared puts tree)
can_make_pass base path puts tree can well = record {
  rises = can.replay.loggable.write_set.rises;
  named = named;
  can = can_make_all base (all_cleared puts tree) puts tree can.replay well;
  stand = all_staged_same base path tree (all_cleared puts tree) (λ q within. sym (own_kept' q (in_staged base q within))) puts can.replay.stand;
  workable = record {
    base_stands = ap is_dir (own_kept' base (base_own base base (same_itself base))) ∙ can.replay.base_stands;
    bare = own_kept' (work base) (in_work base (work base) (within_itself (work base))) ∙ can.bare;
  };
}
  where
    named : All (λ p. CanBeNamed base p.path) puts
    named = can.replay.loggable.named

    own_kept' : (q : Name) → is_own base q ≡ true → get (all_cleared puts tree) q ≡ get tree q
    own_kept' q own = all_cleared_outside puts tree q (own_free base puts named q own)
