-- The journal may apply the writes of a job and of a rollback.
use Rattle.std.proofs.Common.{◌≡◌, ◌≢◌, ◌⊎◌, inl, inr, ⊎_elim, true, false, IsTrue, List, get_or, Option, Some, None, is_some, All, Contains, refl, sym, ◌∙◌, ap}
use Rattle.std.specs.Str.{bytes_eq}
use Rattle.std.proofs.lemmas.Bool.{cases_Bool}
use Rattle.std.proofs.lemmas.List.Elements.{All-contains, Contains-get_or}
use Rattle.std.specs.FinMap.{get}
use Rattle.trove_stream.specs.cny-base.Path.{is_path, root, parent}
use Rattle.trove_stream.specs.cny-base.Below.{is_below}
use Rattle.trove_stream.proofs.cny-base.Below.{child_below, below_parent}
use Rattle.trove_stream.specs.cny-base.Reserved.{private_directory, is_reserved, is_pinned}
use Rattle.trove_stream.specs.cny-base.declared.node.Node.{Node}
use Rattle.std.proofs.lemmas.Slice.Eq.{bytes_eq-Decides}
use Rattle.tree_journal.specs.tree-disk.Tree.{Name, Tree, is_dir, may_stand, WellFormed}
use Rattle.tree_journal.proofs.tree-disk.Children.{none_below, not_below_itself as none_itself}
use Rattle.tree_journal.proofs.tree-disk.ClearLaws.{or_cases, below_trans}
use Rattle.tree_journal.specs.journal-log.declared.put.Want.{Want}
use Rattle.tree_journal.specs.journal-log.declared.put.Want.TheVariants as want
use Rattle.tree_journal.specs.journal-log.declared.put.Put.{Put}
use Rattle.tree_journal.specs.journal-log.Own.{is_own}
use Rattle.tree_journal.specs.journal-log.WriteSet.{Rises, CanBeNamed}
use Rattle.tree_journal.specs.journal-log.Targets.{is_dir_want, node_of, is_target, with_targets}
use Rattle.tree_journal.specs.CanBePut.{HasWay, IsClearBelow, AllCanBePut}
use Rattle.local_db.proofs.Writes.{not_both, with_targets_target}
use Rattle.local_db.specs.SystemState.{IsFree}
use Rattle.local_db.specs.Steps.{IsOwnWrite, IsPuttable}
use Rattle.local_db.proofs.Places.{own_reserved, below_reserved as below_is_reserved}
use Rattle.local_db.proofs.Unions.{wrote_more, wrote_no_other}
use Rattle.local_db.proofs.Systems.{free_targets}
use Rattle.tree_journal.proofs.WriteSets.{target_at, with_targets_outside}

-- ---- what a well-formed result shows

-- what stands has directories above it
dir_above : (t : Tree) (q p : Name) → WellFormed t → is_path q ≡ true → is_below q p ≡ true → (get t p ≡ None → ⊥) → is_dir (get t q) ≡ true
dir_above t q p well path low stands = ⊎_elim (λ dir. dir) (λ no_dir. absurd (stands (none_below t q p well path no_dir low))) (cases_Bool (is_dir (get t q)))

no_dir_wanted : (w : Want) → is_dir_want w ≡ false → is_dir (node_of w) ≡ false
no_dir_wanted want.Nothing h = refl
no_dir_wanted (want.Dir mode) h = absurd (cc h)
no_dir_wanted (want.File mode bytes) h = refl
no_dir_wanted (want.Link target) h = refl
no_dir_wanted (want.Staged mode number size name) h = refl

module _ (all : List Put) (t : Tree) (rises : Rises all) (well : WellFormed t) (formed : WellFormed (with_targets all t)) where
  -- a put whose target stands in the result, or which stands now
  way : (p : Put) → Contains all p → (p.want ≡ want.Nothing → get t p.path ≡ None → ⊥) → (w : Want) → p.want ≡ w → HasWay all t p.path
  way p in' stands want.Nothing is q path low out = dir_above t q p.path well path low (stands is)
  way p in' stands (want.Dir mode) is q path low out = ap is_dir (sym (with_targets_outside all t q out))
      ∙ dir_above (with_targets all t) q p.path formed path low (λ none. absurd (cc (none, with_targets_target all t p rises in', ap node_of is)))
  way p in' stands (want.File mode bytes) is q path low out = ap is_dir (sym (with_targets_outside all t q out))
      ∙ dir_above (with_targets all t) q p.path formed path low (λ none. absurd (cc (none, with_targets_target all t p rises in', ap node_of is)))
  way p in' stands (want.Staged mode number size name) is q path low out = ap is_dir (sym (with_targets_outside all t q out))
      ∙ dir_above (with_targets all t) q p.path formed path low (λ none. absurd (cc (none, with_targets_target all t p rises in', ap node_of is)))
  way p in' stands (want.Link target) is q path low out = ap is_dir (sym (with_targets_outside all t q out))
      ∙ dir_above (with_targets all t) q p.path formed path low (λ none. absurd (cc (none, with_targets_target all t p rises in', ap node_of is)))

  clear_below : (p : Put) → Contains all p → is_path p.path ≡ true → is_dir_want p.want ≡ false → IsClearBelow all t p.path
  clear_below p in' path no_dir q low out = sym (with_targets_outside all t q out)
      ∙ none_below (with_targets all t) p.path q formed path (ap is_dir (with_targets_target all t p rises in') ∙ no_dir_wanted p.want no_dir) low

  can_put : All (λ (p : Put). IsTrue (is_path p.path)) all → All (λ (p : Put). p.want ≡ want.Nothing → get t p.path ≢ None) all → AllCanBePut all t
  can_put paths stands k d lt = record {
    above = way (get_or all k d) (Contains-get_or all k d lt) (λ nothing none. stands k d lt nothing none) (get_or all k d).want refl;
    below = clear_below (get_or all k d) (Contains-get_or all k d lt) (paths k d lt);
  }

-- ---- the result is well formed

pub reserved_at_or_below : (q : Name) → is_reserved q ≡ true → (q ≡ private_directory) ⊎ (is_below private_directory q ≡ true)
reserved_at_or_below q h = ⊎_elim (λ same. inl ((bytes_eq-Decides q private_directory).0 same)) inr (or_cases (bytes_eq q private_directory) (is_below private_directory q) h)

not_below_itself : (q : Name) → is_below q q ≡ true → ⊥
not_below_itself q low = not_both (is_below q q) low (none_itself q)

-- what lies in a reserved directory is reserved
pub parent_outer : (q : Name) → is_path q ≡ true → is_reserved q ≡ false → is_reserved (parent q) ≡ false
parent_outer q path out = ⊎_elim (λ h. absurd (never h)) (λ h. h) (cases_Bool (is_reserved (parent q)))
  where
    in_parent : is_reserved (parent q) ≡ true → is_below (parent q) q ≡ true → ⊥
    in_parent h low = ⊎_elim
        (λ at. not_both (is_reserved q) (below_is_reserved q (ap (λ (n : Name). is_below n q) (sym at) ∙ low)) out)
        (λ under. not_both (is_reserved q) (below_is_reserved q (below_trans private_directory (parent q) q under low)) out)
        (reserved_at_or_below (parent q) h)

    never : is_reserved (parent q) ≡ true → ⊥
    never h = ⊎_elim
        (λ at_root. not_both (is_reserved (parent q)) h (ap is_reserved at_root))
        (λ low. in_parent h low)
        (child_below q path)

module _ (some more all : List Put) (x t : Tree) (h : IsPuttable some more all x t) where
  y : Tree
  y = with_targets all x

  -- a reserved name that isn't one of the writes is as it was
  inner : (q : Name) → is_reserved q ≡ true → is_target more q ≡ false → get y q ≡ get x q
  unfolding y
  inner q in' out = wrote_no_other all some more h.writes x q (free_targets some h.free q in') out

  written : (q : Name) → is_target more q ≡ true → (parent q ≡ private_directory) × (is_dir (get x q) ≡ false)
  written q is =
      let a = target_at more q is in
      let w = All-contains (IsOwnWrite x) more a.0 h.own a.1 in
      (ap parent a.2 ∙ w.parent_is, ap (λ (n : Name). is_dir (get x n)) a.2 ∙ w.no_dir)

  base_stays : get y private_directory ≡ get x private_directory
  base_stays = inner private_directory refl (⊎_elim
      (λ is. not_both (is_dir (get x private_directory)) h.base (written private_directory is).1)
      (λ out. out)
      (cases_Bool (is_target more private_directory)))

  -- `/var/lib` isn't written
  above_base : is_dir (get y (parent private_directory)) ≡ true
  unfolding y
  above_base = ap is_dir (wrote_no_other all some more h.writes x (parent private_directory) free_of own_of) ∙ h.well_formed.parents private_directory (stands_dir (get x private_directory) h.base)
    where
      free_of : is_target some (parent private_directory) ≡ false
      free_of = ⊎_elim
          (λ is. let a = target_at some (parent private_directory) is in
          not_both (is_pinned (parent private_directory)) refl (ap is_pinned a.2 ∙ (All-contains (λ (p : Put). IsFree p.path) some a.0 h.free a.1).not_pinned))
          (λ out. out) (cases_Bool (is_target some (parent private_directory)))

      own_of : is_target more (parent private_directory) ≡ false
      own_of = ⊎_elim
          (λ is. let a = target_at more (parent private_directory) is in
          not_both (is_reserved (parent private_directory)) (ap is_reserved a.2 ∙ (All-contains (IsOwnWrite x) more a.0 h.own a.1).reserved) refl)
          (λ out. out) (cases_Bool (is_target more (parent private_directory)))

      stands_dir : (n : Option Node) → is_dir n ≡ true → is_some n ≡ true
      stands_dir None dir = absurd (cc dir)
      stands_dir (Some n) dir = refl

  -- a name below the base
  deep : (q : Name) → is_below private_directory q ≡ true → is_some (get y q) ≡ true → is_dir (get y (parent q)) ≡ true
  deep q low stands = ⊎_elim
      (λ at. ap (λ (n : Name). is_dir (get y n)) (sym at) ∙ ap is_dir base_stays ∙ h.base)
      (λ under. lower under)
      (below_parent private_directory q (λ e. absurd (cc e)) low)
    where
      not_written : is_below private_directory (parent q) ≡ true → is_target more q ≡ false
      not_written under = ⊎_elim
          (λ is. absurd (not_below_itself private_directory (ap (is_below private_directory) (sym (written q is).0) ∙ under)))
          (λ out. out) (cases_Bool (is_target more q))

      in_x : is_below private_directory (parent q) ≡ true → is_dir (get x (parent q)) ≡ true
      in_x under = h.well_formed.parents q (ap is_some (sym (inner q (below_is_reserved q low) (not_written under))) ∙ stands)

      lower : is_below private_directory (parent q) ≡ true → is_dir (get y (parent q)) ≡ true
      lower under = ⊎_elim
          (λ is. not_both (is_dir (get x (parent q))) (in_x under) (written (parent q) is).1)
          (λ out. ap is_dir (inner (parent q) (below_is_reserved (parent q) under) out) ∙ in_x under)
          (cases_Bool (is_target more (parent q)))

  path_of : (q : Name) → is_some (get y q) ≡ true → is_path q ≡ true
  unfolding y
  path_of q stands = ⊎_elim
      (λ is. let a = target_at all q is in ap is_path a.2 ∙ All-contains (λ (p : Put). IsTrue (is_path p.path)) all a.0 h.paths a.1)
      (λ out. h.well_formed.paths q (ap is_some (sym (with_targets_outside all x q out)) ∙ stands))
      (cases_Bool (is_target all q))

  -- each node is one that a disk can hold
  node_at : (q : Name) → IsTrue (may_stand (get y q))
  unfolding y
  node_at q = ⊎_elim
      (λ reserved. ⊎_elim
      (λ is. let a = target_at more q is in
      ap (λ (n : Name). may_stand (get y n)) a.2 ∙ ap may_stand (wrote_more all some more h.writes x a.0 a.1) ∙ (All-contains (IsOwnWrite x) more a.0 h.own a.1).node)
      (λ out. ap may_stand (inner q reserved out) ∙ h.well_formed.nodes q)
      (cases_Bool (is_target more q)))
      (λ out. ap may_stand (h.managed q out) ∙ h.managed_formed.nodes q)
      (cases_Bool (is_reserved q))

  pub all_formed : WellFormed (with_targets all x)
  unfolding y
  all_formed = record {
    paths = path_of;
    root_stands = ap is_dir (h.managed root refl) ∙ h.managed_formed.root_stands;
    parents = λ q stands. ⊎_elim
        (λ reserved. ⊎_elim
        (λ at. ap (λ (n : Name). is_dir (get y (parent n))) at ∙ above_base)
        (λ low. deep q low stands)
        (reserved_at_or_below q reserved))
        (λ out. ap is_dir (h.managed (parent q) (parent_outer q (path_of q stands) out)) ∙ h.managed_formed.parents q (ap is_some (sym (h.managed q out)) ∙ stands))
        (cases_Bool (is_reserved q));
    nodes = node_at;
  }

  pub all_can : AllCanBePut all x
  all_can = can_put all x h.writes.rises h.well_formed all_formed h.paths h.stands

  not_root : (q : Name) → is_pinned q ≡ false → q ≢ root
  not_root q free is = not_both (is_pinned q) (ap is_pinned is) free

  named : (p : Put) → Contains some p ⊎ Contains more p → CanBeNamed private_directory p.path
  named p (inl in') = let free = All-contains (λ (p : Put). IsFree p.path) some p h.free in' in record {
    not_root = not_root p.path free.not_pinned;
    not_own = ⊎_elim (λ own. not_both (is_reserved p.path) (own_reserved p.path own) free.not_reserved) (λ out. out) (cases_Bool (is_own private_directory p.path));
  }
  named p (inr in') = let own = All-contains (IsOwnWrite x) more p h.own in' in record {
    not_root = λ is. not_both (is_reserved p.path) own.reserved (ap is_reserved is);
    not_own = own.not_own;
  }

  pub all_named : All (λ (p : Put). CanBeNamed private_directory p.path) all
  all_named k d lt = named (get_or all k d) (h.writes.no_other k d lt)
