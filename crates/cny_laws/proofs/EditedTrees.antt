-- A tree with an edit: what it keeps, and that it is well formed.
use Rattle.std.proofs.Common.{◌≡◌, ◌≢◌, ◌⊎◌, inl, inr, ⊎_elim, Bool, true, false, cond, List, Option, None, Contains, refl, sym, ◌∙◌, ap}
use Rattle.std.specs.Prelude.{is_some}
use Rattle.std.proofs.lemmas.Bool.{cases_Bool}
use Rattle.std.proofs.lemmas.List.Elements.{All-contains}
use Rattle.std.specs.FinMap.{get}
use Rattle.system_core.specs.cny-base.Below.{is_below}
use Rattle.system_core.specs.cny-base.Path.{is_path, parent, root}
use Rattle.system_core.specs.cny-base.Reserved.{is_reserved}
use Rattle.system_core.specs.cny-base.declared.node.Node.{Node}
use Rattle.system_core.specs.tree-disk.Tree.{Name, Tree, same_name, put, is_dir, may_stand, WellFormed, AgreesOutside}
use Rattle.system_core.specs.tree-disk.Laws.{same_means, get_put}
use Rattle.system_core.proofs.tree-disk.Laws.{get_put_other}
use Rattle.system_core.specs.journal-log.declared.put.Put.{Put}
use Rattle.system_core.specs.journal-log.Targets.{is_dir_want, is_target}
use Rattle.system_core.specs.tree-journal.CanBePut.{CanBePut, AllCanBePut}
use Rattle.local_db.proofs.cny-base.Below.{child_below}
use Rattle.local_db.proofs.cny-base.Parent.{parent_is_path}
use Rattle.local_db.proofs.Putting.{parent_outer}
use Rattle.local_db.proofs.Writes.{not_both}
use Rattle.local_db.proofs.tree-journal.WriteSets.{target_at}

-- ---- names

-- this name, or another one
pub same_or_other : (q p : Name) → (q ≡ p) ⊎ (same_name q p ≡ false)
same_or_other q p = ⊎_elim (λ is. inl (same_means q p is)) (λ other. inr other) (cases_Bool (same_name q p))

-- a name that passes a test isn't one that fails it
pub differs_by : (test : Name → Bool) (q p : Name) → test q ≡ true → test p ≡ false → same_name q p ≡ false
differs_by test q p passes fails = ⊎_elim (λ same. not_both (test p) (ap test (sym same) ∙ passes) fails) (λ other. other) (same_or_other q p)

-- ---- what an edit keeps

pub reserved_kept : (t : Tree) (p : Name) (n : Option Node) → is_reserved p ≡ false → (q : Name) → is_reserved q ≡ true → get (put t p n) q ≡ get t q
reserved_kept t p n out q reserved = get_put_other t p n q (differs_by is_reserved q p reserved out)

-- trees that agree outside some names do so with the edit
pub agree_edited : (names : Name → Bool) (t u : Tree) (p : Name) (n : Option Node) → AgreesOutside names t u → AgreesOutside names (put t p n) (put u p n)
agree_edited names t u p n agree q out = get_put t p n q ∙ ap (λ (o : Option Node). cond (same_name q p) n o) (agree q out) ∙ sym (get_put u p n q)

-- ---- a well-formed tree

-- A tree is well formed that has at the targets of writes what a well-formed one has, at reserved names nothing, and elsewhere what a
-- well-formed image has into which the writes can be put.
module _ (t image new : Tree) (puts : List Put) (well : WellFormed t) (formed : WellFormed image) (can : AllCanBePut puts image) (low : (w : Put) → Contains puts w → w.path ≢ root)
    (bare : (q : Name) → is_reserved q ≡ true → get new q ≡ None) (placed : (q : Name) → is_target puts q ≡ true → get new q ≡ get t q)
    (free : (q : Name) → is_reserved q ≡ false → is_target puts q ≡ false → get new q ≡ get image q)
    (stood : (w : Put) → Contains puts w → is_reserved w.path ≡ false → is_dir_want w.want ≡ true → is_dir (get t w.path) ≡ true) where
  each_can : (w : Put) → Contains puts w → CanBePut puts image w
  each_can w in' = All-contains (CanBePut puts image) puts w can in'

  not_reserved : (q : Name) → is_some (get new q) ≡ true → is_reserved q ≡ false
  not_reserved q some = ⊎_elim (λ reserved. not_both (is_some (get new q)) some (ap is_some (bare q reserved))) (λ o. o) (cases_Bool (is_reserved q))

  root_free : is_target puts root ≡ false
  root_free = ⊎_elim (λ target. let w = target_at puts root target in absurd (low w.0 w.1 (sym w.2))) (λ none. none) (cases_Bool (is_target puts root))

  top : is_dir (get new root) ≡ true
  top = ap is_dir (free root refl root_free) ∙ formed.root_stands

  path_of : (q : Name) → is_some (get new q) ≡ true → is_path q ≡ true
  path_of q some = ⊎_elim
      (λ target. well.paths q (sym (ap is_some (placed q target)) ∙ some))
      (λ none. formed.paths q (sym (ap is_some (free q (not_reserved q some) none)) ∙ some))
      (cases_Bool (is_target puts q))

  -- a target stands below a directory
  above_put : (q : Name) → is_some (get new q) ≡ true → is_reserved (parent q) ≡ false → is_target puts q ≡ true → is_dir (get new (parent q)) ≡ true
  above_put q some up target = ⊎_elim
      (λ also. ap is_dir (placed (parent q) also) ∙ well.parents q (sym (ap is_some (placed q target)) ∙ some))
      (λ none. ⊎_elim
      (λ at_root. ap (λ (d : Name). is_dir (get new d)) at_root ∙ top)
      (λ below. let w = target_at puts q target in ap is_dir (free (parent q) up none) ∙ (each_can w.0 w.1).above (parent q) (parent_is_path q (path_of q some)) (ap (is_below (parent q)) (sym w.2) ∙ below) none)
      (child_below q (path_of q some)))
      (cases_Bool (is_target puts (parent q)))

  -- and so does what isn't one
  above_free : (q : Name) → is_some (get new q) ≡ true → is_reserved (parent q) ≡ false → is_target puts q ≡ false → is_dir (get new (parent q)) ≡ true
  above_free q some up none = ⊎_elim
      (λ target. let w = target_at puts (parent q) target in by_way target w.0 w.1 w.2)
      (λ also. ap is_dir (free (parent q) up also) ∙ formed.parents q there)
      (cases_Bool (is_target puts (parent q)))
    where
      there : is_some (get image q) ≡ true
      there = sym (ap is_some (free q (not_reserved q some) none)) ∙ some

      low_path : (w : Put) → Contains puts w → parent q ≡ w.path → is_below (parent q) q ≡ true
      low_path w in' at = ⊎_elim (λ at_root. absurd (low w in' (sym at ∙ at_root))) (λ below. below) (child_below q (path_of q some))

      by_way : is_target puts (parent q) ≡ true → (w : Put) → Contains puts w → parent q ≡ w.path → is_dir (get new (parent q)) ≡ true
      by_way target w in' at = ⊎_elim
          (λ dir. ap is_dir (placed (parent q) target) ∙ ap (λ (d : Name). is_dir (get t d)) at ∙ stood w in' (ap is_reserved (sym at) ∙ up) dir)
          (λ other. not_both (is_some (get image q)) there (ap is_some ((each_can w in').below other q (ap (λ (d : Name). is_below d q) (sym at) ∙ low_path w in' at) none)))
          (cases_Bool (is_dir_want w.want))

  pub put_formed : WellFormed new
  put_formed = record {
    paths = path_of;
    root_stands = top;
    parents = λ q some. let up = parent_outer q (path_of q some) (not_reserved q some) in ⊎_elim (λ target. above_put q some up target) (λ none. above_free q some up none) (cases_Bool (is_target puts q));
    nodes = λ q. ⊎_elim
        (λ reserved. ap may_stand (bare q reserved))
        (λ o. ⊎_elim (λ target. ap may_stand (placed q target) ∙ well.nodes q) (λ none. ap may_stand (free q o none) ∙ formed.nodes q) (cases_Bool (is_target puts q)))
        (cases_Bool (is_reserved q));
  }
