-- What several edits before one recovery leave, also where one of them leaves no room for the log and a later one makes room.
use Rattle.std.proofs.Common.{◌≡◌, inl, inr, ⊎_elim, Bool, true, false, cond, List, [], ◌∷◌, map, Option, refl, sym, ◌∙◌, ap, subst}
use Rattle.std.proofs.lemmas.Bool.{cases_Bool}
use Rattle.std.proofs.lemmas.List.Elements.{All-contains}
use Rattle.std.specs.FinMap.{get}
use Rattle.system_core.specs.cny-base.Reserved.{private_directory, is_reserved}
use Rattle.system_core.specs.cny-base.declared.node.Node.{Node}
use Rattle.system_core.specs.tree-disk.Clear.{is_within}
use Rattle.system_core.specs.tree-disk.Laws.{get_put}
use Rattle.system_core.specs.tree-disk.Tree.{Name, Tree, same_name, is_dir, WellFormed, AgreesOutside}
use Rattle.system_core.proofs.tree-disk.Laws.{get_put_other}
use Rattle.system_core.specs.journal-log.declared.put.Put.{Put}
use Rattle.system_core.specs.journal-log.LogBytes.{IsLogText}
use Rattle.system_core.specs.journal-log.Own.{staged, StoresSame}
use Rattle.system_core.specs.journal-log.Targets.{is_target, with_targets}
use Rattle.system_core.specs.journal-log.WriteSet.{CanBeNamed}
use Rattle.system_core.specs.tree-journal.CanBePut.{AllCanBePut}
use Rattle.system_core.specs.tree-journal.Recovery.{is_committed, HoldsLog, RecoversTo, at_rest, by_log}
use Rattle.system_core.specs.tree-journal.Staging.{outcome, resolve, AllStaged}
use Rattle.local_db.specs.declared.format.Format.{Format}
use Rattle.local_db.specs.declared.format.Format.TheVariants.{One, Two}
use Rattle.local_db.specs.Names.{database}
use Rattle.local_db.specs.SystemState.{SystemState, newest, oldest}
use Rattle.local_db.specs.Stores.{StoresIn, StoresSystem, RecoversToSystem}
use Rattle.local_db.proofs.FileNames.{base_is_path}
use Rattle.local_db.proofs.Frame.{olds_stay}
use Rattle.local_db.proofs.Jobs.{stack_reserved}
use Rattle.local_db.proofs.Places.{database_reserved, own_reserved}
use Rattle.local_db.proofs.Writes.{not_both}
use Rattle.local_db.proofs.journal-log.Decoding.{one_log}
use Rattle.local_db.proofs.tree-journal.OwnNames.{in_staged}
use Rattle.local_db.proofs.tree-journal.Staged.{dir_resolved, outcome_outside, outcome_target, resolve_all_same, target_resolved, all_staged_same}
use Rattle.local_db.proofs.tree-journal.WriteSets.{with_targets_inside}
use Rattle.system_core.proofs.Sameness.{not_own}
use Rattle.cny_laws.specs.Edits.{Edit, edited_tree, edited, with_tree, all_edited, edits_beside, AreEdits}
use Rattle.cny_laws.proofs.EditedTrees.{same_or_other, differs_by, reserved_kept, agree_edited, put_formed}
use Rattle.cny_laws.proofs.EditedSystems.{database_stays, flag_kept, log_kept, outside, recovers_at_rest, the_system}

-- ---- edits outside the private directory

abbrev AreOuter : List Edit → Type 0
AreOuter [] = Unit {0}
AreOuter (e ∷ edits) = (is_reserved e.path ≡ false) × AreOuter edits

outer_all : (edits : List Edit) (t : Tree) → AreEdits t edits → AreOuter edits
outer_all [] t are = tt
outer_all (e ∷ edits) t are = (are.0.not_reserved, outer_all edits (edited_tree t e) are.1)

formed_all : (edits : List Edit) (t : Tree) → AreEdits t edits → WellFormed (all_edited t edits)
formed_all [] t are = are
formed_all (e ∷ edits) t are = formed_all edits (edited_tree t e) are.1

reserved_all : (edits : List Edit) → AreOuter edits → (t : Tree) (q : Name) → is_reserved q ≡ true → get (all_edited t edits) q ≡ get t q
reserved_all [] out t q reserved = refl
reserved_all (e ∷ edits) out t q reserved = reserved_all edits out.1 (edited_tree t e) q reserved ∙ reserved_kept t e.path e.node out.0 q reserved

agree_all : (names : Name → Bool) (edits : List Edit) (t u : Tree) → AgreesOutside names t u → AgreesOutside names (all_edited t edits) (all_edited u edits)
agree_all names [] t u agree = agree
agree_all names (e ∷ edits) t u agree = agree_all names edits (edited_tree t e) (edited_tree u e) (agree_edited names t u e.path e.node agree)

flag_all : (edits : List Edit) → AreOuter edits → (x : Tree) → is_committed private_directory (all_edited x edits) ≡ is_committed private_directory x
flag_all [] out x = refl
flag_all (e ∷ edits) out x = flag_all edits out.1 (edited_tree x e) ∙ flag_kept x e out.0

log_all : (puts : List Put) (edits : List Edit) → AreOuter edits → (x : Tree) → HoldsLog private_directory puts x → HoldsLog private_directory puts (all_edited x edits)
log_all puts [] out x holds = holds
log_all puts (e ∷ edits) out x holds = log_all puts edits out.1 (edited_tree x e) (log_kept x e out.0 puts holds)

-- a tree that stores a system stores with edits the system with the edited tree, where that is one
stored_all : (f : Format) (tree : Tree) (s : SystemState) (edits : List Edit) → AreOuter edits → WellFormed (all_edited s.tree edits) → StoresIn f tree s
    → StoresIn f (all_edited tree edits) (with_tree s (all_edited s.tree edits))
stored_all f tree s edits out formed h = record {
  system = record {
    tree = formed;
    managed = λ q reserved. reserved_all edits out s.tree q reserved ∙ h.system.managed q reserved;
    list = h.system.list;
    fits = h.system.fits;
    few = h.system.few;
    numbered = h.system.numbered;
    number = h.system.number;
    olds = h.system.olds;
  };
  managed = agree_all is_reserved edits tree s.tree h.managed;
  list = database_stays f tree (all_edited tree edits) s.installed (oldest s.stack) (newest s.stack) (reserved_all edits out tree database database_reserved) h.list;
  olds = olds_stay f tree (all_edited tree edits) s.installed s.stack (λ q job. reserved_all edits out tree q (stack_reserved s.stack q job).0) h.olds;
}

-- ---- where the commit flag isn't set

pub all_kept : (edits : List Edit) (x : Tree) (s : SystemState) → AreEdits x edits → is_committed private_directory x ≡ false → RecoversToSystem x s
    → RecoversToSystem (all_edited x edits) (with_tree s (all_edited s.tree edits))
all_kept [] x s are clear r = r
all_kept (e ∷ edits) x s are clear r =
    all_kept edits (edited_tree x e) (edited s e) are.1 (flag_kept x e are.0.not_reserved ∙ clear) (recovers_at_rest x s e are.0.not_reserved are.0.leaves_tree clear r)

-- ---- edits beside the writes

module _ (puts : List Put) where
  -- the edits with this one or without it
  abbrev beside_by : Edit → List Edit → Bool → List Edit
  beside_by e edits target = cond target (edits_beside puts edits) (e ∷ edits_beside puts edits)

  outer_beside : (edits : List Edit) → AreOuter edits → AreOuter (edits_beside puts edits)
  outer_beside [] out = tt
  outer_beside (e ∷ edits) out = ⊎_elim
      (λ is. subst (λ (b : Bool). AreOuter (beside_by e edits b)) (sym is) (outer_beside edits out.1))
      (λ isnt. subst (λ (b : Bool). AreOuter (beside_by e edits b)) (sym isnt) (out.0, outer_beside edits out.1))
      (cases_Bool (is_target puts e.path))

  -- at targets they change nothing
  placed_beside : (edits : List Edit) (t : Tree) (q : Name) → is_target puts q ≡ true → get (all_edited t (edits_beside puts edits)) q ≡ get t q
  placed_beside [] t q target = refl
  placed_beside (e ∷ edits) t q target = ⊎_elim
      (λ is. ap (λ (b : Bool). get (all_edited t (beside_by e edits b)) q) is ∙ placed_beside edits t q target)
      (λ isnt. ap (λ (b : Bool). get (all_edited t (beside_by e edits b)) q) isnt ∙ placed_beside edits (edited_tree t e) q target
      ∙ get_put_other t e.path e.node q (differs_by (is_target puts) q e.path target isnt))
      (cases_Bool (is_target puts e.path))

  other_name : (e : Edit) (q : Name) → is_target puts e.path ≡ true → is_target puts q ≡ false → same_name q e.path ≡ false
  other_name e q target free = ⊎_elim (λ same. not_both (is_target puts e.path) target (ap (is_target puts) (sym same) ∙ free)) (λ other. other) (same_or_other q e.path)

  -- and elsewhere what all edits do
  free_beside : (edits : List Edit) (t u : Tree) (q : Name) → is_target puts q ≡ false → get t q ≡ get u q → get (all_edited t edits) q ≡ get (all_edited u (edits_beside puts edits)) q
  free_beside [] t u q free same = same
  free_beside (e ∷ edits) t u q free same = ⊎_elim
      (λ is. free_beside edits (edited_tree t e) u q free (get_put_other t e.path e.node q (other_name e q is free) ∙ same)
      ∙ ap (λ (b : Bool). get (all_edited u (beside_by e edits b)) q) (sym is))
      (λ isnt. free_beside edits (edited_tree t e) (edited_tree u e) q free
      (get_put t e.path e.node q ∙ ap (λ (o : Option Node). cond (same_name q e.path) e.node o) same ∙ sym (get_put u e.path e.node q))
      ∙ ap (λ (b : Bool). get (all_edited u (beside_by e edits b)) q) (sym isnt))
      (cases_Bool (is_target puts e.path))

-- ---- where it is set

-- at the targets of writes what stands is that which is put, whatever stood there
outcome_inside : (base : Name) (start : Tree) (puts : List Put) (a b : Tree) (q : Name) → is_target puts q ≡ true
    → get (with_targets (map (resolve base start) puts) a) q ≡ get (with_targets (map (resolve base start) puts) b) q
outcome_inside base start puts a b q target = with_targets_inside (map (resolve base start) puts) a b q (target_resolved base start puts q ∙ target)

module _ (x : Tree) (s : SystemState) (edits : List Edit) (puts : List Put) (are : AreEdits x edits) (set : is_committed private_directory x ≡ true) (holds : HoldsLog private_directory puts x)
    (can : AllCanBePut puts (all_edited x edits)) (tree : Tree) (same : StoresSame private_directory (outcome private_directory puts x) tree) where
  out : AreOuter edits
  out = outer_all edits x are

  kept : AreOuter (edits_beside puts edits)
  kept = outer_beside puts edits out

  staged_all : (q : Name) → is_within (staged private_directory) q ≡ true → get (all_edited x edits) q ≡ get x q
  staged_all q within = reserved_all edits out x q (own_reserved q (in_staged private_directory q within))

  -- the tree of the system is what the recovery puts, outside the private directory
  put_outside : StoresSystem tree s → (q : Name) → is_reserved q ≡ false → get s.tree q ≡ get (outcome private_directory puts x) q
  put_outside h q o = sym (outside tree s h q o) ∙ sym (same q (not_own q o))

  formed_beside : StoresSystem tree s → WellFormed (all_edited s.tree (edits_beside puts edits))
  formed_beside h =
      let system = the_system tree s h in
      let loggable = holds.text.loggable in
      put_formed s.tree (all_edited x edits) (all_edited s.tree (edits_beside puts edits)) puts system.tree (formed_all edits x are) can
      (λ w in'. (All-contains (λ (p : Put). CanBeNamed private_directory p.path) puts w loggable.named in').not_root)
      (λ q reserved. reserved_all (edits_beside puts edits) kept s.tree q reserved ∙ system.managed q reserved)
      (λ q target. placed_beside puts edits s.tree q target)
      (λ q o free. sym (free_beside puts edits x s.tree q free (sym (put_outside h q o ∙ outcome_outside private_directory x puts x q free))))
      (λ w in' o dir. ap is_dir (put_outside h w.path o ∙ outcome_target private_directory x puts x w loggable.write_set.rises in') ∙ dir_resolved private_directory x w.want ∙ dir)

  -- the recovery puts what it would have put, and keeps the edits beside
  same_all : StoresSame private_directory (outcome private_directory puts (all_edited x edits)) (all_edited tree (edits_beside puts edits))
  same_all q own = ⊎_elim
      (λ target. from_log ∙ outcome_inside private_directory x puts (all_edited x edits) x q target ∙ same q own ∙ sym (placed_beside puts edits tree q target))
      (λ free. from_log ∙ outcome_outside private_directory x puts (all_edited x edits) q free ∙ free_beside puts edits x tree q free (sym (outcome_outside private_directory x puts x q free) ∙ same q own))
      (cases_Bool (is_target puts q))
    where
      from_log : get (outcome private_directory puts (all_edited x edits)) q ≡ get (with_targets (map (resolve private_directory x) puts) (all_edited x edits)) q
      from_log = ap (λ (l : List Put). get (with_targets l (all_edited x edits)) q) (resolve_all_same private_directory base_is_path (all_edited x edits) x staged_all puts)

  recovers_beside : AllStaged private_directory x puts → StoresSystem tree s → RecoversToSystem (all_edited x edits) (with_tree s (all_edited s.tree (edits_beside puts edits)))
  recovers_beside stand h = (
    all_edited tree (edits_beside puts edits),
    by_log (flag_all edits out x ∙ set) puts (log_all puts edits out x holds) (all_staged_same private_directory base_is_path x (all_edited x edits) (λ q within. sym (staged_all q within)) puts stand) can same_all,
    ⊎_elim
        (λ one. inl (stored_all One tree s (edits_beside puts edits) kept (formed_beside h) one))
        (λ two. inr (stored_all Two tree s (edits_beside puts edits) kept (formed_beside h) two))
        h,
  )

-- a log has one reading
one_reading : (x : Tree) (puts others : List Put) → HoldsLog private_directory puts x → HoldsLog private_directory others x → puts ≡ others
one_reading x puts others h g =
    let bytes : h.bytes ≡ g.bytes = cc (sym h.file ∙ g.file) in
    one_log private_directory puts others g.bytes (subst (IsLogText private_directory puts) bytes h.text) g.text

pub kept_beside : (x : Tree) (s : SystemState) (edits : List Edit) (puts : List Put) → AreEdits x edits → is_committed private_directory x ≡ true → HoldsLog private_directory puts x
    → AllCanBePut puts (all_edited x edits) → RecoversToSystem x s → RecoversToSystem (all_edited x edits) (with_tree s (all_edited s.tree (edits_beside puts edits)))
kept_beside x s edits puts are set holds can r = by r.1 r.2
  where
    by : RecoversTo private_directory x r.0 → StoresSystem r.0 s → RecoversToSystem (all_edited x edits) (with_tree s (all_edited s.tree (edits_beside puts edits)))
    by (at_rest clear same) h = not_both (is_committed private_directory x) set clear
    by (by_log also others held stand before same) h =
        let one : others ≡ puts = one_reading x others puts held holds in
        recovers_beside x s edits puts are set holds can r.0
        (subst (λ (l : List Put). StoresSame private_directory (outcome private_directory l x) r.0) one same)
        (subst (λ (l : List Put). AllStaged private_directory x l) one stand) h
