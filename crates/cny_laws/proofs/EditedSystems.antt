-- What an edit makes of a root that stores a system, or that recovers to one.
use Rattle.std.proofs.Common.{◌≡◌, inl, inr, ⊎_elim, ℕ, true, false, List, [], Option, Contains, refl, sym, ◌∙◌, ap, subst, codes, arith}
use Rattle.std.proofs.lemmas.List.Elements.{All-nil}
use Rattle.std.specs.FinMap.{get}
use Rattle.system_core.specs.cny-base.Reserved.{private_directory, is_reserved, is_pinned}
use Rattle.system_core.specs.cny-base.declared.node.Node.{Node}
use Rattle.system_core.specs.trove-stream.declared.parts.TroveParts.{TroveParts}
use Rattle.system_core.specs.tree-disk.Tree.{Name, Tree, put, WellFormed, AgreesOutside}
use Rattle.system_core.specs.tree-disk.Disk.{DiskModel}
use Rattle.system_core.proofs.tree-disk.Laws.{same_itself, get_put_other}
use Rattle.system_core.proofs.tree-disk.ClearLaws.{within_itself}
use Rattle.system_core.specs.journal-log.declared.put.Put.{Put}
use Rattle.system_core.specs.journal-log.Own.{gate, log, is_own}
use Rattle.system_core.specs.tree-journal.CanBePut.{CanBePut}
use Rattle.system_core.specs.tree-journal.Recovery.{is_flag, is_committed, HoldsLog, RecoversTo, at_rest, by_log}
use Rattle.local_db.specs.declared.format.Format.{Format}
use Rattle.local_db.specs.declared.format.Format.TheVariants.{One, Two}
use Rattle.local_db.specs.Names.{database}
use Rattle.local_db.specs.SystemState.{SystemState, newest, oldest, IsSystemState}
use Rattle.local_db.specs.Stores.{HoldsDatabase, absent, written, StoresIn, StoresSystem, RecoversToSystem}
use Rattle.system_core.specs.FixedDirs.{fixed_dirs}
use Rattle.cny_laws.specs.Store.{RestsAt}
use Rattle.cny_laws.specs.Stores.{root_store}
use Rattle.local_db.proofs.Frame.{file_stays, olds_stay, stores_same}
use Rattle.local_db.proofs.Jobs.{stack_reserved}
use Rattle.local_db.proofs.Places.{database_reserved, own_reserved}
use Rattle.local_db.proofs.Writes.{not_both}
use Rattle.local_db.proofs.tree-journal.OwnNames.{gate_own, in_log}
use Rattle.cny_laws.specs.Edits.{Edit, edited_tree, edited, IsEdit, HasEdited}
use Rattle.cny_laws.proofs.EditedTrees.{differs_by, reserved_kept, agree_edited, put_formed}

-- ---- the fixed directories

pub fixed_kept : (t : Tree) (p : Name) (n : Option Node) → is_pinned p ≡ false → fixed_dirs (put t p n) ≡ fixed_dirs t
fixed_kept t p n out = rw (at (codes "/") refl, at (codes "/var") refl, at (codes "/var/lib") refl) refl
  where
    at : (q : Name) → is_pinned q ≡ true → get (put t p n) q ≡ get t q
    at q pinned = get_put_other t p n q (differs_by is_pinned q p pinned out)

-- ---- the system with the edited tree

pub database_stays : (f : Format) (x y : Tree) (list : List TroveParts) (low high : ℕ) → get y database ≡ get x database → HoldsDatabase f x list low high → HoldsDatabase f y list low high
database_stays f x y list low high same (absent none empty a b) = absent (same ∙ none) empty a b
database_stays f x y list low high same (written is file) = written is (file_stays x y _ _ same file)

edited_is_system : (s : SystemState) (e : Edit) → is_reserved e.path ≡ false → WellFormed (edited_tree s.tree e) → IsSystemState s → IsSystemState (edited s e)
edited_is_system s e out formed is = record {
  tree = formed;
  managed = λ q reserved. reserved_kept s.tree e.path e.node out q reserved ∙ is.managed q reserved;
  list = is.list;
  fits = is.fits;
  few = is.few;
  numbered = is.numbered;
  number = is.number;
  olds = is.olds;
}

-- a tree that stores a system stores with an edit the system with the edited tree, where that is one
stored_in : (f : Format) (x : Tree) (s : SystemState) (e : Edit) → is_reserved e.path ≡ false → WellFormed (edited_tree s.tree e) → StoresIn f x s → StoresIn f (edited_tree x e) (edited s e)
stored_in f x s e out formed h = record {
  system = edited_is_system s e out formed h.system;
  managed = agree_edited is_reserved x s.tree e.path e.node h.managed;
  list = database_stays f x (edited_tree x e) s.installed (oldest s.stack) (newest s.stack) (reserved_kept x e.path e.node out database database_reserved) h.list;
  olds = olds_stay f x (edited_tree x e) s.installed s.stack (λ q job. reserved_kept x e.path e.node out q (stack_reserved s.stack q job).0) h.olds;
}

stored : (x : Tree) (s : SystemState) (e : Edit) → is_reserved e.path ≡ false → WellFormed (edited_tree s.tree e) → StoresSystem x s → StoresSystem (edited_tree x e) (edited s e)
stored x s e out formed h = ⊎_elim (λ one. inl (stored_in One x s e out formed one)) (λ two. inr (stored_in Two x s e out formed two)) h

-- what is known of each system that a tree stores
pub the_system : (x : Tree) (s : SystemState) → StoresSystem x s → IsSystemState s
the_system x s h = ⊎_elim (λ one. one.system) (λ two. two.system) h

pub outside : (x : Tree) (s : SystemState) → StoresSystem x s → AgreesOutside is_reserved x s.tree
outside x s h = ⊎_elim (λ one. one.managed) (λ two. two.managed) h

-- the edited tree of the system is well formed where the edited tree that stores it is
formed_at_rest : (x : Tree) (s : SystemState) (e : Edit) → is_reserved e.path ≡ false → WellFormed (edited_tree x e) → StoresSystem x s → WellFormed (edited_tree s.tree e)
formed_at_rest x s e out formed h =
    let system = the_system x s h in
    put_formed s.tree (edited_tree x e) (edited_tree s.tree e) [] system.tree formed (All-nil (CanBePut [] (edited_tree x e))) (λ w in'. absurd (none w in'))
    (λ q reserved. reserved_kept s.tree e.path e.node out q reserved ∙ system.managed q reserved) (λ q target. absurd (cc target))
    (λ q o free. sym (agree_edited is_reserved x s.tree e.path e.node (outside x s h) q o)) (λ w in'. absurd (none w in'))
  where
    none : (w : Put) → Contains [] w → ⊥
    none w in' = absurd (omega (arith, in'.1))

pub edited_stored : (x : Tree) (s : SystemState) (e : Edit) → is_reserved e.path ≡ false → WellFormed (edited_tree x e) → StoresSystem x s → StoresSystem (edited_tree x e) (edited s e)
edited_stored x s e out formed h = stored x s e out (formed_at_rest x s e out formed h) h

-- ---- the journal's own files

module _ (x : Tree) (e : Edit) (out : is_reserved e.path ≡ false) where
  own_kept : (q : Name) → is_own private_directory q ≡ true → get (edited_tree x e) q ≡ get x q
  own_kept q own = reserved_kept x e.path e.node out q (own_reserved q own)

  pub flag_kept : is_committed private_directory (edited_tree x e) ≡ is_committed private_directory x
  flag_kept = ap is_flag (own_kept (gate private_directory) (gate_own private_directory (gate private_directory) (same_itself (gate private_directory))))

  log_at : get (edited_tree x e) (log private_directory) ≡ get x (log private_directory)
  log_at = own_kept (log private_directory) (in_log private_directory (log private_directory) (within_itself (log private_directory)))

  pub log_kept : (puts : List Put) → HoldsLog private_directory puts x → HoldsLog private_directory puts (edited_tree x e)
  log_kept puts h = record { mode = h.mode; bytes = h.bytes; file = log_at ∙ h.file; text = h.text }

  pub log_before : (puts : List Put) → HoldsLog private_directory puts (edited_tree x e) → HoldsLog private_directory puts x
  log_before puts h = record { mode = h.mode; bytes = h.bytes; file = sym log_at ∙ h.file; text = h.text }

-- ---- a root that recovers to a system

-- With the commit flag clear it recovers to what it stores.
pub recovers_at_rest : (x : Tree) (s : SystemState) (e : Edit) → is_reserved e.path ≡ false → WellFormed (edited_tree x e) → is_committed private_directory x ≡ false
    → RecoversToSystem x s → RecoversToSystem (edited_tree x e) (edited s e)
recovers_at_rest x s e out formed clear r =
    (edited_tree x e, at_rest (flag_kept x e out ∙ clear) (λ q o. refl), edited_stored x s e out formed (itself r.1 r.2))
  where
    itself : RecoversTo private_directory x r.0 → StoresSystem r.0 s → StoresSystem x s
    itself (at_rest also same) stored = stores_same r.0 x s (λ q o. sym (same q o)) stored
    itself (by_log set puts holds stand can same) stored = not_both (is_committed private_directory x) set clear

-- ---- a disk at rest

-- A root at rest rests with an edit at the system with the edited tree.
pub edited_rests : {D : Type 0} {disk : DiskModel D} (old new : D) (s : SystemState) (e : Edit) → IsEdit (disk.reads old) e → HasEdited disk e old new
    → RestsAt root_store disk old s → RestsAt root_store disk new (edited s e)
edited_rests {disk = disk} old new s e edit is rests = record {
  resting = record {
    flag_clear = ap (is_committed private_directory) is.reads ∙ flag_kept (disk.reads old) e edit.not_reserved ∙ rests.resting.flag_clear;
    flag_synced = is.synced (gate private_directory);
  };
  settled = λ q counts. is.synced q;
  stored = subst (λ (t : Tree). StoresSystem t (edited s e)) (sym is.reads) (edited_stored (disk.reads old) s e edit.not_reserved edit.leaves_tree rests.stored);
}
