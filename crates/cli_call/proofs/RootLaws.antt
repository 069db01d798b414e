-- The laws of the root's store; what follows of a root that recovers to a system, and of one that was opened.
use Rattle.std.proofs.Common.{◌≡◌, refl, sym, ◌∙◌, inl, inr, ⊎_elim, codes}
use Rattle.cny_laws.specs.system-core.cny-base.Reserved.{is_reserved}
use Rattle.cny_laws.specs.system-core.tree-disk.Tree.{Tree, AgreesOutside, WellFormed}
use Rattle.cny_laws.specs.system-core.tree-disk.Disk.{DiskModel}
use Rattle.local_db.specs.declared.db.Db.{Db}
use Rattle.local_db.specs.declared.format.Format.TheVariants.{One, Two}
use Rattle.local_db.specs.Stores.{StoresSystem}
use Rattle.local_db.proofs.Frame.{stores_still}
use Rattle.local_db.proofs.Places.{own_doesnt_count}
use Rattle.cny_laws.specs.system-core.FixedDirs.{fixed_dirs}
use Rattle.cny_laws.proofs.system-core.FixedDirsLaws.{same_fixed}
use Rattle.cny_laws.specs.RootOpening.{IsRootOpen, RecoversOutside}
use Rattle.cny_laws.specs.State.{RootState, tree_of}
use Rattle.cny_laws.specs.Store.{IsStore, Recovers, RestsAt}
use Rattle.cli_call.proofs.StoreLaws.{settled_rests}
use Rattle.cny_laws.specs.Stores.{root_store}
use Rattle.local_db.proofs.FileNames.{base_is_path as directory_path}

pub root_laws : IsStore root_store
root_laws = record {
  counted = λ t u s stored same. ⊎_elim (λ one. inl (stores_still One t u s same one)) (λ two. inr (stores_still Two t u s same two)) stored;
  own = own_doesnt_count;
  whole = λ t path s damaged stored. damaged.1 s stored;
  at_opening = λ t path damaged. (inl damaged.0, damaged.1);
}

-- outside the private directory a tree is that of each system that it stores
pub stored_outside : (tree : Tree) (s : RootState) → StoresSystem tree s → AgreesOutside is_reserved tree (tree_of s)
stored_outside tree s stored = ⊎_elim (λ one. one.managed) (λ two. two.managed) stored

-- trees that are equal outside the private directory have the same fixed directories
outer_dirs : (t u : Tree) → AgreesOutside is_reserved t u → fixed_dirs t ≡ fixed_dirs u
outer_dirs t u same = rw (same (codes "/") refl, same (codes "/var") refl, same (codes "/var/lib") refl) refl

-- the fixed directories of a state to which a root recovers
pub state_dirs : (tree : Tree) (s : RootState) → WellFormed tree → Recovers root_store tree s → fixed_dirs (tree_of s) ≡ fixed_dirs tree
state_dirs tree s well rec = sym (outer_dirs rec.tree (tree_of s) (stored_outside rec.tree s rec.stored)) ∙ same_fixed tree rec.tree well directory_path rec.recovers

-- and of what an opening reached
pub reached_dirs : (image tree : Tree) → WellFormed image → RecoversOutside image tree → fixed_dirs tree ≡ fixed_dirs image
reached_dirs image tree well reached = outer_dirs tree reached.recovered reached.outer ∙ same_fixed image reached.recovered well directory_path reached.recovers

-- a root that was opened rests at each state to which it recovered
pub opened_root_rests : {D : Type 0} {disk : DiskModel D} (old new : D) (db : Db) (s : RootState) → IsRootOpen disk old new db → Recovers root_store (disk.reads old) s → RestsAt root_store disk new s
opened_root_rests old new db s is rec = settled_rests root_laws new s is.settled (is.stores s rec)
