-- How a call ends on a root whose log can't be put.
use Rattle.std.proofs.Common.{◌≡◌, ◌≤◌, List, ℕ, true, Ok, Err, sym, ap, ◌∙◌, subst, ⊎_elim, arith}
use Rattle.std.specs.Prelude.{IsTrue}
use Rattle.cny_laws.specs.system-core.cny-base.Reserved.{private_directory}
use Rattle.cny_laws.specs.system-core.cny-base.declared.stop.Stop.{Stop}
use Rattle.cny_laws.specs.system-core.cny-base.declared.stop.Stop.TheVariants as stop
use Rattle.local_db.specs.declared.db.Db.{Db}
use Rattle.cny_laws.specs.system-core.tree-disk.Tree.{Tree}
use Rattle.cny_laws.specs.system-core.tree-disk.Disk.{DiskModel}
use Rattle.cny_laws.specs.system-core.journal-log.declared.put.Put.{Put}
use Rattle.cny_laws.specs.system-core.journal-log.LogBytes.{IsLogText}
use Rattle.local_db.proofs.journal-log.Decoding.{one_log}
use Rattle.cny_laws.specs.system-core.tree-journal.CanBePut.{AllCanBePut}
use Rattle.cny_laws.specs.system-core.tree-journal.Recovered.{RecoversToNone}
use Rattle.cny_laws.specs.system-core.tree-journal.Recovery.{at_rest, by_log, is_committed, HoldsLog}
use Rattle.cny_laws.specs.Call.{CallState, NotOpened, OpensRoot, StopsForRoot}
use Rattle.cny_laws.specs.Report.{End, status_of}
use Rattle.cny_laws.specs.Stops.{root_failure}
use Rattle.cny_laws.specs.State.{Meaning, RootState, Scope}
use Rattle.cny_laws.specs.Store.{Recovers}
use Rattle.cny_laws.specs.Stores.{root_store}
use Rattle.cny_laws.specs.Edits.{all_edited, edits_beside, with_tree}
use Rattle.cny_laws.proofs.SeveralEdits.{all_kept, kept_beside}
use Rattle.local_db.specs.Stores.{RecoversToSystem}
use Rattle.cny_laws.specs.WholeCall.{CallFacts, CallFrom, FromStates, MeetsLog, CallReaches, RefusesRoot, after_edits}

-- a tree has one log at most
same_log : (x : Tree) (puts others : List Put) → HoldsLog private_directory puts x → HoldsLog private_directory others x → others ≡ puts
same_log x puts others h g =
    let bytes : g.bytes ≡ h.bytes = cc (sym g.file ∙ h.file) in
    one_log private_directory others puts h.bytes (subst (IsLogText private_directory others) bytes g.text) h.text

none_recovered : (x : Tree) (puts : List Put) → is_committed private_directory x ≡ true → HoldsLog private_directory puts x → (AllCanBePut puts x → ⊥) → RecoversToNone private_directory x
none_recovered x puts set holds cannot recovered (at_rest clear stores) = absurd (cc (set, clear))
none_recovered x puts set holds cannot recovered (by_log set' others holds' stand can stores) = cannot (subst (λ (l : List Put). AllCanBePut l x) (same_log x puts others holds holds') can)

module _ {T P : Type 0} (root_disk : DiskModel T) (repo_disk : DiskModel P) (before now : CallState T P) (told : IsTrue root_disk.tells) where
  -- a root that was opened recovered to a tree
  never_opened : (root : T) (db : Db) → RecoversToNone private_directory (root_disk.reads before.root) → OpensRoot root_disk repo_disk before.root root (Ok db) → ⊥
  never_opened root db none opens = let reached = (opens.opened told).reached in none reached.recovered reached.recovers

  not_opened : (end : End) → RecoversToNone private_directory (root_disk.reads before.root) → NotOpened root_disk repo_disk before now end → StopsForRoot root_disk repo_disk before now end
  not_opened end none stopped = ⊎_elim
      (λ at. record { failure = stopped.failure; is = stopped.is; stops = at; unread = stopped.unread; silent = stopped.silent })
      (λ at. absurd (never_opened now.root at.db none at.opens_root))
      stopped.stops

  refuses : (end : End) (e : Stop) → end ≡ Err (root_failure e) → OpensRoot root_disk repo_disk before.root now.root (Err e) → status_of (Err (root_failure e)) ≤ 4 → RefusesRoot root_disk repo_disk before end
  refuses end (stop.Refused r) is opens small = record { refusal = r; is = is; why = (opens.stops.told told).cause }
  refuses end stop.Failed is opens small = absurd (omega (arith, small))
  refuses end stop.Memory is opens small = absurd (omega (arith, small))
  refuses end (stop.Damaged path) is opens small = absurd (omega (arith, small))
  refuses end stop.FarFailed is opens small = absurd opens.stops
  refuses end (stop.FarDamaged path) is opens small = absurd opens.stops

-- a system to which a root recovers
pub as_pair : (x : Tree) (s : RootState) → Recovers root_store x s → RecoversToSystem x s
as_pair x s rec = (rec.tree, rec.recovers, rec.stored)

pub as_record : (x y : Tree) (s : RootState) → y ≡ x → RecoversToSystem x s → Recovers root_store y s
as_record x y s is r = subst (λ (t : Tree). Recovers root_store t s) (sym is) (record { tree = r.0; recovers = r.1; stored = r.2 })

pub meets_log : {T P : Type 0} (root_disk : DiskModel T) (repo_disk : DiskModel P) (scope : Scope) (m : Meaning) (input : List ℕ) (before now : CallState T P) (end : End)
    → CallReaches root_disk repo_disk scope m input before now end → CallFacts root_disk repo_disk before now end → FromStates root_disk repo_disk before (λ s. CallFrom root_disk repo_disk m input s before now end)
    → MeetsLog root_disk repo_disk m input before now end
meets_log root_disk repo_disk scope m input before now end reaches facts from = record {
  blocked = λ told puts set holds cannot.
      let none : RecoversToNone private_directory (root_disk.reads before.root) = none_recovered (root_disk.reads before.root) puts set holds cannot in
      let stops : StopsForRoot root_disk repo_disk before now end = ⊎_elim
      (λ stopped. not_opened root_disk repo_disk before now told end none stopped)
      (λ opened. absurd (never_opened root_disk repo_disk before now told opened.root opened.opened.db none opened.opens.opens_root))
      reaches in
      record {
        stops = stops;
        untouched = facts.root_untouched told none;
        refused = λ small.
            let at = stops.stops in
            let is : end ≡ Err (root_failure at.stop) = stops.is ∙ ap Err at.is in
            refuses root_disk repo_disk before now told end at.stop is at.opens (subst (λ (x : End). status_of x ≤ 4) is small);
      };
  edited = λ told repo_told s tree edits puts are is set holds can rec repo.
      let stays = subst (AllCanBePut puts) is can in
      let root = as_record (all_edited tree edits) (root_disk.reads before.root) (with_tree s.root (all_edited s.root.tree (edits_beside puts edits))) is (kept_beside tree s.root edits puts are set holds stays (as_pair tree s.root rec)) in
      from told repo_told (after_edits s (edits_beside puts edits)) (record { root = root; repo = repo });
  edited_clear = λ told repo_told s tree edits are is clear rec repo.
      let root = as_record (all_edited tree edits) (root_disk.reads before.root) (with_tree s.root (all_edited s.root.tree edits)) is (all_kept edits tree s.root are clear (as_pair tree s.root rec)) in
      from told repo_told (after_edits s edits) (record { root = root; repo = repo });
}
