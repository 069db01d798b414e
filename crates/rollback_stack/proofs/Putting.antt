-- A content that is put where nothing stands, or the same content.
use Rattle.std.proofs.Common.{◌≡◌, inl, inr, ⊎_elim, ℕ, true, ◌||◌, IsTrue, List, Option, Some, None, Result, Ok, Err, refl, ◌∙◌, ap}
use Rattle.std.specs.Prelude.{not, is_some}
use Rattle.std.specs.FinMap.{get}
use Rattle.sha1.specs.Sha1.{sha1}
use Rattle.job_targets.specs.cny-base.declared.node.Node.{Node}
use Rattle.job_targets.specs.cny-base.declared.node.Node.TheVariants as node
use Rattle.job_targets.specs.cny-base.declared.refusal.Refusal.{Refusal}
use Rattle.job_targets.specs.cny-base.declared.refusal.Refusal.TheVariants.{Collision}
use Rattle.job_targets.specs.cny-base.declared.stop.Stop.{Stop}
use Rattle.job_targets.specs.cny-base.declared.stop.Stop.TheVariants.{Refused, Memory, Failed, Damaged, FarFailed, FarDamaged}
use Rattle.job_targets.specs.tree-disk.Tree.{Name, Tree, same_name, is_file}
use Rattle.job_targets.specs.tree-disk.Rows.{is_dir_at, is_file_at, with_append}
use Rattle.job_targets.specs.tree-disk.Disk.{DiskModel, one_name}
use Rattle.job_targets.specs.tree-disk.Confined.{Among}
use Rattle.job_targets.specs.tree-journal.Apply.{with_base}
use Rattle.job_targets.specs.tree-journal.Preparing.{StopsBefore}
use Rattle.job_targets.proofs.tree-journal.OwnFiles.{get-base_other}
use Rattle.job_targets.specs.content-store.Outcome.{if_passed, placed, put_names, put_outcome, same_or_collision, CanPut, Decides, IsCollision, IsCollisionOf, PutStops}
use Rattle.job_targets.specs.content-store.Store.{content_path, file_bytes}
use Rattle.job_targets.proofs.content-store.Differences.{none_of_same}
use Rattle.rollback_stack.specs.Saving.{is_save_name, IsUntoldCollision, MayHold}
use Rattle.rollback_stack.proofs.Places.{content_not_dir}
use Rattle.change_rel.proofs.cny-base.Stops.{stopped}
use Rattle.job_targets.proofs.tree-disk.Laws.{second}
use Rattle.job_targets.proofs.content-store.Absent.{no_bytes}
use Rattle.tree_scan.proofs.tree-disk.Looks.{nothing_grows as none_may}
use Rattle.change_rel.proofs.cny-base.Bools.{or_left, or_right}

-- ---- names

pub dir_name : (dir bytes : List ℕ) (q : Name) → Among (one_name dir) q → Among (is_save_name dir bytes) q
dir_name dir bytes q h = or_left (same_name q dir) (same_name q (content_path dir (sha1 bytes))) h

pub content_name : (dir bytes : List ℕ) (tree : Tree) (q : Name) → Among (put_names (content_path dir (sha1 bytes)) tree) q → Among (is_save_name dir bytes) q
content_name dir bytes tree q h =
    or_right (same_name q dir) (same_name q (content_path dir (sha1 bytes))) (second (not (is_file_at tree (content_path dir (sha1 bytes)))) (same_name q (content_path dir (sha1 bytes))) h)

-- ---- what stands at the content's path

-- the same once the directory is made
pub may_still : (old mid : Tree) (dir bytes : List ℕ) → mid ≡ with_base dir old → MayHold old (content_path dir (sha1 bytes)) bytes → MayHold mid (content_path dir (sha1 bytes)) bytes
may_still old mid dir bytes is may = ⊎_elim (λ none. inl (here ∙ none)) (λ some. inr (ap file_bytes here ∙ some)) may
  where
    here : get mid (content_path dir (sha1 bytes)) ≡ get old (content_path dir (sha1 bytes))
    here = ap (λ (t : Tree). get t (content_path dir (sha1 bytes))) is ∙ get-base_other dir old (content_path dir (sha1 bytes)) (content_not_dir dir bytes)

bytes_may : (o : Option Node) (bytes : List ℕ) → file_bytes o ≡ Some bytes → (not (is_some o) || is_file o) ≡ true
bytes_may None bytes is = refl
bytes_may (Some (node.Dir mode)) bytes is = absurd (cc is)
bytes_may (Some (node.File mode other)) bytes is = refl
bytes_may (Some (node.Link target)) bytes is = absurd (cc is)

pub can_put : (tree : Tree) (dir path bytes : List ℕ) → is_dir_at tree dir ≡ true → MayHold tree path bytes → CanPut tree dir path
can_put tree dir path bytes stands may = record { stands = stands; free = ⊎_elim (none_may (get tree path)) (bytes_may (get tree path) bytes) may }

outcome_ok : (path name bytes : List ℕ) (tree : Tree) → MayHold tree path bytes → (t : Tree) × (put_outcome path name bytes tree ≡ Ok t)
outcome_ok path name bytes tree may = ⊎_elim
    (λ none. (with_append tree path bytes, ap (placed (with_append tree path bytes) tree name bytes) (no_bytes (get tree path) none)))
    (λ some. (tree, ap (placed (with_append tree path bytes) tree name bytes) some ∙ ap (λ (o : Option ℕ). if_passed tree (same_or_collision name o)) (none_of_same bytes)))
    may

-- ---- how the put ended

any_collision : (name : List ℕ) (refusal : Refusal) → IsCollisionOf name refusal → IsCollision refusal
any_collision name (Collision its at) is = tt
any_collision name _ is = absurd is

pub put_stops : {D X : Type 0} {disk : DiskModel D} {mid new : D} (path name bytes : List ℕ) (e : Stop) → (IsTrue disk.tells → MayHold (disk.reads mid) path bytes)
    → Decides disk (put_names path) (put_outcome path name bytes) mid new (stopped {X = X} e) → PutStops (IsCollisionOf name) (disk.faults mid) (disk.faults new) e
    → StopsBefore (IsUntoldCollision disk.tells) (disk.faults mid) (disk.faults new) e
put_stops path name bytes Failed may decides stops = stops
put_stops path name bytes Memory may decides stops = tt
put_stops {disk = disk} {mid = mid} path name bytes (Refused refusal) may decides stops = record {
  untold = λ tells. let ok = outcome_ok path name bytes (disk.reads mid) (may tells) in never ok.1 (decides.ends tells).0;
  collides = any_collision name refusal stops;
}
  where
    never : {o : Result Tree Refusal} {t : Tree} → o ≡ Ok t → o ≡ Err refusal → ⊥
    never one other = absurd (cc (one, other))
put_stops path name bytes (Damaged at) may decides stops = stops
put_stops path name bytes FarFailed may decides stops = stops
put_stops path name bytes (FarDamaged at) may decides stops = stops
