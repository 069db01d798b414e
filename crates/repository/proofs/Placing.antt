-- A content put in place of what stood under its name.
use Rattle.std.proofs.Common.{◌≡◌, ⊎_elim, ℕ, Bool, true, false, ◌&&◌, ◌||◌, IsTrue, List, get_or, Option, Some, None, Result, Ok, Err, refl, ◌∙◌, ap, subst, arith}
use Rattle.std.specs.Prelude.{not, is_some}
use Rattle.std.proofs.lemmas.Bool.{cases_Bool}
use Rattle.std.specs.FinMap.{get}
use Rattle.repo_load.specs.cny-base.Below.{is_below}
use Rattle.repo_load.proofs.cny-base.Below.{below_rest}
use Rattle.repo_load.specs.cny-base.declared.node.Node.{Node}
use Rattle.repo_load.specs.cny-base.declared.refusal.Refusal.{Refusal}
use Rattle.repo_load.specs.cny-base.declared.stop.Stop.{Stop}
use Rattle.repo_load.specs.cny-base.declared.stop.Stop.TheVariants.{Refused, Memory, Failed, Damaged, FarFailed, FarDamaged}
use Rattle.repo_load.specs.tree-disk.Tree.{Name, Tree, same_name, is_dir, is_file, AgreesOutside}
use Rattle.repo_load.specs.tree-disk.Laws.{same_means}
use Rattle.repo_load.specs.tree-disk.Rows.{is_dir_at, is_file_at, with_append}
use Rattle.repo_load.specs.tree-disk.Disk.{DiskModel}
use Rattle.repo_load.specs.tree-disk.Clear.{is_within, IsBare}
use Rattle.repo_load.proofs.tree-disk.ClearLaws.{itself_within, or_cases, within_itself}
use Rattle.repo_load.specs.tree-disk.Confined.{Among, Confined}
use Rattle.repo_load.proofs.tree-disk.ConfinedLaws.{confined_wider}
use Rattle.repo_load.specs.content-store.Outcome.{placed, put_names, put_outcome, CanPut, Decides, IsCollisionOf, PutStops}
use Rattle.repo_load.specs.content-store.Store.{content_path}
use Rattle.repo_load.specs.Files.{contents_dir}
use Rattle.tree_journal.specs.Preparing.{StopsBefore}
use Rattle.repository.specs.Preparing.{IsUntold}
use Rattle.change_rel.proofs.cny-base.Stops.{stopped}
use Rattle.repo_load.proofs.content-store.Absent.{no_bytes as empty_at}

-- ---- the directory

pub dir_not_within : (name : List ℕ) → is_within (content_path contents_dir name) contents_dir ≡ false
dir_not_within name = ⊎_elim (λ within. absurd (never within)) (λ none. none) (cases_Bool (is_within (content_path contents_dir name) contents_dir))
  where
    never : is_within (content_path contents_dir name) contents_dir ≡ true → ⊥
    never within = ⊎_elim
        (λ same. let one : 0 ≡ 47 = ap (λ (n : Name). get_or n 13 0) (same_means contents_dir (content_path contents_dir name) same) in omega (arith, one))
        (λ low. let r = below_rest (content_path contents_dir name) contents_dir low in let one : 0 ≡ 47 = ap (λ (n : Name). get_or n 13 0) r.1 in omega (arith, one))
        (or_cases (same_name contents_dir (content_path contents_dir name)) (is_below (content_path contents_dir name) contents_dir) within)

pub dir_stays : (old mid : Tree) (name : List ℕ) → AgreesOutside (is_within (content_path contents_dir name)) mid old → is_dir_at old contents_dir ≡ true → is_dir_at mid contents_dir ≡ true
dir_stays old mid name same dir = ap is_dir (same contents_dir (dir_not_within name)) ∙ dir

-- ---- nothing stands under the name

pub none_at : (tree : Tree) (path : Name) → IsBare tree path → get tree path ≡ None
none_at tree path bare = bare path (within_itself path)

pub can_put : (tree : Tree) (dir path : Name) → is_dir_at tree dir ≡ true → get tree path ≡ None → CanPut tree dir path
can_put tree dir path stands none = record { stands = stands; free = by (get tree path) none }
  where
    by : (o : Option Node) → o ≡ None → (not (is_some o) || is_file o) ≡ true
    by None is = refl
    by (Some n) is = absurd (cc is)

outcome_ok : (path name bytes : List ℕ) (tree : Tree) → get tree path ≡ None → put_outcome path name bytes tree ≡ Ok (with_append tree path bytes)
outcome_ok path name bytes tree none = ap (placed (with_append tree path bytes) tree name bytes) (empty_at (get tree path) none)

within_names : (path : Name) (tree : Tree) (q : Name) → put_names path tree q ≡ true → is_within path q ≡ true
within_names path tree q h = itself_within path q (second (not (is_file_at tree path)) (same_name q path) h)
  where
    second : (a b : Bool) → (a && b) ≡ true → b ≡ true
    second true b h = h
    second false b h = absurd (cc h)

module _ {D : Type 0} {disk : DiskModel D} {mid new : D} where
  pub put_confined : {X : Type 0} {outcome : Tree → Result Tree Refusal} (path p : Name) (r : Result X Stop) → p ≡ path → Decides disk (put_names p) outcome mid new r → IsTrue disk.tells → Confined disk (Among (is_within path)) mid new
  put_confined path p r same decides tells =
      subst (λ (n : Name). Confined disk (Among (is_within n)) mid new) same (confined_wider (within_names p (disk.reads mid)) (decides.confined tells))

  pub put_stops : {X : Type 0} (p name bytes : List ℕ) (e : Stop) → (IsTrue disk.tells → get (disk.reads mid) p ≡ None) → Decides disk (put_names p) (put_outcome p name bytes) mid new (stopped {X = X} e)
      → PutStops (IsCollisionOf name) (disk.faults mid) (disk.faults new) e → StopsBefore (IsUntold disk.tells) (disk.faults mid) (disk.faults new) e
  put_stops p name bytes Failed none decides stops = stops
  put_stops p name bytes Memory none decides stops = tt
  put_stops p name bytes (Refused refusal) none decides stops =
      λ tells. never (outcome_ok p name bytes (disk.reads mid) (none tells)) (decides.ends tells).0
    where
      never : {o : Result Tree Refusal} {t : Tree} → o ≡ Ok t → o ≡ Err refusal → ⊥
      never one other = absurd (cc (one, other))
  put_stops p name bytes (Damaged path) none decides stops = stops
  put_stops p name bytes FarFailed none decides stops = stops
  put_stops p name bytes (FarDamaged path) none decides stops = stops
