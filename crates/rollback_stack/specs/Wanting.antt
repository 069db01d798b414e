-- The writes that take several jobs back, as they are made in a map.
use Rattle.std.specs.Prelude.{◌≡◌, ◌≢◌, ◌⊎◌, ℕ, zero, suc, ◌-◌, Bool, ◌&&◌, ◌||◌, false, if◌then◌else◌, List, ◌∷◌, ◌++◌, map, Option, Some, None, All}
use Rattle.std.specs.BTreeMap.{BTreeMap, get}
use Rattle.std.specs.Cmp.Lexicographic.{slice_cmp}
use Rattle.std.specs.FinMap as tree
use Rattle.std.specs.Ordering.{nat_cmp}
use Rattle.job_targets.specs.journal-log.declared.put.Put.{Put}
use Rattle.job_targets.specs.journal-log.declared.put.Want.{Want}
use Rattle.job_targets.specs.journal-log.declared.put.Want.TheVariants as want
use Rattle.job_targets.specs.Old.{IsDamagedOld}
use Rattle.local_db.specs.Names.{record_file}
use Rattle.job_targets.specs.tree-disk.Looks.{sees_nothing}
use Rattle.job_targets.specs.tree-disk.Rows.{look_of}
use Rattle.job_targets.specs.tree-disk.Tree.{Name, Tree, same_name}
use Rattle.tree_scan.specs.Marks.{is_nothing}
use Rattle.tree_scan.specs.declared.mark.Mark.TheVariants.{Nothing}
use Rattle.past_jobs.specs.declared.found.FoundMark.{FoundMark}
use Rattle.past_jobs.specs.Seen.{FoundMarks}
use Rattle.rollback_stack.specs.Inverse.{HoldsOld, IsOldWant}

abbrev pub Wants : Type 0
Wants = BTreeMap Name Want

abbrev pub want_at : Wants → Name → Option Want
want_at wants p = get (slice_cmp nat_cmp) wants p

abbrev pub put_of : Name × Want → Put
put_of e = record { path = e.0; want = e.1 }

abbrev pub puts_in : Wants → List Put
puts_in wants = map put_of wants.entries

-- ---- nothing at records

abbrev pub HasNoRecord : ℕ → Wants → Wants → Type 0
HasNoRecord number old new = (p : Name) → want_at new p ≡ (if same_name (record_file number) p then Some want.Nothing else want_at old p)

abbrev pub is_record : ℕ → ℕ → Name → Bool
is_record zero number p = false
is_record (suc count) number p = same_name (record_file number) p || is_record count (number - 1) p

-- the records of so many jobs, from this number down
abbrev pub HasNoRecords : ℕ → ℕ → Wants → Wants → Type 0
HasNoRecords count number old new = (p : Name) → want_at new p ≡ (if is_record count number p then Some want.Nothing else want_at old p)

-- ---- old nodes

-- nothing is to stand at the path, and nothing stands there
abbrev pub Stays : Tree → Name → FoundMark → Type 0
Stays x p f = (f.mark ≡ Nothing) × (tree.get x p ≡ None)

abbrev pub stays : Tree → Name → FoundMark → Bool
stays x p f = is_nothing f.mark && sees_nothing (look_of x p)

-- this is to stand there
pub record IsWanted (x : Tree) (p : Name) (f : FoundMark) (want_ : Want) : Type 0 where
  pub is : IsOldWant x f.number f.mark want_
  pub stands : want_ ≡ want.Nothing → tree.get x p ≢ None

-- it is wanted, or else nothing is
abbrev pub HasWanted : Tree → Name → FoundMark → Wants → Wants → Type 0
HasWanted x p f old new = (Stays x p f × (new ≡ old))
    ⊎ ((want_ : Want) × IsWanted x p f want_ × ((q : Name) → want_at new q ≡ (if same_name p q then Some want_ else want_at old q)))

-- what is found at a path is to stand there
pub record IsWantedOf (x : Tree) (found : FoundMarks) (p : Name) (want_ : Want) : Type 0 where
  pub at : FoundMark
  pub found_is : get (slice_cmp nat_cmp) found p ≡ Some at
  pub wanted : IsWanted x p at want_

-- At each path: what is found there is wanted, or stays; where nothing is found nothing is wanted.
pub record AreWanted (x : Tree) (found : FoundMarks) (wants : Wants) : Type 0 where
  pub each : (p : Name) (want_ : Want) → want_at wants p ≡ Some want_ → IsWantedOf x found p want_
  pub all : (p : Name) (f : FoundMark) → get (slice_cmp nat_cmp) found p ≡ Some f → want_at wants p ≡ None → Stays x p f

-- The path is that of the first content, in the order of the map, that one of the paths is to have and that isn't saved.
pub record IsFirstDamaged (x : Tree) (found : FoundMarks) (path : Name) : Type 0 where
  pub front : List (Name × FoundMark)
  pub place : Name
  pub at : FoundMark
  pub rest : List (Name × FoundMark)
  pub split : found.entries ≡ front ++ (place, at) ∷ rest
  pub good : All (λ (e : Name × FoundMark). HoldsOld x e.1.number e.1.mark) front
  pub among : get (slice_cmp nat_cmp) found place ≡ Some at
  pub damaged : IsDamagedOld x at.number at.mark path
