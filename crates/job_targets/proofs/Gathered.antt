-- The writes of planned paths, gathered one after the other.
use Rattle.std.proofs.Common.{◌≡◌, ℕ, ◌+◌, ◌<◌, List, [], ◌∷◌, ◌++◌, length, take, drop, get_or, suc, Option, Some, None, Result, Ok, Err, IsErrAnd, refl, sym, subst}
use Rattle.local_db.specs.cny-base.declared.refusal.Refusal.{Refusal}
use Rattle.local_db.specs.cny-base.declared.refusal.Refusal.TheVariants.{MissingContent}
use Rattle.local_db.specs.cny-base.declared.stop.Stop.{Stop}
use Rattle.change_set.specs.declared.change.Carried.{Carried}
use Rattle.conflict_plan.specs.declared.planned.Planned.{Planned}
use Rattle.content_store.specs.Contents.{Answers, ContentsModel, IsSource}
use Rattle.local_db.specs.cny-stream.declared.record.FileRec.{FileRec}
use Rattle.local_db.specs.cny-stream.declared.record.FileRec.TheVariants as rec
use Rattle.local_db.specs.journal-log.declared.put.Put.{Put}
use Rattle.local_db.specs.tree-disk.Disk.{DiskModel, IsDisk}
use Rattle.local_db.specs.tree-disk.Tree.{Tree}
use Rattle.job_targets.specs.Gathering.{Gathers}
use Rattle.job_targets.specs.Outcome.{IsFirstUnfound, IsMissing, IsUnfound}
use Rattle.job_targets.specs.Carrying.{AreWholePuts, IsWholePut, whole_of}
use Rattle.job_targets.proofs.GatherLaws.{answers_before, gathers_answer, gathers_stop, gathers_then}
use Rattle.job_targets.proofs.Listed.{finds_by, split_at, zip_next}
use Rattle.job_targets.proofs.WholeWrites.{staged_puts, whole_by}

unfound_by : (carried : List Carried) (answers more : Answers) (tree : Tree) (x : Planned) (size : ℕ) (name : List ℕ) (why : Refusal)
    → ((n : List ℕ) (f : Option (List ℕ)) → answers n f → more n f) → IsUnfound carried answers tree x size name why → IsUnfound carried more tree x size name why
unfound_by carried answers more tree x size name (MissingContent missing) widen is = (is.0, finds_by carried answers more tree x size name None widen is.1)
unfound_by carried answers more tree x size name _ widen is = absurd is

missing_by : (carried : List Carried) (answers more : Answers) (tree : Tree) (x : Planned) (o : Option FileRec) (why : Refusal)
    → ((n : List ℕ) (f : Option (List ℕ)) → answers n f → more n f) → IsMissing carried answers tree x o why → IsMissing carried more tree x o why
missing_by carried answers more tree x None why widen is = absurd is
missing_by carried answers more tree x (Some (rec.Dir mode owner)) why widen is = absurd is
missing_by carried answers more tree x (Some (rec.File mode owner flags size name)) why widen is = unfound_by carried answers more tree x size name why widen is
missing_by carried answers more tree x (Some (rec.Link target)) why widen is = absurd is

module _ {D C : Type 0} {disk : DiskModel D} {contents : ContentsModel C} (searches : IsSource contents) (laws : IsDisk disk) (listed : Tree → List Carried) (planned : List Planned) where
  -- the writes of the first planned paths are gathered
  abbrev AreGathered : D → D → C → C → ℕ → List Put → Type 0
  AreGathered old new far far' k ps = Gathers {X = Unit {0}} disk contents (λ tree done. AreWholePuts (listed tree) (contents.answers far) tree (take k planned) ps) (λ tree why. ⊥) old new far far' (Ok tt)

  -- one more
  pub put_next : {old mid new : D} {far mid_far far' : C} {k : ℕ} {x : Planned} {p : Put} {Q : Tree → Refusal → Type 0} (ps qs : List Put)
      → AreGathered old mid far mid_far k ps
      → Gathers disk contents (λ tree q. IsWholePut (listed tree) (contents.answers mid_far) tree x q) Q mid new mid_far far' (Ok p)
      → k < length planned → x ≡ get_or planned k x → qs ≡ ps ++ p ∷ []
      → AreGathered old new far far' (k + 1) qs
  put_next {old = old} {far = far} {mid_far = mid_far} {k = k} {x = x} {p = p} {Q = Q} ps qs first one within is more =
      gathers_answer
      (gathers_then searches laws {U = λ tree q. AreWholePuts (listed tree) (contents.answers far) tree (take (k + 1) planned) (ps ++ q ∷ [])} {W = Q} first one
      (λ tells are q put. zip_next (IsWholePut (listed (disk.reads old)) (contents.answers far) (disk.reads old)) planned k x ps q (ps ++ q ∷ []) within is refl are
      (whole_by (listed (disk.reads old)) (contents.answers mid_far) (contents.answers far) (disk.reads old) x q (answers_before contents far mid_far first.keeps) put))
      (λ tells are why h. h))
      (λ tells are. subst (λ (l : List Put). AreWholePuts (listed (disk.reads old)) (contents.answers far) (disk.reads old) (take (k + 1) planned) l) (sym more) are)

  -- a path of whose content none was found
  pub put_stop : {old mid new : D} {far mid_far far' : C} {k : ℕ} {x : Planned} {e : Stop} {Z : Type 0} {S : Tree → Z → Type 0} {r : Result Z Stop} (ps : List Put)
      → AreGathered old mid far mid_far k ps
      → Gathers {X = Put} disk contents (λ tree q. IsWholePut (listed tree) (contents.answers mid_far) tree x q) (λ tree. IsMissing (listed tree) (contents.answers mid_far) tree x x.want) mid new mid_far far' (Err e)
      → k < length planned → x ≡ get_or planned k x → IsErrAnd r (λ s. s ≡ e)
      → Gathers disk contents S (λ tree. IsFirstUnfound (listed tree) (contents.answers far) tree planned) old new far far' r
  put_stop {old = old} {far = far} {mid_far = mid_far} {k = k} {x = x} ps first one within is stopped =
      gathers_stop
      (gathers_then searches laws {U = λ tree q. Unit {0}} {W = λ tree. IsFirstUnfound (listed tree) (contents.answers far) tree planned} first one
      (λ tells are q put. tt)
      (λ tells are why missing. record {
        front = take k planned;
        first = x;
        rest = drop (suc k) planned;
        split = split_at planned k x within is;
        puts = whole_of (disk.reads old) ps;
        found = (staged_puts (listed (disk.reads old)) (contents.answers far) (disk.reads old) (take k planned) ps are).found;
        missing = missing_by (listed (disk.reads old)) (contents.answers mid_far) (contents.answers far) (disk.reads old) x x.want why (answers_before contents far mid_far first.keeps) missing;
      }))
      stopped (λ tells why h. h)
