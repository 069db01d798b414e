-- Whether the old contents of a job can stand in one directory, each under its SHA-1.
use Rattle.std.specs.Prelude.{◌≡◌, ℕ, List, ◌∷◌, ◌++◌, Option, Some, None, Contains}
use Rattle.std.specs.Borrow.{Bor}
use Rattle.std.specs.BTreeMap.{BTreeMap, get}
use Rattle.std.specs.Ordering.{nat_cmp}
use Rattle.std.specs.Cmp.Lexicographic.{slice_cmp}
use Rattle.sha1.specs.Sha1.{sha1}
use Rattle.local_db.specs.cny-base.declared.refusal.Fault.{Fault}
use Rattle.local_db.specs.cny-base.declared.refusal.Fault.TheVariants as fault
use Rattle.local_db.specs.cny-base.declared.refusal.Refusal.TheVariants.{Collision}
use Rattle.content_store.specs.Difference.{first_difference}
use Rattle.local_db.specs.journal-log.declared.put.Want.{Want}
use Rattle.local_db.specs.journal-log.declared.put.Want.TheVariants.{Nothing, Dir, File, Link, Staged}
use Rattle.job_targets.specs.declared.entry.Entry.{Entry}

-- the bytes of a file that is given with them
abbrev pub bytes_of : Want → Option (List ℕ)
bytes_of (File mode bytes) = Some bytes
bytes_of Nothing = None
bytes_of (Dir mode) = None
bytes_of (Link target) = None
bytes_of (Staged mode number size name) = None

-- this content stood at the path of one of the entries
pub record IsOld (es : List Entry) (bytes : List ℕ) : Type 0 where
  pub entry : Entry
  pub there : Contains es entry
  pub was : bytes_of entry.was ≡ Some bytes

-- old contents of one SHA-1 are one content
abbrev pub AllAgree : List Entry → Type 0
AllAgree es = (a b : List ℕ) → IsOld es a → IsOld es b → sha1 a ≡ sha1 b → a ≡ b

-- The entry's old content has the SHA-1 of an old content of these entries and differs from it, first at this place.
pub record Collides (es : List Entry) (entry : Entry) (name : List ℕ) (at : ℕ) : Type 0 where
  pub bytes : List ℕ
  pub was : bytes_of entry.was ≡ Some bytes
  pub named : sha1 bytes ≡ name
  pub other : List ℕ
  pub old : IsOld es other
  pub other_named : sha1 other ≡ name
  pub differ : first_difference other bytes ≡ Some at

-- The first entry that collides with an earlier one: with this name, first at this place.
pub record IsFirstCollision (es : List Entry) (name : List ℕ) (at : ℕ) : Type 0 where
  pub front : List Entry
  pub first : Entry
  pub rest : List Entry
  pub split : es ≡ front ++ first ∷ rest
  pub agree : AllAgree front
  pub collides : Collides front first name at

abbrev pub IsCollisionOrMemory : (List ℕ → ℕ → Type 0) → Fault → Type 0
IsCollisionOrMemory collides fault.Memory = Unit {0}
IsCollisionOrMemory collides (fault.Refused why) = (name : List ℕ) × (at : ℕ) × (why ≡ Collision name at) × collides name at

-- ---- old contents by their SHA-1

abbrev pub Noted : Type 0
Noted = BTreeMap (List ℕ) (Bor (List ℕ))

-- The old contents of the entries are noted, each SHA-1 with one of them.
pub record AreNoted (es : List Entry) (noted : Noted) : Type 0 where
  pub some : (name : List ℕ) (one : Bor (List ℕ)) → get (slice_cmp nat_cmp) noted name ≡ Some one → IsOld es one.now × (sha1 one.now ≡ name)
  pub none : (name : List ℕ) → get (slice_cmp nat_cmp) noted name ≡ None → (bytes : List ℕ) → IsOld es bytes → sha1 bytes ≡ name → ⊥
