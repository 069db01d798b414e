-- The database of a root, and a job by the record and the contents that the root holds of it.
use Rattle.std.proofs.Common.{◌≡◌, ℕ, false, List, [], ◌∷◌, ◌++◌, map, Option, Some, None, Contains, refl, sym, ◌∙◌, ap, subst}
use Rattle.std.specs.FinMap.{get}
use Rattle.sha1.specs.Sha1.{sha1}
use Rattle.rollback_stack.specs.cny-base.declared.node.Node.{Node}
use Rattle.rollback_stack.specs.cny-base.declared.node.Node.TheVariants as node
use Rattle.rollback_stack.specs.content-store.Store.{stored}
use Rattle.rollback_stack.specs.journal-log.declared.put.Want.{Want}
use Rattle.rollback_stack.specs.journal-log.declared.put.Want.TheVariants as want
use Rattle.rollback_stack.specs.journal-log.Targets.{node_of}
use Rattle.rollback_stack.specs.tree-disk.Tree.{Name, Tree}
use Rattle.rollback_stack.specs.tree-scan.Marks.{fingerprint}
use Rattle.rollback_stack.specs.trove-stream.declared.parts.TroveParts.{TroveParts}
use Rattle.job_targets.specs.Old.{IsDamagedOld, IsSaved, is_staged}
use Rattle.local_db.specs.Names.{saved}
use Rattle.local_db.specs.Record as state
use Rattle.local_db.specs.Stores.{HoldsItem, HoldsSaved}
use Rattle.local_db.specs.SystemState.{IsStackItem, StackItem}
use Rattle.local_db.specs.Steps.{want_of}
use Rattle.local_db.specs.declared.format.Format.TheVariants.{Two}
use Rattle.local_db.proofs.Other.{checks_law}
use Rattle.rollback_stack.specs.JobReading.{HoldsRecord}
use Rattle.local_db.proofs.OneSystem.{bytes_in, mode_in}
use Rattle.local_db.proofs.cny-base.OptionValues.{same_some}

-- ---- the database

-- ---- the record of a job

-- ---- nodes by their fingerprints

-- a write with the fingerprint of a node is that of the node, where the contents of a SHA-1 are one
pub same_want : (w : Want) (n : Option Node) → is_staged w ≡ false → fingerprint (node_of w) ≡ fingerprint n
    → ((a : ℕ) (d : List ℕ) (b : ℕ) (c : List ℕ) → w ≡ want.File a d → n ≡ Some (node.File b c) → sha1 d ≡ sha1 c → d ≡ c) → w ≡ want_of n
unfolding mode_in bytes_in
same_want want.Nothing None given e files = refl
same_want want.Nothing (Some (node.Dir b)) given e files = absurd (cc e)
same_want want.Nothing (Some (node.File b c)) given e files = absurd (cc e)
same_want want.Nothing (Some (node.Link c)) given e files = absurd (cc e)
same_want (want.Dir a) None given e files = absurd (cc e)
same_want (want.Dir a) (Some (node.Dir b)) given e files = ap want.Dir (ap mode_in e)
same_want (want.Dir a) (Some (node.File b c)) given e files = absurd (cc e)
same_want (want.Dir a) (Some (node.Link c)) given e files = absurd (cc e)
same_want (want.File a d) None given e files = absurd (cc e)
same_want (want.File a d) (Some (node.Dir b)) given e files = absurd (cc e)
same_want (want.File a d) (Some (node.File b c)) given e files =
    let modes : a ≡ b = ap mode_in e in
    let bytes : d ≡ c = files a d b c refl refl (ap bytes_in e) in
    λ i. want.File (modes i) (bytes i)
same_want (want.File a d) (Some (node.Link c)) given e files = absurd (cc e)
same_want (want.Link a) None given e files = absurd (cc e)
same_want (want.Link a) (Some (node.Dir b)) given e files = absurd (cc e)
same_want (want.Link a) (Some (node.File b c)) given e files = absurd (cc e)
same_want (want.Link a) (Some (node.Link c)) given e files = ap want.Link (ap bytes_in e)
same_want (want.Staged mode id size name) n given e files = absurd (cc given)

-- ---- parts of lists

pub record SplitMap {A B : Type 0} (f : A → B) (xs : List A) (front : List B) (b : B) (rest : List B) : Type 0 where
  pub before : List A
  pub one : A
  pub behind : List A
  pub split : xs ≡ before ++ one ∷ behind
  pub front_is : front ≡ map f before
  pub one_is : b ≡ f one

pub split_map : {A B : Type 0} (f : A → B) (xs : List A) (front : List B) (b : B) (rest : List B) → map f xs ≡ front ++ b ∷ rest → SplitMap f xs front b rest
split_map f [] [] b rest e = absurd (cc e)
split_map f [] (c ∷ front) b rest e = absurd (cc e)
split_map f (x ∷ xs) [] b rest e = record { before = []; one = x; behind = xs; split = refl; front_is = refl; one_is = cc e }
split_map f (x ∷ xs) (c ∷ front) b rest e =
    let tail : map f xs ≡ front ++ b ∷ rest = cc e in
    let head : c ≡ f x = cc e in
    let more = split_map f xs front b rest tail in
    let split = more.split in
    let fronts = more.front_is in
    record { before = x ∷ more.before; one = more.one; behind = more.behind; split = ap (λ l. x ∷ l) split; front_is = λ i. head i ∷ fronts i; one_is = more.one_is }

-- ---- saved contents

-- what a job saved of a file that stood there has one SHA-1
pub one_content : (x : Tree) (o : StackItem) (p : Name) → HoldsSaved x o → Contains o.paths p → (w : Want) (a : ℕ) (d : List ℕ) (b : ℕ) (c : List ℕ) → w ≡ want.File a d → get o.before p ≡ Some (node.File b c) → sha1 d ≡ sha1 c
    → IsSaved x o.number w → d ≡ c
one_content x o p held among w a d b c is there hash saved_ =
    let mine : stored x (saved o.number) (sha1 d) ≡ Some d = subst (IsSaved x o.number) is saved_ in
    let its : stored x (saved o.number) (sha1 c) ≡ Some c = held p b c among there in
    same_some d c (sym mine ∙ ap (stored x (saved o.number)) hash ∙ its)

-- a saved content that the job's record refers to isn't damaged
pub not_damaged : (x : Tree) (o : StackItem) → HoldsSaved x o → (n : ℕ) → n ≡ o.number → (p path : Name) → Contains o.paths p → IsDamagedOld x n (fingerprint (get o.before p)) path → ⊥
not_damaged x o held n number_is p path among damaged = at (get o.before p) refl (subst (λ (k : ℕ). IsDamagedOld x k (fingerprint (get o.before p)) path) number_is damaged)
  where
    at : (m : Option Node) → get o.before p ≡ m → IsDamagedOld x o.number (fingerprint m) path → ⊥
    at None is h = h
    at (Some (node.Dir mode)) is h = h
    at (Some (node.File mode bytes)) is h = h.1 bytes (record { there = held p mode bytes among is; content = record { long = refl; named = refl } })
    at (Some (node.Link target)) is h = h

-- the record of a job, of this number and against the list after it
pub job_record : (x : Tree) (n : ℕ) (list : List TroveParts) (o : StackItem) → HoldsItem Two x list o → IsStackItem o → o.number ≡ n → HoldsRecord Two x n list o.list (state.entries_of o)
job_record x n list o held item number_is = subst (λ (k : ℕ). HoldsRecord Two x k list o.list (state.entries_of o)) number_is
    (record { bytes = held.bytes; file = held.file; text = held.text; checks = checks_law Two x list o item held })
