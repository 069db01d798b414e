-- A list in which no two troves have a path that they can't share is one of a system.
use Rattle.std.proofs.Common.{◌≡◌, ◌⊎◌, inl, inr, ℕ, Bool, true, false, ◌&&◌, cond, IsTrue, List, [], ◌∷◌, ◌++◌, Option, Some, None, refl, sym, ◌∙◌, ap, subst, arith}
use Rattle.std.proofs.lemmas.List.Elements.{All-from_recursion}
use Rattle.std.proofs.lemmas.List.Kept.{AllPairs-cons}
use Rattle.std.specs.List.{All, AllByRecursion, AllPairs}
use Rattle.rollback_stack.specs.cny-stream.declared.record.FileRec.{FileRec}
use Rattle.rollback_stack.specs.cny-stream.Record.{is_dir}
use Rattle.rollback_stack.specs.trove-parts.declared.files.FileAt.{FileAt}
use Rattle.rollback_stack.specs.trove-stream.declared.parts.TroveParts.{TroveParts}
use Rattle.rollback_stack.proofs.tree-disk.Laws.{same_itself}
use Rattle.rollback_stack.specs.tree-disk.Tree.{Name, same_name}
use Rattle.local_db.specs.Installed.{are_apart, SharesDirsAlone}
use Rattle.conflict_plan.specs.Claims.{Claim, claims, claims_in, owners, owners_at, rival, with_rival}
use Rattle.local_db.proofs.Apart.{apart_when as apart_by}
use Rattle.local_db.proofs.cny-base.Doubling.{both as both_true}

-- all of them are of directories
abbrev pub AreDirs : List Claim → Type 0
AreDirs cs = AllByRecursion (λ (c : Claim). is_dir c.1 ≡ true) cs

-- where no later one is a rival, the first is a directory if there are later ones, and they are
rival_none : (rec : FileRec) (c : Claim) (cs : List Claim) → rival rec (c ∷ cs) ≡ None → (is_dir rec ≡ true) × (is_dir c.1 ≡ true) × (rival rec cs ≡ None)
rival_none rec c cs is = at (is_dir rec && is_dir c.1) refl is
  where
    at : (b : Bool) → (is_dir rec && is_dir c.1) ≡ b → cond b (rival rec cs) (Some c.0) ≡ None → (is_dir rec ≡ true) × (is_dir c.1 ≡ true) × (rival rec cs ≡ None)
    at true both none = let two = both_true (is_dir rec) (is_dir c.1) both in (two.0, two.1, none)
    at false other none = absurd (cc none)

all_dirs_by : (rec : FileRec) (cs : List Claim) → rival rec cs ≡ None → AreDirs cs
all_dirs_by rec [] is = tt
all_dirs_by rec (c ∷ cs) is = let parts = rival_none rec c cs is in (parts.1, all_dirs_by rec cs parts.2)

no_rival : (name : List ℕ) (o : Option (List ℕ)) → with_rival name o ≡ None → o ≡ None
no_rival name None is = refl
no_rival name (Some second) is = absurd (cc is)

-- two claims or more without owners are all of directories
two_dirs : (c d : Claim) (cs : List Claim) → owners (c ∷ d ∷ cs) ≡ None → AreDirs (c ∷ d ∷ cs)
two_dirs c d cs is =
    let none = no_rival c.0 (rival c.1 (d ∷ cs)) is in
    let parts = rival_none c.1 d cs none in
    (parts.0, all_dirs_by c.1 (d ∷ cs) none)

no_rival_among : (rec : FileRec) (cs : List Claim) → is_dir rec ≡ true → AreDirs cs → rival rec cs ≡ None
no_rival_among rec [] is dirs = refl
no_rival_among rec (c ∷ cs) is dirs = ap (λ b. cond (b && is_dir c.1) (rival rec cs) (Some c.0)) is ∙ ap (λ b. cond b (rival rec cs) (Some c.0)) dirs.0 ∙ no_rival_among rec cs is dirs.1

pub dirs_unowned : (cs : List Claim) → AreDirs cs → owners cs ≡ None
dirs_unowned [] dirs = refl
dirs_unowned (c ∷ cs) dirs = ap (with_rival c.0) (no_rival_among c.1 cs dirs.0 dirs.1)

-- the claims behind others are unowned too
later_unowned : (a b : List Claim) → owners (a ++ b) ≡ None → owners b ≡ None
later_unowned [] b is = is
later_unowned (c ∷ a) [] is = refl
later_unowned (c ∷ []) (d ∷ b) is = dirs_unowned (d ∷ b) (two_dirs c d b is).1
later_unowned (c ∷ e ∷ a) (d ∷ b) is = dirs_unowned (d ∷ b) (behind (e ∷ a) (two_dirs c e (a ++ d ∷ b) is).1)
  where
    behind : (l : List Claim) → AreDirs (l ++ d ∷ b) → AreDirs (d ∷ b)
    behind [] dirs = dirs
    behind (x ∷ l) dirs = behind l dirs.1

-- where both have claims, all of both are of directories
both_dirs : (a : List Claim) (d : Claim) (b : List Claim) → owners (a ++ d ∷ b) ≡ None → (c : Claim) (l : List Claim) → a ≡ c ∷ l → AreDirs (a ++ d ∷ b)
both_dirs [] d b is c l begins = absurd (cc begins)
both_dirs (c ∷ []) d b is e l begins = two_dirs c d b is
both_dirs (c ∷ f ∷ a) d b is e l begins = two_dirs c f (a ++ d ∷ b) is

-- ---- the claims of files

-- one of the claims is of this record
abbrev pub HasClaim : FileRec → List Claim → Type 0
HasClaim rec [] = ⊥
HasClaim rec (c ∷ cs) = (c.1 ≡ rec) ⊎ HasClaim rec cs

pub claim_dir : (rec : FileRec) (cs : List Claim) → HasClaim rec cs → AreDirs cs → is_dir rec ≡ true
claim_dir rec [] has dirs = absurd has
claim_dir rec (c ∷ cs) (inl is) dirs = subst (λ r. is_dir r ≡ true) is dirs.0
claim_dir rec (c ∷ cs) (inr later) dirs = claim_dir rec cs later dirs.1

pub claims_front : (rec : FileRec) (a b : List Claim) → HasClaim rec a → HasClaim rec (a ++ b)
claims_front rec [] b has = absurd has
claims_front rec (c ∷ a) b (inl is) = inl is
claims_front rec (c ∷ a) b (inr later) = inr (claims_front rec a b later)

pub claims_behind : (rec : FileRec) (a b : List Claim) → HasClaim rec b → HasClaim rec (a ++ b)
claims_behind rec [] b has = has
claims_behind rec (c ∷ a) b has = inr (claims_behind rec a b has)

-- each file has a claim of its own at its path
pub own_claims : (name : List ℕ) (all : List FileAt) → AllByRecursion (λ (f : FileAt). HasClaim f.rec (claims_in name all f.path)) all
own_claims name [] = tt
own_claims name (file ∷ files) = (first, later files (own_claims name files))
  where
    first : HasClaim file.rec (claims_in name (file ∷ files) file.path)
    first = subst (λ b. HasClaim file.rec (cond b ((name, file.rec) ∷ claims_in name files file.path) (claims_in name files file.path))) (sym (same_itself file.path)) (inl refl)

    at : (f : FileAt) (b : Bool) → HasClaim f.rec (claims_in name files f.path) → HasClaim f.rec (cond b ((name, file.rec) ∷ claims_in name files f.path) (claims_in name files f.path))
    at f true has = inr has
    at f false has = has

    later : (rest : List FileAt) → AllByRecursion (λ (f : FileAt). HasClaim f.rec (claims_in name files f.path)) rest → AllByRecursion (λ (f : FileAt). HasClaim f.rec (claims_in name (file ∷ files) f.path)) rest
    later [] all = tt
    later (f ∷ rest) all = (at f (same_name file.path f.path) all.0, later rest all.1)

-- ---- pairs of troves

split_claims : (rec : FileRec) (cs : List Claim) → HasClaim rec cs → (c : Claim) × (l : List Claim) × (cs ≡ c ∷ l)
split_claims rec [] has = absurd has
split_claims rec (c ∷ l) has = (c, l, refl)

-- two records at one path, of claims before and behind, are both of directories
pair_dirs : (rec other : FileRec) (a b : List Claim) → owners (a ++ b) ≡ None → HasClaim rec a → HasClaim other b → (is_dir rec ≡ true) × (is_dir other ≡ true)
pair_dirs rec other a [] is has_a has_b = absurd has_b
pair_dirs rec other a (d ∷ b) is has_a has_b =
    let begins = split_claims rec a has_a in
    let dirs = both_dirs a d b is begins.0 begins.1 begins.2 in
    (claim_dir rec (a ++ d ∷ b) (claims_front rec a (d ∷ b) has_a) dirs, claim_dir other (a ++ d ∷ b) (claims_behind other a (d ∷ b) has_b) dirs)

module _ (t : TroveParts) where
  -- a later trove shares directories alone with this one
  with_later : (u : TroveParts) (rest : List TroveParts) → ((path : Name) → owners (claims_in t.id.name t.files path ++ claims rest path) ≡ None)
      → ((path : Name) (rec : FileRec) → HasClaim rec (claims_in u.id.name u.files path) → HasClaim rec (claims rest path)) → SharesDirsAlone t u
  with_later u rest free among = All-from_recursion _ t.files (each t.files (own_claims t.id.name t.files))
    where
      inner : (file : FileAt) → HasClaim file.rec (claims_in t.id.name t.files file.path) → (others : List FileAt)
          → AllByRecursion (λ (f : FileAt). HasClaim f.rec (claims_in u.id.name u.files f.path)) others → AllByRecursion (λ (other : FileAt). IsTrue (are_apart file other)) others
      inner file has [] all = tt
      inner file has (other ∷ others) all = (
        apart_by file other (λ same. pair_dirs file.rec other.rec (claims_in t.id.name t.files file.path) (claims rest file.path) (free file.path) has
            (among file.path other.rec (subst (λ p. HasClaim other.rec (claims_in u.id.name u.files p)) (sym same) all.0))),
        inner file has others all.1,
      )

      each : (files : List FileAt) → AllByRecursion (λ (f : FileAt). HasClaim f.rec (claims_in t.id.name t.files f.path)) files
          → AllByRecursion (λ (file : FileAt). All (λ (other : FileAt). IsTrue (are_apart file other)) u.files) files
      each [] all = tt
      each (file ∷ files) all = (All-from_recursion _ u.files (inner file all.0 u.files (own_claims u.id.name u.files)), each files all.1)

  -- and so does each of them
  all_later : (whole rest : List TroveParts) → ((path : Name) → owners (claims_in t.id.name t.files path ++ claims whole path) ≡ None)
      → ((path : Name) (rec : FileRec) → HasClaim rec (claims rest path) → HasClaim rec (claims whole path)) → AllByRecursion (SharesDirsAlone t) rest
  all_later whole [] free among = tt
  all_later whole (u ∷ rest) free among = (
    with_later u whole free (λ path rec has. among path rec (claims_front rec (claims_in u.id.name u.files path) (claims rest path) has)),
    all_later whole rest free (λ path rec has. among path rec (claims_behind rec (claims_in u.id.name u.files path) (claims rest path) has)),
  )

-- no two troves of a list without owned paths share a path but as a directory
pub unshared_pairs : (list : List TroveParts) → ((path : Name) → owners_at list path ≡ None) → AllPairs SharesDirsAlone list
unshared_pairs [] free = λ i j d lt within. absurd (omega (arith, lt, within))
unshared_pairs (t ∷ list) free =
    AllPairs-cons SharesDirsAlone t list (All-from_recursion (SharesDirsAlone t) list (all_later t list list free (λ path rec has. has)))
    (unshared_pairs list (λ path. later_unowned (claims_in t.id.name t.files path) (claims list path) (free path)))
