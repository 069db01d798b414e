-- A state with what was read of a root and a repository that were opened: the root's tree without the private directory, and jobs without
-- paths that have the numbers of the database.
use Rattle.std.proofs.Common.{◌≡◌, ◌≢◌, ℕ, zero, suc, ◌+◌, ◌-◌, ◌<◌, ◌≤◌, Bool, true, false, cond, List, [], ◌∷◌, length, All, Option, Some, None, refl, sym, ap, ◌∙◌, subst, inl, inr, ⊎_elim, arith}
use Rattle.std.specs.Prelude.{is_some}
use Rattle.std.specs.FinMap.{get}
use Rattle.std.proofs.lemmas.Bool.{cases_Bool}
use Rattle.std.proofs.lemmas.List.Elements.{All-cons, All-nil}
use Rattle.std.specs.List.Sorted.{IsStrictlySortedBy}
use Rattle.conary_cli.specs.cli-call.local-db.cny-base.Reserved.{is_reserved, private_directory}
use Rattle.conary_cli.specs.cli-call.local-db.cny-base.Path.{parent, root}
use Rattle.conary_cli.specs.cli-call.local-db.tree-disk.Tree.{AgreesOutside, Name, Tree, WellFormed, is_dir, may_stand}
use Rattle.conary_cli.specs.cli-call.local-db.tree-disk.Clear.{is_within, without_tree}
use Rattle.conary_cli.specs.cli-call.local-db.tree-disk.Laws.{same_means}
use Rattle.conary_cli.proofs.cli-call.local-db.tree-disk.ClearLaws.{bare_without, below_within, get-without_tree, or_cases, within_itself}
use Rattle.conary_cli.specs.cli-call.local-db.SystemState.{AreNumbered, IsFree, IsStackItem, IsSystemState, StackItem, SystemState, newest, oldest}
use Rattle.conary_cli.specs.cli-call.local-db.declared.db.Db.{Db}
use Rattle.conary_cli.specs.cli-call.local-db.Formats.{AreEnds}
use Rattle.conary_cli.specs.cli-call.local-db.Stores.{IsDatabase}
use Rattle.conary_cli.specs.cli-call.local-db.declared.format.Format.TheVariants.{Two}
use Rattle.conary_cli.proofs.cli-call.local-db.Other.{no_troves}
use Rattle.conary_cli.proofs.cli-call.local-db.Places.{below_reserved}
use Rattle.conary_cli.proofs.cli-call.local-db.Putting.{parent_outer, reserved_at_or_below}
use Rattle.conary_cli.proofs.cli-call.local-db.Together.{nothing_fits}
use Rattle.repo_load.specs.Contents.{FindsContent}
use Rattle.repo_load.specs.trove-stream.declared.parts.TroveParts.{TroveParts}
use Rattle.repository.specs.Outcome.{committed_contents}
use Rattle.repository.proofs.Held.{kept_at, none_named}

-- ---- the tree without the private directory

abbrev pub outer : Tree → Tree
outer t = without_tree t private_directory

reserved_within : (q : Name) → is_reserved q ≡ true → is_within private_directory q ≡ true
reserved_within q h = ⊎_elim (λ (at : q ≡ private_directory). ap (is_within private_directory) at ∙ within_itself private_directory) (λ low. below_within private_directory q low) (reserved_at_or_below q h)

within_is_reserved : (q : Name) → is_within private_directory q ≡ true → is_reserved q ≡ true
within_is_reserved q h = ⊎_elim (λ same. ap is_reserved (same_means q private_directory same)) (λ low. below_reserved q low) (or_cases _ _ h)

not_both : (b : Bool) → b ≡ true → b ≡ false → ⊥
not_both b is isnt = absurd (cc (is, isnt))

module _ (t : Tree) where
  pub in_private : (q : Name) → is_reserved q ≡ true → get (outer t) q ≡ None
  in_private q h = bare_without t private_directory q (reserved_within q h)

  pub out_private : (q : Name) → is_reserved q ≡ false → get (outer t) q ≡ get t q
  out_private q out = get-without_tree t private_directory q ∙ ⊎_elim
      (λ h. absurd (not_both (is_reserved q) (within_is_reserved q h) out))
      (λ h. ap (λ b. cond b None (get t q)) h)
      (cases_Bool (is_within private_directory q))

  stands_outside : (q : Name) → is_some (get (outer t) q) ≡ true → is_reserved q ≡ false
  stands_outside q some = ⊎_elim (λ h. absurd (not_both (is_some (get (outer t) q)) some (ap is_some (in_private q h)))) (λ h. h) (cases_Bool (is_reserved q))

  stands_there : (q : Name) → is_some (get (outer t) q) ≡ true → is_some (get t q) ≡ true
  stands_there q some = ap is_some (sym (out_private q (stands_outside q some))) ∙ some

  pub outer_formed : WellFormed t → WellFormed (outer t)
  outer_formed well = record {
    paths = λ q some. well.paths q (stands_there q some);
    root_stands = ap is_dir (out_private root refl) ∙ well.root_stands;
    parents = λ q some. ap is_dir (out_private (parent q) (parent_outer q (well.paths q (stands_there q some)) (stands_outside q some))) ∙ well.parents q (stands_there q some);
    nodes = λ q. ⊎_elim (λ h. ap may_stand (in_private q h)) (λ h. ap may_stand (out_private q h) ∙ well.nodes q) (cases_Bool (is_reserved q));
  }

-- ---- jobs without paths

-- a job of this number that changes nothing
abbrev pub no_change : Tree → ℕ → StackItem
no_change t number = record { number = number; before = t; after = t; list = []; paths = [] }

pub no_change_is : (t : Tree) → WellFormed t → (number : ℕ) → IsStackItem (no_change t number)
unfolding IsStrictlySortedBy
no_change_is t well number = record {
  before_formed = well;
  after_formed = well;
  rising = tt;
  free = All-nil IsFree;
  differ = All-nil (λ (p : Name). get t p ≢ get t p);
  same = λ q out. refl;
  before = All-nil _;
  after = All-nil _;
  list = no_troves;
  fits = nothing_fits Two;
}

-- so many of them, down to this number
abbrev pub jobs : Tree → ℕ → ℕ → List StackItem
jobs t zero low = []
jobs t (suc count) low = no_change t (low + count) ∷ jobs t count low

jobs_length : (t : Tree) (count low : ℕ) → length (jobs t count low) ≡ count
jobs_length t zero low = refl
jobs_length t (suc count) low = ap suc (jobs_length t count low)

jobs_oldest : (t : Tree) (count low : ℕ) → oldest (jobs t (suc count) low) ≡ low
jobs_oldest t zero low = omega arith
jobs_oldest t (suc count) low = jobs_oldest t count low

jobs_numbered : (t : Tree) (count low : ℕ) → 1 ≤ low → AreNumbered (jobs t count low)
jobs_numbered t zero low one = tt
jobs_numbered t (suc zero) low one = omega (arith, one)
jobs_numbered t (suc (suc count)) low one = (omega arith, jobs_numbered t (suc count) low one)

jobs_are : (t : Tree) → WellFormed t → (count low : ℕ) → All IsStackItem (jobs t count low)
jobs_are t well zero low = All-nil IsStackItem
jobs_are t well (suc count) low = All-cons IsStackItem (no_change t (low + count)) (jobs t count low) (no_change_is t well (low + count)) (jobs_are t well count low)

-- ---- the system

-- jobs that have the numbers of a database
record HasNumbers (t : Tree) (low high : ℕ) : Type 0 where
  stack : List StackItem
  few : length stack ≤ 4096
  numbered : AreNumbered stack
  is_low : oldest stack ≡ low
  is_high : newest stack ≡ high
  top : newest stack ≤ 4294967295
  are : All IsStackItem stack

with_numbers : (t : Tree) → WellFormed t → (low high : ℕ) → AreEnds low high → HasNumbers t low high
with_numbers t well low high (inl none) = record { stack = []; few = omega arith; numbered = tt; is_low = sym none.0; is_high = sym none.1; top = omega arith; are = All-nil IsStackItem }
with_numbers t well low high (inr some) =
    let count : ℕ = high - low in
    let long : length (jobs t (suc count) low) ≡ suc count = jobs_length t (suc count) low in
    let low_le : low ≤ high = some.1 in
    let near : high < low + 4096 = some.2 in
    record {
      stack = jobs t (suc count) low;
      few = subst (λ (n : ℕ). n ≤ 4096) (sym long) (omega (arith, near, low_le));
      numbered = jobs_numbered t (suc count) low some.0;
      is_low = jobs_oldest t count low;
      is_high = omega (arith, low_le);
      top = omega (arith, low_le, some.3);
      are = jobs_are t well (suc count) low;
    }

same_db : (db : Db) (low high : ℕ) → low ≡ db.oldest → high ≡ db.newest → record { installed = db.installed; oldest = low; newest = high } ≡ db
same_db db low high low_is high_is = ap (λ (n : ℕ). record { installed = db.installed; oldest = n; newest = high }) low_is ∙ ap (λ (n : ℕ). record { installed = db.installed; oldest = db.oldest; newest = n }) high_is

-- a system with this tree outside the private directory, and with this database
pub record HasSystem (t : Tree) (db : Db) : Type 0 where
  pub system : SystemState
  pub is : IsSystemState system
  pub outer : AgreesOutside is_reserved t system.tree
  pub database : record { installed = system.installed; oldest = oldest system.stack; newest = newest system.stack } ≡ db

pub system_of : (t : Tree) → WellFormed t → (db : Db) → IsDatabase Two db.installed db.oldest db.newest → HasSystem t db
system_of t well db rules =
    let formed = outer_formed t well in
    let numbers = with_numbers (outer t) formed db.oldest db.newest rules.ends in
    record {
      system = record { tree = outer t; installed = db.installed; stack = numbers.stack };
      is = record { tree = formed; managed = in_private t; list = rules.installed; fits = rules.fits; few = numbers.few; numbered = numbers.numbered; number = numbers.top; olds = numbers.are };
      outer = λ q out. sym (out_private t q out);
      database = same_db db (oldest numbers.stack) (newest numbers.stack) numbers.is_low numbers.is_high;
    }

-- ---- contents

-- a search finds of them what stands whole, or none where no trove names them
pub whole_contents : (troves : List TroveParts) (x : Tree) (name : List ℕ) (found : Option (List ℕ)) → FindsContent troves name x found → found ≡ committed_contents troves x name
whole_contents troves x name (Some bytes) finds = sym (kept_at troves x name bytes finds)
whole_contents troves x name None finds = sym (none_named troves x name finds)
