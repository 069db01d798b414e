-- How tests that read a disk follow one another.
use Rattle.std.proofs.Common.{◌≡◌, ◌≢◌, ℕ, ◌+◌, ◌<◌, ◌≤◌, Bool, true, false, IsTrue, List, [], ◌∷◌, ◌++◌, length, drop, get_or, Contains, Option, Some, None, Result, Ok, Err, IsErrAnd, refl, sym, ◌∙◌, ap, subst, arith}
use Rattle.std.specs.Prelude.{◌==◌}
use Rattle.std.specs.Option.{option_or}
use Rattle.std.proofs.lemmas.List.Elements.{Contains-get_or}
use Rattle.repo_load.specs.cny-base.declared.refusal.Fault.{Fault}
use Rattle.repo_load.specs.cny-base.declared.refusal.Fault.TheVariants as fault
use Rattle.repo_load.specs.cny-base.declared.refusal.Refusal.{Refusal}
use Rattle.repo_load.specs.cny-base.declared.stop.Stop.{Stop}
use Rattle.repo_load.specs.cny-base.declared.stop.Stop.TheVariants.{Refused, Memory, Failed, Damaged, FarFailed, FarDamaged}
use Rattle.repo_load.specs.cny-base.Stop.{stop_of_fault}
use Rattle.repo_load.specs.tree-disk.Tree.{Name, Tree}
use Rattle.repo_load.specs.tree-disk.Disk.{DiskModel, IsDisk}
use Rattle.repo_load.specs.tree-disk.Moments.{same_on, same_start, time_on, time_start}
use Rattle.repo_load.proofs.tree-disk.Moments.{rose_before}
use Rattle.change_set.specs.declared.change.Carried.{Carried}
use Rattle.change_set.specs.declared.change.Part.{Part}
use Rattle.repo_load.specs.content-store.Contents.{ContentMap}
use Rattle.repo_index.specs.Catalogue.{CatalogueParts}
use Rattle.repo_load.specs.trove-stream.declared.parts.TroveParts.{TroveParts}
use Rattle.repository.specs.Tests.{collides, collision, later_refusal, missing_content, missing_ref, refs_of, too_many}
use Rattle.repository.specs.Parts.{AreMade}
use Rattle.repository.specs.Verdict.{CheckEnds, Checks, IsVerdict}
use Rattle.change_rel.specs.trove-stream.FilesOf.{files_of}
use Rattle.change_rel.proofs.trove-stream.Members.{drop_all as drop_none}
use Rattle.change_rel.proofs.trove-stream.Merging.{front_at}
use Rattle.change_rel.proofs.cny-base.Allowed.{is_zero as no_length}

-- a stop passed on by `?`, of an earlier count
ends_stop : (told : Bool) (o p : Option Refusal) (Q S : Name → Type 0) (e : Stop) (r : Result (Unit {0}) Stop) (a b c : ℕ) → a ≤ b → IsErrAnd r (λ s. s ≡ e)
    → (IsTrue told → (refusal : Refusal) → o ≡ Some refusal → p ≡ Some refusal) → (IsTrue told → (path : Name) → Q path → S path) → CheckEnds told o Q (Err e) b c → CheckEnds told p S r a c
ends_stop told o p Q S e (Ok x) a b c le is refusal damage ends = absurd is
ends_stop told o p Q S e (Err s) a b c le is refusal damage ends = subst (λ x. CheckEnds told p S (Err x) a c) (sym is) (by e ends)
  where
    by : (e : Stop) → CheckEnds told o Q (Err e) b c → CheckEnds told p S (Err e) a c
    by (Refused given) ends = λ tells. refusal tells given (ends tells)
    by (Damaged path) ends = λ tells. damage tells path (ends tells)
    by Failed ends = rose_before a b c le ends
    by Memory ends = tt
    by FarFailed ends = ends
    by (FarDamaged path) ends = ends

-- the stop of a test without a disk
fault_ends : (told : Bool) (o p : Option Refusal) (S : Name → Type 0) (e : Fault) (r : Result (Unit {0}) Stop) (a c : ℕ) → IsErrAnd r (λ s. s ≡ stop_of_fault e)
    → (IsTrue told → (refusal : Refusal) → o ≡ Some refusal → p ≡ Some refusal) → (IsTrue told → IsVerdict {X = Unit {0}} o (Err e)) → CheckEnds told p S r a c
fault_ends told o p S e (Ok x) a c is refusal verdict = absurd is
fault_ends told o p S e (Err s) a c is refusal verdict = subst (λ x. CheckEnds told p S (Err x) a c) (sym is) (by e verdict)
  where
    by : (e : Fault) → (IsTrue told → IsVerdict {X = Unit {0}} o (Err e)) → CheckEnds told p S (Err (stop_of_fault e)) a c
    by (fault.Refused given) verdict = λ tells. refusal tells given (verdict tells)
    by fault.Memory verdict = tt

module _ {D : Type 0} {disk : DiskModel D} (laws : IsDisk disk) where
  -- no test yet
  pub checks_start : {Q : Tree → Name → Type 0} (d : D) → Checks disk (λ tree. None) Q d d (Ok tt)
  checks_start d = record {
    later = omega arith;
    same = λ tells. record { answer = tt; same = same_start disk d; time = time_start laws d };
    ends = λ tells. refl;
  }

  -- one test more that passed
  pub checks_then : {Q : Tree → Name → Type 0} {test goal : Tree → Option Refusal} {old mid new : D} → Checks disk (λ tree. None) Q old mid (Ok tt) → Checks disk test Q mid new (Ok tt)
      → (IsTrue disk.tells → test (disk.reads old) ≡ None → goal (disk.reads old) ≡ None) → Checks disk goal Q old new (Ok tt)
  checks_then {test = test} first next so = record {
    later = omega (arith, first.later, next.later);
    same = λ tells. let a = first.same tells in let b = next.same tells in record { answer = tt; same = same_on a.same b.same; time = time_on laws a.same a.time b.time };
    ends = λ tells. so tells (ap test (sym (first.same tells).same.reads) ∙ next.ends tells);
  }

  -- one that stopped, passed on by `?`
  pub checks_stop : {Q S : Tree → Name → Type 0} {test goal : Tree → Option Refusal} {old mid new : D} {e : Stop} {r : Result (Unit {0}) Stop} → Checks disk (λ tree. None) S old mid (Ok tt) → Checks disk test Q mid new (Err e) → IsErrAnd r (λ s. s ≡ e)
      → (IsTrue disk.tells → (refusal : Refusal) → test (disk.reads old) ≡ Some refusal → goal (disk.reads old) ≡ Some refusal) → (IsTrue disk.tells → (path : Name) → Q (disk.reads old) path → S (disk.reads old) path)
      → Checks disk goal S old new r
  checks_stop {Q = Q} {S = S} {test = test} {goal = goal} {old = old} {mid = mid} {new = new} {e = e} {r = r} first next is refusal damage = record {
    later = omega (arith, first.later, next.later);
    same = λ tells. let a = first.same tells in let b = next.same tells in record { answer = tt; same = same_on a.same b.same; time = time_on laws a.same a.time b.time };
    ends = ends_stop disk.tells (test (disk.reads mid)) (goal (disk.reads old)) (Q (disk.reads mid)) (S (disk.reads old)) e r (disk.faults old) (disk.faults mid) (disk.faults new) first.later is
        (λ tells given at. refusal tells given (ap test (sym (first.same tells).same.reads) ∙ at))
        (λ tells path at. damage tells path (subst (λ (t : Tree). Q t path) (first.same tells).same.reads at))
        next.ends;
  }

  -- a test without the disk that stopped, passed on by `?`
  pub checks_fault : {S : Tree → Name → Type 0} {o : Option Refusal} {goal : Tree → Option Refusal} {old new : D} {r : Result (Unit {0}) Stop} (e : Fault) → Checks disk (λ tree. None) S old new (Ok tt) → (IsTrue disk.tells → IsVerdict {X = Unit {0}} o (Err e)) → IsErrAnd r (λ s. s ≡ stop_of_fault e)
      → (IsTrue disk.tells → (refusal : Refusal) → o ≡ Some refusal → goal (disk.reads old) ≡ Some refusal) → Checks disk goal S old new r
  checks_fault {S = S} {o = o} {goal = goal} {old = old} {r = r} e first verdict is refusal = record {
    later = first.later;
    same = first.same;
    ends = fault_ends disk.tells o (goal (disk.reads old)) (S (disk.reads old)) e r _ _ is refusal verdict;
  }

  -- said of another test
  pub checks_as : {Q : Tree → Name → Type 0} {goal : Tree → Option Refusal} {old new : D} → Checks disk (λ tree. None) Q old new (Ok tt) → (IsTrue disk.tells → goal (disk.reads old) ≡ None) → Checks disk goal Q old new (Ok tt)
  checks_as first so = record { later = first.later; same = first.same; ends = so }

-- ---- collisions, one after another

pub collision_on : (held : ContentMap) (cs : List Carried) (i : ℕ) (c : Carried) → i < length cs → c ≡ get_or cs i c → collision held (drop i cs) ≡ option_or (collides (held c.name) c) (collision held (drop (i + 1) cs))
collision_on held cs i c lt is = ap (collision held) (front_at i cs c lt is)

pub collision_end : (held : ContentMap) (cs : List Carried) (i : ℕ) → length cs ≤ i → collision held (drop i cs) ≡ None
collision_end held cs i le = ap (collision held) (drop_none i cs le)

pub listed_at : (cs : List Carried) (i : ℕ) (c : Carried) → i < length cs → c ≡ get_or cs i c → Contains cs c
listed_at cs i c lt is = subst (Contains cs) (sym is) (Contains-get_or cs i c lt)

-- ---- all tests

pub later_is : (c : CatalogueParts) (held : ContentMap) (contents : List Carried) (troves : List TroveParts) → troves ≢ []
    → later_refusal c held contents troves ≡ option_or (missing_ref (c.troves ++ troves) (refs_of troves)) (option_or (missing_content c.troves contents (files_of troves)) (option_or (collision held contents) (too_many c.commits)))
later_is c held contents [] full = absurd (full refl)
later_is c held contents (t ∷ troves) full = refl

-- what a test of the length of an equal list says
pub empty_list : {given troves : List TroveParts} {b : Bool} → given ≡ troves → b ≡ (length given == 0) → b ≡ true → troves ≡ []
empty_list {troves = troves} same is yes' = by troves (ap (λ (l : List TroveParts). length l == 0) (sym same) ∙ sym is ∙ yes')
  where
    by : (l : List TroveParts) → (length l == 0) ≡ true → l ≡ []
    by [] none = refl
    by (t ∷ l) none = let zero' = no_length (length (t ∷ l)) none in absurd (omega (arith, zero'))

pub full_list : {given troves : List TroveParts} {b : Bool} → given ≡ troves → b ≡ (length given == 0) → b ≡ false → troves ≢ []
full_list {troves = troves} {b = b} same is no' empty =
    let long : b ≡ (length troves == 0) = is ∙ ap (λ (l : List TroveParts). length l == 0) same in
    absurd (cc (long, no', empty))

pub none_tested : (c : CatalogueParts) (held : ContentMap) (contents : List Carried) (troves : List TroveParts) → troves ≡ [] → later_refusal c held contents troves ≡ None
none_tested c held contents [] is = refl
none_tested c held contents (t ∷ troves) is = absurd (cc is)

pub made_of : (committed : List TroveParts) (parts given : List Part) (troves : List TroveParts) → given ≡ parts → AreMade committed given troves → AreMade committed parts troves
made_of committed parts given troves same made = subst (λ (l : List Part). AreMade committed l troves) same made
