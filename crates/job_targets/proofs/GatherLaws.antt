-- How runs that gather what a job writes follow one another.
use Rattle.std.proofs.Common.{◌≡◌, IsTrue, List, Option, Result, Ok, Err, IsErrAnd, sym, subst, arith, ℕ}
use Rattle.local_db.specs.cny-base.declared.refusal.Refusal.{Refusal}
use Rattle.local_db.specs.cny-base.declared.stop.Stop.{Stop}
use Rattle.local_db.specs.cny-base.declared.stop.Stop.TheVariants.{Refused, Memory}
use Rattle.local_db.specs.tree-disk.Tree.{Tree}
use Rattle.local_db.specs.cny-base.Count.{Rose}
use Rattle.local_db.specs.tree-disk.Disk.{DiskModel, IsDisk}
use Rattle.local_db.specs.tree-disk.Moments.{same_start, time_start}
use Rattle.content_store.specs.Contents.{ContentsModel, IsSource, KeepsContents, StopsFor, stop_of_far}
use Rattle.content_store.specs.declared.contents.FarStop.{FarStop}
use Rattle.content_store.specs.declared.contents.FarStop.TheVariants as far_stop
use Rattle.content_store.specs.Searches.{IsFarDamage, LacksSome, SearchEnds}
use Rattle.content_store.proofs.SearchLaws.{searches_answer, searches_memory, searches_on, searches_refusal, searches_stop}
use Rattle.job_targets.specs.Gathering.{Gathers}

-- what may be answered later, might be before
pub answers_before : {C : Type 0} (contents : ContentsModel C) (a b : C) → KeepsContents contents a b → (name : List ℕ) (found : Option (List ℕ)) → contents.answers b name found → contents.answers a name found
answers_before contents a b keeps = keeps.answers

module _ {D C : Type 0} {disk : DiskModel D} {contents : ContentsModel C} where
  -- a run that stopped, passed on by `?`
  pub gathers_stop : {X Z : Type 0} {P : Tree → X → Type 0} {S : Tree → Z → Type 0} {Q V : Tree → Refusal → Type 0} {old new : D} {far far' : C} {e : Stop} {r : Result Z Stop}
      → Gathers disk contents P Q old new far far' (Err e) → IsErrAnd r (λ s. s ≡ e)
      → (IsTrue disk.tells → (why : Refusal) → Q (disk.reads old) why → V (disk.reads old) why)
      → Gathers disk contents S V old new far far' r
  gathers_stop run is refuse = searches_stop run is (λ why h tells. refuse tells why (h tells)) (λ lacks. lacks)

  -- an answer without another call
  pub gathers_answer : {X Z : Type 0} {P : Tree → X → Type 0} {S : Tree → Z → Type 0} {Q V : Tree → Refusal → Type 0} {old new : D} {far far' : C} {x : X} {z : Z}
      → Gathers disk contents P Q old new far far' (Ok x)
      → (IsTrue disk.tells → P (disk.reads old) x → S (disk.reads old) z)
      → Gathers disk contents S V old new far far' (Ok z)
  gathers_answer run is = searches_answer run is

  -- a refusal without another call
  pub gathers_refuse : {X Z : Type 0} {P : Tree → X → Type 0} {S : Tree → Z → Type 0} {Q V : Tree → Refusal → Type 0} {old new : D} {far far' : C} {x : X} {r : Result Z Stop} (why : Refusal)
      → Gathers disk contents P Q old new far far' (Ok x) → IsErrAnd r (λ s. s ≡ Refused why)
      → (IsTrue disk.tells → P (disk.reads old) x → V (disk.reads old) why)
      → Gathers disk contents S V old new far far' r
  gathers_refuse why run is refused = searches_refusal why run is (λ tells. refused tells (run.ends tells))

  -- want of memory after a run, however it ended
  pub gathers_memory : {X Z : Type 0} {P : Tree → X → Type 0} {S : Tree → Z → Type 0} {Q V : Tree → Refusal → Type 0} {old new : D} {far far' : C} {q : Result X Stop} {r : Result Z Stop}
      → Gathers disk contents P Q old new far far' q → IsErrAnd r (λ s. s ≡ Memory) → Gathers disk contents S V old new far far' r
  gathers_memory run is = searches_memory run is

  -- a search of a name that stopped, passed on by `?`
  pub gathers_far : (laws : IsDisk disk) → {X : Type 0} {P : Tree → X → Type 0} {Q : Tree → Refusal → Type 0} {d : D} {far far' : C} {r : Result X Stop} (name : List ℕ) (e : FarStop)
      → KeepsContents contents far far' → StopsFor contents far far' name e → IsErrAnd r (λ s. s ≡ stop_of_far e) → Gathers disk contents P Q d d far far' r
  gathers_far laws {X = X} {P = P} {Q = Q} {d = d} {far = far} {far' = far'} {r = r} name e keeps stops is = record {
    later = omega arith;
    same = λ tells. record { answer = tt; same = same_start disk d; time = time_start laws d };
    keeps = keeps;
    ends = at r is;
  }
    where
      EndsFar : Result X Stop → Type 0
      EndsFar r = SearchEnds disk.tells (P (disk.reads d)) (λ why. IsTrue disk.tells → Q (disk.reads d) why) (IsFarDamage contents LacksSome far)
          (Rose (disk.faults d) (disk.faults d)) (Rose (contents.faults far) (contents.faults far')) r

      by : (e : FarStop) → StopsFor contents far far' name e → EndsFar (Err (stop_of_far e))
      by far_stop.Failed stops = stops
      by (far_stop.Damaged path) stops = record { damaged = λ told. (stops told).damaged; lacking = λ told. (name, (stops told).lacking) }
      by far_stop.Memory stops = tt

      at : (r : Result X Stop) → IsErrAnd r (λ s. s ≡ stop_of_far e) → EndsFar r
      at (Ok x) is = absurd is
      at (Err s) is = subst (λ x. EndsFar (Err x)) (sym is) (by e stops)

  module _ (searches : IsSource contents) (laws : IsDisk disk) where
    -- one run after another
    pub gathers_then : {X Z : Type 0} {P : Tree → X → Type 0} {S U : Tree → Z → Type 0} {V Q W : Tree → Refusal → Type 0} {old mid new : D} {far mid_far far' : C} {x : X} {r : Result Z Stop}
        → Gathers disk contents P V old mid far mid_far (Ok x) → Gathers disk contents S Q mid new mid_far far' r
        → (IsTrue disk.tells → P (disk.reads old) x → (z : Z) → S (disk.reads old) z → U (disk.reads old) z)
        → (IsTrue disk.tells → P (disk.reads old) x → (why : Refusal) → Q (disk.reads old) why → W (disk.reads old) why)
        → Gathers disk contents U W old new far far' r
    gathers_then {S = S} {Q = Q} first then value refuse = searches_on searches laws first then
        (λ tells z h. value tells (first.ends tells) z (subst (λ (t : Tree). S t z) (first.same tells).same.reads h))
        (λ why h tells. refuse tells (first.ends tells) why (subst (λ (t : Tree). Q t why) (first.same tells).same.reads (h tells)))
        (λ lacks. (lacks.0, λ found answer. lacks.1 found (first.keeps.answers_stay lacks.0 found answer)))
