-- How runs of calls that only read a disk and search contents, and aren't refused, follow one another where each of them searches a
-- source that answers the same.
use Rattle.std.proofs.Common.{IsTrue, List, Option, Result, Ok, subst, ℕ}
use Rattle.update_job.specs.cny-base.declared.stop.Stop.{Stop}
use Rattle.tree_scan.specs.tree-disk.Tree.{Tree}
use Rattle.tree_scan.specs.tree-disk.Disk.{DiskModel, IsDisk}
use Rattle.content_store.specs.Contents.{Answers, ContentsModel, IsSource, KeepsContents}
use Rattle.content_store.specs.Searches.{no_refusal, Searches}
use Rattle.content_store.proofs.SearchLaws.{searches_on}

-- two sources answer the same
pub record SameAnswers (one other : Answers) : Type 0 where
  pub there : (name : List ℕ) (found : Option (List ℕ)) → one name found → other name found
  pub back : (name : List ℕ) (found : Option (List ℕ)) → other name found → one name found

kept_answers : {C : Type 0} {contents : ContentsModel C} {a b : C} → KeepsContents contents a b → SameAnswers (contents.answers a) (contents.answers b)
kept_answers keeps = record { there = keeps.answers_stay; back = keeps.answers }

module _ {D C : Type 0} {disk : DiskModel D} {contents : ContentsModel C} (source : IsSource contents) (laws : IsDisk disk) where
  pub searches_then : {X Z : Type 0} {P : Answers → Tree → X → Type 0} {S U : Answers → Tree → Z → Type 0} {L M R : Answers → Tree → Type 0} {old mid new : D} {far mid_far far' : C} {x : X} {r : Result Z Stop}
      → Searches disk contents P no_refusal (λ told answers tree. IsTrue told → L answers tree) old mid far mid_far (Ok x)
      → Searches disk contents S no_refusal (λ told answers tree. IsTrue told → M answers tree) mid new mid_far far' r
      → (IsTrue disk.tells → (other : Answers) → SameAnswers (contents.answers far) other → P (contents.answers far) (disk.reads old) x → (z : Z) → S other (disk.reads old) z → U (contents.answers far) (disk.reads old) z)
      → (IsTrue disk.tells → (other : Answers) → SameAnswers (contents.answers far) other → P (contents.answers far) (disk.reads old) x → M other (disk.reads old) → R (contents.answers far) (disk.reads old))
      → Searches disk contents U no_refusal (λ told answers tree. IsTrue told → R answers tree) old new far far' r
  searches_then {S = S} {M = M} {mid_far = mid_far} first then value damage = searches_on source laws first then
      (λ tells z h. value tells (contents.answers mid_far) (kept_answers first.keeps) (first.ends tells) z (subst (λ (t : Tree). S (contents.answers mid_far) t z) (first.same tells).same.reads h))
      (λ refusal none. none)
      (λ lacks tells. damage tells (contents.answers mid_far) (kept_answers first.keeps) (first.ends tells) (subst (λ (t : Tree). M (contents.answers mid_far) t) (first.same tells).same.reads (lacks tells)))
