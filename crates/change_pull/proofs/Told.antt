-- What a feed tells, by what it was given before.
use Rattle.std.proofs.Common.{◌≡◌, ℕ, ◌<◌, ◌^◌, All, List, ◌++◌, length, map, Option, Some, None, Result, Ok, Err, IfErr, IfOk, OnOk, MatchResult, sym, ap, ◌∙◌, subst}
use Rattle.cny_stream.specs.Decided.{Decided}
use Rattle.journal_log.specs.tree-disk.Tree.{Name, Tree}
use Rattle.change_set.specs.cny-base.declared.refusal.Refusal.{Refusal}
use Rattle.change_set.specs.cny-base.declared.refusal.Refusal.TheVariants as refusal
use Rattle.change_set.specs.cny-base.declared.refusal.What.TheVariants.{Content}
use Rattle.change_set.specs.cny-base.declared.refusal.Fault.{Fault}
use Rattle.change_set.specs.cny-base.declared.refusal.Fault.TheVariants as fault
use Rattle.change_set.specs.declared.change.ChangeSet.{ChangeSet}
use Rattle.change_set.specs.ChangeSet.{IsSetStream}
use Rattle.change_set.specs.FirstFault.{IsFirstFault, IsFaultOf, IsRefusalOrMemory}
use Rattle.change_pull.specs.declared.halt.Halt.{Halt}
use Rattle.change_pull.specs.declared.halt.Halt.TheVariants as halts
use Rattle.change_pull.specs.declared.pull.Pulled.{Pulled}
use Rattle.change_pull.specs.declared.reading.Reading.{Reading}
use Rattle.change_pull.specs.Files.{HoldsFiles, carried_in, files_of, staged_of}
use Rattle.change_pull.specs.Given.{IsStopped, IsGivenTo, IfRefused, UnlessFailing, set_in}
use Rattle.change_pull.specs.Halts.{IfRefusal, fault_of, stop_of}
use Rattle.change_pull.proofs.Ends.{decided_now, files_carried}
use Rattle.change_pull.proofs.Taken.{decided_more}

-- ---- a stop that was told before

pub stopped_on : (reading : Reading) (dir : Name) (given piece : List ℕ) (halt : Halt) → All (λ (b : ℕ). b < 256) piece → IsStopped given halt → UnlessFailing (Err (stop_of halt)) (IsGivenTo (Some halt) reading dir (given ++ piece))
stopped_on reading dir given piece (halts.Malformed at) bytes decided = decided_more IsFirstFault given piece (refusal.Malformed at) bytes decided
stopped_on reading dir given piece (halts.TooLarge size) bytes decided = decided_more IsFirstFault given piece (refusal.TooLarge Content size) bytes decided
stopped_on reading dir given piece halts.Failed bytes decided = absurd decided
stopped_on reading dir given piece halts.Memory bytes decided = absurd decided

pub stopped_refused : (given piece : List ℕ) (halt : Halt) → All (λ (b : ℕ). b < 256) piece → IsStopped given halt → IfRefused (Decided IsFirstFault (given ++ piece)) (stop_of halt)
stopped_refused given piece (halts.Malformed at) bytes decided = decided_more IsFirstFault given piece (refusal.Malformed at) bytes decided
stopped_refused given piece (halts.TooLarge size) bytes decided = decided_more IsFirstFault given piece (refusal.TooLarge Content size) bytes decided
stopped_refused given piece halts.Failed bytes decided = absurd decided
stopped_refused given piece halts.Memory bytes decided = absurd decided

-- ---- a stop that comes now

pub halted_refused : (P : Refusal → Type 0) (halt : Halt) → IfRefusal P halt → IfRefused P (stop_of halt)
halted_refused P (halts.Malformed at) holds = holds
halted_refused P (halts.TooLarge size) holds = holds
halted_refused P halts.Failed holds = tt
halted_refused P halts.Memory holds = tt

-- ---- the end

pub ok_map : {T E : Type 0} {P Q : T → Type 0} (r : Result T E) → IfOk r P → ((x : T) → P x → Q x) → IfOk r Q
ok_map (Ok x) h f = f x h
ok_map (Err e) h f = tt

pub ok_two : {T E A : Type 0} {P Q : T → Type 0} (r : Result T E) → IfOk r P → OnOk r A → ((x : T) → P x → A → Q x) → IfOk r Q
ok_two (Ok x) h a f = f x h a
ok_two (Err e) h a f = tt

-- what was pulled, with the files' bytes
pub pulled_set : (set : ChangeSet) (given : List ℕ) (written : Option (List ℕ)) (dir : Name) (pulled : Pulled) → IsSetStream set given × (pulled.parts ≡ set.parts) × (pulled.staged ≡ staged_of dir set.contents) × (written ≡ None) → length set.contents < 2 ^ 64
    → (tree : Tree) → HoldsFiles tree dir (files_of set.contents written) → IsSetStream (set_in tree pulled) given
pulled_set set given written dir pulled is small tree holds =
    let contents : map (carried_in tree) pulled.staged ≡ set.contents = ap (map (carried_in tree)) is.2 ∙ files_carried tree dir set.contents small (subst (λ (o : Option (List ℕ)). HoldsFiles tree dir (files_of set.contents o)) is.3 holds) in
    let same : set ≡ set_in tree pulled = λ i. record { parts = sym is.1 i; contents = sym contents i } in
    subst (λ (s : ChangeSet). IsSetStream s given) same is.0

pub end_exact : (P : Type 0) (given : List ℕ) (refusal : Refusal) (set : ChangeSet) (r : Result Pulled Fault) → IfOk r (λ pulled. IsSetStream set given × P) → IfErr r (IsFaultOf given)
    → ((x y : Refusal) → IsFirstFault given x → IsFirstFault given y → x ≡ y) → ((x : Refusal) (s : ChangeSet) → IsFirstFault given x → IsSetStream s given → ⊥) → IsFirstFault given refusal → MatchResult r (λ pulled. ⊥) (IsRefusalOrMemory refusal)
end_exact P given refusal set (Ok pulled) ok err unique excluded first = excluded refusal set first ok.0
end_exact P given refusal set (Err (fault.Refused other)) ok err unique excluded first = unique other refusal err first
end_exact P given refusal set (Err fault.Memory) ok err unique excluded first = tt

pub stopped_fault : (given : List ℕ) (halt : Halt) → IsStopped given halt → IsFaultOf given (fault_of halt)
stopped_fault given (halts.Malformed at) stopped = decided_now given (refusal.Malformed at) stopped
stopped_fault given (halts.TooLarge size) stopped = decided_now given (refusal.TooLarge Content size) stopped
stopped_fault given halts.Failed stopped = tt
stopped_fault given halts.Memory stopped = tt

pub stopped_exact : (given : List ℕ) (other : Refusal) (halt : Halt) → IsStopped given halt → ((x y : Refusal) → IsFirstFault given x → IsFirstFault given y → x ≡ y) → IsFirstFault given other → IsRefusalOrMemory other (fault_of halt)
stopped_exact given other (halts.Malformed at) stopped unique first = unique (refusal.Malformed at) other (decided_now given (refusal.Malformed at) stopped) first
stopped_exact given other (halts.TooLarge size) stopped unique first = unique (refusal.TooLarge Content size) other (decided_now given (refusal.TooLarge Content size) stopped) first
stopped_exact given other halts.Failed stopped unique first = tt
stopped_exact given other halts.Memory stopped unique first = tt
