-- How a session is stopped, and ends.
use Rattle.std.proofs.Common.{◌≡◌, inl, inr, ℕ, ◌+◌, Bool, true, false, List, [], ◌++◌, length, Option, Some, None, Ok, Err, refl, sym, ◌∙◌, ap, subst, arith, append_assoc, append-nil, length-append}
use Rattle.repo_load.specs.cny-base.declared.refusal.Fault.TheVariants as fault
use Rattle.repo_load.specs.cny-base.declared.refusal.Refusal.{Refusal}
use Rattle.repo_load.specs.cny-base.declared.refusal.Refusal.TheVariants as refusals
use Rattle.repo_load.specs.cny-base.declared.stop.Stop.{Stop}
use Rattle.repo_load.specs.cny-base.declared.stop.Stop.TheVariants as stop
use Rattle.repo_load.specs.trove-stream.declared.parts.TroveParts.{TroveParts}
use Rattle.repo_load.specs.tree-disk.Tree.{Tree}
use Rattle.repo_load.specs.tree-disk.Disk.{DiskModel}
use Rattle.repo_load.specs.State.{RepositoryState}
use Rattle.repo_mirror.specs.Replies.{reply_end}
use Rattle.repo_mirror.specs.Requests.{request_end}
use Rattle.repo_serve.specs.Answers.{AnswerEnds, Answers}
use Rattle.repo_serve.specs.Halts.{again_of, end_after, fault_of, halt_of, stop_of, told_of}
use Rattle.repo_serve.specs.Replies.{Replies}
use Rattle.repo_serve.specs.Sessions.{HasEnded, HasFed, HasRefused, HasTaken, HasUnsound, IsDecidedFor, IsGiven, IsGivenTo, IsGoingOn, IsOpen, IsOpenFor, IsRefusedPiece, IsRest, IsStoppedFor, stop_told}
use Rattle.repo_serve.specs.declared.halt.Halt.{Halt}
use Rattle.repo_serve.specs.declared.halt.Halt.TheVariants.{Malformed, TooLarge, Failed, Memory}
use Rattle.repo_serve.specs.declared.session.Session.{Session}
use Rattle.repo_serve.specs.declared.unanswered.Unanswered.{Unanswered}
use Rattle.repo_serve.proofs.Partly.{ends_early, no_magic, served}

-- ---- what is told

-- what is told of a stop is told again
pub again_told : (e : Stop) → stop_of (halt_of e) ≡ again_of (told_of e)
again_told (stop.Refused (refusals.Malformed at)) = refl
again_told (stop.Refused (refusals.TooLarge what size)) = refl
again_told (stop.Refused other) = refl
again_told stop.Failed = refl
again_told stop.Memory = refl
again_told (stop.Damaged path) = refl
again_told stop.FarFailed = refl
again_told (stop.FarDamaged path) = refl

-- what the end answers is told by the stop
end_told : (halt : Halt) → fault_of halt ≡ end_after (stop_of halt)
end_told (Malformed at) = refl
end_told (TooLarge what size) = refl
end_told Failed = refl
end_told Memory = refl

pub ends_as_told : (over : Option Halt) (halt : Halt) (e : Stop) → over ≡ Some halt → stop_told over ≡ Some e → fault_of halt ≡ end_after e
ends_as_told over halt e is told =
    let one : Some (stop_of halt) ≡ Some e = sym (ap stop_told is) ∙ told in
    let same : stop_of halt ≡ e = cc in
    end_told halt ∙ ap end_after same

none_told : (over : Option Halt) → stop_told over ≡ None → over ≡ None
none_told None told = refl
none_told (Some halt) told = absurd (cc told)

-- ---- more is given to one that was stopped

decided_on : (r : RepositoryState) (given piece : List ℕ) (refusal : Refusal) → IsDecidedFor r given refusal → IsDecidedFor r (given ++ piece) refusal
decided_on r given piece refusal decided more = subst (λ (l : List ℕ). Replies r l (Err refusal)) (sym (append_assoc given piece more)) (decided (piece ++ more))

pub stopped_on : (r : RepositoryState) (given piece : List ℕ) (halt : Halt) → IsStoppedFor r given halt → IsStoppedFor r (given ++ piece) halt
stopped_on r given piece (Malformed at) decided = decided_on r given piece (refusals.Malformed at) decided
stopped_on r given piece (TooLarge what size) decided = decided_on r given piece (refusals.TooLarge what size) decided
stopped_on r given piece Failed decided = decided
stopped_on r given piece Memory decided = decided

-- ---- a call of one that wasn't

module _ (tree : Tree) (old new : Session) (piece : List ℕ) (was : old.over ≡ None) where
  open_of : (r : RepositoryState) (given gained : List ℕ) → IsGiven r old given gained → IsOpen r old.unanswered given gained
  open_of r given gained is = subst (λ (o : Option Halt). IsGivenTo o r old.unanswered given gained) was is

  pub fed : (out appended : List ℕ) → new.over ≡ None → HasTaken tree old.unanswered new.unanswered piece out appended → HasFed tree old new piece out appended
  fed out appended now taken r given gained stores is =
      let it = taken r given gained stores (open_of r given gained is) in
      (it.0, it.1, subst (λ (o : Option Halt). IsGivenTo o r new.unanswered (given ++ piece) (gained ++ it.0)) (sym now) it.2)

  refused_kept : (refusal : Refusal) (halt : Halt) → new.over ≡ Some halt → ((r : RepositoryState) (given : List ℕ) → IsDecidedFor r given refusal → IsStoppedFor r given halt)
      → IsRefusedPiece tree old.unanswered piece refusal → HasRefused tree old new piece refusal
  refused_kept refusal halt now stops refused r given gained stores is =
      let decided = refused r given gained stores (open_of r given gained is) in
      (decided, subst (λ (o : Option Halt). IsGivenTo o r new.unanswered (given ++ piece) gained) (sym now) (stops r (given ++ piece) decided))

  module _ (told : Bool) (troves : List TroveParts) (P T : Unit {0} → Type 0) (a c : ℕ) where
    ends_told : (e : Stop) → new.over ≡ Some (halt_of e) → AnswerEnds told P (IsRefusedPiece tree old.unanswered piece) (HasUnsound troves tree) (Err e) a c
        → AnswerEnds told T (HasRefused tree old new piece) (HasUnsound troves tree) (Err (told_of e)) a c
    ends_told (stop.Refused (refusals.Malformed at)) now ends = λ tells. refused_kept (refusals.Malformed at) (Malformed at) now (λ r given d. d) (ends tells)
    ends_told (stop.Refused (refusals.TooLarge what size)) now ends = λ tells. refused_kept (refusals.TooLarge what size) (TooLarge what size) now (λ r given d. d) (ends tells)
    ends_told (stop.Refused other) now ends = tt
    ends_told stop.Failed now ends = ends
    ends_told stop.Memory now ends = tt
    ends_told (stop.Damaged path) now ends = ends
    ends_told stop.FarFailed now ends = absurd ends
    ends_told (stop.FarDamaged path) now ends = absurd ends

pub answers_told : {D : Type 0} (disk : DiskModel D) (old new : Session) (piece out appended appended' : List ℕ) (troves : List TroveParts) (before after : D) (e : Stop) → old.over ≡ None → new.over ≡ Some (halt_of e)
    → Answers disk (λ (tree : Tree) (done : Unit {0}). HasTaken tree old.unanswered new.unanswered piece out appended) (λ (tree : Tree) (refusal : Refusal). IsRefusedPiece tree old.unanswered piece refusal) (HasUnsound troves) before after (Err e)
    → Answers disk (λ (tree : Tree) (done : Unit {0}). HasFed tree old new piece out appended') (λ (tree : Tree) (refusal : Refusal). HasRefused tree old new piece refusal) (HasUnsound troves) before after (Err (told_of e))
answers_told disk old new piece out appended appended' troves before after e was now run = record {
  later = run.later;
  same = run.same;
  ends = ends_told (disk.reads before) old new piece was disk.tells troves (λ (done : Unit {0}). HasTaken (disk.reads before) old.unanswered new.unanswered piece out appended) (λ (done : Unit {0}). HasFed (disk.reads before) old new piece out appended') _ _ e now run.ends;
}

pub not_stopped : (session : Session) → stop_told session.over ≡ None → session.over ≡ None
not_stopped session told = none_told session.over told

-- ---- the end

-- the refusal that was kept
pub stopped_ends : (r : RepositoryState) (given gained out appended : List ℕ) (halt : Halt) → IsStoppedFor r given halt → HasEnded r given gained out appended (Err (fault_of halt))
stopped_ends r given gained out appended (Malformed at) decided = subst (λ (l : List ℕ). Replies r l (Err (refusals.Malformed at))) (append-nil given) (decided [])
stopped_ends r given gained out appended (TooLarge what size) decided = subst (λ (l : List ℕ). Replies r l (Err (refusals.TooLarge what size))) (append-nil given) (decided [])
stopped_ends r given gained out appended Failed decided = absurd decided
stopped_ends r given gained out appended Memory decided = absurd decided

pub open_len : (b : Bool) (r : RepositoryState) (it : Unanswered) (given gained : List ℕ) → IsOpenFor b r it given gained → (b ≡ false → length it.tail ≡ length given) × (b ≡ true → it.answered.at + length it.tail ≡ length given)
open_len false r it given gained is_open = (λ is. ap (λ (l : List ℕ). length l) (sym is_open.kept.given_is), λ is. absurd (cc is))
open_len true r it given gained is_open =
    (λ is. absurd (cc is), λ is. let p = is_open.partly in omega (arith, p.at, ap (λ (l : List ℕ). length l) p.given_is, length-append p.front it.tail))

-- the end of the requests stands there
pub ends_served : (r : RepositoryState) (it : Unanswered) (given gained out : List ℕ) → it.begun ≡ true → it.tail ≡ request_end → IsOpen r it given gained → HasEnded r given gained out (out ++ reply_end) (Ok tt)
ends_served r it given gained out begun end is_open =
    let on : IsGoingOn r it given gained = subst (λ (b : Bool). IsOpenFor b r it given gained) begun is_open in
    (reply_end, refl, served r it given gained on.partly end)

-- it doesn't
pub ends_cut : (b : Bool) (r : RepositoryState) (it : Unanswered) (given gained : List ℕ) → IsOpenFor b r it given gained → (b ≡ true → it.tail ≡ request_end → ⊥) → Replies r given (Err (refusals.Malformed (length given)))
ends_cut false r it given gained is_open not_end = no_magic r given is_open.few
ends_cut true r it given gained is_open not_end = by is_open.rest
  where
    by : IsRest it.answered.number it.tail → Replies r given (Err (refusals.Malformed (length given)))
    by (inl cut) = ends_early r it given gained is_open.partly cut
    by (inr end) = absurd (not_end refl end)
