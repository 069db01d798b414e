-- A stream of requests that comes in pieces, and what was answered of it.
use Rattle.std.specs.Prelude.{◌≡◌, ◌≢◌, ◌⊎◌, ℕ, ◌+◌, ◌<◌, ◌≤◌, Bool, true, false, List, [], ◌++◌, length, drop, Option, Some, None, Result, Ok, Err}
use Rattle.repo_load.specs.cny-base.Below.{begins_with}
use Rattle.repo_load.specs.cny-base.declared.refusal.Fault.{Fault}
use Rattle.repo_load.specs.cny-base.declared.refusal.Fault.TheVariants as fault
use Rattle.repo_load.specs.cny-base.declared.refusal.Refusal.{Refusal}
use Rattle.repo_load.specs.cny-base.declared.refusal.Refusal.TheVariants as refusals
use Rattle.repo_load.specs.cny-base.declared.stop.Stop.{Stop}
use Rattle.repo_load.specs.trove-stream.declared.parts.TroveParts.{TroveParts}
use Rattle.repo_load.specs.tree-disk.Tree.{Name, Tree}
use Rattle.repo_load.specs.Files.{StoresRepository}
use Rattle.repo_load.specs.State.{RepositoryState}
use Rattle.repo_mirror.specs.Replies.{reply_magic}
use Rattle.repo_mirror.specs.Requests.{request_end, request_magic}
use Rattle.repo_mirror.specs.declared.request.Request.{Request}
use Rattle.repo_serve.specs.Halts.{stop_of}
use Rattle.repo_serve.specs.Replies.{AreAnswered, Replies}
use Rattle.repo_serve.specs.Serving.{IsUnsound}
use Rattle.repo_serve.specs.Steps.{AnswersAll, IsCut, IsWithin}
use Rattle.repo_serve.specs.declared.answering.Answered.{Answered}
use Rattle.repo_serve.specs.declared.halt.Halt.{Halt}
use Rattle.repo_serve.specs.declared.halt.Halt.TheVariants.{Malformed, TooLarge, Failed, Memory}
use Rattle.repo_serve.specs.declared.session.Session.{Session}
use Rattle.repo_serve.specs.declared.unanswered.Unanswered.{Unanswered}

-- every continuation of what was given is refused so, so that nothing that comes can change it
abbrev pub IsDecidedFor : RepositoryState → List ℕ → Refusal → Type 0
IsDecidedFor r given refusal = (more : List ℕ) → Replies r (given ++ more) (Err refusal)

-- ---- what was given, and what was gained

-- nothing was answered, and nothing is behind the magic
pub record IsAtStart (answered : Answered) : Type 0 where
  pub number : answered.number ≡ 0
  pub at : answered.at ≡ 8
  pub sent : answered.sent ≡ 13

-- all that was given is kept, and nothing was gained
pub record IsKept (it : Unanswered) (given gained : List ℕ) : Type 0 where
  pub given_is : given ≡ it.tail
  pub none : gained ≡ []
  pub start : IsAtStart it.answered

-- the same, where the magic isn't whole
pub record IsWaiting (it : Unanswered) (given gained : List ℕ) : Type 0 where
  pub kept : IsKept it given gained
  pub few : length given < 8

-- Requests were answered, whose replies are what was gained, and the rest is kept.
pub record IsPartly (r : RepositoryState) (it : Unanswered) (given gained : List ℕ) : Type 0 where
  pub requests : List Request
  pub front : List ℕ
  pub replies : List ℕ
  pub answered : AreAnswered r requests front replies
  pub given_is : given ≡ front ++ it.tail
  pub gained_is : gained ≡ reply_magic ++ replies
  pub number : it.answered.number ≡ length requests
  pub at : it.answered.at ≡ length front
  pub sent : it.answered.sent ≡ length replies + 13

-- no whole item, or the end and nothing behind it
abbrev pub IsRest : ℕ → List ℕ → Type 0
IsRest number tail = IsCut number tail ⊎ (tail ≡ request_end)

-- the same, where no request is left
pub record IsGoingOn (r : RepositoryState) (it : Unanswered) (given gained : List ℕ) : Type 0 where
  pub partly : IsPartly r it given gained
  pub rest : IsRest it.answered.number it.tail

-- the same as it was given more and nothing of that is read: before the magic is there, and behind it
abbrev pub IsAheadFor : Bool → RepositoryState → Unanswered → List ℕ → List ℕ → Type 0
IsAheadFor false r it given gained = IsKept it given gained
IsAheadFor true r it given gained = IsPartly r it given gained

abbrev pub IsOpenFor : Bool → RepositoryState → Unanswered → List ℕ → List ℕ → Type 0
IsOpenFor false r it given gained = IsWaiting it given gained
IsOpenFor true r it given gained = IsGoingOn r it given gained

-- It was given these bytes, which decide no refusal, and these replies were gained.
abbrev pub IsOpen : RepositoryState → Unanswered → List ℕ → List ℕ → Type 0
IsOpen r it given gained = IsOpenFor it.begun r it given gained

-- it was stopped by a refusal, which what was given decides
abbrev pub IsStoppedFor : RepositoryState → List ℕ → Halt → Type 0
IsStoppedFor r given (Malformed at) = IsDecidedFor r given (refusals.Malformed at)
IsStoppedFor r given (TooLarge what size) = IsDecidedFor r given (refusals.TooLarge what size)
IsStoppedFor r given Failed = ⊥
IsStoppedFor r given Memory = ⊥

abbrev pub IsGivenTo : Option Halt → RepositoryState → Unanswered → List ℕ → List ℕ → Type 0
IsGivenTo None r it given gained = IsOpen r it given gained
IsGivenTo (Some halt) r it given gained = IsStoppedFor r given halt

-- A session was given these bytes by calls over disks that store this state, and what it appended is what was gained. No call failed
-- and none lacked memory.
abbrev pub IsGiven : RepositoryState → Session → List ℕ → List ℕ → Type 0
IsGiven r session given gained = IsGivenTo session.over r session.unanswered given gained

abbrev pub stop_told : Option Halt → Option Stop
stop_told None = None
stop_told (Some halt) = Some (stop_of halt)

-- the stop that it tells from now on
abbrev pub told_stop : Session → Option Stop
told_stop session = stop_told session.over

-- ---- how a piece is taken

-- something was appended, with which this is gained
abbrev pub Gains : (List ℕ → Type 0) → List ℕ → List ℕ → List ℕ → Type 0
Gains P gained old new = (added : List ℕ) × (new ≡ old ++ added) × P (gained ++ added)

-- Whatever state the tree stores and the session was given, now it was given the piece too, and gained what was appended.
abbrev pub HasFed : Tree → Session → Session → List ℕ → List ℕ → List ℕ → Type 0
HasFed tree old new piece out appended = (r : RepositoryState) (given gained : List ℕ) → StoresRepository tree r → IsGiven r old given gained
    → Gains (IsGiven r new (given ++ piece)) gained out appended

-- Whatever state the tree stores and the session was given, this and the piece decide the refusal, and the session keeps that.
abbrev pub HasRefused : Tree → Session → Session → List ℕ → Refusal → Type 0
HasRefused tree old new piece refusal = (r : RepositoryState) (given gained : List ℕ) → StoresRepository tree r → IsGiven r old given gained
    → IsDecidedFor r (given ++ piece) refusal × IsGiven r new (given ++ piece) gained

-- a content that one of the troves records is damaged, and this is its file
pub record HasUnsound (troves : List TroveParts) (tree : Tree) (path : Name) : Type 0 where
  pub name : List ℕ
  pub unsound : IsUnsound troves name tree path

-- ---- how it ends

-- With what is appended at last the whole answer was gained; or the answer is that refusal.
abbrev pub HasEnded : RepositoryState → List ℕ → List ℕ → List ℕ → List ℕ → Result Unit Fault → Type 0
HasEnded r given gained old new (Ok u) = Gains (λ (all : List ℕ). Replies r given (Ok all)) gained old new
HasEnded r given gained old new (Err (fault.Refused refusal)) = Replies r given (Err refusal)
HasEnded r given gained old new (Err fault.Memory) = Unit {0}

-- ---- its steps

-- the magic was there, or isn't whole, and all is as it was
pub record Stays (old new : Unanswered) (out appended : List ℕ) : Type 0 where
  pub same : new ≡ old
  pub put : appended ≡ out
  pub either : (old.begun ≡ true) ⊎ (length old.tail < 8)

-- the magic is taken, and the replies are begun
pub record TakesMagic (old new : Unanswered) (out appended : List ℕ) : Type 0 where
  pub before : old.begun ≡ false
  pub spelled : old.tail ≡ request_magic ++ new.tail
  pub begun : new.begun ≡ true
  pub answered : new.answered ≡ old.answered
  pub put : appended ≡ out ++ reply_magic

abbrev pub Begins : Unanswered → Unanswered → List ℕ → List ℕ → Type 0
Begins old new out appended = Stays old new out appended ⊎ TakesMagic old new out appended

-- it isn't the magic that stands there
pub record IsOtherMagic (it : Unanswered) (refusal : Refusal) : Type 0 where
  pub before : it.begun ≡ false
  pub enough : 8 ≤ length it.tail
  pub other : begins_with request_magic it.tail ≡ false
  pub refused : refusal ≡ refusals.Malformed 0

-- all requests that stand at the front of the rest are answered, and cut off
pub record TakesAll (tree : Tree) (old new : Unanswered) (out appended : List ℕ) : Type 0 where
  pub used : ℕ
  pub answers : AnswersAll tree old.answered new.answered old.tail out appended used
  pub within : IsWithin new.answered
  pub tail : new.tail ≡ drop used old.tail
  pub begun : new.begun ≡ old.begun

-- nothing stands behind the end
abbrev pub IsLast : List ℕ → Type 0
IsLast tail = (rest : List ℕ) → tail ≡ request_end ++ rest → rest ≡ []

-- something does
pub record IsBehindEnd (it : Unanswered) (place : ℕ) : Type 0 where
  pub rest : List ℕ
  pub spelled : it.tail ≡ request_end ++ rest
  pub more : rest ≢ []
  pub place_is : place ≡ it.answered.at + 5

-- the same of a session that wasn't stopped
abbrev pub HasTaken : Tree → Unanswered → Unanswered → List ℕ → List ℕ → List ℕ → Type 0
HasTaken tree old new piece out appended = (r : RepositoryState) (given gained : List ℕ) → StoresRepository tree r → IsOpen r old given gained
    → Gains (IsOpen r new (given ++ piece)) gained out appended

abbrev pub IsRefusedPiece : Tree → Unanswered → List ℕ → Refusal → Type 0
IsRefusedPiece tree old piece refusal = (r : RepositoryState) (given gained : List ℕ) → StoresRepository tree r → IsOpen r old given gained
    → IsDecidedFor r (given ++ piece) refusal

-- ---- how it stops

-- that refusal, or want of memory
abbrev pub IfRefused : (Refusal → Type 0) → Fault → Type 0
IfRefused P (fault.Refused refusal) = P refusal
IfRefused P fault.Memory = Unit {0}
