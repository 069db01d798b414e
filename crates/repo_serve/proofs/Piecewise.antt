-- How a piece is taken.
use Rattle.std.proofs.Common.{◌≡◌, inl, inr, ⊎_elim, ℕ, ◌<◌, Bool, true, false, List, [], ◌++◌, length, drop, refl, sym, ap, ◌∙◌, subst, arith, append_assoc, append-nil}
use Rattle.std.proofs.lemmas.List.Elements.{All-nil}
use Rattle.repo_load.specs.cny-base.declared.refusal.Fault.{Fault}
use Rattle.repo_load.specs.cny-base.declared.refusal.Fault.TheVariants as fault
use Rattle.repo_load.specs.cny-base.declared.refusal.Refusal.{Refusal}
use Rattle.repo_load.specs.cny-base.declared.refusal.Refusal.TheVariants.{Malformed}
use Rattle.repo_load.specs.trove-stream.declared.parts.TroveParts.{TroveParts}
use Rattle.repo_load.specs.tree-disk.Tree.{Name, Tree}
use Rattle.repo_load.specs.Files.{StoresRepository}
use Rattle.repo_load.specs.State.{RepositoryState}
use Rattle.repo_mirror.specs.Faults.{IsMalformed}
use Rattle.repo_mirror.specs.Replies.{reply_magic}
use Rattle.repo_mirror.specs.Requests.{request_end, request_magic, FitsRequest, IsRequest}
use Rattle.repo_serve.specs.Sessions.{Begins, Gains, HasTaken, HasUnsound, IfRefused, IsAheadFor, IsAtStart, IsBehindEnd, IsDecidedFor, IsKept, IsLast, IsOpen, IsOpenFor, IsOtherMagic, IsPartly, IsRefusedPiece, IsRest, IsWaiting, TakesAll}
use Rattle.repo_serve.specs.Steps.{IsDamagedBehind, IsDecided, IsOver}
use Rattle.repo_serve.specs.declared.answering.Answered.{Answered}
use Rattle.repo_serve.specs.declared.unanswered.Unanswered.{Unanswered}
use Rattle.repo_serve.proofs.Partly.{behind_end, next_decides, other_magic, partly_on}

-- ---- a piece is given

pub pushed : (b : Bool) (r : RepositoryState) (old mid : Unanswered) (piece given gained : List ℕ) → mid.tail ≡ old.tail ++ piece → mid.answered ≡ old.answered
    → IsOpenFor b r old given gained → IsAheadFor b r mid (given ++ piece) gained
pushed false r old mid piece given gained tail same is_open = record {
  given_is = ap (λ (l : List ℕ). l ++ piece) is_open.kept.given_is ∙ sym tail;
  none = is_open.kept.none;
  start = subst (λ (a : Answered). IsAtStart a) (sym same) is_open.kept.start;
}
pushed true r old mid piece given gained tail same is_open = let p = is_open.partly in record {
  requests = p.requests;
  front = p.front;
  replies = p.replies;
  answered = p.answered;
  given_is = ap (λ (l : List ℕ). l ++ piece) p.given_is ∙ append_assoc p.front old.tail piece ∙ ap (λ (l : List ℕ). p.front ++ l) (sym tail);
  gained_is = p.gained_is;
  number = ap (λ (a : Answered). a.number) same ∙ p.number;
  at = ap (λ (a : Answered). a.at) same ∙ p.at;
  sent = ap (λ (a : Answered). a.sent) same ∙ p.sent;
}

-- ---- the magic

module _ (r : RepositoryState) (mid new : Unanswered) (given gained out appended : List ℕ) (ahead : IsAheadFor mid.begun r mid given gained) where
  as_kept : mid.begun ≡ false → IsKept mid given gained
  as_kept is = subst (λ (b : Bool). IsAheadFor b r mid given gained) is ahead

  as_partly : mid.begun ≡ true → IsPartly r mid given gained
  as_partly is = subst (λ (b : Bool). IsAheadFor b r mid given gained) is ahead

  -- it isn't whole
  pub waits : Begins mid new out appended → new.begun ≡ false → IsWaiting new given gained × (appended ≡ out)
  waits (inl stays) is =
      let before : mid.begun ≡ false = ap (λ (u : Unanswered). u.begun) (sym stays.same) ∙ is in
      let kept = as_kept before in (
        record {
          kept = subst (λ (u : Unanswered). IsKept u given gained) (sym stays.same) kept;
          few = ⊎_elim (λ (yes : mid.begun ≡ true). absurd (cc (yes, before))) (λ (few : length mid.tail < 8). subst (λ (l : List ℕ). length l < 8) (sym kept.given_is) few) stays.either;
        },
        stays.put,
      )
  waits (inr takes) is = absurd (cc (takes.begun, is))

  -- it is there
  pub goes : Begins mid new out appended → new.begun ≡ true → Gains (IsPartly r new given) gained out appended
  goes (inl stays) is =
      let before : mid.begun ≡ true = ap (λ (u : Unanswered). u.begun) (sym stays.same) ∙ is in
      let p = subst (λ (u : Unanswered). IsPartly r u given gained) (sym stays.same) (as_partly before) in
      ([], stays.put ∙ sym (append-nil out), subst (λ (l : List ℕ). IsPartly r new given l) (sym (append-nil gained)) p)
  goes (inr takes) is = let kept = as_kept takes.before in (
    reply_magic,
    takes.put,
    record {
      requests = [];
      front = request_magic;
      replies = [];
      answered = record {
        requests_are = record { few = omega arith; requests_are = All-nil IsRequest; fits = All-nil FitsRequest; text = refl };
        replies_are = refl;
        fits = omega arith;
      };
      given_is = kept.given_is ∙ takes.spelled;
      gained_is = ap (λ (l : List ℕ). l ++ reply_magic) kept.none;
      number = ap (λ (a : Answered). a.number) takes.answered ∙ kept.start.number;
      at = ap (λ (a : Answered). a.at) takes.answered ∙ kept.start.at;
      sent = ap (λ (a : Answered). a.sent) takes.answered ∙ kept.start.sent;
    },
  )

  -- other bytes stand there
  pub no_magic_there : (refusal : Refusal) → IsOtherMagic mid refusal → IsDecidedFor r given refusal
  no_magic_there refusal other =
      let kept = as_kept other.before in
      subst (λ (w : Refusal). IsDecidedFor r given w) (sym other.refused)
      (subst (λ (l : List ℕ). IsDecidedFor r l (Malformed 0)) (sym kept.given_is) (other_magic r mid.tail other.enough other.other))

-- ---- the whole piece

-- behind the requests that are answered nothing stands but the end, or no whole item
rest_of : (number : ℕ) (tail : List ℕ) → IsOver number tail → IsLast tail → IsRest number tail
rest_of number tail (inl cut) last = inl cut
rest_of number tail (inr end) last = inr (end ∙ ap (λ (l : List ℕ). request_end ++ l) (last (drop 5 tail) end) ∙ append-nil request_end)

module _ (tree : Tree) (old mid new : Unanswered) (piece out appended : List ℕ) (begins : Begins mid new out appended) (tail : mid.tail ≡ old.tail ++ piece) (same : mid.answered ≡ old.answered) (begun : mid.begun ≡ old.begun) where
  ahead_of : (r : RepositoryState) (given gained : List ℕ) → IsOpen r old given gained → IsAheadFor mid.begun r mid (given ++ piece) gained
  ahead_of r given gained is_open = pushed mid.begun r old mid piece given gained tail same (subst (λ (b : Bool). IsOpenFor b r old given gained) (sym begun) is_open)

  pub taken_waiting : new.begun ≡ false → HasTaken tree old new piece out appended
  taken_waiting is r given gained stores is_open =
      let w = waits r mid new (given ++ piece) gained out appended (ahead_of r given gained is_open) begins is in (
        [],
        w.1 ∙ sym (append-nil out),
        subst (λ (b : Bool). IsOpenFor b r new (given ++ piece) (gained ++ [])) (sym is) (subst (λ (l : List ℕ). IsWaiting new (given ++ piece) l) (sym (append-nil gained)) w.0),
      )

  module _ (is : new.begun ≡ true) where
    partly : (r : RepositoryState) (given gained : List ℕ) → IsOpen r old given gained → Gains (IsPartly r new (given ++ piece)) gained out appended
    partly r given gained is_open = goes r mid new (given ++ piece) gained out appended (ahead_of r given gained is_open) begins is

    pub refused_next : (refusal : Refusal) → IsDecided tree new.answered new.tail refusal → IsRefusedPiece tree old piece refusal
    refused_next refusal d r given gained stores is_open more =
        let p = partly r given gained is_open in
        next_decides r new (given ++ piece) (gained ++ p.0) p.2 tree stores d.to d.rest d.replies d.advances d.within refusal more d.decides

    module _ (last : Unanswered) (whole : List ℕ) (all : TakesAll tree new last appended whole) where
      answered_on : (r : RepositoryState) (given gained : List ℕ) → StoresRepository tree r → IsOpen r old given gained → Gains (IsPartly r last (given ++ piece)) gained out whole
      answered_on r given gained stores is_open =
          let p = partly r given gained is_open in
          let a = all.answers in (
            p.0 ++ a.replies,
            a.put ∙ ap (λ (l : List ℕ). l ++ a.replies) p.1 ∙ append_assoc out p.0 a.replies,
            subst (λ (l : List ℕ). IsPartly r last (given ++ piece) l) (append_assoc gained p.0 a.replies)
                (partly_on r new (given ++ piece) (gained ++ p.0) p.2 tree stores last.answered (drop all.used new.tail) a.replies a.advances all.within last refl all.tail),
          )

      pub refused_behind : (place : ℕ) → IsBehindEnd last place → IsRefusedPiece tree old piece (Malformed place)
      refused_behind place b r given gained stores is_open = let p = answered_on r given gained stores is_open in behind_end r last (given ++ piece) (gained ++ p.0) p.2 place b

      pub taken_on : IsLast last.tail → HasTaken tree old last piece out whole
      taken_on ends r given gained stores is_open =
          let p = answered_on r given gained stores is_open in
          let over = subst (λ (l : List ℕ). IsOver last.answered.number l) (sym all.tail) all.answers.over in
          (p.0, p.1, subst (λ (b : Bool). IsOpenFor b r last (given ++ piece) (gained ++ p.0)) (sym (all.begun ∙ is)) (record { partly = p.2; rest = rest_of last.answered.number last.tail over ends }))

-- other bytes than the magic stand there
pub refused_magic : (tree : Tree) (old mid : Unanswered) (piece : List ℕ) → mid.tail ≡ old.tail ++ piece → mid.answered ≡ old.answered → mid.begun ≡ old.begun → (refusal : Refusal) → IsOtherMagic mid refusal
    → IsRefusedPiece tree old piece refusal
refused_magic tree old mid piece tail same begun refusal other r given gained stores is_open =
    no_magic_there r mid mid (given ++ piece) gained [] [] (pushed mid.begun r old mid piece given gained tail same (subst (λ (b : Bool). IsOpenFor b r old given gained) (sym begun) is_open)) refusal other

-- ---- faults

pub refused_of : (P : Refusal → Type 0) (why : Fault) → IfRefused P why → (refusal : Refusal) → why ≡ fault.Refused refusal → P refusal
refused_of P (fault.Refused own) is refusal same = let one : own ≡ refusal = cc same in subst P one is
refused_of P fault.Memory is refusal same = absurd (cc same)

pub malformed_of : (P : ℕ → Type 0) (R : Refusal → Type 0) (why : Fault) → IsMalformed P why → ((place : ℕ) → P place → R (Malformed place)) → (refusal : Refusal) → why ≡ fault.Refused refusal → R refusal
malformed_of P R (fault.Refused own) is so refusal same = let one : own ≡ refusal = cc same in subst R (sym is.1 ∙ one) (so is.0 is.2)
malformed_of P R fault.Memory is so refusal same = absurd (cc same)

pub unsound_of : (troves : List TroveParts) (from : Answered) (bytes : List ℕ) (tree : Tree) (path : Name) → IsDamagedBehind troves from bytes tree path → HasUnsound troves tree path
unsound_of troves from bytes tree path bad = record { name = bad.damaged.name; unsound = bad.damaged.unsound }
