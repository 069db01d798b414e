-- Troves that are allowed, and the first that isn't.
use Rattle.std.proofs.Common.{◌≡◌, ℕ, ◌<◌, List, [], ◌∷◌, ◌++◌, length, take, drop, ◌+◌, get_or, Option, Some, None, Result, Ok, IsErrAnd, refl, sym, ◌∙◌, ap, subst}
use Rattle.std.specs.Prelude.{IsOk, MatchOption}
use Rattle.std.proofs.lemmas.List.{take_more}
use Rattle.std.proofs.lemmas.List.Elements.{All-push, recursion_from_All}
use Rattle.change_set.specs.cny-base.declared.refusal.Fault.{Fault}
use Rattle.change_set.specs.cny-base.declared.refusal.Fault.TheVariants as fault
use Rattle.change_set.specs.cny-base.declared.refusal.Refusal.{Refusal}
use Rattle.change_set.specs.cny-base.declared.refusal.Refusal.TheVariants.{Reserved}
use Rattle.change_set.specs.trove-stream.declared.parts.TroveParts.{TroveParts}
use Rattle.change_set.specs.trove-stream.Forbidden.{first_forbidden, IsReservedOrMemory}
use Rattle.change_set.specs.Contents.{IfRefused}
use Rattle.update_job.specs.Allowed.{AreAllowed, IsFirstReserved, IsReserved}
use Rattle.update_job.proofs.Firsts.{none_fails, one_first}
use Rattle.change_rel.proofs.cny-base.Faults.{stopped}
use Rattle.change_rel.specs.trove-stream.Forbidden.{IsAllowed}
use Rattle.change_rel.proofs.cny-base.OptionValues.{same_path}
use Rattle.change_rel.proofs.cny-base.Lists.{split_at}

-- ---- one trove

abbrev passed : Unit {0} → Result (Unit {0}) Fault
passed u = Ok u

-- what `check` says of a trove
abbrev pub IsChecked : TroveParts → Result (Unit {0}) Fault → Type 0
IsChecked t r = MatchOption (first_forbidden t.files) (IsOk r) (λ path. IsErrAnd r (IsReservedOrMemory path))

pub reserved_by : (t : TroveParts) (e : Fault) → IsChecked t (stopped e) → IfRefused (IsReserved t) e
reserved_by t e checked = by (first_forbidden t.files) refl e checked
  where
    by : (o : Option (List ℕ)) → first_forbidden t.files ≡ o → (e : Fault) → MatchOption o (IsOk (stopped e)) (λ path. IsErrAnd (stopped e) (IsReservedOrMemory path)) → IfRefused (IsReserved t) e
    by None is e checked = absurd (cc checked)
    by (Some path) is (fault.Refused refusal) checked = record { path = path; first = is; refused = checked }
    by (Some path) is fault.Memory checked = tt

pub reserved_once : (t : TroveParts) (a b : Refusal) → IsReserved t a → IsReserved t b → a ≡ b
reserved_once t a b x y = x.refused ∙ ap (λ (p : List ℕ). Reserved p) (same_path x.path y.path (sym x.first ∙ y.first)) ∙ sym y.refused

pub allowed_apart : (t : TroveParts) (refusal : Refusal) → IsAllowed t → IsReserved t refusal → ⊥
allowed_apart t refusal allowed x = absurd (cc (allowed, x.first))

pub allowed_by : (t : TroveParts) (u : Unit {0}) → IsChecked t (Ok u) → IsAllowed t
allowed_by t u checked = by (first_forbidden t.files) refl checked
  where
    by : (o : Option (List ℕ)) → first_forbidden t.files ≡ o → MatchOption o (IsOk (passed u)) (λ path. IsErrAnd (passed u) (IsReservedOrMemory path)) → IsAllowed t
    by None is checked = is
    by (Some path) is checked = absurd checked

-- ---- the first of several

pub allowed_more : (troves : List TroveParts) (i : ℕ) (t : TroveParts) → i < length troves → t ≡ get_or troves i t → AreAllowed (take i troves) → IsAllowed t → AreAllowed (take (i + 1) troves)
allowed_more troves i t within is allowed more =
    subst AreAllowed (sym (take_more troves i t within ∙ ap (λ (u : TroveParts). take i troves ++ u ∷ []) (sym is))) (All-push IsAllowed (take i troves) t allowed more)

pub first_reserved : (troves : List TroveParts) (i : ℕ) (t : TroveParts) (e : Fault) → i < length troves → t ≡ get_or troves i t → AreAllowed (take i troves) → IsChecked t (stopped e)
    → IfRefused (IsFirstReserved troves) e
first_reserved troves i t e within is allowed checked = by e (reserved_by t e checked)
  where
    by : (e : Fault) → IfRefused (IsReserved t) e → IfRefused (IsFirstReserved troves) e
    by (fault.Refused refusal) reserved =
        record { front = take i troves; trove = t; behind = drop (i + 1) troves; is = split_at i troves t within is; allowed = allowed; reserved = reserved }
    by fault.Memory reserved = tt

-- the trove is refused, for some path
abbrev IsBarred : TroveParts → Type 0
IsBarred t = (refusal : Refusal) × IsReserved t refusal

barred_apart : (t : TroveParts) → IsAllowed t → IsBarred t → ⊥
barred_apart t allowed barred = allowed_apart t barred.0 allowed barred.1

pub one_reserved : (troves : List TroveParts) (a b : Refusal) → IsFirstReserved troves a → IsFirstReserved troves b → a ≡ b
one_reserved troves a b x y =
    let same : x.trove ≡ y.trove =
    one_first IsAllowed IsBarred barred_apart x.front y.front x.trove y.trove x.behind y.behind (sym x.is ∙ y.is)
    (recursion_from_All IsAllowed x.front x.allowed) (recursion_from_All IsAllowed y.front y.allowed) (a, x.reserved) (b, y.reserved) in
    reserved_once y.trove a b (subst (λ (t : TroveParts). IsReserved t a) same x.reserved) y.reserved

pub reserved_apart : (troves : List TroveParts) (refusal : Refusal) → AreAllowed troves → IsFirstReserved troves refusal → ⊥
reserved_apart troves refusal allowed x =
    none_fails IsAllowed IsBarred barred_apart x.front x.trove x.behind (recursion_from_All IsAllowed (x.front ++ x.trove ∷ x.behind) (subst AreAllowed x.is allowed)) (refusal, x.reserved)
