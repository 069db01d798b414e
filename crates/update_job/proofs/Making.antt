-- Parts that make troves, one after another.
use Rattle.std.proofs.Common.{◌≡◌, ℕ, ◌+◌, ◌<◌, List, [], ◌∷◌, ◌++◌, length, take, drop, get_or, sym, ◌∙◌, ap, subst}
use Rattle.std.proofs.lemmas.List.{take_more}
use Rattle.std.proofs.lemmas.List.Elements.{All-push}
use Rattle.change_set.specs.cny-base.declared.refusal.Fault.{Fault}
use Rattle.change_set.specs.cny-base.declared.refusal.Fault.TheVariants as fault
use Rattle.change_set.specs.trove-stream.declared.parts.TroveParts.{TroveParts}
use Rattle.change_set.specs.declared.change.Part.{Part}
use Rattle.change_set.specs.Contents.{IfRefused}
use Rattle.update_job.specs.Made.{AreMade, base_in, IsFirstRefused, IsMade, IsPartRefused}
use Rattle.change_rel.specs.trove-stream.Forbidden.{IsAllowed}
use Rattle.change_rel.proofs.cny-base.Lists.{split_at}
use Rattle.change_set.proofs.Making.{make_push}

pub made_more : (installed : List TroveParts) (parts : List Part) (i : ℕ) (part : Part) (troves : List TroveParts) (trove : TroveParts) → i < length parts → part ≡ get_or parts i part
    → AreMade installed (take i parts) troves → IsMade installed part trove → AreMade installed (take (i + 1) parts) (troves ++ trove ∷ [])
made_more installed parts i part troves trove within is made more =
    subst (λ (l : List Part). AreMade installed l (troves ++ trove ∷ [])) (sym (take_more parts i part within ∙ ap (λ (p : Part). take i parts ++ p ∷ []) (sym is))) (record {
      make = make_push (base_in installed) (take i parts) troves part trove made.make more.0;
      allowed = All-push IsAllowed troves trove made.allowed more.1;
    })

pub first_refused : (installed : List TroveParts) (parts : List Part) (i : ℕ) (part : Part) (troves : List TroveParts) (e : Fault) → i < length parts → part ≡ get_or parts i part
    → AreMade installed (take i parts) troves → IfRefused (IsPartRefused installed part) e → IfRefused (IsFirstRefused installed parts) e
first_refused installed parts i part troves (fault.Refused refusal) within is made refused =
    record { front = take i parts; troves = troves; part = part; behind = drop (i + 1) parts; is = split_at i parts part within is; made = made; refused = refused }
first_refused installed parts i part troves fault.Memory within is made refused = tt
