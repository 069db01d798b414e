-- `rq`, `q` and `verify` have one outcome.
use Rattle.std.proofs.Common.{◌≡◌, ◌<◌, ⊎_elim, ℕ, zero, suc, List, [], ◌∷◌, take, slice_get, Option, Ok, Err, refl, sym, ap, ◌∙◌, arith}
use Rattle.std.proofs.lemmas.Bool.{cases_lt}
use Rattle.std.proofs.lemmas.Option.{same_Some}
use Rattle.conary_cli.specs.cli-call.cny-base.declared.refusal.Refusal.{Refusal}
use Rattle.conary_cli.specs.cli-call.cny-base.declared.refusal.Refusal.TheVariants as refusal
use Rattle.conary_cli.specs.cli-call.trove-stream.declared.parts.TroveParts.{TroveParts}
use Rattle.conary_cli.specs.cli-call.content-store.Contents.{ContentMap}
use Rattle.conary_cli.specs.cli-call.cny-laws.State.{RootState}
use Rattle.conary_cli.specs.repo-commands.Listing.{list_committed}
use Rattle.conary_cli.specs.root-commands.Listing.{list_installed}
use Rattle.conary_cli.specs.root-commands.Verifying.{no_contents, VerifiesWith, verify_fully, verify_installed}
use Rattle.update_job.specs.Lists.{AreInstalled, IsNotInstalled}
use Rattle.change_rel.proofs.cny-base.Lists.{contains_at}
use Rattle.outcome_laws.specs.OneOutcome.{AtMostOne, HasOneOutcome}
use Rattle.outcome_laws.proofs.Tests.{done, refused, with_shared}

-- ---- lists of troves

pub committed_once : (name : Option (List ℕ)) → HasOneOutcome (list_committed name)
committed_once name = with_shared (list_committed name) (λ s input state a b h g. h ∙ sym g)

pub installed_once : (name : Option (List ℕ)) → HasOneOutcome (list_installed name)
installed_once name = with_shared (list_installed name) (λ s input state a b h g. h ∙ sym g)

-- ---- names that aren't installed

pub take_get : {A : Type 0} (n k : ℕ) (xs : List A) → k < n → slice_get (take n xs) k ≡ slice_get xs k
take_get zero k xs lt = absurd (omega (arith, lt))
take_get (suc n) k [] lt = refl
take_get (suc n) zero (x ∷ xs) lt = refl
take_get (suc n) (suc k) (x ∷ xs) lt = take_get n k xs (omega (arith, lt))

module _ (list : List TroveParts) (names : List (List ℕ)) where
  pub never_missing : (r : Refusal) → AreInstalled list names → IsNotInstalled list names r → ⊥
  never_missing r all h = all h.name (contains_at names h.number h.name h.there) h.missing

  never_earlier : (r q : Refusal) (h : IsNotInstalled list names r) (g : IsNotInstalled list names q) → h.number < g.number → ⊥
  never_earlier r q h g less = g.before h.name (contains_at (take g.number names) h.number h.name (take_get g.number h.number names less ∙ h.there)) h.missing

  same_place : (r q : Refusal) (h : IsNotInstalled list names r) (g : IsNotInstalled list names q) → h.number ≡ g.number → r ≡ q
  same_place r q h g is =
      let same : h.name ≡ g.name = same_Some h.name g.name (sym h.there ∙ ap (slice_get names) is ∙ g.there) in
      h.refusal_is ∙ ap (λ (n : List ℕ). refusal.NotInstalled n) same ∙ sym g.refusal_is

  pub missing_once : (r q : Refusal) → IsNotInstalled list names r → IsNotInstalled list names q → r ≡ q
  missing_once r q h g = ⊎_elim
      (λ less. absurd (never_earlier r q h g less))
      (λ most. ⊎_elim (λ less. absurd (never_earlier q r g h less)) (λ also. same_place r q h g (omega (arith, most, also))) (cases_lt g.number h.number))
      (cases_lt h.number g.number)

-- ---- verification

verifies_once : (contents : ContentMap) (names : List (List ℕ)) (s : RootState) → AtMostOne (VerifiesWith contents names s)
verifies_once contents names s (Ok x) (Ok y) h g = ap done (h.1 ∙ sym g.1)
verifies_once contents names s (Ok x) (Err q) h g = absurd (never_missing s.installed names q h.0 g)
verifies_once contents names s (Err r) (Ok y) h g = absurd (never_missing s.installed names r g.0 h)
verifies_once contents names s (Err r) (Err q) h g = ap refused (missing_once s.installed names r q h g)

pub verified_once : (names : List (List ℕ)) → HasOneOutcome (verify_installed names)
verified_once names = with_shared (verify_installed names) (λ s input state. verifies_once no_contents names s.root)

pub verified_fully_once : (names : List (List ℕ)) → HasOneOutcome (verify_fully names)
verified_fully_once names = with_shared (verify_fully names) (λ s input state. verifies_once s.repository.contents names s.root)
