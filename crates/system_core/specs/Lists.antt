-- What a call asks of the installed list.
use Rattle.std.specs.Prelude.{◌≡◌, ℕ, None, List, All}
use Rattle.rollback_stack.specs.cny-base.declared.refusal.Refusal.{Refusal}
use Rattle.rollback_stack.specs.trove-stream.declared.parts.TroveParts.{TroveParts}
use Rattle.rollback_stack.specs.trove-stream.Forbidden.{first_forbidden}
use Rattle.update_job.specs.Lists.{AreInstalled, IsErased, IsNotInstalled, IsSecond, IsUpdated}

-- which list may follow, and why none does
pub record ListStep : Type 1 where
  pub leads : List TroveParts → Type 0
  pub refuses : Refusal → Type 0

-- these troves are put in, in place of what their names reached
abbrev pub to_updated : List TroveParts → List TroveParts → ListStep
to_updated installed come = record { leads = IsUpdated installed come; refuses = IsSecond come }

-- the troves of these names, each of them installed, are taken away with what they reached
abbrev pub to_erased : List TroveParts → List (List ℕ) → ListStep
to_erased installed names = record { leads = λ after. AreInstalled installed names × IsErased installed names after; refuses = IsNotInstalled installed names }

-- this list follows
abbrev pub to_list : List TroveParts → ListStep
to_list list = record { leads = λ after. after ≡ list; refuses = λ why. ⊥ }

-- no trove of the list records a path that no trove may record
abbrev pub AllPathsAllowed : List TroveParts → Type 0
AllPathsAllowed list = All (λ (t : TroveParts). first_forbidden t.files ≡ None) list
