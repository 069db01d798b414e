-- What `rq` means.
use Rattle.std.specs.Prelude.{◌≡◌, ℕ, false, List, [], ◌∷◌, Option, Some, None, Result, Ok, Err, IfOk}
use Rattle.cli_call.specs.cny-base.declared.refusal.Refusal.{Refusal}
use Rattle.cli_call.specs.cny-base.declared.refusal.Refusal.TheVariants as refusal
use Rattle.cli_call.specs.cny-base.declared.text.OutOfMemory.{OutOfMemory}
use Rattle.cli_call.specs.trove-stream.declared.parts.TroveParts.{TroveParts}
use Rattle.repo_index.specs.Catalogue.{named}
use Rattle.repo_load.specs.State.{troves_of}
use Rattle.cny_report.specs.Troves.{troves_text}
use Rattle.cli_call.specs.Answer.{answer}
use Rattle.cli_call.specs.cny-laws.State.{Effect, Meaning}

-- the line of a trove, if there is one
abbrev pub line_of : Option TroveParts → List ℕ
line_of None = []
line_of (Some trove) = troves_text (trove ∷ [])

-- the text is that of the troves
abbrev pub IsTextOfTroves : List TroveParts → Result (List ℕ) OutOfMemory → Type 0
IsTextOfTroves troves result = IfOk result (λ text. text ≡ troves_text troves)

-- a line for each of the troves of a name; there is one at least
abbrev pub listed_of : List ℕ → List TroveParts → Result Effect Refusal
listed_of name [] = Err (refusal.MissingTrove name)
listed_of name (trove ∷ troves) = Ok (answer (troves_text (trove ∷ troves)))

-- of all troves, or of those of a name
abbrev pub listed : Option (List ℕ) → List TroveParts → Result Effect Refusal
listed None troves = Ok (answer (troves_text troves))
listed (Some name) troves = listed_of name (named name troves)

abbrev pub list_committed : Option (List ℕ) → Meaning
list_committed name = record { takes_input = false; IsOutcome = λ s input outcome. outcome ≡ listed name (troves_of s.repository.commits) }
