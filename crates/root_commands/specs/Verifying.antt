-- What `verify` means.
use Rattle.std.specs.Prelude.{◌≡◌, ℕ, false, List, None, Result, Ok, Err}
use Rattle.cli_call.specs.cny-base.declared.refusal.Refusal.{Refusal}
use Rattle.cli_call.specs.content-store.Contents.{ContentMap}
use Rattle.update_job.specs.Lists.{AreInstalled, IsNotInstalled}
use Rattle.root_edits.specs.Verify.{asked, verified}
use Rattle.cny_report.specs.Verified.{verified_text}
use Rattle.cli_call.specs.cny-laws.State.{tree_of, Effect, Meaning, RootState}
use Rattle.cli_call.specs.Answer.{answer}

-- no content is known
abbrev pub no_contents : ContentMap
no_contents name = None

-- Each of these names is installed, and this is how the tree differs from what the troves of these names record, or all troves where
-- there are no names, with these contents; or the first of the names isn't installed.
abbrev pub VerifiesWith : ContentMap → List (List ℕ) → RootState → Result Effect Refusal → Type 0
VerifiesWith contents names s (Ok effect) = AreInstalled s.installed names × (effect ≡ answer (verified_text (verified contents (tree_of s) (asked names s.installed))))
VerifiesWith contents names s (Err refused) = IsNotInstalled s.installed names refused

-- without contents: of a file that isn't the recorded one no bytes are counted
abbrev pub verify_installed : List (List ℕ) → Meaning
verify_installed names = record { takes_input = false; IsOutcome = λ s input. VerifiesWith no_contents names s.root }

-- with those of the repository: of a file that isn't the recorded one the bytes are counted that differ, where the repository has the
-- recorded content
abbrev pub verify_fully : List (List ℕ) → Meaning
verify_fully names = record { takes_input = false; IsOutcome = λ s input. VerifiesWith s.repository.contents names s.root }
