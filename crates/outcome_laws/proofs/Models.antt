-- A root has one model, or one refusal of it, and a model wants one list, or is refused for one reason.
use Rattle.std.proofs.Common.{◌≡◌, ◌<◌, ◌+◌, ⊎_elim, ℕ, zero, suc, Bool, true, false, cond, List, [], ◌∷◌, length, take, get_or, Result, Ok, Err, refl, sym, ap, ◌∙◌, subst, arith}
use Rattle.std.specs.List.{AllZip}
use Rattle.std.proofs.lemmas.Bool.{cases_lt}
use Rattle.std.proofs.lemmas.List.{get_or-take, length-take}
use Rattle.conary_cli.specs.cli-call.cny-base.declared.refusal.Fault.TheVariants as fault
use Rattle.conary_cli.specs.cli-call.cny-base.declared.refusal.Refusal.{Refusal}
use Rattle.conary_cli.specs.cli-call.cny-base.declared.refusal.Refusal.TheVariants as refusal
use Rattle.conary_cli.specs.cli-call.tree-disk.Tree.{Tree}
use Rattle.conary_cli.specs.cli-call.trove-stream.declared.parts.TroveParts.{TroveParts}
use Rattle.trove_spec.specs.Config.{cleaned, has_key}
use Rattle.trove_spec.specs.Meant.{Expands}
use Rattle.trove_spec.specs.declared.config.Config.{Config}
use Rattle.trove_spec.specs.declared.spec.Spec.{Spec}
use Rattle.trove_spec.proofs.OneConfig.{OneLabel}
use Rattle.repo_shadow.proofs.OneMove.{OneExpansion}
use Rattle.conary_cli.specs.root-commands.sys-model.declared.directive.ModelLine.{ModelLine}
use Rattle.conary_cli.specs.root-commands.sys-model.declared.directive.ModelLine.TheVariants.{Install, Update, Erase}
use Rattle.conary_cli.specs.root-commands.sys-model.declared.model.Model.{Model}
use Rattle.conary_cli.specs.root-commands.sys-model.Model.{erase_word, install_word, is_read, lines_of, lines_read, text_behind, update_word, IsBadModelOrMemory, IsDirective, IsFirstBad, IsModelOf, IsSpecAs}
use Rattle.conary_cli.specs.root-commands.sys-model.RootModel.{model_file, HasModel, HasModelIn}
use Rattle.conary_cli.specs.root-commands.sys-model.Wanted.{given, Makes, MakesAll, PutsIn, Replaces, TakesOut, Wants}
use Rattle.conary_cli.proofs.root-commands.sys-model.Directives.{erases, installs, one_install, one_update, updates, IsOnlySpec}
use Rattle.outcome_laws.specs.OneOutcome.{AtMostOne}
use Rattle.outcome_laws.proofs.Jobs.{erased_once, updated_once}
use Rattle.outcome_laws.proofs.Meanings.{expands_once}
use Rattle.outcome_laws.proofs.OneSpec.{spec_once}
use Rattle.outcome_laws.proofs.Tests.{and_then_once}

-- ---- what a line says

module _ (one_label : OneLabel) where
  only_spec : (text : List ℕ) (spec : Spec) (kept : List ℕ) → IsSpecAs text spec kept → IsOnlySpec text spec kept
  only_spec text spec kept is meant other also = (spec_once one_label text spec meant is.is also.is, is.kept_is ∙ sym also.kept_is)

  one_erase : (name : List ℕ) (said : ModelLine) (line : List ℕ) → has_key erase_word line ≡ true → name ≡ text_behind erase_word line → IsDirective line said → Erase name ≡ said
  one_erase name (Install spec kept) line key is also = absurd (erases line (Install spec kept) key also)
  one_erase name (Update spec kept) line key is also = absurd (erases line (Update spec kept) key also)
  one_erase name (Erase other) line key is also = ap Erase (is ∙ sym also.1.1)

  directive_once : (line : List ℕ) → AtMostOne (IsDirective line)
  directive_once line (Install spec kept) b h g = one_install (text_behind install_word line) spec kept b (only_spec (text_behind install_word line) spec kept h.1) (installs line b h.0 g)
  directive_once line (Update spec kept) b h g = one_update (text_behind update_word line) spec kept b (only_spec (text_behind update_word line) spec kept h.1) (updates line b h.0 g)
  directive_once line (Erase name) b h g = one_erase name b line h.0 h.1.1 g

  said_once : (lines : List (List ℕ)) → AtMostOne (AllZip IsDirective lines)
  said_once [] [] [] h g = refl
  said_once [] [] (t ∷ b) h g = absurd g
  said_once [] (s ∷ a) b h g = absurd h
  said_once (line ∷ lines) [] b h g = absurd h
  said_once (line ∷ lines) (s ∷ a) [] h g = absurd g
  said_once (line ∷ lines) (s ∷ a) (t ∷ b) h g =
      let first = directive_once line s t h.0 g.0 in
      let rest = said_once lines a b h.1 g.1 in
      λ i. first i ∷ rest i

  -- ---- the model

  model_once : (lines : List (List ℕ)) → AtMostOne (IsModelOf lines)
  model_once lines a b h g = let same = said_once (lines_read lines) a.lines b.lines h g in λ i. record { lines = same i }

  -- what a line says stands first, where it says something
  said_first : (read : Bool) (line : List ℕ) (lines : List (List ℕ)) (said : List ModelLine) → AllZip IsDirective (cond read (line ∷ lines) lines) said → read ≡ true → (s : ModelLine) × IsDirective line s
  said_first true line lines [] are is = absurd are
  said_first true line lines (s ∷ said) are is = (s, are.0)
  said_first false line lines said are is = absurd (cc is)

  said_behind : (read : Bool) (line : List ℕ) (lines : List (List ℕ)) (said : List ModelLine) → AllZip IsDirective (cond read (line ∷ lines) lines) said → (rest : List ModelLine) × AllZip IsDirective lines rest
  said_behind true line lines [] are = absurd are
  said_behind true line lines (s ∷ said) are = (said, are.1)
  said_behind false line lines said are = (said, are)

  -- a line that says something isn't bad
  says_something : (lines : List (List ℕ)) (said : List ModelLine) (k : ℕ) → AllZip IsDirective (lines_read lines) said → k < length lines → is_read (cleaned (get_or lines k [])) ≡ true
      → (s : ModelLine) × IsDirective (cleaned (get_or lines k [])) s
  says_something [] said k are within read = absurd (omega (arith, within))
  says_something (line ∷ lines) said zero are within read = said_first (is_read (cleaned line)) (cleaned line) (lines_read lines) said are read
  says_something (line ∷ lines) said (suc k) are within read =
      let rest = said_behind (is_read (cleaned line)) (cleaned line) (lines_read lines) said are in
      says_something lines rest.0 k rest.1 (omega (arith, within)) read

  never_bad : (lines : List (List ℕ)) (model : Model) (k : ℕ) → IsModelOf lines model → IsFirstBad lines k → ⊥
  never_bad lines model k h bad = let some = says_something lines model.lines k h bad.within bad.read in bad.bad some.0 some.1

  never_earlier : (lines : List (List ℕ)) (k n : ℕ) → IsFirstBad lines k → IsFirstBad lines n → k < n → ⊥
  never_earlier lines k n bad later less =
      let here : get_or (take n lines) k [] ≡ get_or lines k [] = get_or-take n lines k [] less in
      let model = later.model in
      let some = says_something (take n lines) model.lines k later.is (omega (arith, length-take n lines, less, bad.within)) (ap (λ (line : List ℕ). is_read (cleaned line)) here ∙ bad.read) in
      bad.bad some.0 (subst (λ (line : List ℕ). IsDirective (cleaned line) some.0) here some.1)

  bad_once : (lines : List (List ℕ)) (p q : Refusal) → IsBadModelOrMemory lines (fault.Refused p) → IsBadModelOrMemory lines (fault.Refused q) → p ≡ q
  bad_once lines p q h g = h.1 ∙ ap (λ (n : ℕ). refusal.BadModel (n + 1)) same ∙ sym g.1
    where
      same : h.0 ≡ g.0
      same = ⊎_elim
          (λ less. absurd (never_earlier lines h.0 g.0 h.2 g.2 less))
          (λ most. ⊎_elim (λ less. absurd (never_earlier lines g.0 h.0 g.2 h.2 less)) (λ also. omega (arith, most, also)) (cases_lt g.0 h.0))
          (cases_lt h.0 g.0)

  by_file : (file : Result (List ℕ) Refusal) → AtMostOne (HasModelIn file)
  by_file (Ok bytes) (Ok a) (Ok b) h g = let same = model_once (lines_of bytes) a b h g in λ i. Ok (same i)
  by_file (Ok bytes) (Ok a) (Err q) h g = absurd (never_bad (lines_of bytes) a g.0 h g.2)
  by_file (Ok bytes) (Err p) (Ok b) h g = absurd (never_bad (lines_of bytes) b h.0 g h.2)
  by_file (Ok bytes) (Err p) (Err q) h g = let same = bad_once (lines_of bytes) p q h g in λ i. Err (same i)
  by_file (Err unread) (Ok a) b h g = absurd h
  by_file (Err unread) (Err p) (Ok b) h g = absurd g
  by_file (Err unread) (Err p) (Err q) h g = let same : p ≡ q = h ∙ sym g in λ i. Err (same i)

  pub modelled_once : (tree : Tree) → AtMostOne (HasModel tree)
  modelled_once tree = by_file (model_file tree)

-- ---- what it wants

puts_in_once : (list found : List TroveParts) → AtMostOne (PutsIn list found)
puts_in_once list found (Ok a) (Ok b) h g = let same = updated_once list found a b h g in λ i. Ok (same i)
puts_in_once list found (Ok a) (Err q) h g = absurd g
puts_in_once list found (Err p) b h g = absurd h

replaces_once : (list found : List TroveParts) → AtMostOne (Replaces list found)
replaces_once list found a b h g = h ∙ sym g

takes_out_once : (list : List TroveParts) (name : List ℕ) → AtMostOne (TakesOut list name)
takes_out_once list name (Ok a) (Ok b) h g = let same = erased_once list (name ∷ []) a b h.0 g.0 in λ i. Ok (same i)
takes_out_once list name (Ok a) (Err q) h g = absurd (h.1 g.1)
takes_out_once list name (Err p) (Ok b) h g = absurd (g.1 h.1)
takes_out_once list name (Err p) (Err q) h g = let same : p ≡ q = h.0 ∙ sym g.0 in λ i. Err (same i)

module _ (one : OneExpansion) (troves : List TroveParts) (config : Config) where
  makes_once : (list : List TroveParts) (line : ModelLine) → AtMostOne (Makes troves config list line)
  makes_once list (Install spec text) = and_then_once (Expands troves config (given spec text)) (PutsIn list) (expands_once one troves config (given spec text)) (puts_in_once list)
  makes_once list (Update spec text) = and_then_once (Expands troves config (given spec text)) (Replaces list) (expands_once one troves config (given spec text)) (replaces_once list)
  makes_once list (Erase name) = takes_out_once list name

  all_made_once : (lines : List ModelLine) (list : List TroveParts) → AtMostOne (MakesAll troves config lines list)
  all_made_once [] list a b h g = h ∙ sym g
  all_made_once (line ∷ lines) list a b h g = and_then_once (Makes troves config list line) (MakesAll troves config lines) (makes_once list line) (all_made_once lines) a b h g

  pub wants_once : (lines : List ModelLine) → AtMostOne (Wants troves config lines)
  wants_once lines = all_made_once lines []
