use Rattle.std.proofs.Common.{◌==◌, ℕ, List, sym, ◌∙◌, ap, subst}
use Rattle.std.specs.List.{list_any}
use Rattle.journal_log.specs.Staged.{NumbersFit}
use Rattle.journal_log.proofs.NumberSets.{looked_up}
use Rattle.journal_log.proofs.NumberTexts.{number_none, number_other, number_text}
use Rattle.journal_log.proofs.staged.StagedNumbers.keeps.Goals as goal

pub returns-in_default : goal.returns-in_default
returns-in_default c = λ puts same.
    number_none puts c.args.self.now c.args.last.now c.number_of.result same (subst NumbersFit c.self.view_is c.self.invariant) c.number_of.ensures c.in_default.is

pub returns-then-not-contains : goal.returns-then-not-contains
returns-then-not-contains c = λ puts same.
    number_other puts c.args.self.now c.args.last.now c.number_of.result same (subst NumbersFit c.self.view_is c.self.invariant) c.number_of.ensures c.in-Some.number c.in-Some.is
    (ap (λ (l : List ℕ). list_any (λ m. m == c.in-Some.number) l) (sym c.self.view_is) ∙ sym (looked_up c.self.inside.numbers c.in-Some.number) ∙ sym c.contains.ensures ∙ c.if-not-contains.true)

pub returns : goal.returns
returns c = λ puts same.
    number_text puts c.args.self.now c.args.last.now c.number_of.result same (subst NumbersFit c.self.view_is c.self.invariant) c.number_of.ensures c.in-Some.number c.in-Some.is
    (ap (λ (l : List ℕ). list_any (λ m. m == c.in-Some.number) l) (sym c.self.view_is) ∙ sym (looked_up c.self.inside.numbers c.in-Some.number) ∙ sym c.contains.ensures ∙ c.if-not-contains.false) c.eq.result (cc (c.eq.ensures, c.get.ensures, c.in_ok-digits.ensures.text, c.from.ensures))
