use Rattle.std.proofs.Common.{ℕ, List, ◌==◌, ap, ◌∙◌}
use Rattle.std.specs.List.{list_any}
use Rattle.journal_log.proofs.NumberSets.{looked_up}
use Rattle.journal_log.proofs.staged.StagedNumbers.contains.Goals as goal

pub returns : goal.returns
returns c = c.contains.ensures ∙ looked_up c.self.inside.numbers c.args.number ∙ ap (λ (l : List ℕ). list_any (λ m. m == c.args.number) l) c.self.view_is
