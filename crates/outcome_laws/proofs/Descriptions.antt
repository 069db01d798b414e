-- `showcs` has one outcome.
use Rattle.std.proofs.Common.{List, ℕ, Ok, Err, sym, ap, ◌∙◌}
use Rattle.conary_cli.specs.repo-commands.ShowChangeSet.{described, show_change_set, IsDescribed}
use Rattle.outcome_laws.specs.OneOutcome.{AtMostOne, HasOneOutcome}
use Rattle.outcome_laws.proofs.Tests.{done, refused, with_shared, SetLaws}

described_once : SetLaws → (bytes : List ℕ) → AtMostOne (IsDescribed bytes)
described_once laws bytes (Ok x) (Ok y) h g = ap done (h.2 ∙ ap described (laws.set h.0 g.0 bytes h.1 g.1) ∙ sym g.2)
described_once laws bytes (Ok x) (Err q) h g = absurd (g.1 h.0 h.1)
described_once laws bytes (Err p) (Ok y) h g = absurd (h.1 g.0 g.1)
described_once laws bytes (Err p) (Err q) h g = ap refused (laws.fault bytes p q h.0 g.0)

pub description_once : SetLaws → HasOneOutcome show_change_set
description_once laws = with_shared show_change_set (λ s input state. described_once laws input)
