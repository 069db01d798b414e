use Rattle.std.proofs.Common.{◌∙◌, sym, true≢false}
use Rattle.std.proofs.lemmas.Option.{none-some}
use Rattle.repo_index.proofs.search.is_place_of.Goals as goal

pub returns-in-None : goal.returns-in-None
returns-in-None c = (
  (λ t. absurd (true≢false (sym t))),
  (λ is. absurd (none-some is.trove (c.in-None.ensures ∙ is.stands))),
)
