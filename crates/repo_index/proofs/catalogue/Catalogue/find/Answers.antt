use Rattle.std.proofs.Common.{sym, ◌∙◌}
use Rattle.std.proofs.lemmas.Option.{none-some}
use Rattle.repo_index.proofs.Placing.{found_at_place, found_at_none}
use Rattle.repo_index.proofs.catalogue.Catalogue.find.Goals as goal

pub returns-in-Some : goal.returns-in-Some
returns-in-Some c =
    c.trove_at.ensures ∙ sym (found_at_place c.args.self.now.troves c.args.id.now _ c.place_by_id.ensures.distinct c.in-Some.ensures.place)

pub returns-in-None : goal.returns-in-None
returns-in-None c =
    sym (found_at_none c.args.self.now.troves c.args.id.now (λ place at. none-some place (c.in-None.ensures.only place at)))
