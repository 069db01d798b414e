use Rattle.std.proofs.Common.{sym, ◌∙◌}
use Rattle.repo_shadow.proofs.Lookups.{from_place, to_place}
use Rattle.repo_shadow.proofs.within.has_id.Goals as goal

pub returns : goal.returns
returns c =
    let troves = c.args.catalogue.now.troves in
    let id = c.args.id.now in
    let place = c.place_of.result in (
      (λ found. from_place troves id place c.place_of.ensures.place (sym c.is_some.ensures ∙ found)),
      (λ has. c.is_some.ensures ∙ to_place troves id place c.place_of.ensures.only has),
    )
