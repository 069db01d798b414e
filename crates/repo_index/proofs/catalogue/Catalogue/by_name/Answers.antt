use Rattle.std.proofs.Common.{◌≡◌, ℕ, List, [], ap, ◌∙◌}
use Rattle.repo_index.specs.Catalogue.{CatalogueParts, places_of}
use Rattle.repo_index.specs.Places.{troves_at}
use Rattle.repo_index.proofs.Searching.{picked_places}
use Rattle.trove_stream.specs.Installed.{has_name}
use Rattle.repo_index.proofs.catalogue.Catalogue.by_name.Goals as goal

pub returns-clause-troves : goal.returns-clause-troves
returns-clause-troves c =
    let troves = c.args.self.now.troves in
    let own : c.self.inside.troves.items ≡ troves = ap (λ (v : CatalogueParts). v.troves) c.self.view_is in
    let placed : c.places.result.now ≡ places_of c.args.name.now troves =
    c.places.ensures ∙ c.self.invariant.index_is.places c.text.result.now ∙ ap (λ (n : List ℕ). places_of n c.self.inside.troves.items) c.text.ensures.value
    ∙ ap (places_of c.args.name.now) own in
    ap (troves_at troves) placed ∙ picked_places (has_name c.args.name.now) [] troves
