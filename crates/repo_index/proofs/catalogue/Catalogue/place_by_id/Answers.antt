use Rattle.std.proofs.Common.{◌≡◌, List, IfSome, sym, ap, subst, ◌∙◌}
use Rattle.trove_stream.specs.declared.parts.TroveParts.{TroveParts}
use Rattle.repo_index.specs.declared.places_by_id.PlacesById.{PlacesById}
use Rattle.repo_index.specs.Catalogue.{CatalogueParts, HasDistinctIds}
use Rattle.repo_index.specs.Index.{AreKept}
use Rattle.repo_index.specs.Places.{HasIdAt}
use Rattle.repo_index.proofs.catalogue.Catalogue.place_by_id.Goals as goal

pub place_by_id-requires-clause-distinct : goal.place_by_id-requires-clause-distinct
place_by_id-requires-clause-distinct c = subst HasDistinctIds (sym c.troves.ensures.value) c.troves.ensures.distinct

pub place_by_id-requires-clause-kept : goal.place_by_id-requires-clause-kept
place_by_id-requires-clause-kept c =
    let own : c.self.inside.troves.items ≡ c.args.self.now.troves = ap (λ (v : CatalogueParts). v.troves) c.self.view_is in
    let kept : AreKept c.troves.result.now c.self.inside.index.ids =
    subst (λ (l : List TroveParts). AreKept l c.self.inside.index.ids) (own ∙ sym c.troves.ensures.value) c.self.invariant.index_is.ids in
    subst (λ (p : PlacesById). AreKept c.troves.result.now p) (sym c.ids.ensures) kept

pub returns-clause-place : goal.returns-clause-place
returns-clause-place c =
    subst (λ (l : List TroveParts). IfSome c.place_by_id.result (HasIdAt l c.args.id.now)) c.troves.ensures.value c.place_by_id.ensures.place

pub returns-clause-only : goal.returns-clause-only
returns-clause-only c place at =
    c.place_by_id.ensures.only place (subst (λ (l : List TroveParts). HasIdAt l c.args.id.now place) (sym c.troves.ensures.value) at)
