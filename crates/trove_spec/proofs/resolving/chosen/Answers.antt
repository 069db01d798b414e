use Rattle.std.proofs.Common.{◌≡◌, List, filter, Some, None, option_copied, sym, ap, ◌∙◌}
use Rattle.std.specs.List.{last_or}
use Rattle.repo_index.specs.trove-parts.declared.id.TroveId.{TroveId}
use Rattle.repo_index.specs.trove-stream.declared.parts.TroveParts.{TroveParts}
use Rattle.repo_index.specs.Catalogue.{named}
use Rattle.trove_spec.specs.Resolve.{best, is_wanted, candidates_of}
use Rattle.trove_spec.proofs.Choosing.{wanted_are, chosen_is}
use Rattle.trove_spec.proofs.resolving.chosen.Goals as goal

pub returns : goal.returns
returns c =
    let label = option_copied c.args.label in
    let version = option_copied c.args.version in
    let system = c.args.system.now in
    let troves = c.args.catalogue.now.troves in
    let last = c.in_ok-last.last.now in
    let own = named c.args.name.now troves in
    let candidates = candidates_of label version system own in
    let there : last_or None candidates ≡ Some last = ap (λ (l : List TroveParts). last_or None (candidates_of label version system l)) (sym c.by_name-places.ensures.troves) ∙ sym c.in_ok-last.ensures in
    c.best_candidate.ensures
    ∙ ap (λ (l : List TroveParts). best system (filter (is_wanted label version system c.id.result.now.version) l)) c.by_name-places.ensures.troves
    ∙ ap (λ (id : TroveId). best system (filter (is_wanted label version system id.version) own)) c.id.ensures.value
    ∙ ap (best system) (sym (wanted_are label version system last.id.version own))
    ∙ sym (chosen_is system candidates last there)
