use Rattle.std.proofs.Common.{◌∙◌, sym}
use Rattle.cny_dep.proofs.Found.{search_found}
use Rattle.cny_dep.proofs.satisfying.has_flag.Goals as goal

pub returns : goal.returns
returns c =
    let found = search_found c.args.flags.now c.args.flag.now c.binary_search.result c.requires c.binary_search.ensures.bound c.binary_search.ensures.ok c.binary_search.ensures.position in
    (λ h. found.0 (sym c.is_ok.ensures.value ∙ h), λ h. c.is_ok.ensures.value ∙ found.1 h)
