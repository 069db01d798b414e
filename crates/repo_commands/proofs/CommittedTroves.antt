-- The troves of a catalogue keep their rules, and refer only to one another.
use Rattle.std.proofs.Common.{List, [], All, sym, subst}
use Rattle.cli_call.specs.trove-stream.declared.parts.TroveParts.{TroveParts}
use Rattle.cli_call.specs.trove-stream.Trove.{IsTrove}
use Rattle.repo_index.specs.Catalogue.{CatalogueParts}
use Rattle.repo_load.specs.State.{troves_of}
use Rattle.repo_load.specs.Loading.{IsCatalogue}
use Rattle.repo_mirror.proofs.SentSets.{are_troves}
use Rattle.repo_shadow.specs.Within.{AllReferWithin, AllRefsAreFound}

pub refer_within : ((troves : List TroveParts) → All IsTrove troves → AllRefsAreFound troves → AllReferWithin troves) → (catalogue : CatalogueParts) → IsCatalogue catalogue → AllReferWithin catalogue.troves
refer_within law catalogue rules =
    subst (λ (c : CatalogueParts). AllReferWithin c.troves) (sym rules.is) (law (troves_of rules.commits) (are_troves [] rules.commits rules.rules.following) rules.rules.refs)
