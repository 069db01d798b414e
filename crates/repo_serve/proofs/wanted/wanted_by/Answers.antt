use Rattle.std.proofs.Common.{ℕ, List, Option, subst}
use Rattle.std.specs.Prelude.{MatchOption}
use Rattle.repo_load.specs.trove-stream.FilesOf.{files_of}
use Rattle.repo_serve.specs.Wanted.{AreSizesOf, HasTwoSizes}
use Rattle.repo_serve.proofs.Wanting.{none_sized, wanted_are}
use Rattle.repo_serve.proofs.wanted.wanted_by.Goals as goal

pub returns : goal.returns
returns c =
    let files = files_of c.args.troves.now in
    wanted_are files c.add_all.new.sizes c.in_ok-list_of.field-0.items c.in_ok-list_of.ensures.ordered c.in_ok-list_of.ensures.list
    (subst (λ (o : Option (List ℕ)). MatchOption o (AreSizesOf files c.add_all.new.sizes) (HasTwoSizes files)) c.in_default.is (c.in_ok-name.ensures (none_sized c.new-sizes.result c.new-sizes.ensures.empty)))
