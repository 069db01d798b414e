use Rattle.std.proofs.Common.{List, ◌+◌, take, sym, subst}
use Rattle.std.specs.Prelude.{All}
use Rattle.std.specs.List.{AllZip}
use Rattle.std.proofs.lemmas.List.Elements.{All-push}
use Rattle.manifest_troves.specs.trove-parts.Files.{IsFileAt}
use Rattle.manifest_troves.specs.trove-parts.declared.files.FileAt.{FileAt}
use Rattle.cny_pack.specs.Judged.{StandsFor}
use Rattle.cny_pack.proofs.Entering.{zip_next}
use Rattle.cny_pack.proofs.judge.files_of.Goals as goal

pub loop-sight-preserved : goal.loop-sight-preserved
loop-sight-preserved c = (
  subst (λ (l : List FileAt). AllZip StandsFor (take (c.loop-sight.sight-index + 1) c.args.sights.now) l) (sym c.in_ok-push.ensures.items)
      (zip_next StandsFor c.args.sights.now c.loop-sight.sight-index c.sight-item.result c.loop-sight.files.items c.in_ok-file_of.field-0 c.loop-sight-test.true c.sight-item.is c.loop-sight.invariant.0 c.in_ok-file_of.ensures.stands),
  subst (λ (l : List FileAt). All IsFileAt l) (sym c.in_ok-push.ensures.items) (All-push IsFileAt c.loop-sight.files.items c.in_ok-file_of.field-0 c.loop-sight.invariant.1 c.in_ok-file_of.ensures.valid),
)
