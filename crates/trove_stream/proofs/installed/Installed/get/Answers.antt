use Rattle.std.proofs.Common.{List, slice_get, sym, ap, ◌∙◌}
use Rattle.trove_stream.specs.declared.parts.TroveParts.{TroveParts}
use Rattle.trove_stream.proofs.Places.{at_place, item_at, missed}
use Rattle.trove_stream.proofs.installed.Installed.get.Goals as goal

pub returns-in-Some : goal.returns-in-Some
returns-in-Some c =
    item_at c.troves.result.now c.in-Some.place c.get.result c.get.ensures.lookup
    ∙ ap (λ (l : List TroveParts). slice_get l c.in-Some.place) c.troves.ensures.value
    ∙ at_place c.args.self.now c.args.name.now c.in-Some.place c.troves.ensures.rising c.in-Some.ensures.some

pub returns-in-None : goal.returns-in-None
returns-in-None c = sym (missed c.args.self.now c.args.name.now c.in-None.ensures.none)
