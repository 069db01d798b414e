use Rattle.std.proofs.Common.{ap, ◌∙◌}
use Rattle.local_db.specs.trove-stream.Installed.{trove_of}
use Rattle.past_jobs.specs.Past.{Past}
use Rattle.past_jobs.proofs.Maps.{found_in}
use Rattle.past_jobs.proofs.past_list.PastList.get.Goals as goal

pub returns : goal.returns
returns c =
    c.get.ensures.value
    ∙ found_in c.self.inside.format c.self.inside.table.troves c.self.inside.table.marks c.self.inside.table.len c.self.invariant.indexed c.args.name.now
    ∙ ap (λ (p : Past). trove_of c.args.name.now p.troves) c.self.view_is
