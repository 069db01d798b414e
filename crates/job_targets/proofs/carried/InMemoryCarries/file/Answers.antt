use Rattle.std.proofs.Common.{refl, sym, subst}
use Rattle.job_targets.specs.Old.{IsContent}
use Rattle.job_targets.proofs.Carrying.{carried_content_is}
use Rattle.job_targets.proofs.carried.InMemoryCarries.file.Goals as goal

pub returns-in_ok-bytes-in-Some-clause-marked : goal.returns-in_ok-bytes-in-Some-clause-marked
returns-in_ok-bytes-in-Some-clause-marked c =
    let content : IsContent c.args.size c.args.name.now c.in_ok-bytes-in-Some.bytes = subst (IsContent c.args.size c.args.name.now) (sym c.in_ok-bytes-in-Some.ensures)
    (carried_content_is c.args.self.now.contents.now c.args.size c.args.name.now c.in-Some.bytes.now c.requires.hash c.in-Some.ensures) in
    let long = content.long in
    let named = content.named in
    record { gives = refl; marked = cc (long, named) }
