use Rattle.std.proofs.Common.{sym, subst}
use Rattle.job_targets.specs.Carrying.{AreStagedPuts}
use Rattle.job_targets.proofs.GatherLaws.{gathers_answer}
use Rattle.job_targets.proofs.Listed.{rises_as}
use Rattle.job_targets.proofs.WholeWrites.{staged_puts}
use Rattle.job_targets.proofs.puts.puts_of.Goals as goal

pub unreachable-requires : goal.unreachable-requires
unreachable-requires g c = c.in-None.ensures.none (rises_as (g.I.Carries.gives c.args.carried.now) c.args.planned.now c.in_ok-puts.puts.items c.requires.in_order c.in_ok-puts.ensures.have)

pub returns-clause-gathers : goal.returns-clause-gathers
returns-clause-gathers g c =
    let listed = g.I.Carries.listed c.args.carried.now in
    let answers = g.C.Contents.contents.answers c.args.far.now in
    let tree = g.T.TreeDisk.disk.reads c.args.root.now in
    gathers_answer c.in_ok-puts.ensures.gathers
    (λ tells are. subst (AreStagedPuts (listed tree) answers tree c.args.planned.now) (sym c.in-Some.ensures.some) (staged_puts (listed tree) answers tree c.args.planned.now c.in_ok-puts.puts.items are))
