use Rattle.std.proofs.Common.{◌∙◌}
use Rattle.cny_pack.proofs.Entering.{next_given, entry_from, first_without}
use Rattle.tree_disk.proofs.Moments.{rose_before}
use Rattle.cny_pack.proofs.Stopping.{counts_on, stop_from}
use Rattle.std.proofs.Common.{sym, subst}
use Rattle.std.proofs.lemmas.List.Elements.{All-contains}
use Rattle.tree_disk.specs.Tree.{Tree}
use Rattle.cny_pack.specs.Plan.{IsAsSeen}
use Rattle.tree_disk.specs.cny-base.Count.{Rose}
use Rattle.cny_pack.specs.Causes.{CannotEnter, IsFirstWithout}
use Rattle.cny_pack.proofs.entry.give_entries.Goals as goal

pub loop-sight-preserved : goal.loop-sight-preserved
loop-sight-preserved g c =
    let written = g.S.Sink.sink.written in
    let owns = g.O.Owners.owns in
    let config = c.args.config.now in
    let reads = g.D.TreeDisk.disk.reads in
    let tells = g.D.TreeDisk.disk.tells in
    let was = c.loop-sight.invariant in
    let sight = c.sight-item.result in
    record {
      given = next_given owns config tells (reads c.args.disk.now) c.args.sights.now c.loop-sight.sight-index sight (written c.args.out.now) (written c.loop-sight.out) (written c.give_entry.new.out) c.loop-sight-test.true c.sight-item.is was.given
          (entry_from owns config tells (reads c.loop-sight.disk) (reads c.args.disk.now) sight.path sight.look (written c.loop-sight.out) (written c.give_entry.new.out) was.same c.in-Ok.ensures.given);
      same = λ told. c.in-Ok.ensures.same told ∙ was.same told;
      counts = counts_on (g.D.TreeDisk.disk.faults c.args.disk.now) (g.D.TreeDisk.disk.faults c.loop-sight.disk) (g.D.TreeDisk.disk.faults c.give_entry.new.disk) (g.S.Sink.sink.faults c.args.out.now) (g.S.Sink.sink.faults c.loop-sight.out)
          (g.S.Sink.sink.faults c.give_entry.new.out) was.counts c.in-Ok.ensures.counts;
    }

pub returns-in-Err-clause-counts : goal.returns-in-Err-clause-counts
returns-in-Err-clause-counts g c =
    counts_on (g.D.TreeDisk.disk.faults c.args.disk.now) (g.D.TreeDisk.disk.faults c.loop-sight.disk) (g.D.TreeDisk.disk.faults c.give_entry.new.disk) (g.S.Sink.sink.faults c.args.out.now) (g.S.Sink.sink.faults c.loop-sight.out)
    (g.S.Sink.sink.faults c.give_entry.new.out) c.loop-sight.invariant.counts c.in-Err.ensures.counts

pub returns-in-Err-clause-stops : goal.returns-in-Err-clause-stops
returns-in-Err-clause-stops g c =
    let written = g.S.Sink.sink.written in
    let was = c.loop-sight.invariant in
    let sight = c.sight-item.result in
    stop_from (CannotEnter g.O.Owners.lacks g.D.TreeDisk.disk.tells sight.path sight.look) (IsFirstWithout g.O.Owners.owns g.O.Owners.lacks c.args.config.now g.D.TreeDisk.disk.tells (g.D.TreeDisk.disk.reads c.args.disk.now) c.args.sights.now)
    (Rose (g.D.TreeDisk.disk.faults c.loop-sight.disk) (g.D.TreeDisk.disk.faults c.give_entry.new.disk)) (Rose (g.D.TreeDisk.disk.faults c.args.disk.now) (g.D.TreeDisk.disk.faults c.give_entry.new.disk)) (Rose (g.S.Sink.sink.faults c.loop-sight.out) (g.S.Sink.sink.faults c.give_entry.new.out)) (Rose (g.S.Sink.sink.faults c.args.out.now) (g.S.Sink.sink.faults c.give_entry.new.out)) sight.path
    c.in-Err.halt c.stop_at.result
    (λ at why is cannot.
    first_without g.O.Owners.owns c.args.config.now g.D.TreeDisk.disk.tells (g.D.TreeDisk.disk.reads c.args.disk.now) g.O.Owners.lacks c.args.sights.now c.loop-sight.sight-index sight at why (written c.args.out.now) (written c.loop-sight.out)
    c.loop-sight-test.true c.sight-item.is was.given is cannot)
    (rose_before (g.D.TreeDisk.disk.faults c.args.disk.now) (g.D.TreeDisk.disk.faults c.loop-sight.disk) (g.D.TreeDisk.disk.faults c.give_entry.new.disk) was.counts.disk_later)
    (rose_before (g.S.Sink.sink.faults c.args.out.now) (g.S.Sink.sink.faults c.loop-sight.out) (g.S.Sink.sink.faults c.give_entry.new.out) was.counts.sink_later)
    c.stop_at.ensures c.in-Err.ensures.stops

pub give_entry-requires-clause-seen : goal.give_entry-requires-clause-seen
give_entry-requires-clause-seen g c told =
    let sights = c.args.sights.now in
    let sight = c.sight-item.result in
    subst (λ (t : Tree). IsAsSeen t sight) (sym (c.loop-sight.invariant.same told))
    (All-contains (IsAsSeen (g.D.TreeDisk.disk.reads c.args.disk.now)) sights sight (c.requires.seen told) (c.loop-sight.sight-index, c.loop-sight-test.true, sym c.sight-item.is))
