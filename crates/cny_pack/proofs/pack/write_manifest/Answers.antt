use Rattle.std.proofs.Common.{false, IsTrue, List, sym, refl, ◌∙◌, subst}
use Rattle.std.specs.Prelude.{All}
use Rattle.tree_disk.specs.Tree.{Tree}
use Rattle.tree_disk.proofs.Moments.{rose_before}
use Rattle.tree_disk.specs.cny-base.Count.{Rose}
use Rattle.cny_pack.specs.Causes.{IsFirstWithout, IsCause}
use Rattle.cny_pack.specs.Plan.{CanStand, IsAsSeen, sights_of}
use Rattle.cny_pack.specs.declared.plan.Sight.{Sight}
use Rattle.cny_pack.proofs.Causing.{are_sights, as_seen, head_cause, look_cause, judge_cause, refused_cause, give_cause, not_judged}
use Rattle.cny_pack.proofs.Packing.{pack_written}
use Rattle.cny_pack.proofs.Planning.{can_stand, sights_rise}
use Rattle.cny_pack.proofs.Stopping.{handed, stop_more}
use Rattle.cny_pack.proofs.pack.write_manifest.Goals as goal

pub judge-requires : goal.judge-requires
judge-requires g c = subst (λ (l : List Sight). All CanStand l) (sym (c.as_slice-sights.ensures.value ∙ c.in_ok-planned.ensures.planned)) (can_stand c.in_ok-seen.seen.entries)

pub give_all-requires-clause-can : goal.give_all-requires-clause-can
give_all-requires-clause-can g c = subst (λ (l : List Sight). All CanStand l) (sym (c.as_slice-sights.ensures.value ∙ c.in_ok-planned.ensures.planned)) (can_stand c.in_ok-seen.seen.entries)

pub give_all-requires-clause-seen : goal.give_all-requires-clause-seen
give_all-requires-clause-seen g c told =
    let reads = g.D.TreeDisk.disk.reads in
    let sights = c.in_ok-planned.ensures in
    subst (λ (l : List Sight). All (IsAsSeen (reads c.find.new.disk)) l) (sym (c.as_slice-sights.ensures.value ∙ sights.planned))
    (subst (λ (t : Tree). All (IsAsSeen t) (sights_of c.in_ok-seen.seen.entries)) (sym (c.in_ok-seen.ensures.same told))
    (as_seen (reads c.args.disk.now) c.args.rules.skip (sights_of c.in_ok-seen.seen.entries) (are_sights (reads c.args.disk.now) c.in_ok-seen.seen (c.in_ok-seen.ensures.found told) sights.ordered c.args.rules.skip sights.fit)))

pub returns-clause-written : goal.returns-clause-written
returns-clause-written g c =
    let written = g.S.Sink.sink.written in
    let reads = g.D.TreeDisk.disk.reads in
    let sights = c.in_ok-planned.ensures in
    let first = c.as_slice-sights.ensures.value ∙ sights.planned in
    pack_written g.O.Owners.owns c.args.rules g.D.TreeDisk.disk.tells (reads c.args.disk.now) (reads c.find.new.disk) c.args.words c.in_ok-head.head (sights_of c.in_ok-seen.seen.entries) c.in_ok-text.text (written c.args.out.now) (written c.give_all.new.out)
    c.in_ok-head.ensures.head (λ told. are_sights (reads c.args.disk.now) c.in_ok-seen.seen (c.in_ok-seen.ensures.found told) sights.ordered c.args.rules.skip sights.fit) (sights_rise c.in_ok-seen.seen sights.ordered) c.in_ok-seen.ensures.same
    c.in_ok-text.ensures.text (rw first at c.in_ok-text.ensures.judged) (rw first at c.in_ok-give_all.ensures.given)

pub returns-in_err-head-clause-cause : goal.returns-in_err-head-clause-cause
returns-in_err-head-clause-cause g c =
    handed c.from_residual.result _ _ c.from_residual.ensures.1
    (head_cause g.O.Owners.owns g.O.Owners.lacks c.args.rules g.D.TreeDisk.disk.tells (g.D.TreeDisk.disk.reads c.args.disk.now) c.args.words _ _ _ c.in_err-head.ensures.refused)

pub returns-in_err-seen-clause-cause : goal.returns-in_err-seen-clause-cause
returns-in_err-seen-clause-cause g c =
    handed c.from_residual-in_err-seen.result _ (IsCause g.O.Owners.owns g.O.Owners.lacks c.args.rules g.D.TreeDisk.disk.tells (g.D.TreeDisk.disk.reads c.args.disk.now) c.args.words (Rose (g.D.TreeDisk.disk.faults c.args.disk.now) (g.D.TreeDisk.disk.faults c.find.new.disk)) (Rose (g.S.Sink.sink.faults c.args.out.now) (g.S.Sink.sink.faults c.args.out.now))) c.from_residual-in_err-seen.ensures.1
    (look_cause g.O.Owners.owns g.O.Owners.lacks c.args.rules g.D.TreeDisk.disk.tells (g.D.TreeDisk.disk.reads c.args.disk.now) c.args.words (Rose (g.D.TreeDisk.disk.faults c.args.disk.now) (g.D.TreeDisk.disk.faults c.find.new.disk)) (Rose (g.S.Sink.sink.faults c.args.out.now) (g.S.Sink.sink.faults c.args.out.now)) _ c.in_err-seen.ensures.stops)

pub returns-in_err-planned-clause-cause : goal.returns-in_err-planned-clause-cause
returns-in_err-planned-clause-cause g c =
    handed c.from_residual-in_err-planned.result _ _ c.from_residual-in_err-planned.ensures.1
    (refused_cause g.O.Owners.owns g.O.Owners.lacks c.args.rules g.D.TreeDisk.disk.tells (g.D.TreeDisk.disk.reads c.args.disk.now) c.args.words _ _ c.in_ok-seen.seen c.in_ok-head.ensures.good c.in_ok-seen.ensures.found c.in_err-planned.ensures.ordered _
    c.in_err-planned.ensures.refused)

pub returns-in_err-text-clause-cause : goal.returns-in_err-text-clause-cause
returns-in_err-text-clause-cause g c =
    let sights = c.in_ok-planned.ensures in
    let first = c.as_slice-sights.ensures.value ∙ sights.planned in
    let head = c.in_ok-head.head in
    handed c.from_residual-in_err-text.result _ _ c.from_residual-in_err-text.ensures.1
    (judge_cause g.O.Owners.owns g.O.Owners.lacks c.args.rules g.D.TreeDisk.disk.tells (g.D.TreeDisk.disk.reads c.args.disk.now) c.args.words _ _ head.id head.requires_ head.provides (sights_of c.in_ok-seen.seen.entries) _
    (record {
      good = c.in_ok-head.ensures.good;
      says = c.in_ok-head.ensures.head.says;
      are = λ told. are_sights (g.D.TreeDisk.disk.reads c.args.disk.now) c.in_ok-seen.seen (c.in_ok-seen.ensures.found told) sights.ordered c.args.rules.skip sights.fit;
    })
    (rw first at c.in_err-text.ensures.stops))

pub returns-in_err-give_all-clause-cause : goal.returns-in_err-give_all-clause-cause
returns-in_err-give_all-clause-cause g c =
    let faults = g.D.TreeDisk.disk.faults in
    let sights = c.in_ok-planned.ensures in
    let first = c.as_slice-sights.ensures.value ∙ sights.planned in
    let head = c.in_ok-head.head in
    let disk = Rose (faults c.args.disk.now) (faults c.give_all.new.disk) in
    let sink = Rose (g.S.Sink.sink.faults c.args.out.now) (g.S.Sink.sink.faults c.give_all.new.out) in
    let cannot = IsFirstWithout g.O.Owners.owns g.O.Owners.lacks c.args.rules.config.now g.D.TreeDisk.disk.tells (g.D.TreeDisk.disk.reads c.find.new.disk) (sights_of c.in_ok-seen.seen.entries) in
    handed c.from_residual-in_err-give_all.result _ (IsCause g.O.Owners.owns g.O.Owners.lacks c.args.rules g.D.TreeDisk.disk.tells (g.D.TreeDisk.disk.reads c.args.disk.now) c.args.words disk sink) c.from_residual-in_err-give_all.ensures.1
    (give_cause g.O.Owners.owns g.O.Owners.lacks c.args.rules g.D.TreeDisk.disk.tells (g.D.TreeDisk.disk.reads c.args.disk.now) c.args.words disk sink (g.D.TreeDisk.disk.reads c.find.new.disk) head.id head.requires_ head.provides (sights_of c.in_ok-seen.seen.entries) _
    (record {
      good = c.in_ok-head.ensures.good;
      says = c.in_ok-head.ensures.head.says;
      are = λ told. are_sights (g.D.TreeDisk.disk.reads c.args.disk.now) c.in_ok-seen.seen (c.in_ok-seen.ensures.found told) sights.ordered c.args.rules.skip sights.fit;
    })
    (rw first at c.in_ok-text.ensures.judged) c.in_ok-seen.ensures.same
    (stop_more _ cannot cannot (Rose (faults c.find.new.disk) (faults c.give_all.new.disk)) (Rose (faults c.args.disk.now) (faults c.give_all.new.disk)) sink sink (λ path why is. is)
    (rose_before (faults c.args.disk.now) (faults c.find.new.disk) (faults c.give_all.new.disk) c.in_ok-seen.ensures.later) (λ rose. rose) (rw first at c.in_err-give_all.ensures.stops)))

pub returns-in_err-give_all-clause-unwritten : goal.returns-in_err-give_all-clause-unwritten
returns-in_err-give_all-clause-unwritten g c =
    handed c.from_residual-in_err-give_all.result _ _ c.from_residual-in_err-give_all.ensures.1
    (not_judged g.O.Owners.owns g.O.Owners.lacks c.args.rules.config.now g.D.TreeDisk.disk.tells (g.D.TreeDisk.disk.reads c.find.new.disk) c.as_slice-sights.result.now
    (Rose (g.D.TreeDisk.disk.faults c.find.new.disk) (g.D.TreeDisk.disk.faults c.give_all.new.disk)) (Rose (g.S.Sink.sink.faults c.args.out.now) (g.S.Sink.sink.faults c.give_all.new.out)) _ _ c.in_err-give_all.ensures.stops)
