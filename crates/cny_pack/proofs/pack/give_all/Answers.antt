use Rattle.std.proofs.Common.{ℕ, ◌≤◌, List, subst, arith}
use Rattle.std.specs.Io.KnownBytes.{Appends}
use Rattle.tree_disk.proofs.Moments.{rose_before}
use Rattle.cny_pack.proofs.Entering.{all_given}
use Rattle.cny_pack.proofs.Stopping.{handed, stop_more}
use Rattle.tree_disk.specs.cny-base.Count.{Rose}
use Rattle.cny_pack.specs.Causes.{IsFirstWithout}
use Rattle.cny_pack.specs.Halts.{IsGivingStop}
use Rattle.cny_pack.proofs.pack.give_all.Goals as goal

pub returns-clause-given : goal.returns-clause-given
returns-clause-given g c =
    let written = g.S.Sink.sink.written in
    all_given g.O.Owners.owns c.args.config.now g.D.TreeDisk.disk.tells (g.D.TreeDisk.disk.reads c.args.disk.now) c.args.text.now c.args.sights.now (written c.args.out.now) (written c.give.new.out) (written c.give_entries.new.out)
    (written c.give-2.new.out) (subst (λ (l : List ℕ). Appends (written c.args.out.now) (written c.give.new.out) l) c.get.ensures c.in_ok-give.ensures.given) c.in_ok-give_entries.ensures.given c.in_ok-give-2.ensures.given

pub returns-in_err-give-clause-stops : goal.returns-in_err-give-clause-stops
returns-in_err-give-clause-stops g c =
    let sink = Rose (g.S.Sink.sink.faults c.args.out.now) (g.S.Sink.sink.faults c.give.new.out) in
    let disk = Rose (g.D.TreeDisk.disk.faults c.args.disk.now) (g.D.TreeDisk.disk.faults c.args.disk.now) in
    let other = IsFirstWithout g.O.Owners.owns g.O.Owners.lacks c.args.config.now g.D.TreeDisk.disk.tells (g.D.TreeDisk.disk.reads c.args.disk.now) c.args.sights.now in
    handed c.from_residual-in_err-give.result _ (IsGivingStop other disk sink) c.from_residual-in_err-give.ensures.1 (stop_more _ (λ path why. ⊥) other ⊥ disk sink sink (λ path why never. absurd never) (λ none. absurd none) (λ rose. rose) c.in_err-give.ensures.stops)

pub returns-in_err-give_entries-clause-stops : goal.returns-in_err-give_entries-clause-stops
returns-in_err-give_entries-clause-stops g c =
    let faults = g.S.Sink.sink.faults in
    let sink = Rose (faults c.args.out.now) (faults c.give_entries.new.out) in
    let mid = Rose (faults c.give.new.out) (faults c.give_entries.new.out) in
    let disk = Rose (g.D.TreeDisk.disk.faults c.args.disk.now) (g.D.TreeDisk.disk.faults c.give_entries.new.disk) in
    let other = IsFirstWithout g.O.Owners.owns g.O.Owners.lacks c.args.config.now g.D.TreeDisk.disk.tells (g.D.TreeDisk.disk.reads c.args.disk.now) c.args.sights.now in
    handed c.from_residual-in_err-give_entries.result _ (IsGivingStop other disk sink) c.from_residual-in_err-give_entries.ensures.1
    (stop_more _ other other disk disk mid sink (λ path why is. is) (λ rose. rose) (rose_before (faults c.args.out.now) (faults c.give.new.out) (faults c.give_entries.new.out) c.in_ok-give.ensures.later) c.in_err-give_entries.ensures.stops)

pub returns-in_err-give-2-clause-stops : goal.returns-in_err-give-2-clause-stops
returns-in_err-give-2-clause-stops g c =
    let faults = g.S.Sink.sink.faults in
    let before : faults c.args.out.now ≤ faults c.give_entries.new.out = omega (arith, c.in_ok-give.ensures.later, c.in_ok-give_entries.ensures.counts.sink_later) in
    let sink = Rose (faults c.args.out.now) (faults c.give-2.new.out) in
    let mid = Rose (faults c.give_entries.new.out) (faults c.give-2.new.out) in
    let disk = Rose (g.D.TreeDisk.disk.faults c.args.disk.now) (g.D.TreeDisk.disk.faults c.give_entries.new.disk) in
    let other = IsFirstWithout g.O.Owners.owns g.O.Owners.lacks c.args.config.now g.D.TreeDisk.disk.tells (g.D.TreeDisk.disk.reads c.args.disk.now) c.args.sights.now in
    handed c.from_residual-in_err-give-2.result _ (IsGivingStop other disk sink) c.from_residual-in_err-give-2.ensures.1
    (stop_more _ (λ path why. ⊥) other ⊥ disk mid sink (λ path why never. absurd never) (λ none. absurd none) (rose_before (faults c.args.out.now) (faults c.give_entries.new.out) (faults c.give-2.new.out) before) c.in_err-give-2.ensures.stops)
