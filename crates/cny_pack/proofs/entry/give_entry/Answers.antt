use Rattle.std.proofs.Common.{sym, subst}
use Rattle.std.proofs.lemmas.Result.{on_ok_weaker}
use Rattle.tree_disk.specs.declared.disk.Look.{Look}
use Rattle.cny_pack.specs.Entries.{GivesEntry}
use Rattle.cny_pack.proofs.Entering.{link_given}
use Rattle.std.proofs.Common.{ap, ◌∙◌}
use Rattle.std.specs.Prelude.{IfErr}
use Rattle.std.proofs.lemmas.Result.{IfErr-weaker}
use Rattle.tree_disk.specs.Looks.{sees_link, size_seen}
use Rattle.tree_disk.specs.cny-base.Count.{Rose}
use Rattle.cny_pack.specs.Causes.{CannotEnter}
use Rattle.cny_pack.specs.Halts.{IsHalt, Never, OnlyNoOwner}
use Rattle.cny_pack.proofs.Giving.{file_of_size}
use Rattle.cny_pack.proofs.Stopping.{owner_enters, halt_more}
use Rattle.tree_disk.specs.Looks.{sees_nothing}
use Rattle.tree_disk.specs.declared.disk.Look.TheVariants as look
use Rattle.tree_disk.proofs.Children.{clash}
use Rattle.cny_pack.specs.Plan.{CanStand}
use Rattle.cny_pack.proofs.Planning.{small, something}
use Rattle.cny_pack.proofs.entry.give_entry.Goals as goal

pub returns-in-Link-clause-given : goal.returns-in-Link-clause-given
returns-in-Link-clause-given g c =
    let written = g.S.Sink.sink.written in
    let tells = g.D.TreeDisk.disk.tells in
    let tree = g.D.TreeDisk.disk.reads c.args.disk.now in
    let sight = c.args.sight.now in
    on_ok_weaker c.give_link.result
    (λ is.
    subst (λ (l : Look). GivesEntry g.O.Owners.owns c.args.config.now tells tree sight.path l (written c.args.out.now) (written c.give_link.new.out)) (sym c.in-Link.is)
    (link_given g.O.Owners.owns c.args.config.now tells tree sight.path c.in-Link.target (written c.args.out.now) (written c.give_link.new.out) is))
    c.give_link.ensures.given

pub give_file-requires-clause-file : goal.give_file-requires-clause-file
give_file-requires-clause-file g c told =
    let sight = c.args.sight.now in
    file_of_size (g.D.TreeDisk.disk.reads c.args.disk.now) sight.path c.in-File.size (ap size_seen (sym (c.requires.seen told) ∙ c.in-File.is))

pub returns-in-Dir-clause-stops : goal.returns-in-Dir-clause-stops
returns-in-Dir-clause-stops g c =
    let sight = c.args.sight.now in
    let only = OnlyNoOwner (g.O.Owners.lacks sight.path) in
    let disk = Rose (g.D.TreeDisk.disk.faults c.args.disk.now) (g.D.TreeDisk.disk.faults c.args.disk.now) in
    let sink = Rose (g.S.Sink.sink.faults c.args.out.now) (g.S.Sink.sink.faults c.give_dir.new.out) in
    IfErr-weaker c.give_dir.result (IsHalt only ⊥ sink) (IsHalt (CannotEnter g.O.Owners.lacks g.D.TreeDisk.disk.tells sight.path sight.look) disk sink)
    (λ h is. halt_more h only (CannotEnter g.O.Owners.lacks g.D.TreeDisk.disk.tells sight.path sight.look) ⊥ disk sink sink (λ why one. owner_enters g.O.Owners.lacks g.D.TreeDisk.disk.tells sight.path sight.look why (ap sees_link c.in-Dir.is) one) (λ none. absurd none) (λ rose. rose) is) c.give_dir.ensures.stops

pub returns-in-Link-clause-stops : goal.returns-in-Link-clause-stops
returns-in-Link-clause-stops g c =
    let sight = c.args.sight.now in
    let disk = Rose (g.D.TreeDisk.disk.faults c.args.disk.now) (g.D.TreeDisk.disk.faults c.args.disk.now) in
    let sink = Rose (g.S.Sink.sink.faults c.args.out.now) (g.S.Sink.sink.faults c.give_link.new.out) in
    IfErr-weaker c.give_link.result (IsHalt Never ⊥ sink) (IsHalt (CannotEnter g.O.Owners.lacks g.D.TreeDisk.disk.tells sight.path sight.look) disk sink)
    (λ h is. halt_more h Never (CannotEnter g.O.Owners.lacks g.D.TreeDisk.disk.tells sight.path sight.look) ⊥ disk sink sink (λ why never. absurd never) (λ none. absurd none) (λ rose. rose) is) c.give_link.ensures.stops

pub returns-in-File-clause-stops : goal.returns-in-File-clause-stops
returns-in-File-clause-stops g c =
    let sight = c.args.sight.now in
    let disk = Rose (g.D.TreeDisk.disk.faults c.args.disk.now) (g.D.TreeDisk.disk.faults c.give_file.new.disk) in
    let sink = Rose (g.S.Sink.sink.faults c.args.out.now) (g.S.Sink.sink.faults c.give_file.new.out) in
    subst (λ (l : Look). IfErr c.give_file.result (IsHalt (CannotEnter g.O.Owners.lacks g.D.TreeDisk.disk.tells sight.path l) disk sink)) (sym c.in-File.is) c.give_file.ensures.stops

pub unreachable-requires : goal.unreachable-requires
unreachable-requires g c =
    let sight = c.args.sight.now in
    clash (sees_nothing sight.look) (ap sees_nothing c.in-Nothing.is) (something sight.path sight.look c.requires.can)

pub give_file-requires-clause-small : goal.give_file-requires-clause-small
give_file-requires-clause-small g c =
    let path = c.args.sight.now.path in
    let can : CanStand (record { path = path; look = look.File c.in-File.mode c.in-File.size }) = subst (λ (l : Look). CanStand (record { path = path; look = l })) c.in-File.is c.requires.can in
    small path c.in-File.mode c.in-File.size can
