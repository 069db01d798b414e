use Rattle.std.proofs.Common.{List, All, inl, sym, ap, subst, ◌∙◌}
use Rattle.update_job.specs.change-set.declared.change.Part.{Part}
use Rattle.update_job.specs.change-set.ChangeSet.{HasContents, IsPart}
use Rattle.update_job.specs.trove-stream.declared.parts.TroveParts.{TroveParts}
use Rattle.manifest_troves.specs.Contents.{IsCollisionOf}
use Rattle.root_edits.specs.Local.{IsLocal}
use Rattle.root_edits.specs.Moved.{too_long}
use Rattle.root_edits.specs.Steps.{IsUninstalled}
use Rattle.tree_scan.proofs.ReadingLaws.{reads_answer, reads_fault, reads_start, reads_stop}
use Rattle.root_edits.proofs.Stopping.{collision_stop, long_stop, size_stop, uninstalled_stop}
use Rattle.root_edits.proofs.Setting.{answered, first_large, first_long, refused_by, refused_collision, set_has_contents}
use Rattle.cny_version.specs.cny-base.Refusals.{IsRefusalOrMemory}
use Rattle.root_edits.proofs.changing.local.Goals as goal

pub returns-in_err-troves-clause-finds : goal.returns-in_err-troves-clause-finds
returns-in_err-troves-clause-finds g c =
    reads_fault c.in_err-troves.field-0.0 (reads_start g.met.T.TreeDisk.laws {Z = Unit {0}} {S = λ tree done. Unit {0}} {V = λ tree refused. ⊥} c.args.root.now tt (λ tells. tt)) c.from_residual.ensures.1
    (λ tells p refused e. inl (subst (IsUninstalled c.args.installed.now c.args.name.now) e c.in_err-troves.ensures.fault))

pub returns-in_err-ids-clause-finds : goal.returns-in_err-ids-clause-finds
returns-in_err-ids-clause-finds g c =
    let tree = g.T.TreeDisk.disk.reads c.args.root.now in
    let troves = c.in_ok-troves.troves in
    reads_fault c.in_err-ids.field-0.0 (reads_start g.met.T.TreeDisk.laws {Z = Unit {0}} {S = λ t done. Unit {0}} {V = λ t refused. ⊥} c.args.root.now tt (λ tells. tt)) c.from_residual-in_err-ids.ensures.1
    (λ tells p refused e. refused_by c.args.installed.now c.args.name.now tree troves c.in_ok-troves.ensures.installed c.in_ok-troves.ensures.value refused
    (first_long tree troves refused (ap too_long (sym c.troves.ensures.value) ∙ subst (IsRefusalOrMemory (too_long c.troves.result.now)) e c.in_err-ids.ensures.fault)))

pub returns-in_err-add_troves-clause-finds : goal.returns-in_err-add_troves-clause-finds
returns-in_err-add_troves-clause-finds g c =
    let tree = g.T.TreeDisk.disk.reads c.args.root.now in
    let troves = c.in_ok-troves.troves in
    reads_stop c.in_err-add_troves.ensures.finds c.from_residual-in_err-add_troves.ensures.1
    (λ tells refused large. refused_by c.args.installed.now c.args.name.now tree troves c.in_ok-troves.ensures.installed c.in_ok-troves.ensures.value refused
    (first_large tree troves refused (ap too_long (sym c.troves.ensures.value) ∙ c.in_ok-ids.ensures.none) large))

pub returns-in_err-contents-clause-finds : goal.returns-in_err-contents-clause-finds
returns-in_err-contents-clause-finds g c =
    let tree = g.T.TreeDisk.disk.reads c.args.root.now in
    let troves = c.in_ok-troves.troves in
    let carried = c.add_troves.new.carried.items in
    reads_fault c.in_err-contents.field-0.0 c.in_ok-add_troves.ensures.finds c.from_residual-in_err-contents.ensures.1
    (λ tells p refused e. refused_collision c.args.installed.now c.args.name.now tree troves c.in_ok-troves.ensures.installed c.in_ok-troves.ensures.value g.T.TreeDisk.disk.tells c.add_troves.new.parts.items carried refused tells
    (ap too_long (sym c.troves.ensures.value) ∙ c.in_ok-ids.ensures.none) c.in_ok-add_troves.ensures.added (subst (IsCollisionOf carried) e c.in_err-contents.ensures.refused))

pub returns-clause-finds : goal.returns-clause-finds
returns-clause-finds g c =
    let tree = g.T.TreeDisk.disk.reads c.args.root.now in
    let troves = c.in_ok-troves.troves in
    let list = c.args.installed.now in
    let name = c.args.name.now in
    let contents = c.in_ok-contents.contents in
    reads_answer c.in_ok-add_troves.ensures.finds
    (λ tells p.
    subst (λ (l : List Part). IsLocal list name tree (record { parts = l; contents = contents })) (sym c.new.ensures)
    (answered list name tree troves c.in_ok-troves.ensures.installed c.in_ok-troves.ensures.value g.T.TreeDisk.disk.tells c.add_troves.new.parts.items c.add_troves.new.carried.items contents tells
    (ap too_long (sym c.troves.ensures.value) ∙ c.in_ok-ids.ensures.none) c.in_ok-add_troves.ensures.added c.in_ok-contents.ensures.apart c.in_ok-contents.ensures.value))

pub returns-clause-parts : goal.returns-clause-parts
returns-clause-parts g c = subst (All IsPart) (sym c.new.ensures) c.in_ok-add_troves.ensures.added.valid

pub returns-clause-contents : goal.returns-clause-contents
returns-clause-contents g c =
    let contents = c.in_ok-contents.contents in
    subst (λ (l : List Part). HasContents (record { parts = l; contents = contents })) (sym c.new.ensures)
    (set_has_contents c.add_troves.new.parts.items c.add_troves.new.carried.items contents c.in_ok-add_troves.ensures.added.contents c.in_ok-contents.ensures.given c.in_ok-contents.ensures.rising)

pub returns-in_err-troves-clause-stops : goal.returns-in_err-troves-clause-stops
returns-in_err-troves-clause-stops g c =
    uninstalled_stop c.args.installed.now c.args.name.now c.in_err-troves.field-0.0 c.from_residual.result c.from_residual.ensures.1 c.in_err-troves.ensures.fault

pub returns-in_err-ids-clause-stops : goal.returns-in_err-ids-clause-stops
returns-in_err-ids-clause-stops g c =
    long_stop c.args.installed.now c.args.name.now c.in_ok-troves.troves c.in_ok-troves.ensures.installed c.in_ok-troves.ensures.value c.in_err-ids.field-0.0 c.from_residual-in_err-ids.result
    c.from_residual-in_err-ids.ensures.1 (subst (λ (l : List TroveParts). IsRefusalOrMemory (too_long l) c.in_err-ids.field-0.0) c.troves.ensures.value c.in_err-ids.ensures.fault)

pub returns-in_err-add_troves-clause-stops : goal.returns-in_err-add_troves-clause-stops
returns-in_err-add_troves-clause-stops g c =
    size_stop c.args.installed.now c.args.name.now c.in_ok-troves.troves c.in_ok-troves.ensures.installed c.in_ok-troves.ensures.value (ap too_long (sym c.troves.ensures.value) ∙ c.in_ok-ids.ensures.none)
    _ c.from_residual-in_err-add_troves.result c.from_residual-in_err-add_troves.ensures.1 c.in_err-add_troves.ensures.stops

pub returns-in_err-contents-clause-stops : goal.returns-in_err-contents-clause-stops
returns-in_err-contents-clause-stops g c =
    collision_stop c.args.installed.now c.args.name.now c.in_ok-troves.troves c.in_ok-troves.ensures.installed c.in_ok-troves.ensures.value (ap too_long (sym c.troves.ensures.value) ∙ c.in_ok-ids.ensures.none)
    c.add_troves.new.carried.items c.in_err-contents.field-0.0 c.from_residual-in_err-contents.result c.from_residual-in_err-contents.ensures.1 c.in_err-contents.ensures.refused
