use Rattle.std.proofs.Common.{ℕ, List, sym, ◌∙◌}
use Rattle.cli_call.proofs.Again.{ready_rolled}
use Rattle.cli_call.specs.Alone.{PerformsAlone}
use Rattle.cli_call.specs.Command.{disks, Performs}
use Rattle.cli_call.specs.cny-laws.declared.failure.Failure.TheVariants as failure
use Rattle.cli_call.specs.cny-laws.declared.opened.Opened.{Opened}
use Rattle.root_commands.specs.Records.{TakesBackWhole}
use Rattle.root_commands.specs.RollingBack as spec
use Rattle.root_commands.proofs.RecordEnds.{back_done, back_failed}
use Rattle.root_commands.proofs.RollEnds.{alone_failed, alone_memory, alone_told, performs_failed, performs_memory, performs_told}
use Rattle.local_db.proofs.cny-base.Passing.{err_is}
use Rattle.root_commands.proofs.rolling_back.roll_back.Goals as goal

pub returns-in_err-count-clause-performs : goal.returns-in_err-count-clause-performs
returns-in_err-count-clause-performs g c = λ input.
    let opened = c.args.opened.now in
    let opened' : Opened = record { db = c.rollback_to.new.db; catalogue = opened.catalogue } in
    err_is (Performs g.T.TreeDisk.disk g.P.TreeDisk.disk (spec.roll_back c.args.number) input (disks c.args.root.now c.args.repo.now opened) (disks c.rollback_to.new.root c.args.repo.now opened')) c.from_residual.result c.in_err-count.field-0.0 c.from_residual.ensures.1
    (performs_failed g.met.T.TreeDisk.laws c.distinct_databases.ensures.unique c.args.root.now c.rollback_to.new.root c.args.repo.now g.P.TreeDisk.disk opened opened' c.requires c.args.number c.last_of-last.result c.last_of-last.ensures c.rollback_to.result
    c.rollback_to.ensures.rolls c.rollback_to.ensures.done c.rollback_to.ensures.stops c.rollback_to.ensures.causes c.rollback_to.ensures.later input g.met.P.TreeDisk.laws c.store_laws.ensures c.in_err-count.field-0.0 (sym c.on_root.ensures ∙ c.in_err-count.was))

pub returns-in_err-rolled_back_text-clause-performs : goal.returns-in_err-rolled_back_text-clause-performs
returns-in_err-rolled_back_text-clause-performs g c = λ input.
    let opened = c.args.opened.now in
    let opened' : Opened = record { db = c.rollback_to.new.db; catalogue = opened.catalogue } in
    err_is (Performs g.T.TreeDisk.disk g.P.TreeDisk.disk (spec.roll_back c.args.number) input (disks c.args.root.now c.args.repo.now opened) (disks c.rollback_to.new.root c.args.repo.now opened')) c.from_residual-in_err-rolled_back_text.result failure.Memory c.from_residual-in_err-rolled_back_text.ensures.1
    (performs_memory g.met.T.TreeDisk.laws c.distinct_databases.ensures.unique c.args.root.now c.rollback_to.new.root c.args.repo.now g.P.TreeDisk.disk opened opened' c.requires c.args.number c.last_of-last.result c.last_of-last.ensures c.rollback_to.result
    c.rollback_to.ensures.rolls c.rollback_to.ensures.done c.rollback_to.ensures.stops c.rollback_to.ensures.causes c.rollback_to.ensures.later input g.met.P.TreeDisk.laws c.store_laws.ensures c.in_ok-count.count (sym c.on_root.ensures ∙ c.in_ok-count.was))

pub returns-clause-performs : goal.returns-clause-performs
returns-clause-performs g c = λ input.
    let opened = c.args.opened.now in
    let opened' : Opened = record { db = c.rollback_to.new.db; catalogue = opened.catalogue } in
    performs_told g.met.T.TreeDisk.laws c.distinct_databases.ensures.unique c.args.root.now c.rollback_to.new.root c.args.repo.now g.P.TreeDisk.disk opened opened' c.requires c.args.number c.last_of-last.result c.last_of-last.ensures c.rollback_to.result
    c.rollback_to.ensures.rolls c.rollback_to.ensures.done c.rollback_to.ensures.stops c.rollback_to.ensures.causes c.rollback_to.ensures.later input c.in_ok-count.count c.min.result c.in_ok-rolled_back_text.field-0 (sym c.on_root.ensures ∙ c.in_ok-count.was) c.min.ensures c.in_ok-rolled_back_text.ensures.value g.met.P.TreeDisk.laws c.store_laws.ensures

pub returns-in_err-count-clause-alone : goal.returns-in_err-count-clause-alone
returns-in_err-count-clause-alone g c = λ input.
    let opened = c.args.opened.now in
    let opened' : Opened = record { db = c.rollback_to.new.db; catalogue = opened.catalogue } in
    err_is (PerformsAlone g.T.TreeDisk.disk g.P.TreeDisk.disk (spec.roll_back c.args.number) input (disks c.args.root.now c.args.repo.now opened) (disks c.rollback_to.new.root c.args.repo.now opened')) c.from_residual.result c.in_err-count.field-0.0 c.from_residual.ensures.1
    (alone_failed g.met.T.TreeDisk.laws c.distinct_databases.ensures.unique c.args.root.now c.rollback_to.new.root c.args.repo.now g.P.TreeDisk.disk opened opened' c.requires c.args.number c.last_of-last.result c.last_of-last.ensures c.rollback_to.result
    c.rollback_to.ensures.rolls c.rollback_to.ensures.done c.rollback_to.ensures.stops c.rollback_to.ensures.causes c.rollback_to.ensures.later input c.in_err-count.field-0.0 (sym c.on_root.ensures ∙ c.in_err-count.was))

pub returns-in_err-rolled_back_text-clause-alone : goal.returns-in_err-rolled_back_text-clause-alone
returns-in_err-rolled_back_text-clause-alone g c = λ input.
    let opened = c.args.opened.now in
    let opened' : Opened = record { db = c.rollback_to.new.db; catalogue = opened.catalogue } in
    err_is (PerformsAlone g.T.TreeDisk.disk g.P.TreeDisk.disk (spec.roll_back c.args.number) input (disks c.args.root.now c.args.repo.now opened) (disks c.rollback_to.new.root c.args.repo.now opened')) c.from_residual-in_err-rolled_back_text.result failure.Memory c.from_residual-in_err-rolled_back_text.ensures.1
    (alone_memory g.met.T.TreeDisk.laws c.distinct_databases.ensures.unique c.args.root.now c.rollback_to.new.root c.args.repo.now g.P.TreeDisk.disk opened opened' c.requires c.args.number c.last_of-last.result c.last_of-last.ensures c.rollback_to.result
    c.rollback_to.ensures.rolls c.rollback_to.ensures.done c.rollback_to.ensures.stops c.rollback_to.ensures.causes c.rollback_to.ensures.later input c.in_ok-count.count (sym c.on_root.ensures ∙ c.in_ok-count.was))

pub returns-clause-alone : goal.returns-clause-alone
returns-clause-alone g c = λ input.
    let opened = c.args.opened.now in
    let opened' : Opened = record { db = c.rollback_to.new.db; catalogue = opened.catalogue } in
    alone_told g.met.T.TreeDisk.laws c.distinct_databases.ensures.unique c.args.root.now c.rollback_to.new.root c.args.repo.now g.P.TreeDisk.disk opened opened' c.requires c.args.number c.last_of-last.result c.last_of-last.ensures c.rollback_to.result
    c.rollback_to.ensures.rolls c.rollback_to.ensures.done c.rollback_to.ensures.stops c.rollback_to.ensures.causes c.rollback_to.ensures.later input c.in_ok-count.count c.min.result c.in_ok-rolled_back_text.field-0 (sym c.on_root.ensures ∙ c.in_ok-count.was) c.min.ensures c.in_ok-rolled_back_text.ensures.value

pub returns-in_err-count-clause-records : goal.returns-in_err-count-clause-records
returns-in_err-count-clause-records g c told =
    let disk = g.T.TreeDisk.disk in
    let root = c.args.root.now in
    let db = c.args.opened.now.db in
    err_is (TakesBackWhole {A = List ℕ} c.args.number (disk.reads root) db) c.from_residual.result c.in_err-count.field-0.0 c.from_residual.ensures.1
    (back_failed disk root c.rollback_to.new.root db c.rollback_to.new.db c.one_record.ensures.one c.args.number told c.last_of-last.result c.last_of-last.ensures c.rollback_to.result c.in_err-count.field-0.0 (sym c.on_root.ensures ∙ c.in_err-count.was) (c.rollback_to.ensures.stops told))

pub returns-in_err-rolled_back_text-clause-records : goal.returns-in_err-rolled_back_text-clause-records
returns-in_err-rolled_back_text-clause-records g c told =
    err_is (TakesBackWhole {A = List ℕ} c.args.number (g.T.TreeDisk.disk.reads c.args.root.now) c.args.opened.now.db) c.from_residual-in_err-rolled_back_text.result failure.Memory c.from_residual-in_err-rolled_back_text.ensures.1 tt

pub returns-clause-records : goal.returns-clause-records
returns-clause-records g c told =
    back_done g.T.TreeDisk.disk c.args.root.now c.rollback_to.new.root c.args.opened.now.db c.rollback_to.new.db c.one_record.ensures.one c.args.number told c.last_of-last.result c.last_of-last.ensures c.rollback_to.result c.in_ok-count.count (sym c.on_root.ensures ∙ c.in_ok-count.was) (c.rollback_to.ensures.done told)

pub returns-clause-again : goal.returns-clause-again
returns-clause-again g c =
    ready_rolled c.args.root.now c.rollback_to.new.root c.args.repo.now c.args.opened.now c.rollback_to.new.db c.rollback_to.result c.in_ok-count.count (sym c.on_root.ensures ∙ c.in_ok-count.was)
    c.rollback_to.ensures.again c.rollback_to.ensures.fixed c.rollback_to.ensures.rules c.requires
