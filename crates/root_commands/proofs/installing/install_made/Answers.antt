use Rattle.std.proofs.Common.{refl, sym, ap, ◌∙◌}
use Rattle.cli_call.specs.cny-base.Count.{Rose}
use Rattle.cny_report.specs.Jobs.{changes_text}
use Rattle.cli_call.proofs.Again.{on_done, ready_changed, ready_rests}
use Rattle.cli_call.specs.Alone.{AnswersByOpened, PerformsAlone}
use Rattle.cli_call.specs.Command.{disks, Performs}
use Rattle.cli_call.specs.cny-laws.declared.failure.Failure.TheVariants as failure
use Rattle.cli_call.specs.cny-laws.declared.opened.Opened.{Opened}
use Rattle.cli_call.specs.system-core.Job.{no_answers, sources_of}
use Rattle.cli_call.specs.system-core.Lists.{to_updated}
use Rattle.root_commands.specs.Install as spec
use Rattle.root_commands.proofs.InstallEnds.{named_contents, own_causes}
use Rattle.root_commands.proofs.JobOpened.{failed_opened, told_opened, untold_opened, updated_out}
use Rattle.root_commands.proofs.SpecifiedEnds.{Ran, failed_alone, failed_performs, memory_alone, memory_performs, reads_refused, told_alone, told_performs}
use Rattle.local_db.proofs.cny-base.Passing.{err_is}
use Rattle.root_commands.proofs.installing.install_made.Goals as goal

pub returns-in_err-done-clause-performs : goal.returns-in_err-done-clause-performs
returns-in_err-done-clause-performs g c = λ input.
    let disk = g.T.TreeDisk.disk in
    let root = c.args.root.now in
    let root' = c.update.new.root in
    let opened = c.args.opened.now in
    let opened' : Opened = record { db = c.update.new.db; catalogue = opened.catalogue } in
    let made = c.args.made.now in
    let options = c.args.options.now in
    let ran : Ran disk (sources_of made.contents no_answers options) (λ s. to_updated s.installed made.troves) root root' c.update.new.db c.update.result = record {
      ends = rw (c.get.ensures, c.get-2.ensures) at c.update.ensures.ends;
      rests = λ told. ready_rests _ _ _ c.update.result (c.update.ensures.again told);
      refused = λ told. reads_refused g.met.T.TreeDisk.laws (sources_of made.contents no_answers options) (to_updated opened.db.installed made.troves) opened.db root root' c.update.new.db c.update.result (rw (c.get.ensures, c.get-2.ensures) at c.update.ensures.answers) told;
      causes = own_causes _ _ (Rose (disk.faults root) (disk.faults root')) c.update.result c.update.ensures.causes;
      later = c.update.ensures.later;
    } in
    err_is (Performs disk g.P.TreeDisk.disk (spec.install_made options made) input (disks root c.args.repo.now opened) (disks root' c.args.repo.now opened')) c.from_residual.result c.in_err-done.field-0.0 c.from_residual.ensures.1
    (failed_performs g.met.T.TreeDisk.laws c.distinct_databases.ensures.unique root root' c.args.repo.now g.P.TreeDisk.disk opened opened' c.requires.ready (sources_of made.contents no_answers options) (λ s. to_updated s.installed made.troves) input g.met.P.TreeDisk.laws c.store_laws.ensures c.update.result c.in_err-done.field-0.0 (sym c.on_root.ensures ∙ c.in_err-done.was) ran)

pub returns-in_err-done-clause-alone : goal.returns-in_err-done-clause-alone
returns-in_err-done-clause-alone g c = λ input.
    let disk = g.T.TreeDisk.disk in
    let root = c.args.root.now in
    let root' = c.update.new.root in
    let opened = c.args.opened.now in
    let opened' : Opened = record { db = c.update.new.db; catalogue = opened.catalogue } in
    let made = c.args.made.now in
    let options = c.args.options.now in
    let ran : Ran disk (sources_of made.contents no_answers options) (λ s. to_updated s.installed made.troves) root root' c.update.new.db c.update.result = record {
      ends = rw (c.get.ensures, c.get-2.ensures) at c.update.ensures.ends;
      rests = λ told. ready_rests _ _ _ c.update.result (c.update.ensures.again told);
      refused = λ told. reads_refused g.met.T.TreeDisk.laws (sources_of made.contents no_answers options) (to_updated opened.db.installed made.troves) opened.db root root' c.update.new.db c.update.result (rw (c.get.ensures, c.get-2.ensures) at c.update.ensures.answers) told;
      causes = own_causes _ _ (Rose (disk.faults root) (disk.faults root')) c.update.result c.update.ensures.causes;
      later = c.update.ensures.later;
    } in
    err_is (PerformsAlone disk g.P.TreeDisk.disk (spec.install_made options made) input (disks root c.args.repo.now opened) (disks root' c.args.repo.now opened')) c.from_residual.result c.in_err-done.field-0.0 c.from_residual.ensures.1
    (failed_alone g.met.T.TreeDisk.laws c.distinct_databases.ensures.unique root root' c.args.repo.now g.P.TreeDisk.disk opened opened' c.requires.ready (sources_of made.contents no_answers options) (λ s. to_updated s.installed made.troves) input c.update.result c.in_err-done.field-0.0 (sym c.on_root.ensures ∙ c.in_err-done.was) ran)

pub returns-in_err-changes_text-clause-performs : goal.returns-in_err-changes_text-clause-performs
returns-in_err-changes_text-clause-performs g c = λ input.
    let disk = g.T.TreeDisk.disk in
    let root = c.args.root.now in
    let root' = c.update.new.root in
    let opened = c.args.opened.now in
    let opened' : Opened = record { db = c.update.new.db; catalogue = opened.catalogue } in
    let made = c.args.made.now in
    let options = c.args.options.now in
    let ran : Ran disk (sources_of made.contents no_answers options) (λ s. to_updated s.installed made.troves) root root' c.update.new.db c.update.result = record {
      ends = rw (c.get.ensures, c.get-2.ensures) at c.update.ensures.ends;
      rests = λ told. ready_rests _ _ _ c.update.result (c.update.ensures.again told);
      refused = λ told. reads_refused g.met.T.TreeDisk.laws (sources_of made.contents no_answers options) (to_updated opened.db.installed made.troves) opened.db root root' c.update.new.db c.update.result (rw (c.get.ensures, c.get-2.ensures) at c.update.ensures.answers) told;
      causes = own_causes _ _ (Rose (disk.faults root) (disk.faults root')) c.update.result c.update.ensures.causes;
      later = c.update.ensures.later;
    } in
    err_is (Performs disk g.P.TreeDisk.disk (spec.install_made options made) input (disks root c.args.repo.now opened) (disks root' c.args.repo.now opened')) c.from_residual-in_err-changes_text.result failure.Memory c.from_residual-in_err-changes_text.ensures.1
    (memory_performs g.met.T.TreeDisk.laws c.distinct_databases.ensures.unique root root' c.args.repo.now g.P.TreeDisk.disk opened opened' c.requires.ready (sources_of made.contents no_answers options) (λ s. to_updated s.installed made.troves) input g.met.P.TreeDisk.laws c.store_laws.ensures c.update.result c.in_ok-done.done (sym c.on_root.ensures ∙ c.in_ok-done.was) ran)

pub returns-in_err-changes_text-clause-alone : goal.returns-in_err-changes_text-clause-alone
returns-in_err-changes_text-clause-alone g c = λ input.
    let disk = g.T.TreeDisk.disk in
    let root = c.args.root.now in
    let root' = c.update.new.root in
    let opened = c.args.opened.now in
    let opened' : Opened = record { db = c.update.new.db; catalogue = opened.catalogue } in
    let made = c.args.made.now in
    let options = c.args.options.now in
    let ran : Ran disk (sources_of made.contents no_answers options) (λ s. to_updated s.installed made.troves) root root' c.update.new.db c.update.result = record {
      ends = rw (c.get.ensures, c.get-2.ensures) at c.update.ensures.ends;
      rests = λ told. ready_rests _ _ _ c.update.result (c.update.ensures.again told);
      refused = λ told. reads_refused g.met.T.TreeDisk.laws (sources_of made.contents no_answers options) (to_updated opened.db.installed made.troves) opened.db root root' c.update.new.db c.update.result (rw (c.get.ensures, c.get-2.ensures) at c.update.ensures.answers) told;
      causes = own_causes _ _ (Rose (disk.faults root) (disk.faults root')) c.update.result c.update.ensures.causes;
      later = c.update.ensures.later;
    } in
    err_is (PerformsAlone disk g.P.TreeDisk.disk (spec.install_made options made) input (disks root c.args.repo.now opened) (disks root' c.args.repo.now opened')) c.from_residual-in_err-changes_text.result failure.Memory c.from_residual-in_err-changes_text.ensures.1
    (memory_alone g.met.T.TreeDisk.laws c.distinct_databases.ensures.unique root root' c.args.repo.now g.P.TreeDisk.disk opened opened' c.requires.ready (sources_of made.contents no_answers options) (λ s. to_updated s.installed made.troves) input c.update.result c.in_ok-done.done (sym c.on_root.ensures ∙ c.in_ok-done.was) ran)

pub returns-clause-performs : goal.returns-clause-performs
returns-clause-performs g c = λ input.
    let disk = g.T.TreeDisk.disk in
    let root = c.args.root.now in
    let root' = c.update.new.root in
    let opened = c.args.opened.now in
    let opened' : Opened = record { db = c.update.new.db; catalogue = opened.catalogue } in
    let made = c.args.made.now in
    let options = c.args.options.now in
    let ran : Ran disk (sources_of made.contents no_answers options) (λ s. to_updated s.installed made.troves) root root' c.update.new.db c.update.result = record {
      ends = rw (c.get.ensures, c.get-2.ensures) at c.update.ensures.ends;
      rests = λ told. ready_rests _ _ _ c.update.result (c.update.ensures.again told);
      refused = λ told. reads_refused g.met.T.TreeDisk.laws (sources_of made.contents no_answers options) (to_updated opened.db.installed made.troves) opened.db root root' c.update.new.db c.update.result (rw (c.get.ensures, c.get-2.ensures) at c.update.ensures.answers) told;
      causes = own_causes _ _ (Rose (disk.faults root) (disk.faults root')) c.update.result c.update.ensures.causes;
      later = c.update.ensures.later;
    } in
    told_performs g.met.T.TreeDisk.laws c.distinct_databases.ensures.unique root root' c.args.repo.now g.P.TreeDisk.disk opened opened' c.requires.ready (sources_of made.contents no_answers options) (λ s. to_updated s.installed made.troves) input g.met.P.TreeDisk.laws c.store_laws.ensures c.update.result c.in_ok-done.done c.in_ok-changes_text.field-0 (sym c.on_root.ensures ∙ c.in_ok-done.was) ran
    (c.in_ok-changes_text.ensures.value ∙ ap changes_text c.get-3.ensures)

pub returns-clause-alone : goal.returns-clause-alone
returns-clause-alone g c = λ input.
    let disk = g.T.TreeDisk.disk in
    let root = c.args.root.now in
    let root' = c.update.new.root in
    let opened = c.args.opened.now in
    let opened' : Opened = record { db = c.update.new.db; catalogue = opened.catalogue } in
    let made = c.args.made.now in
    let options = c.args.options.now in
    let ran : Ran disk (sources_of made.contents no_answers options) (λ s. to_updated s.installed made.troves) root root' c.update.new.db c.update.result = record {
      ends = rw (c.get.ensures, c.get-2.ensures) at c.update.ensures.ends;
      rests = λ told. ready_rests _ _ _ c.update.result (c.update.ensures.again told);
      refused = λ told. reads_refused g.met.T.TreeDisk.laws (sources_of made.contents no_answers options) (to_updated opened.db.installed made.troves) opened.db root root' c.update.new.db c.update.result (rw (c.get.ensures, c.get-2.ensures) at c.update.ensures.answers) told;
      causes = own_causes _ _ (Rose (disk.faults root) (disk.faults root')) c.update.result c.update.ensures.causes;
      later = c.update.ensures.later;
    } in
    told_alone g.met.T.TreeDisk.laws c.distinct_databases.ensures.unique root root' c.args.repo.now g.P.TreeDisk.disk opened opened' c.requires.ready (sources_of made.contents no_answers options) (λ s. to_updated s.installed made.troves) input c.update.result c.in_ok-done.done c.in_ok-changes_text.field-0 (sym c.on_root.ensures ∙ c.in_ok-done.was) ran
    (c.in_ok-changes_text.ensures.value ∙ ap changes_text c.get-3.ensures)

pub update-requires-clause-hash : goal.update-requires-clause-hash
update-requires-clause-hash g c = rw c.get-2.ensures (named_contents c.args.made.now c.requires.own)

pub update-requires-clause-rising : goal.update-requires-clause-rising
update-requires-clause-rising g c = rw c.get-2.ensures c.requires.own.rising

pub update-requires-clause-allowed : goal.update-requires-clause-allowed
update-requires-clause-allowed g c = rw c.get.ensures c.requires.allowed

pub returns-clause-again : goal.returns-clause-again
returns-clause-again g c =
    ready_changed c.args.root.now c.update.new.root c.args.repo.now c.args.opened.now c.update.new.db c.update.result c.in_ok-done.done (sym c.on_root.ensures ∙ c.in_ok-done.was)
    c.update.ensures.again c.update.ensures.fixed c.update.ensures.rules c.requires.ready

-- ---- by what was read when the disks were opened

pub returns-in_err-done-clause-opened : goal.returns-in_err-done-clause-opened
returns-in_err-done-clause-opened g c = λ troves input.
    let disk = g.T.TreeDisk.disk in
    let opened = c.args.opened.now in
    let opened' : Opened = record { db = c.update.new.db; catalogue = opened.catalogue } in
    let made = c.args.made.now in
    let options = c.args.options.now in
    err_is (AnswersByOpened disk g.P.TreeDisk.disk (spec.install_made options made) input (disks c.args.root.now c.args.repo.now opened) (disks c.update.new.root c.args.repo.now opened')) c.from_residual.result c.in_err-done.field-0.0 c.from_residual.ensures.1
    (failed_opened g.met.T.TreeDisk.laws c.args.root.now c.update.new.root c.args.repo.now c.args.repo.now opened opened' c.requires.ready (λ told. refl) (sources_of made.contents no_answers options) (λ l. to_updated l made.troves)
    (λ list leads. updated_out opened.db.installed made.troves list (record { troves = c.requires.ready.database.installed.troves; allowed = c.requires.ready.database.installed.allowed }) (record { troves = troves; allowed = c.requires.allowed }) leads)
    input c.update.result c.in_err-done.field-0.0 (sym c.on_root.ensures ∙ c.in_err-done.was) (rw (c.get.ensures, c.get-2.ensures) at c.update.ensures.answers) (rw (c.get.ensures, c.get-2.ensures) at c.update.ensures.moments)
    (own_causes _ _ (Rose (disk.faults c.args.root.now) (disk.faults c.update.new.root)) c.update.result c.update.ensures.causes))

pub returns-in_err-changes_text-clause-opened : goal.returns-in_err-changes_text-clause-opened
returns-in_err-changes_text-clause-opened g c = λ troves input.
    let opened = c.args.opened.now in
    let opened' : Opened = record { db = c.update.new.db; catalogue = opened.catalogue } in
    let means = spec.install_made c.args.options.now c.args.made.now in
    let old = disks c.args.root.now c.args.repo.now opened in
    let new = disks c.update.new.root c.args.repo.now opened' in
    let made = c.args.made.now in
    let was = sym c.on_root.ensures ∙ c.in_ok-done.was in
    err_is (AnswersByOpened g.T.TreeDisk.disk g.P.TreeDisk.disk means input old new) c.from_residual-in_err-changes_text.result failure.Memory c.from_residual-in_err-changes_text.ensures.1
    (untold_opened g.met.T.TreeDisk.laws c.args.root.now c.update.new.root c.args.repo.now c.args.repo.now opened opened' c.requires.ready (λ told. refl) (sources_of made.contents no_answers c.args.options.now) (λ l. to_updated l made.troves)
    (λ list leads. updated_out opened.db.installed made.troves list (record { troves = c.requires.ready.database.installed.troves; allowed = c.requires.ready.database.installed.allowed }) (record { troves = troves; allowed = c.requires.allowed }) leads)
    input c.update.result c.in_ok-done.done was (rw (c.get.ensures, c.get-2.ensures) at c.update.ensures.answers) (λ told. (on_done c.update.result c.in_ok-done.done was (c.update.ensures.again told)).holds))

pub returns-clause-opened : goal.returns-clause-opened
returns-clause-opened g c = λ troves input.
    let opened = c.args.opened.now in
    let opened' : Opened = record { db = c.update.new.db; catalogue = opened.catalogue } in
    let made = c.args.made.now in
    let options = c.args.options.now in
    let was = sym c.on_root.ensures ∙ c.in_ok-done.was in
    told_opened g.met.T.TreeDisk.laws c.args.root.now c.update.new.root c.args.repo.now c.args.repo.now opened opened' c.requires.ready (λ told. refl) (sources_of made.contents no_answers options) (λ l. to_updated l made.troves)
    (λ list leads. updated_out opened.db.installed made.troves list (record { troves = c.requires.ready.database.installed.troves; allowed = c.requires.ready.database.installed.allowed }) (record { troves = troves; allowed = c.requires.allowed }) leads)
    input c.update.result c.in_ok-done.done c.in_ok-changes_text.field-0 was (rw (c.get.ensures, c.get-2.ensures) at c.update.ensures.answers) (λ told. (on_done c.update.result c.in_ok-done.done was (c.update.ensures.again told)).holds)
    (c.in_ok-changes_text.ensures.value ∙ ap changes_text c.get-3.ensures)
