use Rattle.std.proofs.Common.{[], refl, sym, ap, ◌∙◌}
use Rattle.cny_report.specs.Jobs.{changes_text}
use Rattle.cli_call.proofs.Again.{on_done, ready_changed, ready_rests}
use Rattle.cli_call.specs.Alone.{AnswersByOpened, PerformsAlone}
use Rattle.cli_call.specs.Command.{disks, Performs}
use Rattle.cli_call.specs.cny-laws.declared.failure.Failure.TheVariants as failure
use Rattle.cli_call.specs.cny-laws.declared.opened.Opened.{Opened}
use Rattle.cli_call.specs.system-core.Job.{no_answers, sources_of}
use Rattle.cli_call.specs.system-core.Lists.{to_erased}
use Rattle.root_commands.specs.Erase as spec
use Rattle.root_commands.proofs.JobOpened.{erased_out, failed_opened, told_opened, untold_opened}
use Rattle.root_commands.proofs.SpecifiedEnds.{Ran, failed_alone, failed_performs, memory_alone, memory_performs, reads_refused, told_alone, told_performs}
use Rattle.local_db.proofs.cny-base.Passing.{err_is}
use Rattle.root_commands.proofs.erasing.erase_troves.Goals as goal

pub returns-in_err-done-clause-performs : goal.returns-in_err-done-clause-performs
returns-in_err-done-clause-performs g c = λ input.
    let disk = g.T.TreeDisk.disk in
    let root = c.args.root.now in
    let root' = c.erase.new.root in
    let opened = c.args.opened.now in
    let opened' : Opened = record { db = c.erase.new.db; catalogue = opened.catalogue } in
    let names = c.args.names.now in
    let options = c.args.options.now in
    let ran : Ran disk (sources_of [] no_answers options) (λ s. to_erased s.installed names) root root' c.erase.new.db c.erase.result = record {
      ends = c.erase.ensures.ends;
      rests = λ told. ready_rests _ _ _ c.erase.result (c.erase.ensures.again told);
      refused = λ told. reads_refused g.met.T.TreeDisk.laws (sources_of [] no_answers options) (to_erased opened.db.installed names) opened.db root root' c.erase.new.db c.erase.result c.erase.ensures.answers told;
      causes = c.erase.ensures.causes;
      later = c.erase.ensures.later;
    } in
    err_is (Performs disk g.P.TreeDisk.disk (spec.erase names options) input (disks root c.args.repo.now opened) (disks root' c.args.repo.now opened')) c.from_residual.result c.in_err-done.field-0.0 c.from_residual.ensures.1
    (failed_performs g.met.T.TreeDisk.laws c.distinct_databases.ensures.unique root root' c.args.repo.now g.P.TreeDisk.disk opened opened' c.requires (sources_of [] no_answers options) (λ s. to_erased s.installed names) input g.met.P.TreeDisk.laws c.store_laws.ensures c.erase.result c.in_err-done.field-0.0 (sym c.on_root.ensures ∙ c.in_err-done.was) ran)

pub returns-in_err-done-clause-alone : goal.returns-in_err-done-clause-alone
returns-in_err-done-clause-alone g c = λ input.
    let disk = g.T.TreeDisk.disk in
    let root = c.args.root.now in
    let root' = c.erase.new.root in
    let opened = c.args.opened.now in
    let opened' : Opened = record { db = c.erase.new.db; catalogue = opened.catalogue } in
    let names = c.args.names.now in
    let options = c.args.options.now in
    let ran : Ran disk (sources_of [] no_answers options) (λ s. to_erased s.installed names) root root' c.erase.new.db c.erase.result = record {
      ends = c.erase.ensures.ends;
      rests = λ told. ready_rests _ _ _ c.erase.result (c.erase.ensures.again told);
      refused = λ told. reads_refused g.met.T.TreeDisk.laws (sources_of [] no_answers options) (to_erased opened.db.installed names) opened.db root root' c.erase.new.db c.erase.result c.erase.ensures.answers told;
      causes = c.erase.ensures.causes;
      later = c.erase.ensures.later;
    } in
    err_is (PerformsAlone disk g.P.TreeDisk.disk (spec.erase names options) input (disks root c.args.repo.now opened) (disks root' c.args.repo.now opened')) c.from_residual.result c.in_err-done.field-0.0 c.from_residual.ensures.1
    (failed_alone g.met.T.TreeDisk.laws c.distinct_databases.ensures.unique root root' c.args.repo.now g.P.TreeDisk.disk opened opened' c.requires (sources_of [] no_answers options) (λ s. to_erased s.installed names) input c.erase.result c.in_err-done.field-0.0 (sym c.on_root.ensures ∙ c.in_err-done.was) ran)

pub returns-in_err-changes_text-clause-performs : goal.returns-in_err-changes_text-clause-performs
returns-in_err-changes_text-clause-performs g c = λ input.
    let disk = g.T.TreeDisk.disk in
    let root = c.args.root.now in
    let root' = c.erase.new.root in
    let opened = c.args.opened.now in
    let opened' : Opened = record { db = c.erase.new.db; catalogue = opened.catalogue } in
    let names = c.args.names.now in
    let options = c.args.options.now in
    let ran : Ran disk (sources_of [] no_answers options) (λ s. to_erased s.installed names) root root' c.erase.new.db c.erase.result = record {
      ends = c.erase.ensures.ends;
      rests = λ told. ready_rests _ _ _ c.erase.result (c.erase.ensures.again told);
      refused = λ told. reads_refused g.met.T.TreeDisk.laws (sources_of [] no_answers options) (to_erased opened.db.installed names) opened.db root root' c.erase.new.db c.erase.result c.erase.ensures.answers told;
      causes = c.erase.ensures.causes;
      later = c.erase.ensures.later;
    } in
    err_is (Performs disk g.P.TreeDisk.disk (spec.erase names options) input (disks root c.args.repo.now opened) (disks root' c.args.repo.now opened')) c.from_residual-in_err-changes_text.result failure.Memory c.from_residual-in_err-changes_text.ensures.1
    (memory_performs g.met.T.TreeDisk.laws c.distinct_databases.ensures.unique root root' c.args.repo.now g.P.TreeDisk.disk opened opened' c.requires (sources_of [] no_answers options) (λ s. to_erased s.installed names) input g.met.P.TreeDisk.laws c.store_laws.ensures c.erase.result c.in_ok-done.done (sym c.on_root.ensures ∙ c.in_ok-done.was) ran)

pub returns-in_err-changes_text-clause-alone : goal.returns-in_err-changes_text-clause-alone
returns-in_err-changes_text-clause-alone g c = λ input.
    let disk = g.T.TreeDisk.disk in
    let root = c.args.root.now in
    let root' = c.erase.new.root in
    let opened = c.args.opened.now in
    let opened' : Opened = record { db = c.erase.new.db; catalogue = opened.catalogue } in
    let names = c.args.names.now in
    let options = c.args.options.now in
    let ran : Ran disk (sources_of [] no_answers options) (λ s. to_erased s.installed names) root root' c.erase.new.db c.erase.result = record {
      ends = c.erase.ensures.ends;
      rests = λ told. ready_rests _ _ _ c.erase.result (c.erase.ensures.again told);
      refused = λ told. reads_refused g.met.T.TreeDisk.laws (sources_of [] no_answers options) (to_erased opened.db.installed names) opened.db root root' c.erase.new.db c.erase.result c.erase.ensures.answers told;
      causes = c.erase.ensures.causes;
      later = c.erase.ensures.later;
    } in
    err_is (PerformsAlone disk g.P.TreeDisk.disk (spec.erase names options) input (disks root c.args.repo.now opened) (disks root' c.args.repo.now opened')) c.from_residual-in_err-changes_text.result failure.Memory c.from_residual-in_err-changes_text.ensures.1
    (memory_alone g.met.T.TreeDisk.laws c.distinct_databases.ensures.unique root root' c.args.repo.now g.P.TreeDisk.disk opened opened' c.requires (sources_of [] no_answers options) (λ s. to_erased s.installed names) input c.erase.result c.in_ok-done.done (sym c.on_root.ensures ∙ c.in_ok-done.was) ran)

pub returns-clause-performs : goal.returns-clause-performs
returns-clause-performs g c = λ input.
    let disk = g.T.TreeDisk.disk in
    let root = c.args.root.now in
    let root' = c.erase.new.root in
    let opened = c.args.opened.now in
    let opened' : Opened = record { db = c.erase.new.db; catalogue = opened.catalogue } in
    let names = c.args.names.now in
    let options = c.args.options.now in
    let ran : Ran disk (sources_of [] no_answers options) (λ s. to_erased s.installed names) root root' c.erase.new.db c.erase.result = record {
      ends = c.erase.ensures.ends;
      rests = λ told. ready_rests _ _ _ c.erase.result (c.erase.ensures.again told);
      refused = λ told. reads_refused g.met.T.TreeDisk.laws (sources_of [] no_answers options) (to_erased opened.db.installed names) opened.db root root' c.erase.new.db c.erase.result c.erase.ensures.answers told;
      causes = c.erase.ensures.causes;
      later = c.erase.ensures.later;
    } in
    told_performs g.met.T.TreeDisk.laws c.distinct_databases.ensures.unique root root' c.args.repo.now g.P.TreeDisk.disk opened opened' c.requires (sources_of [] no_answers options) (λ s. to_erased s.installed names) input g.met.P.TreeDisk.laws c.store_laws.ensures c.erase.result c.in_ok-done.done c.in_ok-changes_text.field-0 (sym c.on_root.ensures ∙ c.in_ok-done.was) ran
    (c.in_ok-changes_text.ensures.value ∙ ap changes_text c.get.ensures)

pub returns-clause-alone : goal.returns-clause-alone
returns-clause-alone g c = λ input.
    let disk = g.T.TreeDisk.disk in
    let root = c.args.root.now in
    let root' = c.erase.new.root in
    let opened = c.args.opened.now in
    let opened' : Opened = record { db = c.erase.new.db; catalogue = opened.catalogue } in
    let names = c.args.names.now in
    let options = c.args.options.now in
    let ran : Ran disk (sources_of [] no_answers options) (λ s. to_erased s.installed names) root root' c.erase.new.db c.erase.result = record {
      ends = c.erase.ensures.ends;
      rests = λ told. ready_rests _ _ _ c.erase.result (c.erase.ensures.again told);
      refused = λ told. reads_refused g.met.T.TreeDisk.laws (sources_of [] no_answers options) (to_erased opened.db.installed names) opened.db root root' c.erase.new.db c.erase.result c.erase.ensures.answers told;
      causes = c.erase.ensures.causes;
      later = c.erase.ensures.later;
    } in
    told_alone g.met.T.TreeDisk.laws c.distinct_databases.ensures.unique root root' c.args.repo.now g.P.TreeDisk.disk opened opened' c.requires (sources_of [] no_answers options) (λ s. to_erased s.installed names) input c.erase.result c.in_ok-done.done c.in_ok-changes_text.field-0 (sym c.on_root.ensures ∙ c.in_ok-done.was) ran
    (c.in_ok-changes_text.ensures.value ∙ ap changes_text c.get.ensures)

pub returns-clause-again : goal.returns-clause-again
returns-clause-again g c =
    ready_changed c.args.root.now c.erase.new.root c.args.repo.now c.args.opened.now c.erase.new.db c.erase.result c.in_ok-done.done (sym c.on_root.ensures ∙ c.in_ok-done.was)
    c.erase.ensures.again c.erase.ensures.fixed c.erase.ensures.rules c.requires

-- ---- by what was read when the disks were opened

pub returns-in_err-done-clause-opened : goal.returns-in_err-done-clause-opened
returns-in_err-done-clause-opened g c = λ input.
    let opened = c.args.opened.now in
    let opened' : Opened = record { db = c.erase.new.db; catalogue = opened.catalogue } in
    let names = c.args.names.now in
    let options = c.args.options.now in
    err_is (AnswersByOpened g.T.TreeDisk.disk g.P.TreeDisk.disk (spec.erase names options) input (disks c.args.root.now c.args.repo.now opened) (disks c.erase.new.root c.args.repo.now opened')) c.from_residual.result c.in_err-done.field-0.0 c.from_residual.ensures.1
    (failed_opened g.met.T.TreeDisk.laws c.args.root.now c.erase.new.root c.args.repo.now c.args.repo.now opened opened' c.requires (λ told. refl) (sources_of [] no_answers options) (λ l. to_erased l names)
    (λ list leads. erased_out opened.db.installed names list (record { troves = c.requires.database.installed.troves; allowed = c.requires.database.installed.allowed }) leads.1)
    input c.erase.result c.in_err-done.field-0.0 (sym c.on_root.ensures ∙ c.in_err-done.was) c.erase.ensures.answers c.erase.ensures.moments c.erase.ensures.causes)

pub returns-in_err-changes_text-clause-opened : goal.returns-in_err-changes_text-clause-opened
returns-in_err-changes_text-clause-opened g c = λ input.
    let opened = c.args.opened.now in
    let opened' : Opened = record { db = c.erase.new.db; catalogue = opened.catalogue } in
    let means = spec.erase c.args.names.now c.args.options.now in
    let old = disks c.args.root.now c.args.repo.now opened in
    let new = disks c.erase.new.root c.args.repo.now opened' in
    let was = sym c.on_root.ensures ∙ c.in_ok-done.was in
    let names = c.args.names.now in
    err_is (AnswersByOpened g.T.TreeDisk.disk g.P.TreeDisk.disk means input old new) c.from_residual-in_err-changes_text.result failure.Memory c.from_residual-in_err-changes_text.ensures.1
    (untold_opened g.met.T.TreeDisk.laws c.args.root.now c.erase.new.root c.args.repo.now c.args.repo.now opened opened' c.requires (λ told. refl) (sources_of [] no_answers c.args.options.now) (λ l. to_erased l names)
    (λ list leads. erased_out opened.db.installed names list (record { troves = c.requires.database.installed.troves; allowed = c.requires.database.installed.allowed }) leads.1)
    input c.erase.result c.in_ok-done.done was c.erase.ensures.answers (λ told. (on_done c.erase.result c.in_ok-done.done was (c.erase.ensures.again told)).holds))

pub returns-clause-opened : goal.returns-clause-opened
returns-clause-opened g c = λ input.
    let opened = c.args.opened.now in
    let opened' : Opened = record { db = c.erase.new.db; catalogue = opened.catalogue } in
    let names = c.args.names.now in
    let options = c.args.options.now in
    let was = sym c.on_root.ensures ∙ c.in_ok-done.was in
    told_opened g.met.T.TreeDisk.laws c.args.root.now c.erase.new.root c.args.repo.now c.args.repo.now opened opened' c.requires (λ told. refl) (sources_of [] no_answers options) (λ l. to_erased l names)
    (λ list leads. erased_out opened.db.installed names list (record { troves = c.requires.database.installed.troves; allowed = c.requires.database.installed.allowed }) leads.1)
    input c.erase.result c.in_ok-done.done c.in_ok-changes_text.field-0 was c.erase.ensures.answers (λ told. (on_done c.erase.result c.in_ok-done.done was (c.erase.ensures.again told)).holds)
    (c.in_ok-changes_text.ensures.value ∙ ap changes_text c.get.ensures)
