use Rattle.std.proofs.Common.{List, subst, sym, arith}
use Rattle.std.specs.Prelude.{codes}
use Rattle.journal_log.specs.declared.put.Put.{Put}
use Rattle.journal_log.specs.LogBytes.{IsSpelled}
use Rattle.journal_log.proofs.NumberLaws.{numbered_no_bytes}
use Rattle.journal_log.specs.WriteSet.{Rises}
use Rattle.tree_journal.specs.Steps.{IsLogOf}
use Rattle.tree_journal.proofs.OwnNames.{gate_part, log_part, short_own}
use Rattle.tree_journal.proofs.Applying.{applies_nothing, logged_from, rises_back}
use Rattle.journal_log.proofs.cny-base.Faults.{passed_memory}
use Rattle.tree_journal.proofs.writing.apply_staged.Goals as goal

pub own_path-requires-clause-part : goal.own_path-requires-clause-part
own_path-requires-clause-part g c = gate_part

pub own_path-requires-clause-short : goal.own_path-requires-clause-short
own_path-requires-clause-short g c = short_own c.args.base.now (codes "gate") c.requires.short (omega arith)

pub returns-in_err-gate_path : goal.returns-in_err-gate_path
returns-in_err-gate_path g c = applies_nothing _ g.met.D.TreeDisk.laws c.args.base.now c.args.puts.now c.args.disk.now c.requires.told _ (passed_memory _ c.from_residual.result c.from_residual.ensures.1 c.in_err-gate_path.ensures.memory)

pub own_path-requires-2-clause-part : goal.own_path-requires-2-clause-part
own_path-requires-2-clause-part g c = log_part

pub own_path-requires-2-clause-short : goal.own_path-requires-2-clause-short
own_path-requires-2-clause-short g c = short_own c.args.base.now (codes "log") c.requires.short (omega arith)

pub returns-in_err-log_path : goal.returns-in_err-log_path
returns-in_err-log_path g c = applies_nothing _ g.met.D.TreeDisk.laws c.args.base.now c.args.puts.now c.args.disk.now c.requires.told _ (passed_memory _ c.from_residual-in_err-log_path.result c.from_residual-in_err-log_path.ensures.1 c.in_err-log_path.ensures.memory)

pub returns-in_err-numbered : goal.returns-in_err-numbered
returns-in_err-numbered g c = applies_nothing _ g.met.D.TreeDisk.laws c.args.base.now c.args.puts.now c.args.disk.now c.requires.told _ c.from_residual-in_err-numbered.ensures.1

pub encode_log-requires : goal.encode_log-requires
encode_log-requires g c = record { no_bytes = numbered_no_bytes c.args.puts.now c.in_ok-numbered.numbered c.in_ok-numbered.ensures }

pub returns-in_err-log : goal.returns-in_err-log
returns-in_err-log g c = applies_nothing _ g.met.D.TreeDisk.laws c.args.base.now c.args.puts.now c.args.disk.now c.requires.told _ c.from_residual-in_err-log.ensures.1

pub apply_in_order-requires-clause-written : goal.apply_in_order-requires-clause-written
apply_in_order-requires-clause-written g c = subst (λ (l : List Put). IsLogOf c.args.base.now c.args.puts.now l c.get-2.result.now) (sym c.get.ensures.value) (record {
  rises = rises_back c.args.puts.now c.in_ok-numbered.numbered c.in_ok-numbered.ensures (subst Rises c.get.ensures.value c.get.ensures.rises);
  numbered = c.in_ok-numbered.ensures;
  paths = c.in_ok-log.ensures.formed.0;
  formed = c.in_ok-log.ensures.formed.1;
  logged = logged_from c.args.base.now c.own_path.ensures.base c.requires.short c.in_ok-numbered.numbered (numbered_no_bytes c.args.puts.now c.in_ok-numbered.numbered c.in_ok-numbered.ensures) c.in_ok-log.ensures.formed.1;
  spelled = subst (IsSpelled c.in_ok-numbered.numbered) (sym c.get-2.ensures) c.in_ok-log.ensures.spelled;
})
