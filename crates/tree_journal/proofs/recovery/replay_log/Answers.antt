use Rattle.std.proofs.Common.{List, subst, sym}
use Rattle.journal_log.specs.tree-disk.Confined.{Among}
use Rattle.journal_log.proofs.tree-disk.ConfinedLaws.{confined_read}
use Rattle.journal_log.specs.tree-disk.Steps.{no_name}
use Rattle.journal_log.specs.declared.put.Put.{Put}
use Rattle.journal_log.specs.Rules.{AreLogged}
use Rattle.tree_journal.specs.Steps.{IsCommitted}
use Rattle.tree_journal.proofs.OwnNames.{log_shorter}
use Rattle.tree_journal.proofs.Recovering.{ready, replays_listed, replays_stopped}
use Rattle.tree_journal.proofs.recovery.replay_log.Goals as goal

pub whole_log-requires-clause-short : goal.whole_log-requires-clause-short
whole_log-requires-clause-short g c = log_shorter c.args.base.now c.args.gate_path.now c.requires.gate c.requires.gate_path

pub returns-in_err-puts : goal.returns-in_err-puts
returns-in_err-puts g c =
    let laws = g.met.D.TreeDisk.laws in
    replays_stopped _ laws c.args.base.now _ _ _ _ c.in_err-puts.ensures.later (λ tells. confined_read laws (Among no_name) (c.in_err-puts.ensures.reads tells)) c.from_residual.ensures.1 c.in_err-puts.ensures.causes

pub replay-requires-clause-logged : goal.replay-requires-clause-logged
replay-requires-clause-logged g c = subst (AreLogged c.args.base.now) (sym c.get.ensures.value) c.in_ok-puts.ensures.loggable.logged

pub replay-requires-clause-told : goal.replay-requires-clause-told
replay-requires-clause-told g c = λ tells.
    subst (λ (l : List Put). IsCommitted g.D.TreeDisk.disk c.args.base.now l c.whole_log.new.disk) (sym c.get.ensures.value)
    (ready _ g.met.D.TreeDisk.laws c.args.base.now c.in_ok-puts.ensures.base c.in_ok-puts.puts _ _ c.in_ok-puts.ensures.later c.in_ok-puts.ensures.reads c.requires.synced c.requires.flag_set tells)

pub returns : goal.returns
returns g c =
    replays_listed _ g.met.D.TreeDisk.laws c.args.base.now c.in_ok-puts.ensures.base c.in_ok-puts.puts _ _ c.in_ok-puts.ensures.later c.in_ok-puts.ensures.reads c.requires.synced c.requires.flag_set
    _ _ c.get.result.now c.get.ensures.value c.replay.ensures.makes c.replay.ensures.any_moment c.replay.ensures.synced c.replay.ensures.seen
