use Rattle.std.proofs.Common.{sym, ◌∙◌}
use Rattle.repo_load.proofs.TrovesRead.{empty_stream, none_read}
use Rattle.repo_load.proofs.commit_reading.decode_commit.Goals as goal

pub returns-then-is_empty-clause-bad : goal.returns-then-is_empty-clause-bad
returns-then-is_empty-clause-bad c bad troves is =
    empty_stream c.distinct_troves.ensures.unique c.args.bytes.now c.in_ok-troves.troves troves c.in_ok-troves.ensures.value
    (none_read c.in_ok-troves.troves c.get.result.now c.get.ensures (sym c.is_empty.ensures ∙ c.if-is_empty.true)) is
