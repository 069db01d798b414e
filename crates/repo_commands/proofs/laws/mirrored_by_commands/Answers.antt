use Rattle.repo_commands.proofs.Mirrored.{by_commands, nothing_told, MirrorLaws}
use Rattle.repo_commands.proofs.laws.mirrored_by_commands.Goals as goal

pub returns-clause-mirrors : goal.returns-clause-mirrors
returns-clause-mirrors c =
    let laws : MirrorLaws = record { asks = c.one_asking.ensures.stream; stream = c.one_stream.ensures; taken = c.taken_and_committed.ensures } in
    by_commands laws

pub returns-clause-again : goal.returns-clause-again
returns-clause-again c = λ before own other told it cut is.
    let laws : MirrorLaws = record { asks = c.one_asking.ensures.stream; stream = c.one_stream.ensures; taken = c.taken_and_committed.ensures } in
    let more = by_commands laws own other told is in (
      c.mirrored.ensures.again other.repository before.repository own.repository _ it more cut,
      nothing_told laws own other told is (c.mirrored.ensures.again_none other.repository before.repository own.repository _ it more cut),
    )
