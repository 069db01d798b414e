use Rattle.std.proofs.Common.{ap, ◌∙◌}
use Rattle.std.specs.List.{position}
use Rattle.cny_batch.specs.Batch.{is_feed}
use Rattle.cny_batch.proofs.Cuts.{text_found, short_text, long_text}
use Rattle.cny_batch.proofs.reading.text_of.Goals as goal

pub returns-in-Some-clause-read : goal.returns-in-Some-clause-read
returns-in-Some-clause-read c =
    text_found c.args.rest.now c.feed_of.result c.in-Some.end (c.feed_of.ensures.place ∙ ap (position is_feed) c.front_of.ensures.front) c.in-Some.is

pub returns-then-rest-lt-LINE_ROOM-clause-read : goal.returns-then-rest-lt-LINE_ROOM-clause-read
returns-then-rest-lt-LINE_ROOM-clause-read c =
    (short_text c.args.rest.now c.feed_of.result (c.feed_of.ensures.place ∙ ap (position is_feed) c.front_of.ensures.front) c.in-None.is c.if-rest-lt-LINE_ROOM.true)

pub returns-else-rest-lt-LINE_ROOM-clause-read : goal.returns-else-rest-lt-LINE_ROOM-clause-read
returns-else-rest-lt-LINE_ROOM-clause-read c =
    rw c.fault_at.ensures (long_text c.args.rest.now c.feed_of.result (c.feed_of.ensures.place ∙ ap (position is_feed) c.front_of.ensures.front) c.in-None.is c.if-rest-lt-LINE_ROOM.false)
