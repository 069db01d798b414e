use Rattle.past_jobs.proofs.turning.are_same.Goals as goal
use Rattle.past_jobs.proofs.Streams.{streams_tell}

pub returns : goal.returns
returns c =
    streams_tell c.distinct_troves.ensures.unique c.args.one.now c.args.other.now c.in_ok-stream.stream c.in_ok-other_stream.other_stream c.eq.result
    c.in_ok-stream.ensures.value c.in_ok-other_stream.ensures.value c.in_ok-stream.ensures.trove c.in_ok-other_stream.ensures.trove c.eq.ensures
