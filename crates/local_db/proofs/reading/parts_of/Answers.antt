use Rattle.local_db.proofs.Texts.{last_of}
use Rattle.local_db.proofs.reading.parts_of.Goals as goal

pub returns-in_default-clause-bad : goal.returns-in_default-clause-bad
returns-in_default-clause-bad c bad troves oldest newest is =
    c.in_default.ensures.none oldest newest
    (last_of c.distinct_troves.ensures.unique c.args.format c.args.bytes.now c.in_ok-found.found.troves.items troves c.in_ok-found.found.to oldest newest c.in_ok-found.ensures.value c.in_ok-found.ensures.ended is).1
