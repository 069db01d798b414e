use Rattle.trove_stream.proofs.OneRel.{one_rel, encodings_equal}
use Rattle.trove_stream.proofs.rel_laws.distinct_rels.Goals as goal

pub returns-clause-unique : goal.returns-clause-unique
returns-clause-unique c one other a b bytes a_is b_is =
    one_rel one other a b bytes a_is b_is c.short_ids.ensures c.distinct_ids.ensures.bytes (c.distinct_lists.ensures.files one other) c.distinct_lists.ensures.refs c.distinct_lists.ensures.deps c.distinct_lists.ensures.paths

pub returns-clause-both : goal.returns-clause-both
returns-clause-both c = encodings_equal c.distinct_lists.ensures.both
