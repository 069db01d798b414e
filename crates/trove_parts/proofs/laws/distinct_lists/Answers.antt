use Rattle.cny_stream.specs.declared.encoding.Encoding.TheVariants.{Compact}
use Rattle.trove_parts.proofs.Encodings.{encodings_equal}
use Rattle.trove_parts.proofs.laws.distinct_lists.Goals as goal

pub returns-clause-refs : goal.returns-clause-refs
returns-clause-refs c = c.one_list-2.ensures Compact Compact

pub returns-clause-deps : goal.returns-clause-deps
returns-clause-deps c = c.one_list-3.ensures Compact Compact

pub returns-clause-paths : goal.returns-clause-paths
returns-clause-paths c = c.one_list-4.ensures Compact Compact

pub returns-clause-both : goal.returns-clause-both
returns-clause-both c = encodings_equal c.distinct_records.ensures.both
