use Rattle.std.proofs.Common.{rules, tests}
use Rattle.std.specs.Cmp.Lexicographic.{nat_list_cmp_total}
use Rattle.std.proofs.lemmas.Cmp.{on_total}
use Rattle.std.proofs.lemmas.List.Sorted.{answers_always}
use Rattle.local_db.specs.declared.record.Delta.{Delta}
use Rattle.local_db.specs.RecordText.{by_name, name_of}
use Rattle.change_rel.proofs.trove-parts.Rising.{is_less, rising_answer}
use Rattle.job_record.proofs.reading.do_deltas_rise.Goals as goal

pub returns : goal.returns
returns c =
    rising_answer (on_total (λ (u : Delta). name_of u) nat_list_cmp_total) c.args.deltas.now c.is_sorted_by.result (c.is_sorted_by.ensures.cases (is_less by_name) (answers_always _ _ _ (λ f a r h k. search (rules, tests))))
