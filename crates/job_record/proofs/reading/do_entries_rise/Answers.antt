use Rattle.std.proofs.Common.{rules, tests}
use Rattle.std.specs.Cmp.Lexicographic.{nat_list_cmp_total}
use Rattle.std.proofs.lemmas.Cmp.{on_total}
use Rattle.std.proofs.lemmas.List.Sorted.{answers_always}
use Rattle.local_db.specs.declared.record.ToldEntry.{ToldEntry}
use Rattle.local_db.specs.RecordText.{by_path}
use Rattle.change_rel.proofs.trove-parts.Rising.{is_less, rising_answer}
use Rattle.job_record.proofs.reading.do_entries_rise.Goals as goal

pub returns : goal.returns
returns c =
    rising_answer (on_total (λ (e : ToldEntry). e.path) nat_list_cmp_total) c.args.entries.now c.is_sorted_by.result (c.is_sorted_by.ensures.cases (is_less by_path) (answers_always _ _ _ (λ f a r h k. search (rules, tests))))
