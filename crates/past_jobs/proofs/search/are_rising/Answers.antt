use Rattle.std.proofs.Common.{rules, tests}
use Rattle.std.specs.Cmp.Lexicographic.{nat_list_cmp_total}
use Rattle.std.proofs.lemmas.Cmp.{on_total}
use Rattle.std.proofs.lemmas.List.Sorted.{answers_always}
use Rattle.local_db.specs.Record.{Entry, entry_cmp}
use Rattle.change_rel.proofs.trove-parts.Rising.{is_less, rising_answer}
use Rattle.past_jobs.proofs.search.are_rising.Goals as goal

pub returns : goal.returns
returns c =
    rising_answer (on_total (λ (e : Entry). e.path) nat_list_cmp_total) c.args.changes.now c.is_sorted_by.result (c.is_sorted_by.ensures.cases (is_less entry_cmp) (answers_always _ _ _ (λ f a r h k. search (rules, tests))))
