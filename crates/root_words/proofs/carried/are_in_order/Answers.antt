use Rattle.std.proofs.Common.{rules}
use Rattle.std.specs.Cmp.Lexicographic.{nat_list_cmp_total}
use Rattle.std.proofs.lemmas.Cmp.{on_total}
use Rattle.std.proofs.lemmas.List.Sorted.{answers_always}
use Rattle.change_set.specs.declared.change.Carried.{Carried}
use Rattle.change_set.specs.ChangeSet.{content_cmp}
use Rattle.change_set.proofs.trove-parts.Rising.{is_less, rising_answer}
use Rattle.root_words.proofs.carried.are_in_order.Goals as goal

pub returns : goal.returns
returns c =
    rising_answer (on_total (λ (x : Carried). x.name) nat_list_cmp_total) c.args.carried.now c.is_sorted_by.result (c.is_sorted_by.ensures.cases (is_less content_cmp) (answers_always _ _ _ (λ f a r h k. search rules)))
