use Rattle.std.proofs.Common.{rules, tests}
use Rattle.std.specs.Cmp.Lexicographic.{nat_list_cmp_total}
use Rattle.std.proofs.lemmas.Cmp.{on_total}
use Rattle.std.proofs.lemmas.List.Sorted.{answers_always}
use Rattle.trove_stream.specs.declared.parts.TroveParts.{TroveParts}
use Rattle.trove_stream.specs.Installed.{by_name}
use Rattle.trove_parts.proofs.Rising.{is_less, rising_answer}
use Rattle.trove_stream.proofs.installed.are_rising.Goals as goal

pub returns : goal.returns
returns c =
    rising_answer (on_total (λ (t : TroveParts). t.id.name) nat_list_cmp_total) c.args.troves.now c.is_sorted_by.result (c.is_sorted_by.ensures.cases (is_less by_name) (answers_always _ _ _ (λ f a r h k. search (rules, tests))))
