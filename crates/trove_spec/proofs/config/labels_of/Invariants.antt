use Rattle.std.proofs.Common.{ℕ, ◌≤◌, List, length, take, map, filter, Bor}
use Rattle.std.specs.List.{AllZip}
use Rattle.trove_spec.specs.Config.{is_word_there, IsTextOf}
use Rattle.trove_spec.proofs.config.labels_of.Given as goal

abbrev pub invariant-loop-word : goal.invariant-loop-word
invariant-loop-word l = record {
  found : AllZip IsTextOf (filter is_word_there (map (λ (word : Bor (List ℕ)). word.now) (take l.word-index l.words))) l.labels.items;
  few : length l.labels.items ≤ 64;
}
