use Rattle.std.proofs.Common.{◌≡◌, ℕ, ◌==◌, List, map, filter, ap, subst, ◌∙◌}
use Rattle.std.specs.List.{AllZip, slice_split}
use Rattle.trove_spec.specs.Config.{as_space, without_front, is_word_there, IsTextOf}
use Rattle.trove_spec.proofs.OneConfig.{one_path}
use Rattle.trove_spec.proofs.Borrowed.{now_of}
use Rattle.trove_spec.proofs.config.path_setting.Goals as goal

pub returns-clause-only : goal.returns-clause-only
returns-clause-only c =
    let value : List ℕ = map as_space (without_front c.args.value.now) in
    let labels = c.in_ok-labels_of.field-0 in
    let text : c.in-Some.text.now ≡ value = c.in-Some.ensures.some ∙ c.as_slice.ensures.value ∙ c.in_ok-bytes.ensures in
    let pieces : map now_of c.as_slice-2.result.now ≡ slice_split (λ (b : ℕ). b == 32) value =
    ap (map now_of) c.as_slice-2.ensures.value ∙ c.in_ok-words.ensures ∙ ap (slice_split (λ (b : ℕ). b == 32)) text in
    λ setting is. one_path c.distinct_texts.ensures.labels value labels setting
    (subst (λ (l : List (List ℕ)). AllZip IsTextOf (filter is_word_there l) labels) pieces c.in_ok-labels_of.ensures.found) is
