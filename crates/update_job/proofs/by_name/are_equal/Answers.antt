use Rattle.std.proofs.Common.{◌≡◌, ℕ, List, ◌++◌, sym, ap, ◌∙◌}
use Rattle.std.specs.Cmp.Lexicographic.{bytes_decides}
use Rattle.change_set.specs.cny-stream.declared.encoding.Encoding.TheVariants.{Compact}
use Rattle.change_set.specs.trove-stream.Stream.{trove_bytes}
use Rattle.update_job.proofs.by_name.are_equal.Goals as goal

pub returns : goal.returns
returns c =
    let one = c.args.one.now in
    let other = c.args.other.now in
    let stream : c.encode.new.out ≡ trove_bytes one = c.in_ok-encode.ensures.ok ∙ ap (λ (l : List ℕ). l ++ trove_bytes one) c.in_ok-stream.ensures in
    let other_stream : c.encode-2.new.out ≡ trove_bytes other = c.in_ok-encode-2.ensures.ok ∙ ap (λ (l : List ℕ). l ++ trove_bytes other) c.in_ok-other_stream.ensures in
    let decides = bytes_decides c.encode.new.out c.encode-2.new.out in (
      λ holds. c.distinct_troves.ensures.unique Compact Compact one other c.in_ok-encode.ensures.trove c.in_ok-encode-2.ensures.trove (sym stream ∙ decides.0 (sym c.eq.ensures ∙ holds) ∙ other_stream),
      λ same. c.eq.ensures ∙ decides.1 (stream ∙ ap trove_bytes same ∙ sym other_stream),
    )
