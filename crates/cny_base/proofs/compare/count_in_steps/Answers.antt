use Rattle.std.proofs.Common.{◌≡◌, ◌+◌, ◌*◌, ℕ, Bool, take, arith, ap, subst, ◌∙◌}
use Rattle.std.specs.List.{count_by}
use lib.Count.{ones}
use lib.Lanes.{chunk}
use Rattle.cny_base.specs.Compare.{differing}
use Rattle.cny_base.proofs.Comparing.{counts_add, ones_of_marks, counted_le}
use Rattle.cny_base.proofs.compare.count_in_steps.Goals as goal

pub overflow_add-count : goal.overflow_add-count
overflow_add-count c =
    let at = 64 * c.loop-step.step in
    let ds = differing c.args.a.now c.args.b.now in
    let e = counts_add at 64 ds in
    let o : ones c.differing_at.result ≡ count_by (λ (d : Bool). d) (chunk at 64 ds) = ap ones c.differing_at.ensures ∙ ones_of_marks (chunk at 64 ds) in
    let most = counted_le (at + 64) c.args.a.now c.args.b.now c.requires.same in
    record { fits = omega (arith, c.loop-step.invariant) }

pub loop-step-preserved : goal.loop-step-preserved
loop-step-preserved c =
    let at = 64 * c.loop-step.step in
    let ds = differing c.args.a.now c.args.b.now in
    let e = counts_add at 64 ds in
    let o : ones c.differing_at.result ≡ count_by (λ (d : Bool). d) (chunk at 64 ds) = ap ones c.differing_at.ensures ∙ ones_of_marks (chunk at 64 ds) in
    let next : at + 64 ≡ 64 * (c.loop-step.step + 1) = omega arith in
    subst (λ (n : ℕ). c.loop-step.count + ones c.differing_at.result ≡ count_by (λ (d : Bool). d) (take n ds)) next
    (omega (arith, c.loop-step.invariant))
