use Rattle.std.proofs.Common.{◌≡◌, ◌≤◌, ◌%◌, ◌^◌, ℕ, List, Bool, length, not, eqb, sym, subst, ap, w8, arith, ◌∙◌}
use Rattle.std.proofs.lemmas.Simd.{tops_compared, mask_l-mod, length-chunk, length-zip2}
use Rattle.std.specs.Simd.Lanes.{mask_l}
use lib.Lanes.{chunk}
use Rattle.cny_base.specs.Compare.{differing}
use Rattle.cny_base.proofs.Comparing.{chunk_of_differing}
use Rattle.cny_base.proofs.kernel.differing_at.Goals as goal

pub returns : goal.returns
returns c =
    let left = chunk c.args.at 64 c.args.a.now in
    let right = chunk c.args.at 64 c.args.b.now in
    let a_long : length left ≡ 64 = length-chunk c.args.at 64 c.args.a.now c.requires.holds in
    let b_long : length right ≡ 64 = length-chunk c.args.at 64 c.args.b.now (omega arith) in
    let long : length (differing left right) ≤ 64 = omega (arith, length-zip2 (λ (x y : ℕ). not (eqb x y)) left right (omega arith)) in
    let tested : mask_l (differing left right) % 2 ^ 64 ≡ mask_l (differing left right) = mask_l-mod (differing left right) 64 long in
    subst (λ (ms : List Bool). mask_l ms % 2 ^ 64 ≡ mask_l (chunk c.args.at 64 (differing c.args.a.now c.args.b.now)))
    (sym (tops_compared w8 (λ (x y : ℕ). not (eqb x y)) left right))
    (tested ∙ ap mask_l (chunk_of_differing c.args.at 64 c.args.a.now c.args.b.now c.requires.same))
