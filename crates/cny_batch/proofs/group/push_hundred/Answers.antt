use Rattle.std.proofs.Common.{◌+◌, ◌*◌, ◌++◌, ap, ◌∙◌, arith, append_assoc}
use Rattle.cny_batch.specs.Manifests.{each_from, ref_within, refs_of_ten, refs_of_hundred}
use Rattle.cny_batch.proofs.Each.{all_written, goes_on}
use Rattle.cny_batch.proofs.group.push_hundred.Goals as goal

pub loop-digit-init : goal.loop-digit-init
loop-digit-init c = ap (λ o. o ++ each_from (λ digit. refs_of_ten c.args.packages c.args.round (10 * c.args.number + digit)) 0 10) c.in_ok-push_ref.ensures ∙ append_assoc c.args.out.now (ref_within c.args.packages c.args.round c.args.number) (each_from (λ digit. refs_of_ten c.args.packages c.args.round (10 * c.args.number + digit)) 0 10)

pub loop-digit-preserved : goal.loop-digit-preserved
loop-digit-preserved c = goes_on (λ digit. refs_of_ten c.args.packages c.args.round (10 * c.args.number + digit)) 10 c.args.out.now (ref_within c.args.packages c.args.round c.args.number ++ each_from (λ digit. refs_of_ten c.args.packages c.args.round (10 * c.args.number + digit)) 0 10) c.loop-digit.out c.push_ten.new.out c.loop-digit.digit (omega arith) c.loop-digit.invariant c.in_ok-push_ten.ensures

pub returns : goal.returns
unfolding refs_of_hundred
returns c = all_written (λ digit. refs_of_ten c.args.packages c.args.round (10 * c.args.number + digit)) 10 c.args.out.now (ref_within c.args.packages c.args.round c.args.number ++ each_from (λ digit. refs_of_ten c.args.packages c.args.round (10 * c.args.number + digit)) 0 10) c.loop-digit.out c.loop-digit.digit (omega arith) c.loop-digit.invariant
