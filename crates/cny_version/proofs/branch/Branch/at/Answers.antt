use Rattle.std.proofs.Common.{◌∷◌, ◌++◌, ap, ◌∙◌}
use Rattle.cny_version.proofs.KeptBranches.{kept_at}
use Rattle.cny_version.proofs.branch.Branch.at.Goals as goal

pub invariant_of-result : goal.invariant_of-result
invariant_of-result c =
    kept_at c.args.label _ _ _ c.text.ensures.label c.new.ensures.items c.new-2.ensures.items
    (c.in_ok-push_str.ensures.bytes ∙ ap (λ l. l ++ c.text.result.now) c.in_ok-text.ensures.ok ∙ ap (λ l. 47 ∷ l) c.text.ensures.value)
