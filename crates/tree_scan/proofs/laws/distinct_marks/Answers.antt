use Rattle.std.proofs.Common.{subst, true, ◌≡◌}
use Rattle.tree_scan.specs.Marks.{same_mark}
use Rattle.tree_scan.proofs.MarkLaws.{same_mark_means, same_mark_itself}
use Rattle.tree_scan.proofs.laws.distinct_marks.Goals as goal

pub returns : goal.returns
returns c = λ a b. (same_mark_means a b, λ is. subst (λ x. same_mark a x ≡ true) is (same_mark_itself a))
