use Rattle.std.proofs.Common.{◌≡◌, IsNone, IfSome, not, ap, ◌∙◌, subst}
use Rattle.std.specs.BTreeSet.{contains}
use Rattle.std.specs.Cmp.Lexicographic.{slice_cmp}
use Rattle.std.specs.Ordering.{nat_cmp}
use Rattle.trove_stream.specs.cny-base.Path.{parent}
use Rattle.conflict_plan.proofs.Above.{parent_noted}
use Rattle.conflict_plan.proofs.making.with_parent.Goals as goal

pub returns : goal.returns
returns c = λ path.
    parent_noted c.args.planned.now c.in-Some.above path (contains (slice_cmp nat_cmp) c.args.made_in path) (contains (slice_cmp nat_cmp) c.insert.new.self path)
    (c.is_none.ensures ∙ ap not c.if-is_none.false)
    (λ is_root. absurd (cc (subst IsNone c.in-Some.is (c.in_ok-found.ensures.none.1 is_root))))
    (subst (λ o. IfSome o (λ p. p ≡ parent c.args.planned.now.path)) c.in-Some.is c.in_ok-found.ensures.some)
    (c.in_ok-insert.ensures.updates.0 path)
