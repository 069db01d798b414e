use Rattle.std.proofs.Common.{refl, sym, subst, arith, All, Contains}
use Rattle.std.proofs.lemmas.List.{take_all}
use Rattle.std.proofs.lemmas.List.Elements.{All-more}
use Rattle.cny_dep.proofs.satisfying.has_flags.Goals as goal

pub returns-then-not-has_flag : goal.returns-then-not-has_flag
returns-then-not-has_flag c = (
  λ h. absurd (cc),
  λ all. let found = c.has_flag.ensures.1 (subst (Contains c.args.flags.now) (sym c.flag-item.is) (all c.loop-flag.flag-index c.flag-item.result (omega arith))) in cc,
)

pub loop-flag-preserved : goal.loop-flag-preserved
loop-flag-preserved c =
    All-more (Contains c.args.flags.now) c.args.wanted.now c.loop-flag.flag-index c.flag-item.result (omega arith) c.loop-flag.invariant
    (subst (Contains c.args.flags.now) c.flag-item.is (c.has_flag.ensures.0 c.if-not-has_flag.false))

pub returns : goal.returns
returns c = (λ _. subst (All (Contains c.args.flags.now)) (take_all c.loop-flag.flag-index c.args.wanted.now (omega arith)) c.loop-flag.invariant, λ _. refl)
