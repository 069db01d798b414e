use Rattle.std.proofs.Common.{Bool, codes, sym, ◌∙◌, ◌||◌, ◌≡◌}
use Rattle.tree_disk.specs.Clear.{is_within}
use Rattle.journal_log.proofs.Naming.{own_none, own_rest, some_own, last_own}
use Rattle.journal_log.proofs.named.is_own_file.Goals as goal

-- the four tests, by what the calls answered
four : (g l w s g' l' w' s' : Bool) → g ≡ g' → l ≡ l' → w ≡ w' → s ≡ s' → (g || (l || (w || s))) ≡ (g' || (l' || (w' || s')))
four g l w s g' l' w' s' e f h i = cc

pub returns-in_default : goal.returns-in_default
returns-in_default c = sym (own_none c.args.base.now c.args.path.now c.in_default.ensures.none)

pub returns-then-gate : goal.returns-then-gate
returns-then-gate c =
    let rest = c.in-Some.rest.now in
    some_own c.is_within-gate.result c.is_within-log.result c.is_within-work.result (is_within (codes "p") rest) c.then-gate.either
    ∙ four _ _ _ _ _ _ _ _ c.is_within-gate.ensures c.is_within-log.ensures c.is_within-work.ensures (λ i. is_within (codes "p") rest)
    ∙ sym (own_rest c.args.base.now rest c.args.path.now c.in-Some.ensures.some)

pub returns : goal.returns
returns c =
    let rest = c.in-Some.rest.now in
    last_own c.is_within-gate.result c.is_within-log.result c.is_within-work.result c.is_within.result c.if-gate.false c.if-log.false c.if-work.false
    ∙ four _ _ _ _ _ _ _ _ c.is_within-gate.ensures c.is_within-log.ensures c.is_within-work.ensures c.is_within.ensures
    ∙ sym (own_rest c.args.base.now rest c.args.path.now c.in-Some.ensures.some)
