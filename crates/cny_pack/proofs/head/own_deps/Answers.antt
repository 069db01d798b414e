use Rattle.std.proofs.Common.{List, [], sym, subst}
use Rattle.cny_pack.specs.Head.{AreDeps}
use Rattle.cny_pack.proofs.Heading.{Pair, deps_none, deps_next}
use Rattle.cny_pack.proofs.Refusing.{bad_at}
use Rattle.cny_pack.proofs.Stopping.{handed, unread_more}
use Rattle.cny_pack.proofs.head.own_deps.Goals as goal

pub loop-words-init : goal.loop-words-init
loop-words-init c = subst (λ (l : List Pair). AreDeps c.args.whole.now [] l) (sym c.new-deps.ensures.empty) (deps_none c.args.whole.now)

pub loop-words-preserved : goal.loop-words-preserved
loop-words-preserved c =
    deps_next c.args.whole.now c.args.given.now c.loop-words.words-index _ c.in_ok-own_dep.field-0 c.loop-words.deps.keys c.insert.new.self.keys c.in_ok-own_dep.ensures.says c.loop-words-test.true c.loop-words.invariant
    c.in_ok-own_dep.ensures.own c.in_ok-insert.ensures.keys c.in_ok-insert.ensures.ordered

pub returns-in_err-own_dep-clause-refused : goal.returns-in_err-own_dep-clause-refused
returns-in_err-own_dep-clause-refused c =
    handed c.from_residual.result _ _ c.from_residual.ensures.1 (unread_more c.args.word _ (bad_at c.args.whole.now c.args.given.now c.loop-words.words-index _ c.loop-words-test.true) c.in_err-own_dep.ensures.refused)
