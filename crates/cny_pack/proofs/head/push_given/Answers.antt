use Rattle.std.proofs.Common.{ℕ, List}
use Rattle.std.specs.Prelude.{All, Contains}
use Rattle.std.proofs.lemmas.Result.{IfOk-weaker, IfErr-weaker}
use Rattle.cny_dep.specs.Dep.{Dependency}
use Rattle.cny_pack.specs.Causes.{CanDep, HasBadDep}
use Rattle.cny_pack.specs.Halts.{IsUnread}
use Rattle.cny_pack.specs.Head.{AddsDeps, HasLine, dep_line_of}
use Rattle.cny_pack.proofs.Refusing.{given_can, said_long}
use Rattle.cny_pack.proofs.Stopping.{unread_more}
use Rattle.cny_pack.proofs.head.push_given.Goals as goal

pub returns-clause-can : goal.returns-clause-can
returns-clause-can c =
    let front : List ℕ = c.args.front.now in
    let whole : List ℕ = c.args.whole.now in
    let keys = c.in_ok-deps.deps.keys in
    IfOk-weaker c.push_deps.result (AddsDeps front keys c.args.text.now c.push_deps.new.text) (λ lines. All (CanDep front whole) c.args.given.now)
    (λ lines adds. given_can front whole c.args.given.now c.args.text.now c.push_deps.new.text lines (record { deps = keys; are = c.in_ok-deps.ensures.are; added = adds })) c.push_deps.ensures.added

pub returns-clause-refused : goal.returns-clause-refused
returns-clause-refused c =
    let front : List ℕ = c.args.front.now in
    let whole : List ℕ = c.args.whole.now in
    let keys = c.in_ok-deps.deps.keys in
    IfErr-weaker c.push_deps.result (IsUnread c.args.word ((pair : List ℕ × Dependency) × Contains keys pair × (HasLine front (dep_line_of pair) → ⊥))) (IsUnread c.args.word (HasBadDep front whole c.args.given.now))
    (λ stop is. unread_more c.args.word stop (λ long. said_long front whole c.args.given.now keys long.0 c.in_ok-deps.ensures.are.says.each long.1 long.2) is) c.push_deps.ensures.refused
