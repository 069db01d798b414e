use Rattle.std.proofs.Common.{◌≡◌, List, [], ◌∷◌, ◌++◌, sym, ap, ◌∙◌, subst, append_assoc, append-nil, rules}
use Rattle.std.proofs.lemmas.Map.Iter.{rest_more, rest_all}
use Rattle.manifest_troves.specs.declared.lines.DepLine.{DepLine}
use Rattle.cny_pack.specs.Head.{AddsDeps}
use Rattle.cny_pack.proofs.Heading.{Pair, written_none, written_more}
use Rattle.cny_pack.proofs.head.push_deps.Goals as goal

pub loop-name-init : goal.loop-name-init
loop-name-init c =
    let none : c.new-lines.result.items ≡ [] = search rules in (
      [],
      c.into_iter-name-iterator.ensures.into_iter_gives.0,
      subst (λ (l : List DepLine). AddsDeps c.args.front.now [] c.args.text.now c.args.text.now l) (sym none) (written_none c.args.front.now c.args.text.now),
    )

pub loop-name-preserved : goal.loop-name-preserved
loop-name-preserved c =
    let was = c.loop-name.invariant in
    let pair : Pair = (c.in-Some.name, c.in-Some.dep) in
    let step : c.loop-name.name-iterator ≡ pair ∷ c.next.new.self = rest_more (λ (p : Pair). p) c.loop-name.name-iterator c.next.new.self c.next.result pair c.in-Some.is c.next.ensures.steps in (
      was.0 ++ pair ∷ [],
      append_assoc was.0 (pair ∷ []) c.next.new.self ∙ ap (λ (l : List Pair). was.0 ++ l) (sym step) ∙ was.1,
      subst (λ (l : List DepLine). AddsDeps c.args.front.now (was.0 ++ pair ∷ []) c.args.text.now c.push_dep.new.text l) (sym c.in_ok-push.ensures.items)
          (written_more c.args.front.now was.0 pair c.args.text.now c.loop-name.text c.push_dep.new.text c.loop-name.lines.items was.2 c.in_ok-push_dep.ensures.added),
    )

pub returns-clause-added : goal.returns-clause-added
returns-clause-added c =
    let was = c.loop-name.invariant in
    let ended : c.loop-name.name-iterator ≡ [] = rest_all (λ (p : Pair). p) c.loop-name.name-iterator c.next.new.self c.next.result c.in-None.is c.next.ensures.steps in
    let all : was.0 ≡ c.args.deps.keys = sym (append-nil was.0) ∙ ap (λ (l : List Pair). was.0 ++ l) (sym ended) ∙ was.1 in
    subst (λ (l : List DepLine). AddsDeps c.args.front.now c.args.deps.keys c.args.text.now c.loop-name.text l) (sym c.new.ensures)
    (subst (λ (l : List Pair). AddsDeps c.args.front.now l c.args.text.now c.loop-name.text c.loop-name.lines.items) all was.2)
