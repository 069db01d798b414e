use Rattle.std.proofs.Common.{◌≡◌, List, [], ◌∷◌, ◌++◌, sym, ap, ◌∙◌, subst, rules}
use Rattle.std.specs.Prelude.{All}
use Rattle.std.proofs.lemmas.List.Elements.{All-nil, All-push}
use Rattle.std.proofs.lemmas.Map.Iter.{rest_more, rest_all}
use Rattle.std.proofs.lemmas.Result.{err_from_is_err_and}
use Rattle.tree_disk.specs.Tree.{Name}
use Rattle.tree_disk.specs.declared.disk.Look.{Look}
use Rattle.cny_pack.specs.Plan.{sights_of, IsFit}
use Rattle.cny_pack.specs.declared.plan.Sight.{Sight}
use Rattle.cny_pack.proofs.Planning.{sights_more, one_more, none_left}
use Rattle.cny_pack.proofs.plan.plan.Goals as goal

pub loop-path-init : goal.loop-path-init
loop-path-init c =
    let none : c.new-sights.result.items ≡ [] = search rules in
    ([], c.into_iter-path-iterator.ensures.into_iter_gives.0, none, λ keeps. All-nil IsFit)

pub loop-path-preserved : goal.loop-path-preserved
loop-path-preserved c =
    let was = c.loop-path.invariant in
    let pair : Name × Look = (c.in-Some.path, c.in-Some.look) in
    let step : c.loop-path.path-iterator ≡ pair ∷ c.next.new.self = rest_more (λ (p : Name × Look). p) c.loop-path.path-iterator c.next.new.self c.next.result pair c.in-Some.is c.next.ensures.steps in (
      was.0 ++ pair ∷ [],
      one_more was.0 c.loop-path.path-iterator c.next.new.self c.args.seen.entries pair was.1 step,
      c.in_ok-add.ensures.added ∙ ap (λ (l : List Sight). l ++ sights_of (pair ∷ [])) was.2 ∙ sym (sights_more was.0 (pair ∷ [])),
      λ keeps. All-push IsFit was.0 pair (was.3 keeps) (c.in_ok-add.ensures.fit keeps),
    )

pub returns-in_err-add-clause-refused : goal.returns-in_err-add-clause-refused
returns-in_err-add-clause-refused c =
    let was = c.loop-path.invariant in
    let pair : Name × Look = (c.in-Some.path, c.in-Some.look) in
    let step : c.loop-path.path-iterator ≡ pair ∷ c.next.new.self = rest_more (λ (p : Name × Look). p) c.loop-path.path-iterator c.next.new.self c.next.result pair c.in-Some.is c.next.ensures.steps in
    let p = err_from_is_err_and c.from_residual.result c.from_residual.ensures.1 in
    rw (p.1, p.2) (was.0, pair, c.next.new.self, ap (λ (l : List (Name × Look)). was.0 ++ l) (sym step) ∙ was.1, was.3, c.in_err-add.ensures.refused)

pub returns-clause-planned : goal.returns-clause-planned
returns-clause-planned c =
    let was = c.loop-path.invariant in
    let ended : c.loop-path.path-iterator ≡ [] = rest_all (λ (p : Name × Look). p) c.loop-path.path-iterator c.next.new.self c.next.result c.in-None.is c.next.ensures.steps in
    was.2 ∙ ap sights_of (none_left was.0 c.loop-path.path-iterator c.args.seen.entries was.1 ended)

pub returns-clause-fit : goal.returns-clause-fit
returns-clause-fit c keeps =
    let was = c.loop-path.invariant in
    let ended : c.loop-path.path-iterator ≡ [] = rest_all (λ (p : Name × Look). p) c.loop-path.path-iterator c.next.new.self c.next.result c.in-None.is c.next.ensures.steps in
    subst (λ (l : List (Name × Look)). All IsFit l) (none_left was.0 c.loop-path.path-iterator c.args.seen.entries was.1 ended) (was.3 keeps)
