use Rattle.std.proofs.Common.{◌≡◌, ◌<◌, ◌≤◌, List, [], length, get_or, Ok, inl, refl, ap, sym, subst, ◌∙◌, arith}
use Rattle.std.proofs.lemmas.List.{drop_all}
use Rattle.repo_index.specs.trove-stream.declared.parts.TroveParts.{TroveParts}
use Rattle.repo_index.specs.trove-stream.Installed.{IsRising}
use Rattle.repo_index.proofs.trove-stream.Lists.{none_rise}
use Rattle.sys_model.specs.declared.directive.ModelLine.{ModelLine}
use Rattle.sys_model.specs.Wanted.{MakesAll}
use Rattle.sys_model.proofs.MadeLists.{all_there, next_line, none_there}
use Rattle.sys_model.proofs.wanted_list.wanted.Goals as goal

pub of_rising-list-requires : goal.of_rising-list-requires
of_rising-list-requires c = subst (λ (l : List TroveParts). IsRising l) (sym c.new.ensures.items) none_rise

pub loop-line-preserved : goal.loop-line-preserved
loop-line-preserved c = λ result rest.
    let lines = c.args.model.now.lines in
    let i = c.loop-line.line-index in
    let line = c.line-item.result in
    let within : i < length lines = omega (arith, ap length c.get-line-items.ensures) in
    let here : line ≡ get_or lines i line = c.line-item.is ∙ ap (λ (l : List ModelLine). get_or l i line) c.get-line-items.ensures in
    c.loop-line.invariant result
    (subst (λ (l : List ModelLine). MakesAll c.args.catalogue.now.troves c.args.config.now l c.loop-line.list result) (sym (next_line lines i line within here))
    (inl (record { value = c.in_ok-list.list; found = c.in_ok-list.ensures; rest = rest })))

pub returns-clause-committed : goal.returns-clause-committed
returns-clause-committed c =
    let troves = c.args.catalogue.now.troves in
    let config = c.args.config.now in
    let lines = c.args.model.now.lines in
    let ended : length lines ≤ c.loop-line.line-index = omega (arith, ap length c.get-line-items.ensures) in
    all_there troves config lines [] c.loop-line.list (none_there troves config)
    (c.loop-line.invariant (Ok c.loop-line.list)
    (subst (λ (l : List ModelLine). MakesAll troves config l c.loop-line.list (Ok c.loop-line.list)) (sym (drop_all c.loop-line.line-index lines ended)) refl))
