use Rattle.std.proofs.Common.{◌≡◌, ap, ◌∙◌}
use Rattle.std.proofs.lemmas.Option.{none-some, same_Some}
use Rattle.repo_index.specs.trove-parts.declared.id.TroveId.{TroveId}
use Rattle.repo_index.specs.trove-stream.declared.parts.TroveParts.{TroveParts}
use Rattle.sys_model.specs.Held.{held_in}
use Rattle.sys_model.proofs.view.is_met_at.Goals as goal

pub returns-in-Some-clause-unmet : goal.returns-in-Some-clause-unmet
returns-in-Some-clause-unmet c = λ is t there u held by.
    let one : c.in-Some.trove.now ≡ t = same_Some c.in-Some.trove.now t (c.in-Some.ensures ∙ there) in
    let named = ap (λ (id : TroveId). id.name) c.id.ensures.value ∙ ap (λ (v : TroveParts). v.id.name) one in
    c.is_met_by.ensures.unmet is u (ap (held_in c.args.view.now) named ∙ held) by

pub returns-in-None-clause-unmet : goal.returns-in-None-clause-unmet
returns-in-None-clause-unmet c = λ is t there u held by. none-some t (c.in-None.ensures ∙ there)
