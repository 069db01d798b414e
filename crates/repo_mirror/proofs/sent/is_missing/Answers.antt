use Rattle.std.proofs.Common.{sym, ap, ◌∙◌, refl}
use Rattle.repo_mirror.proofs.Searching.{found, is_among, missed}
use Rattle.repo_mirror.proofs.sent.is_missing.Goals as goal

pub returns-in-Ok : goal.returns-in-Ok
returns-in-Ok c =
    let there = found c.args.ids.now c.id.result.now c.in-Ok.field-0 c.in-Ok.ensures.bound c.in-Ok.ensures.position in
    let same = ap (is_among c.args.ids.now) c.id.ensures.value in
    ((λ h. absurd (cc h)), (λ none. absurd (cc (there, same, none))))

pub returns-in-Err : goal.returns-in-Err
returns-in-Err c =
    let same = ap (is_among c.args.ids.now) c.id.ensures.value in
    ((λ h. sym same ∙ missed c.args.ids.now c.id.result.now c.in-Err.field-0 c.requires.rising c.in-Err.ensures.position), (λ none. refl))
