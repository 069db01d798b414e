use Rattle.std.proofs.Common.{◌≡◌, Bool, true, false, cond, [], ◌∷◌, ◌++◌, sym, ap, ◌∙◌, rules}
use Rattle.trove_spec.specs.Config.{is_blank, without_back}
use Rattle.trove_spec.proofs.Trimming.{without_back-push}
use Rattle.trove_spec.proofs.line.trim_back.Goals as goal

pub returns-then-not-is_blank : goal.returns-then-not-is_blank
returns-then-not-is_blank c =
    let before = c.in-Some.before.now in
    let last = c.in-Some.last.now in
    let rest = c.in-Some.ensures.cases.0 in
    let solid : is_blank last ≡ false = search rules in
    sym (ap without_back rest ∙ without_back-push before last ∙ ap (λ (b : Bool). cond b (without_back before) (before ++ last ∷ [])) solid ∙ sym rest)
    ∙ c.loop-last.invariant

pub loop-last-preserved : goal.loop-last-preserved
loop-last-preserved c =
    let before = c.in-Some.before.now in
    let last = c.in-Some.last.now in
    let blank : is_blank last ≡ true = search rules in
    sym (ap without_back c.in-Some.ensures.cases.0 ∙ without_back-push before last ∙ ap (λ (b : Bool). cond b (without_back before) (before ++ last ∷ [])) blank)
    ∙ c.loop-last.invariant
