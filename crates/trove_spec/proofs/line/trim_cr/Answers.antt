use Rattle.std.proofs.Common.{◌≡◌, Bool, true, false, cond, ◌==◌, [], ◌∷◌, ◌++◌, sym, ap, ◌∙◌, arith}
use Rattle.std.proofs.lemmas.Bool.Decides.{nat_tests}
use Rattle.trove_spec.specs.Config.{without_cr}
use Rattle.trove_spec.proofs.Trimming.{without_cr-push}
use Rattle.trove_spec.proofs.line.trim_cr.Goals as goal

pub returns-then-last-eq13 : goal.returns-then-last-eq13
returns-then-last-eq13 c =
    let before = c.in-Some.before.now in
    let last = c.in-Some.last.now in
    let is : (last == 13) ≡ true = grind (arith, nat_tests) in
    sym (ap without_cr c.in-Some.ensures.cases.0 ∙ without_cr-push before last ∙ ap (λ (b : Bool). cond b before (before ++ last ∷ [])) is)

pub returns-else-last-eq13 : goal.returns-else-last-eq13
returns-else-last-eq13 c =
    let before = c.in-Some.before.now in
    let last = c.in-Some.last.now in
    let rest = c.in-Some.ensures.cases.0 in
    let other : (last == 13) ≡ false = grind (arith, nat_tests) in
    sym (ap without_cr rest ∙ without_cr-push before last ∙ ap (λ (b : Bool). cond b before (before ++ last ∷ [])) other ∙ sym rest)
