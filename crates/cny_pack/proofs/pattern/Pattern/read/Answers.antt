use Rattle.std.proofs.Common.{◌≡◌, ℕ, List, ◌∷◌, ◌++◌, lit<, None, Some, ap, ◌∙◌}
use Rattle.std.proofs.lemmas.Str.Pattern.{split_parts}
use Rattle.cny_pack.specs.Patterns.{HasNoStar, IsPatternOf}
use Rattle.cny_pack.specs.declared.pattern.Pattern.{Pattern}
use Rattle.cny_pack.proofs.Reading.{both_ok, pattern_of}
use Rattle.cny_pack.proofs.pattern.Pattern.read.Goals as goal

pub returns-in_ok-new-in-None-clause-value : goal.returns-in_ok-new-in-None-clause-value
returns-in_ok-new-in-None-clause-value c = (c.in_ok-new-in-None.ensures, split_parts 42 c.args.text.now None c.in-None.ensures.cases (lit< tt))

pub returns-in-Some-clause-value : goal.returns-in-Some-clause-value
returns-in-Some-clause-value c =
    let parts = split_parts 42 c.args.text.now (Some (c.in-Some.before, c.in-Some.after)) c.in-Some.ensures.cases (lit< tt) in
    both_ok c.with_star.result (λ (p : Pattern). (p.before ≡ c.in-Some.before.now) × (p.after ≡ Some c.in-Some.after.now)) (HasNoStar c.in-Some.after.now) (λ (p : Pattern). IsPatternOf c.args.text.now p.before p.after)
    (λ p is single. pattern_of c.args.text.now c.in-Some.before.now c.in-Some.after.now p is.0 is.1 parts.0 parts.1 single) c.with_star.ensures.value c.with_star.ensures.single

pub returns-in-Some-clause-bad : goal.returns-in-Some-clause-bad
returns-in-Some-clause-bad c = λ is.
    let parts = split_parts 42 c.args.text.now (Some (c.in-Some.before, c.in-Some.after)) c.in-Some.ensures.cases (lit< tt) in
    let star = c.with_star.ensures.bad is in
    (c.in-Some.before.now, star.0, star.1, parts.0 ∙ ap (λ (l : List ℕ). c.in-Some.before.now ++ 42 ∷ l) star.2)
