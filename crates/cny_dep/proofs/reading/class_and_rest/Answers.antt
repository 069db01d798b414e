use Rattle.std.proofs.Common.{lit<, ◌∷◌, None, Some}
use Rattle.std.proofs.lemmas.Str.Pattern.{split_after, strip_prefix_char}
use Rattle.cny_dep.specs.Dep.{class_text}
use Rattle.cny_dep.proofs.Cuts.{class_lacks}
use Rattle.cny_dep.proofs.reading.class_and_rest.Goals as goal

pub returns-in_err-rest-clause-only : goal.returns-in_err-rest-clause-only
returns-in_err-rest-clause-only c class rest e =
    let parts = split_after 58 c.args.text.now (class_text class) (32 ∷ rest) (Some (c.in_ok-word.word, c.in_ok-word.rest)) c.in_ok-word.ensures.cases (lit< tt) e (class_lacks class) in
    absurd (strip_prefix_char 32 c.in_ok-word.rest.now None c.in_err-rest.ensures.cases (lit< tt) rest parts.1)
