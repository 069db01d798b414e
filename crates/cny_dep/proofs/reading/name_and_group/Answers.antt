use Rattle.std.proofs.Common.{◌≡◌, ℕ, List, [], ◌∷◌, ◌++◌, Option, Some, None, lit<, sym, ap, ◌∙◌, refl}
use Rattle.std.proofs.lemmas.List.{append-nil}
use Rattle.std.proofs.lemmas.Str.Pattern.{split_parts, strip_suffix_char}
use Rattle.cny_dep.specs.Listing.{group_text}
use Rattle.cny_dep.proofs.Cuts.{Lacks, same_cut, no_cut, same_group, name_lacks}
use Rattle.cny_dep.proofs.reading.name_and_group.Goals as goal

-- a text without `(` is a name alone
alone : (text name : List ℕ) (group : Option (List ℕ)) → Lacks 40 text → text ≡ name ++ group_text group → (text ≡ name) × (None ≡ group)
alone text name None lacks e = (e ∙ append-nil name, refl)
alone text name (Some group) lacks e = absurd (no_cut 40 text name (group ++ 41 ∷ []) lacks e)

-- what stands behind the first `(` ends in `)`
closed : (front rest name : List ℕ) (group : Option (List ℕ)) → Lacks 40 front → Lacks 40 name → front ++ 40 ∷ rest ≡ name ++ group_text group
    → ((inner : List ℕ) → rest ≡ inner ++ 41 ∷ [] → ⊥) → ⊥
closed front rest name None lf ln e open_end = no_cut 40 name front rest ln (sym (append-nil name) ∙ sym e)
closed front rest name (Some group) lf ln e open_end = open_end group (same_cut 40 front name rest (group ++ 41 ∷ []) lf ln e).1

pub returns-in_err-group-in-Some-clause-only : goal.returns-in_err-group-in-Some-clause-only
returns-in_err-group-in-Some-clause-only c name group valid e =
    let parts = split_parts 40 c.args.text.now (Some (c.in-Some.name, c.in-Some.rest)) c.in-Some.ensures.cases (lit< tt) in
    absurd (closed c.in-Some.name.now c.in-Some.rest.now name group parts.1 (name_lacks name valid) (sym parts.0 ∙ e)
    (strip_suffix_char 41 c.in-Some.rest.now None c.in_err-group-in-Some.ensures.cases (lit< tt)))

pub returns-in-None-clause-only : goal.returns-in-None-clause-only
returns-in-None-clause-only c name group valid e =
    alone c.args.text.now name group (split_parts 40 c.args.text.now None c.in-None.ensures.cases (lit< tt)) e

pub returns-in_ok-group-in-Some-clause-only : goal.returns-in_ok-group-in-Some-clause-only
returns-in_ok-group-in-Some-clause-only c name group valid e =
    let parts = split_parts 40 c.args.text.now (Some (c.in-Some.name, c.in-Some.rest)) c.in-Some.ensures.cases (lit< tt) in
    let inner = c.in_ok-group-in-Some.group in
    let ends : c.in-Some.rest.now ≡ inner.now ++ 41 ∷ [] = strip_suffix_char 41 c.in-Some.rest.now (Some inner) c.in_ok-group-in-Some.ensures.cases (lit< tt) in
    same_group c.in-Some.name.now name (Some inner.now) group parts.1 (name_lacks name valid) (ap (λ l. c.in-Some.name.now ++ 40 ∷ l) (sym ends) ∙ sym parts.0 ∙ e)
