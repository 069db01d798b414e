use Rattle.std.proofs.Common.{◌∷◌, ◌++◌, ◌≤◌, length, string_bytes, sym, ap, ◌∙◌, subst, append_assoc}
use Rattle.cny_version.specs.Version.{WholeBranch, branch_text}
use Rattle.cny_version.specs.Made.{shadowed}
use Rattle.cny_version.proofs.KeptBranches.{kept_shadow}
use Rattle.cny_version.proofs.branch.Branch.shadow.Goals as goal

pub invariant_of-result : goal.invariant_of-result
invariant_of-result c =
    let b : WholeBranch = record { before = c.self.inside.before.items; first = c.self.inside.first; shadows = c.self.inside.shadows.items } in
    let old = string_bytes c.self.inside.text in
    kept_shadow b c.args.label c.self.inside.depth _ old _ c.self.invariant c.text.ensures.label
    c.in_ok-push.ensures.items
    (c.in_ok-push_str-2.ensures.bytes
    ∙ ap (λ l. l ++ c.text.result.now) c.in_ok-push_str.ensures.bytes
    ∙ append_assoc old _ c.text.result.now
    ∙ ap (λ l. old ++ (47 ∷ 47 ∷ l)) c.text.ensures.value)
    (subst (λ b. length (branch_text (shadowed b c.args.label)) ≤ 512) (sym c.self.view_is) c.requires)
