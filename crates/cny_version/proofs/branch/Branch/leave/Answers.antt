use Rattle.std.proofs.Common.{◌≡◌, [], ◌∷◌, ◌++◌, ◌≤◌, true, length, string_bytes, List, ℕ, sym, ap, ◌∙◌, subst, append_assoc, lit<}
use Rattle.cny_version.specs.Revision.{revision_text, is_revision}
use Rattle.cny_version.specs.Version.{WholeBranch, branch_text, depth}
use Rattle.cny_version.specs.Made.{branched}
use Rattle.cny_version.proofs.KeptBranches.{kept_branch}
use Rattle.cny_version.proofs.branch.Branch.leave.Goals as goal

-- one text after another
joined : (old own label : List ℕ) → ((((old ++ 47 ∷ []) ++ own) ++ 47 ∷ []) ++ label) ≡ old ++ ((47 ∷ own) ++ (47 ∷ label))
joined old own label = simp append_assoc

pub invariant_of-result : goal.invariant_of-result
invariant_of-result c =
    let b : WholeBranch = record { before = c.self.inside.before.items; first = c.self.inside.first; shadows = c.self.inside.shadows.items } in
    let old = string_bytes c.self.inside.text in
    let own = revision_text c.args.revision in
    kept_branch b c.args.revision c.args.label c.self.inside.depth _ _ old _ c.self.invariant
    (subst (λ b. is_revision (depth b) c.args.revision ≡ true) (sym c.self.view_is) c.requires.fits)
    c.text.ensures.label c.in_ok-push-3.ensures.items c.new.ensures.items
    (c.in_ok-push_str.ensures.bytes
    ∙ ap (λ l. l ++ c.text.result.now) (c.in_ok-push-2.ensures.bytes ∙ ap (λ l. string_bytes c.push_revision.new.text ++ l) (c.in_ok-push-2.ensures.ascii (lit< tt)))
    ∙ ap (λ l. (l ++ 47 ∷ []) ++ c.text.result.now) c.in_ok-push_revision.ensures
    ∙ ap (λ l. ((l ++ own) ++ 47 ∷ []) ++ c.text.result.now) (c.in_ok-push.ensures.bytes ∙ ap (λ l. old ++ l) (c.in_ok-push.ensures.ascii (lit< tt)))
    ∙ joined old own c.text.result.now
    ∙ ap (λ l. old ++ ((47 ∷ own) ++ (47 ∷ l))) c.text.ensures.value)
    (subst (λ b. length (branch_text (branched b c.args.revision c.args.label)) ≤ 512) (sym c.self.view_is) c.requires.short)
