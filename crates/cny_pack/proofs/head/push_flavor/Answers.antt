use Rattle.std.proofs.Common.{◌≡◌, ◌==◌, ℕ, List, ◌++◌, length, ap, sym, ◌∙◌, subst, codes}
use Rattle.std.proofs.lemmas.Str.{is_utf8-from_IsUtf8}
use Rattle.cny_dep.specs.Canonical.{flavor_text}
use Rattle.cny_manifest.proofs.Values.{empty_some}
use Rattle.cny_pack.specs.Head.{AddsLine}
use Rattle.std.proofs.Common.{true, false, refl, [], ◌∷◌, arith}
use Rattle.std.proofs.lemmas.Bool.{eqb-true}
use Rattle.cny_pack.proofs.Stopping.{handed, unread_more}
use Rattle.cny_manifest.specs.Body.{is_empty}
use Rattle.cny_manifest.specs.Grammar.{IsLine}
use Rattle.cny_dep.specs.declared.parts.Parts.{Parts}
use Rattle.cny_pack.specs.declared.stop.BadWord.TheVariants as bad
use Rattle.cny_pack.proofs.head.push_flavor.Goals as goal

empty_true : (l : List ℕ) → (length l == 0) ≡ true → is_empty l ≡ true
empty_true [] none = refl
empty_true (x ∷ l) none = absurd (omega (arith, eqb-true (length (x ∷ l)) 0 none))

pub returns-clause-added : goal.returns-clause-added
returns-clause-added c =
    let line : c.push_slice.new.self ≡ codes "flavor " ++ c.args.word.now =
    c.in_ok-push_slice.ensures.ok ∙ ap (λ (l : List ℕ). l ++ c.as_bytes.result.now) c.in_ok-line.ensures ∙ ap (λ (l : List ℕ). codes "flavor " ++ l) c.as_bytes.ensures.value in
    record {
      is = record {
        utf8 = is_utf8-from_IsUtf8 c.args.word.now c.utf8.word;
        spelled = c.in_ok-flavor.ensures.is;
        some = empty_some (flavor_text c.in_ok-flavor.flavor) (ap (λ (l : List ℕ). length l == 0) (sym c.text.ensures.value) ∙ sym c.is_empty.ensures ∙ c.if-is_empty.false);
      };
      line = subst (λ (l : List ℕ). AddsLine l c.args.text.now c.push_line.new.text) line c.in_ok-push_line.ensures.added;
    }

pub returns-in_err-flavor-clause-refused : goal.returns-in_err-flavor-clause-refused
returns-in_err-flavor-clause-refused c = handed c.from_residual.result _ _ c.from_residual.ensures.1 (unread_more bad.Flavor _ (λ none can. none can.parts can.is.spelled) c.in_err-flavor.ensures.refused)

pub returns-then-is_empty-clause-refused : goal.returns-then-is_empty-clause-refused
returns-then-is_empty-clause-refused c =
    let flavor : Parts = c.in_ok-flavor.flavor in
    let none : (length (flavor_text flavor) == 0) ≡ true = ap (λ (l : List ℕ). length l == 0) (sym c.text.ensures.value) ∙ sym c.is_empty.ensures ∙ c.if-is_empty.true in (
      refl,
      λ can. let no : true ≡ false = sym (empty_true (flavor_text flavor) none) ∙ ap (λ (p : Parts). is_empty (flavor_text p)) (c.in_ok-flavor.ensures.only can.parts can.is.spelled) ∙ can.is.some in cc,
    )

pub returns-in_err-push_line-clause-refused : goal.returns-in_err-push_line-clause-refused
returns-in_err-push_line-clause-refused c =
    let line : c.push_slice.new.self ≡ codes "flavor " ++ c.args.word.now =
    c.in_ok-push_slice.ensures.ok ∙ ap (λ (l : List ℕ). l ++ c.as_bytes.result.now) c.in_ok-line.ensures ∙ ap (λ (l : List ℕ). codes "flavor " ++ l) c.as_bytes.ensures.value in
    handed c.from_residual-in_err-push_line.result _ _ c.from_residual-in_err-push_line.ensures.1 (unread_more bad.Flavor _ (λ long can. long (subst IsLine (sym line) can.fits)) c.in_err-push_line.ensures.refused)
