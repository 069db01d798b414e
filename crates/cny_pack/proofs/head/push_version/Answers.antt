use Rattle.std.proofs.Common.{◌≡◌, ℕ, List, ◌++◌, sym, ap, ◌∙◌, subst, codes}
use Rattle.cny_manifest.specs.Spelling.{version_line}
use Rattle.cny_pack.specs.Head.{AddsLine}
use Rattle.cny_pack.proofs.Stopping.{handed, unread_more}
use Rattle.cny_manifest.specs.Grammar.{IsLine}
use Rattle.cny_pack.specs.declared.stop.BadWord.TheVariants as bad
use Rattle.cny_pack.proofs.head.push_version.Goals as goal

pub returns-clause-added : goal.returns-clause-added
returns-clause-added c =
    let line : c.push_slice.new.self ≡ version_line c.args.word.now =
    c.in_ok-push_slice.ensures.ok ∙ ap (λ (l : List ℕ). l ++ c.as_bytes.result.now) c.in_ok-line.ensures ∙ ap (λ (l : List ℕ). codes "version " ++ l) c.as_bytes.ensures.value in
    record {
      is = c.in_ok-version.ensures.is;
      line = subst (λ (l : List ℕ). AddsLine l c.args.text.now c.push_line.new.text) line c.in_ok-push_line.ensures.added;
    }

pub returns-in_err-version-clause-refused : goal.returns-in_err-version-clause-refused
returns-in_err-version-clause-refused c = handed c.from_residual.result _ _ c.from_residual.ensures.1 (unread_more bad.Version _ (λ none can. none can.version can.is) c.in_err-version.ensures.refused)

pub returns-in_err-push_line-clause-refused : goal.returns-in_err-push_line-clause-refused
returns-in_err-push_line-clause-refused c =
    let line : c.push_slice.new.self ≡ version_line c.args.word.now =
    c.in_ok-push_slice.ensures.ok ∙ ap (λ (l : List ℕ). l ++ c.as_bytes.result.now) c.in_ok-line.ensures ∙ ap (λ (l : List ℕ). codes "version " ++ l) c.as_bytes.ensures.value in
    handed c.from_residual-in_err-push_line.result _ _ c.from_residual-in_err-push_line.ensures.1 (unread_more bad.Version _ (λ long can. long (subst IsLine (sym line) can.fits)) c.in_err-push_line.ensures.refused)
