use Rattle.std.proofs.Common.{◌≡◌, ℕ, false, IsTrue, List, [], ◌∷◌, ◌++◌, ap, sym, ◌∙◌, subst, append_assoc}
use Rattle.manifest_troves.specs.cny-base.Name.{is_name, kind_of_name}
use Rattle.cny_manifest.specs.Grammar.{kind_word}
use Rattle.cny_manifest.specs.Spelling.{name_line}
use Rattle.cny_pack.specs.Head.{AddsLine}
use Rattle.cny_pack.proofs.Stopping.{handed, unread_more}
use Rattle.cny_pack.specs.Causes.{CanName}
use Rattle.cny_manifest.specs.Body.{is_group_kind}
use Rattle.cny_manifest.specs.Grammar.{IsLine}
use Rattle.cny_pack.specs.declared.stop.BadWord.TheVariants as bad
use Rattle.cny_pack.proofs.head.push_name.Goals as goal

pub returns-clause-added : goal.returns-clause-added
returns-clause-added c =
    let word : List ℕ = c.args.word.now in
    let name : List ℕ = c.in_ok-name.name in
    let kind : List ℕ = kind_word (kind_of_name name) in
    let is : name ≡ word = c.in_ok-name.ensures.value in
    let line : c.push_slice.new.self ≡ name_line name =
    c.in_ok-push_slice.ensures.ok
    ∙ ap (λ (l : List ℕ). l ++ c.as_bytes.result.now) (c.in_ok-line.ensures ∙ c.in_ok-kind_front.ensures.front)
    ∙ ap (λ (l : List ℕ). (kind ++ 32 ∷ []) ++ l) (c.as_bytes.ensures.value ∙ sym is)
    ∙ append_assoc kind (32 ∷ []) name in
    record {
      is = is;
      named = subst (λ (l : List ℕ). IsTrue (is_name l)) (sym is) c.in_ok-name.ensures.named;
      no_group = c.in_ok-kind_front.ensures.no_group;
      line = subst (λ (l : List ℕ). AddsLine l c.args.text.now c.push_line.new.text) line c.in_ok-push_line.ensures.added;
    }

pub returns-in_err-name-clause-refused : goal.returns-in_err-name-clause-refused
returns-in_err-name-clause-refused c = handed c.from_residual.result _ _ c.from_residual.ensures.1 (unread_more bad.Name _ (λ none can. none can.named) c.in_err-name.ensures.refused)

pub returns-in_err-kind_front-clause-refused : goal.returns-in_err-kind_front-clause-refused
returns-in_err-kind_front-clause-refused c =
    handed c.from_residual-in_err-kind_front.result _ _ c.from_residual-in_err-kind_front.ensures.1
    (unread_more bad.Name _ (λ group can. group (subst (λ (l : List ℕ). is_group_kind (kind_of_name l) ≡ false) (sym c.in_ok-name.ensures.value) can.no_group)) c.in_err-kind_front.ensures.refused)

pub returns-in_err-push_line-clause-refused : goal.returns-in_err-push_line-clause-refused
returns-in_err-push_line-clause-refused c =
    let word : List ℕ = c.args.word.now in
    let name : List ℕ = c.in_ok-name.name in
    let kind : List ℕ = kind_word (kind_of_name name) in
    let is : name ≡ word = c.in_ok-name.ensures.value in
    let line : c.push_slice.new.self ≡ name_line name =
    c.in_ok-push_slice.ensures.ok
    ∙ ap (λ (l : List ℕ). l ++ c.as_bytes.result.now) (c.in_ok-line.ensures ∙ c.in_ok-kind_front.ensures.front)
    ∙ ap (λ (l : List ℕ). (kind ++ 32 ∷ []) ++ l) (c.as_bytes.ensures.value ∙ sym is)
    ∙ append_assoc kind (32 ∷ []) name in
    handed c.from_residual-in_err-push_line.result _ _ c.from_residual-in_err-push_line.ensures.1
    (unread_more bad.Name _ (λ long can. long (subst IsLine (sym (line ∙ ap name_line is)) can.fits)) c.in_err-push_line.ensures.refused)
