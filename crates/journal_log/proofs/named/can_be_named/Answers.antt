use Rattle.std.proofs.Common.{ap, ◌∙◌, List, ℕ, ◌≡◌, Bool}
use Rattle.std.specs.Str.{bytes_eq}
use Rattle.tree_disk.specs.cny-base.Path.{root}
use Rattle.journal_log.specs.Own.{is_own_file}
use Rattle.journal_log.proofs.Naming.{refused_name, named_answer}
use Rattle.journal_log.proofs.named.can_be_named.Goals as goal

two : (P : List ℕ → List ℕ → Bool) (a b x y : List ℕ) (t : Bool) → a ≡ x → b ≡ y → t ≡ P a b → t ≡ P x y
two P a b x y t e f h = h ∙ ap (λ (l : List ℕ). P l b) e ∙ ap (P x) f

pub returns-then-is_root-clause-named : goal.returns-then-is_root-clause-named
returns-then-is_root-clause-named c =
    refused_name c.args.base.now c.args.path.now c.eq-is_root.result c.eq-is_base.result
    (c.eq-is_root.ensures ∙ ap (λ (l : List ℕ). bytes_eq l root) c.text-text.ensures.value)
    (two bytes_eq _ _ _ _ _ c.text-text.ensures.value c.text-dir.ensures.value c.eq-is_base.ensures)
    c.then-is_root.either

pub returns-clause-named : goal.returns-clause-named
returns-clause-named c =
    named_answer c.args.base.now c.args.path.now c.eq-is_root.result c.eq-is_base.result c.is_own_file.result
    (c.eq-is_root.ensures ∙ ap (λ (l : List ℕ). bytes_eq l root) c.text-text.ensures.value)
    (two bytes_eq _ _ _ _ _ c.text-text.ensures.value c.text-dir.ensures.value c.eq-is_base.ensures)
    (two is_own_file _ _ _ _ _ (c.as_bytes.ensures.value ∙ c.text-dir.ensures.value) (c.as_bytes-2.ensures.value ∙ c.text-text.ensures.value) c.is_own_file.ensures)
    c.if-is_root.false c.if-is_base.false
