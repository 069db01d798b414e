use Rattle.std.proofs.Common.{◌≡◌, ℕ, List, [], ◌∷◌, ◌++◌, not, length, drop, refl, sym, ap, ◌∙◌, arith}
use Rattle.std.specs.Str.{bytes_eq}
use Rattle.std.specs.List.{list_any}
use Rattle.change_set.specs.ChangeSet.{has_record}
use Rattle.change_set.specs.Reading.{last_name}
use Rattle.change_set.proofs.ContentValue.{other_name, no_record, no_rise}
use Rattle.change_pull.specs.declared.item.Item.{Item}
use Rattle.journal_log.specs.tree-disk.Tree.{Name}
use Rattle.change_pull.specs.Files.{number_path}
use Rattle.change_pull.proofs.Contents.{has_size, content_with, next_content, equal, turned}
use Rattle.change_pull.proofs.checks.finish_content.Goals as goal

pub returns-then-ne-clause-bad : goal.returns-then-ne-clause-bad
returns-then-ne-clause-bad c = λ set value written kept so_far long. (
  refl,
  λ content next.
      other_name set.parts (last_name set.contents) value c.as_slice.result.now (drop 20 value) c.digest-name.result content
      (c.as_slice.ensures.value ∙ ap (λ (i : Item). i.kept.items) c.digest-name.ensures.same ∙ so_far.name) refl (c.digest-name.ensures.name (drop 20 value) so_far.hash)
      (sym c.if-ne.true ∙ c.ne.ensures ∙ ap (λ (l : List ℕ). not (bytes_eq c.as_slice.result.now l)) c.as_slice-2.ensures) next,
)

pub returns-then-not-has-clause-bad : goal.returns-then-not-has-clause-bad
returns-then-not-has-clause-bad c = λ set value written kept so_far long. (
  refl,
  λ content next.
      no_record set.parts (last_name set.contents) value (drop 20 value) c.digest-name.result content refl (c.digest-name.ensures.name (drop 20 value) so_far.hash)
      (sym (turned _ c.if-not-has.true) ∙ c.has.ensures set.parts kept.index ∙ ap (λ (n : ℕ). list_any (has_record c.digest-name.result n) set.parts) (has_size value c.args.reading.now.item.len _ long (omega (arith, c.in-Some.ensures)))) next,
)

pub returns-then-not-comes_after-clause-bad : goal.returns-then-not-comes_after-clause-bad
returns-then-not-comes_after-clause-bad c = λ set value written kept so_far long. (
  refl,
  λ content next.
      no_rise set.parts (last_name set.contents) value (drop 20 value) c.digest-name.result content refl (c.digest-name.ensures.name (drop 20 value) so_far.hash)
      (λ after. let is = (c.comes_after.ensures c.args.dir.now set.contents (c.as_slice-3.ensures.value ∙ kept.staged)).1 after in sym c.if-not-comes_after.true ∙ is) next,
)

pub returns-clause-found : goal.returns-clause-found
returns-clause-found c = λ set value written kept so_far long.
    let hash = c.digest-name.ensures.name (drop 20 value) so_far.hash in
    let front = c.as_slice.ensures.value ∙ ap (λ (i : Item). i.kept.items) c.digest-name.ensures.same ∙ so_far.name in
    let count : c.len.result ≡ length c.args.reading.now.staged.items = omega (arith, c.len.ensures) in
    let entry = λ (n : ℕ) (p : Name). c.args.reading.now.staged.items ++ record { name = c.digest-name.result; size = n; path = p } ∷ [] in
    let same = equal c.as_slice.result.now c.as_slice-2.result.now c.ne.result c.ne.ensures c.if-ne.false in (
      content_with c.digest-name.result value,
      next_content set.parts (last_name set.contents) value c.digest-name.result (omega arith) (sym c.as_slice-2.ensures ∙ sym same ∙ front) hash
          (sym (c.has.ensures set.parts kept.index ∙ ap (λ (n : ℕ). list_any (has_record c.digest-name.result n) set.parts) (has_size value c.args.reading.now.item.len _ long (omega (arith, c.in-Some.ensures)))) ∙ c.if-not-has.false)
          ((c.comes_after.ensures c.args.dir.now set.contents (c.as_slice-3.ensures.value ∙ kept.staged)).0 c.if-not-comes_after.false),
      c.in_ok-push.ensures.items ∙ ap (λ (n : ℕ). entry n c.in_ok-path.path) (has_size value c.args.reading.now.item.len _ long (omega (arith, c.in-Some.ensures)))
          ∙ ap (entry (length (drop 20 value))) (c.in_ok-path.ensures.path ∙ ap (number_path c.args.dir.now) count),
    )
