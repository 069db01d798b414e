use Rattle.std.proofs.Common.{◌≡◌, ℕ, List, not, rules, sym, ◌∙◌, ap}
use Rattle.std.specs.Str.{bytes_eq}
use Rattle.std.proofs.lemmas.Fn.{filter_same}
use Rattle.std.proofs.lemmas.Map.Text.{is_eq-slice_cmp}
use Rattle.rollback_stack.specs.tree-disk.Tree.{same_name}
use Rattle.system_core.proofs.inserting.remove_at.Goals as goal

same_bytes : (p q : List ℕ) → bytes_eq p q ≡ same_name p q
same_bytes p q = sym (is_eq-slice_cmp p q)

pub returns : goal.returns
returns c = filter_same _ _ _ (λ x b f' k. let told : b ≡ not (bytes_eq c.args.path.now x.path) = search rules in (told ∙ ap not (same_bytes c.args.path.now x.path), search rules)) _ _ c.retain.ensures.filtered
