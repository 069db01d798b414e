-- The model file, by a look at it.
use Rattle.std.proofs.Common.{◌≡◌, ℕ, ◌<◌, List, Option, Some, None, Err, sym, ap, ◌∙◌, refl}
use Rattle.std.specs.Prelude.{if◌then◌else◌, Result}
use Rattle.std.specs.FinMap.{get}
use Rattle.repo_index.specs.cny-base.declared.limits.TheConstants.{CONFIG_LIMIT}
use Rattle.repo_index.specs.cny-base.declared.node.Node.{Node}
use Rattle.repo_index.specs.cny-base.declared.node.Node.TheVariants as node
use Rattle.repo_index.specs.cny-base.declared.refusal.Refusal.{Refusal}
use Rattle.repo_index.specs.cny-base.declared.refusal.Refusal.TheVariants as refusal
use Rattle.repo_index.specs.cny-base.declared.refusal.What.TheVariants as what
use Rattle.tree_disk.specs.declared.disk.Look.{Look}
use Rattle.tree_disk.specs.Looks.{size_seen}
use Rattle.tree_disk.specs.Rows.{bytes_of, look_of, seen_as}
use Rattle.tree_disk.specs.Tree.{Tree, is_file}
use Rattle.trove_spec.specs.RootFile.{within_limit}
use Rattle.trove_spec.proofs.Sizes.{over}
use Rattle.sys_model.specs.RootModel.{model_file, model_path}

-- what is read of what stands at its path
abbrev pub file_of : Option Node → Result (List ℕ) Refusal
file_of o = if is_file o then within_limit what.Model (bytes_of o) else Err refusal.NoModel

large : (o : Option Node) (size : ℕ) → size_seen (seen_as o) ≡ Some size → CONFIG_LIMIT < size → file_of o ≡ Err (refusal.TooLarge what.Model size)
large None size is lt = absurd (cc is)
large (Some (node.Dir mode)) size is lt = absurd (cc is)
large (Some (node.File mode bytes)) size is lt = over what.Model bytes size (cc is) lt
large (Some (node.Link target)) size is lt = absurd (cc is)

unseen : (o : Option Node) → size_seen (seen_as o) ≡ None → file_of o ≡ Err refusal.NoModel
unseen None is = refl
unseen (Some (node.Dir mode)) is = refl
unseen (Some (node.File mode bytes)) is = absurd (cc is)
unseen (Some (node.Link target)) is = refl

-- a file that is seen to have more bytes than the limit is too large
pub large_seen : (tree : Tree) (look : Look) (size : ℕ) → look ≡ look_of tree model_path → size_seen look ≡ Some size → CONFIG_LIMIT < size → model_file tree ≡ Err (refusal.TooLarge what.Model size)
large_seen tree look size seen is lt = large (get tree model_path) size (ap size_seen (sym seen) ∙ is) lt

-- where no size is seen there is no model
pub none_seen : (tree : Tree) (look : Look) → look ≡ look_of tree model_path → size_seen look ≡ None → model_file tree ≡ Err refusal.NoModel
none_seen tree look seen is = unseen (get tree model_path) (ap size_seen (sym seen) ∙ is)
