use Rattle.std.proofs.Common.{◌≡◌, ℕ, ◌||◌, List, take}
use Rattle.std.specs.List.{list_any}
use Rattle.repo_index.specs.Catalogue.{is_file_of, is_file_sized}
use Rattle.repo_index.specs.Keys.{knows, knows_sized, Extends, ExtendsMap}
use Rattle.repo_index.proofs.index.add_contents.Given as goal

abbrev pub invariant-loop-file : goal.invariant-loop-file
invariant-loop-file l = record {
  names : (name : List ℕ) → knows l.contents name ≡ (knows l.fn.contents name || list_any (is_file_of name) (take l.file-index l.files));
  sizes : (name : List ℕ) (size : ℕ) → knows_sized l.contents l.others name size ≡ (knows_sized l.fn.contents l.fn.others name size || list_any (is_file_sized name size) (take l.file-index l.files));
  contents_kept : ExtendsMap l.fn.contents l.contents;
  others_kept : Extends l.fn.others l.others;
}
