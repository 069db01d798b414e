use Rattle.std.proofs.Common.{◌≡◌, ℕ, ◌||◌, List, take}
use Rattle.change_set.specs.Index.{has_key, has_file}
use Rattle.change_set.proofs.recorded.add_files.Given as goal

abbrev pub invariant-loop-file : goal.invariant-loop-file
invariant-loop-file l =
    (name : List ℕ) (size : ℕ) → has_key name size l.keys ≡ (has_key name size l.fn.keys || has_file name size (take l.file-index l.files))
