-- What the model file of a root says.
use Rattle.std.specs.Prelude.{◌≡◌, ℕ, List, if◌then◌else◌, Result, Ok, Err, codes}
use Rattle.repo_index.specs.cny-base.declared.refusal.Fault.TheVariants as fault
use Rattle.repo_index.specs.cny-base.declared.refusal.Refusal.{Refusal}
use Rattle.repo_index.specs.cny-base.declared.refusal.Refusal.TheVariants as refusal
use Rattle.repo_index.specs.cny-base.declared.refusal.What.TheVariants as what
use Rattle.repo_index.specs.cny-base.declared.stop.Stop.{Stop}
use Rattle.tree_disk.specs.Tree.{Name, Tree}
use Rattle.tree_disk.specs.Disk.{DiskModel}
use Rattle.tree_disk.specs.Rows.{bytes_at, is_file_at}
use Rattle.trove_spec.specs.RootFile.{within_limit, ReadsFile}
use Rattle.sys_model.specs.declared.model.Model.{Model}
use Rattle.sys_model.specs.Model.{lines_of, IsModelOf, IsBadModelOrMemory}

abbrev pub model_path : Name
model_path = codes "/etc/conary/system-model"

-- ---- the file

-- The bytes of the file, unless no file stands at its path, or it has too many.
abbrev pub model_file : Tree → Result (List ℕ) Refusal
model_file tree = if is_file_at tree model_path then within_limit what.Model (bytes_at tree model_path) else Err refusal.NoModel

-- ---- what it says

-- The bytes say this model, or are refused for the first line that is bad; or there are none to read.
abbrev pub HasModelIn : Result (List ℕ) Refusal → Result Model Refusal → Type 0
HasModelIn (Ok bytes) (Ok model) = IsModelOf (lines_of bytes) model
HasModelIn (Ok bytes) (Err refused) = IsBadModelOrMemory (lines_of bytes) (fault.Refused refused)
HasModelIn (Err unread) (Ok model) = ⊥
HasModelIn (Err unread) (Err refused) = refused ≡ unread

-- The model file of the tree says this model, or is refused for this.
abbrev pub HasModel : Tree → Result Model Refusal → Type 0
HasModel tree result = HasModelIn (model_file tree) result

-- The model was read, and nothing was changed.
abbrev pub ReadsModel : {D : Type 0} → DiskModel D → D → D → Result Model Stop → Type 0
ReadsModel disk old new result = ReadsFile HasModel disk old new result
