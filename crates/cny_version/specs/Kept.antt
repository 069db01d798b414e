-- What a branch keeps beside its parts.
use Rattle.std.specs.Prelude.{◌≡◌, ℕ, ◌≤◌, List, length}
use Rattle.cny_base.specs.declared.limits.TheConstants.{VERSION_LIMIT}
use Rattle.cny_version.specs.Version.{WholeBranch, branch_text, depth, IsBranch}

-- a branch with its depth and its text, which is short enough for a version
pub record IsBranchWith (b : WholeBranch) (shadows : ℕ) (text : List ℕ) : Type 0 where
  pub branch : IsBranch b
  pub depth_is : shadows ≡ depth b
  pub few : shadows ≤ length text
  pub text_is : text ≡ branch_text b
  pub short : length text ≤ VERSION_LIMIT
