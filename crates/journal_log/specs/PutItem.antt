-- The items of puts, and the puts of a log.
use Rattle.std.specs.Prelude.{◌≡◌, ℕ, ◌<◌, ◌^◌, false, IsTrue, List, length, All, slice_range}
use Rattle.std.specs.Int.{w32, to_be_bytes}
use Rattle.tree_disk.specs.cny-base.Path.{is_path}
use Rattle.journal_log.specs.declared.put.Put.{Put}
use Rattle.journal_log.specs.WriteSet.{IsFormed}
use Rattle.journal_log.specs.Staged.{is_file_want}
use Rattle.journal_log.specs.LogBytes.{put_tag, put_value, FitsPut, log_bytes}

-- the item with this tag and value is that of the put, which holds what its types do and no bytes of a file
pub record IsPutItem (p : Put) (tag : ℕ) (value : List ℕ) : Type 0 where
  pub path : IsTrue (is_path p.path)
  pub formed : IsFormed p.want
  pub no_bytes : is_file_want p.want ≡ false
  pub tagged : put_tag p.want ≡ tag
  pub spelled : put_value p.path p.want ≡ value

-- a put that holds what its types do and no bytes of a file, and has an item
pub record IsTold (p : Put) : Type 0 where
  pub path : IsTrue (is_path p.path)
  pub formed : IsFormed p.want
  pub no_bytes : is_file_want p.want ≡ false
  pub fits : FitsPut p

-- the bytes are the magic, the items of these puts, and the last item
pub record ArePutsOf (puts : List Put) (bytes : List ℕ) : Type 0 where
  pub told : All IsTold puts
  pub number : length puts < 2 ^ 32
  pub text : bytes ≡ log_bytes puts

-- the last item's value tells the number of puts, and the bytes end behind it
pub record IsEnd (bytes : List ℕ) (from to number : ℕ) : Type 0 where
  pub fits : number < 2 ^ 32
  pub told : slice_range bytes from to ≡ to_be_bytes w32 number
  pub last : to ≡ length bytes
