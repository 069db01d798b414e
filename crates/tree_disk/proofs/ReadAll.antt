-- A file read in pieces.
use Rattle.std.proofs.Common.{◌≡◌, ℕ, ◌+◌, ◌≤◌, List, ◌++◌, length, take, drop, sym, ◌∙◌, ap, arith, IsTrue, length-take}
use Rattle.std.proofs.Common.{take-add}
use Rattle.tree_disk.specs.Whole.{IsPiece}
use Rattle.tree_disk.specs.Moments.{same_on, time_on}
use Rattle.std.specs.FinMap.{get}
use Rattle.tree_disk.specs.Tree.{Name}
use Rattle.tree_disk.specs.Rows.{bytes_of, is_file_at}
use Rattle.tree_disk.specs.Disk.{DiskModel, IsDisk, HasRead, Unchanged, Elapses}

-- what a disk that tells has shown so far
pub record Shown {D : Type 0} (disk : DiskModel D) (path : Name) (size : ℕ) (bytes : List ℕ) (old d : D) : Type 0 where
  pub file : IsTrue (is_file_at (disk.reads old) path)
  pub long : length (bytes_of (get (disk.reads old) path)) ≡ size
  pub front : bytes ≡ take (length bytes) (bytes_of (get (disk.reads old) path))
  pub within : length bytes ≤ size
  pub same : Unchanged disk old d
  pub time : Elapses disk old d

pub record SoFar {D : Type 0} (disk : DiskModel D) (path : Name) (size : ℕ) (bytes : List ℕ) (old d : D) : Type 0 where
  pub told : IsTrue disk.tells → Shown disk path size bytes old d
  pub faults : disk.faults old ≤ disk.faults d
  pub most : length bytes ≤ size

take_two : (m n : ℕ) (file : List ℕ) → take m file ++ take n (drop m file) ≡ take (m + n) file
take_two m n file = sym (take-add m n file)

module _ {D : Type 0} {disk : DiskModel D} (laws : IsDisk disk) (path : Name) (size : ℕ) where
  pub shown_on : (old mid new : D) (bytes more : List ℕ) (room count : ℕ) → Shown disk path size bytes old mid → HasRead disk mid new (IsPiece (bytes_of (get (disk.reads mid) path)) room bytes more count) → Shown disk path size more old new
  shown_on old mid new bytes more room count shown read =
      let file = bytes_of (get (disk.reads old) path) in
      let kept : bytes_of (get (disk.reads mid) path) ≡ file = ap (λ t. bytes_of (get t path)) shown.same.reads in
      let piece : more ≡ take (length bytes + count) file =
      read.answer.piece
      ∙ ap (λ f. bytes ++ take count (drop (length bytes) f)) kept
      ∙ ap (λ l. l ++ take count (drop (length bytes) file)) shown.front
      ∙ take_two (length bytes) count file in
      let fits : length bytes + count ≤ size = omega (arith, read.answer.most, shown.within, shown.long, ap length kept) in
      let long : length more ≡ length bytes + count = ap length piece ∙ length-take (length bytes + count) file ∙ omega (arith, fits, shown.long) in
      record {
        file = shown.file;
        long = shown.long;
        front = piece ∙ ap (λ (n : ℕ). take n file) (sym long);
        within = omega (arith, long, fits);
        same = same_on shown.same read.same;
        time = time_on laws shown.same shown.time read.time;
      }
