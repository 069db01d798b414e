-- Bytes that are written one behind the other.
use Rattle.std.proofs.Common.{◌≡◌, ℕ, zero, suc, ◌+◌, ◌≤◌, Bool, IsTrue, List, [], ◌∷◌, ◌++◌, length, take, drop, Option, Some, None, refl, sym, ap, ◌∙◌, append_assoc, append-nil, length-append, length-take, length-drop, arith}
use Rattle.std.specs.FinMap.{get}
use Rattle.std.specs.Io.KnownBytes.{Appends}
use Rattle.std.proofs.Math.Seq.{take-nil}
use Rattle.std.proofs.lemmas.List.{take_all, take-append-le}
use Rattle.tree_disk.specs.cny-base.declared.node.Node.{Node}
use Rattle.tree_disk.specs.cny-base.declared.node.Node.TheVariants as node
use Rattle.tree_disk.specs.Looks.{size_seen}
use Rattle.tree_disk.specs.Rows.{bytes_at, bytes_of, look_of, seen_as, ReadsFrom}
use Rattle.tree_disk.specs.Tree.{Name, Tree, is_file}
use Rattle.cny_pack.specs.Entries.{IsFileOf}
use Rattle.cny_pack.specs.Gives.{GivesPiece, GivesContent}

pub appends_on : (a b c : Option (List ℕ)) (x y : List ℕ) → Appends a b x → Appends b c y → Appends a c (x ++ y)
appends_on None b c x y first next = tt
appends_on (Some xs) None c x y first next = absurd first
appends_on (Some xs) (Some ys) None x y first next = absurd next
appends_on (Some xs) (Some ys) (Some zs) x y first next = next ∙ ap (λ (l : List ℕ). l ++ y) first ∙ append_assoc xs x y

pub appends_none : (a : Option (List ℕ)) → Appends a a []
appends_none None = tt
appends_none (Some xs) = sym (append-nil xs)

-- ---- a content, piece by piece

take_both : (m n : ℕ) (xs : List ℕ) → take m xs ++ take n (drop m xs) ≡ take (m + n) xs
take_both zero n xs = let is : n ≡ 0 + n = omega arith in ap (λ (k : ℕ). take k xs) is
take_both (suc m) n [] = take-nil n ∙ sym (take-nil (suc m + n))
take_both (suc m) n (x ∷ xs) =
    let is : suc (m + n) ≡ suc m + n = omega arith in
    ap (λ (l : List ℕ). x ∷ l) (take_both m n xs) ∙ ap (λ (k : ℕ). take k (x ∷ xs)) is

pub piece_none : (tells : Bool) (t : Tree) (path : Name) (w : Option (List ℕ)) → GivesPiece tells t path 0 0 w w
piece_none tells t path w = record { bytes = []; given = appends_none w; long = refl; told = λ told. refl }

pub piece_on : (tells : Bool) (t : Tree) (path : Name) (m n : ℕ) (a b c : Option (List ℕ)) → GivesPiece tells t path 0 m a b → GivesPiece tells t path m n b c → GivesPiece tells t path 0 (m + n) a c
piece_on tells t path m n a b c first next = record {
  bytes = first.bytes ++ next.bytes;
  given = appends_on a b c first.bytes next.bytes first.given next.given;
  long = length-append first.bytes next.bytes ∙ ap (λ k. k + length next.bytes) first.long ∙ ap (λ k. m + k) next.long;
  told = λ told.
      ap (λ (l : List ℕ). l ++ next.bytes) (first.told told) ∙ ap (λ (l : List ℕ). take m (bytes_at t path) ++ l) (next.told told)
      ∙ take_both m n (bytes_at t path);
}

pub piece_all : (tells : Bool) (t : Tree) (path : Name) (size : ℕ) (a b : Option (List ℕ)) → (IsTrue tells → IsFileOf t path size) → GivesPiece tells t path 0 size a b → GivesContent tells t path size a b
piece_all tells t path size a b file piece = record {
  content = piece.bytes;
  given = piece.given;
  is = record {
    long = piece.long;
    told = λ told. let few : length (bytes_at t path) ≤ size = let long = (file told).long in omega arith in piece.told told ∙ take_all size (bytes_at t path) few;
  };
}

-- ---- a file that was seen

seen_size : (o : Option Node) (size : ℕ) → size_seen (seen_as o) ≡ Some size → (IsTrue (is_file o)) × (length (bytes_of o) ≡ size)
seen_size None size is = absurd (cc is)
seen_size (Some (node.Dir mode)) size is = absurd (cc is)
seen_size (Some (node.File mode bytes)) size is = (refl, cc)
seen_size (Some (node.Link target)) size is = absurd (cc is)

pub file_of_size : (t : Tree) (path : Name) (size : ℕ) → size_seen (look_of t path) ≡ Some size → IsFileOf t path size
file_of_size t path size is = let both = seen_size (get t path) size is in record { stands = both.0; long = both.1 }

size_of_file : (o : Option Node) → IsTrue (is_file o) → size_seen (seen_as o) ≡ Some (length (bytes_of o))
size_of_file None is = absurd (cc is)
size_of_file (Some (node.Dir mode)) is = absurd (cc is)
size_of_file (Some (node.File mode bytes)) is = refl
size_of_file (Some (node.Link target)) is = absurd (cc is)

pub size_there : (t : Tree) (path : Name) (size : ℕ) → IsFileOf t path size → size_seen (look_of t path) ≡ Some size
size_there t path size file = size_of_file (get t path) file.stands ∙ ap (λ (n : ℕ). Some n) file.long

-- ---- what was read into a buffer

pub read_front : (t : Tree) (path : Name) (at count : ℕ) (old new : List ℕ) → ReadsFrom t path at old new count → take count new ≡ take count (drop at (bytes_at t path))
read_front t path at count old new read =
    let bytes : List ℕ = drop at (bytes_at t path) in
    let few : count ≤ length bytes = omega (arith, read.most, length-drop at (bytes_at t path)) in
    let long : length (take count bytes) ≡ count = omega (arith, length-take count bytes, few) in
    let within : count ≤ length (take count bytes) = omega (arith, long) in
    let short : length (take count bytes) ≤ count = omega (arith, long) in
    ap (take count) read.bytes ∙ take-append-le count (take count bytes) (drop count old) within ∙ take_all count (take count bytes) short

-- a piece of a file of the same tree
pub piece_from : (tells : Bool) (t u : Tree) (path : Name) (at count : ℕ) (a b : Option (List ℕ)) → (IsTrue tells → t ≡ u) → GivesPiece tells t path at count a b → GivesPiece tells u path at count a b
piece_from tells t u path at count a b same piece = record {
  bytes = piece.bytes;
  given = piece.given;
  long = piece.long;
  told = λ told. piece.told told ∙ ap (λ (x : Tree). take count (drop at (bytes_at x path))) (same told);
}
