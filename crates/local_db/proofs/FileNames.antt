-- The names of the files are paths.
use Rattle.std.proofs.Common.{◌≡◌, ℕ, ◌<◌, ◌^◌, true, false, ◌&&◌, List, [], ◌∷◌, ◌++◌, length, refl, ap, arith, length-append, lit<}
use Rattle.std.specs.Prelude.{◌==◌, codes}
use Rattle.std.specs.Cmp.Derive.{both_true}
use Rattle.std.specs.Fmt.{decimal}
use Rattle.std.proofs.lemmas.Fmt.{length-decimal-le}
use Rattle.trove_stream.proofs.cny-base.Parent.{join_is_path}
use Rattle.trove_stream.specs.cny-base.Path.{is_dots, is_path}
use Rattle.trove_stream.specs.cny-base.Reserved.{private_directory}
use Rattle.tree_journal.specs.tree-disk.Tree.{Name}
use Rattle.local_db.specs.Names.{database, record_file, saved}
use Rattle.trove_stream.proofs.cny-base.FileNames.{is_low, parts}
use Rattle.trove_stream.proofs.cny-base.Counts.{fits as at_most}
use Rattle.tree_journal.proofs.journal-log.FileNames.{digits_low}

-- ---- one part of a path

-- ---- paths

top_is_path : is_path (codes "/var") ≡ true
top_is_path = parts (codes "var") refl refl (omega arith) (omega arith)

lib_is_path : is_path (codes "/var/lib") ≡ true
lib_is_path = join_is_path (codes "/var") (codes "lib") top_is_path (parts (codes "lib") refl refl (omega arith) (omega arith)) refl

pub base_is_path : is_path private_directory ≡ true
base_is_path = join_is_path (codes "/var/lib") (codes "conarydb") lib_is_path (parts (codes "conarydb") refl refl (omega arith) (omega arith)) refl

pub database_is_path : is_path database ≡ true
database_is_path = join_is_path private_directory (codes "db") base_is_path (parts (codes "db") refl refl (omega arith) (omega arith)) refl

no_dots : (c : ℕ) (ds : List ℕ) → (c == 46) ≡ false → is_dots (c ∷ 46 ∷ ds) ≡ false
no_dots c [] other = ap (λ b. b && (46 == 46)) other
no_dots c (d ∷ ds) other = refl

numbered_is_path : (c n : ℕ) → is_low c ≡ true → (c == 46) ≡ false → n < 2 ^ 32 → is_path (private_directory ++ 47 ∷ c ∷ 46 ∷ decimal n) ≡ true
numbered_is_path c n low other fits =
    let wide : n < 2 ^ 64 = omega (arith, fits) in
    let long = length-decimal-le 20 n (lit< tt) (omega (arith, fits)) wide in
    let last : Name = c ∷ 46 ∷ decimal n in
    join_is_path private_directory last base_is_path (parts last (both_true low (digits_low n wide)) (no_dots c (decimal n) other) (omega arith) (omega (arith, long)))
    (at_most (length (private_directory ++ 47 ∷ last)) (omega (arith, long, length-append private_directory (47 ∷ last))))

pub record_is_path : (n : ℕ) → n < 2 ^ 32 → is_path (record_file n) ≡ true
record_is_path n fits = numbered_is_path 114 n refl refl fits

pub saved_is_path : (n : ℕ) → n < 2 ^ 32 → is_path (saved n) ≡ true
saved_is_path n fits = numbered_is_path 115 n refl refl fits
