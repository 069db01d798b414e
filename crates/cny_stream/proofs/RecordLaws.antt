-- The sizes that records name.
use Rattle.std.specs.Prelude.{◌≡◌, ℕ, ◌≤◌, ◌==◌, true, List}
use Rattle.std.specs.Str.{bytes_eq}
use Rattle.std.proofs.Common.{arith}
use Rattle.std.proofs.lemmas.Bool.{false≢true, eqb-true, and_parts}
use Rattle.cny_base.specs.declared.limits.TheConstants.{CONTENT_LIMIT}
use Rattle.cny_stream.specs.declared.record.FileRec.{FileRec}
use Rattle.cny_stream.specs.declared.record.FileRec.TheVariants.{Dir, File, Link}
use Rattle.cny_stream.specs.Record.{IsFileRecord, has_name_and_size}

-- what a record names is within the limit of a content
pub size_fits : (name : List ℕ) (size : ℕ) (rec : FileRec) → IsFileRecord rec → has_name_and_size name size rec ≡ true → size ≤ CONTENT_LIMIT
size_fits name size (Dir mode owner) valid h = absurd (false≢true h)
size_fits name size (File mode owner flags of_size of_name) valid h =
    let same : of_size ≡ size = eqb-true of_size size (and_parts (of_size == size) (bytes_eq of_name name) h).0 in
    omega (arith, same, valid.1)
size_fits name size (Link target) valid h = absurd (false≢true h)
