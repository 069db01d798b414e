-- The two formats of a root tree, and the bytes of the database file.
use Rattle.std.specs.Prelude.{◌≡◌, ◌⊎◌, ℕ, ◌+◌, ◌<◌, ◌≤◌, Bool, true, IsTrue, List, [], ◌++◌, length, codes, All}
use Rattle.std.specs.Int.{w32, to_be_bytes}
use Rattle.trove_stream.specs.cny-base.declared.limits.TheConstants.{DATABASE_LIMIT, FORMAT_1_DATABASE_LIMIT, JOBS_LIMIT, STACK_LIMIT}
use Rattle.cny_stream.specs.Item.{item_bytes}
use Rattle.trove_stream.specs.cny-stream.declared.encoding.Encoding.{Encoding}
use Rattle.trove_stream.specs.cny-stream.declared.encoding.Encoding.TheVariants.{Compact, Explicit}
use Rattle.trove_stream.specs.cny-stream.declared.record.FileRec.{FileRec}
use Rattle.trove_stream.specs.cny-stream.declared.record.FileRec.TheVariants as rec
use Rattle.trove_stream.specs.cny-stream.Owner.{is_root}
use Rattle.local_db.specs.declared.format.Format.{Format}
use Rattle.local_db.specs.declared.format.Format.TheVariants.{One, Two}
use Rattle.trove_stream.specs.trove-parts.declared.files.FileAt.{FileAt}
use Rattle.trove_stream.specs.trove-parts.Items.{items_bytes}
use Rattle.trove_stream.specs.declared.parts.TroveParts.{TroveParts}
use Rattle.trove_stream.specs.Stream.{stream_bytes}
use Rattle.trove_stream.specs.declared.rel.RelParts.{RelParts}
use Rattle.trove_stream.specs.RelBytes.{rel_stream_bytes}

abbrev pub database_magic : Format → List ℕ
database_magic One = codes "CNYDB01\n"
database_magic Two = codes "CNYDB02\n"

abbrev pub record_magic : Format → List ℕ
record_magic One = codes "CNYRB01\n"
record_magic Two = codes "CNYRB02\n"

-- (the compact encoding names no owner where that is root)
abbrev pub encoding_of : Format → Encoding
encoding_of One = Compact
encoding_of Two = Explicit

-- root owns it, or it is a link, which has no owner
abbrev pub is_roots : FileRec → Bool
is_roots (rec.Dir mode owner) = is_root owner
is_roots (rec.File mode owner flags size name) = is_root owner
is_roots (rec.Link target) = true

-- the files can be told in the format: in format 1 root owns all of them
abbrev pub CanTell : Format → List FileAt → Type 0
CanTell One files = All (λ (file : FileAt). IsTrue (is_roots file.rec)) files
CanTell Two files = Unit {0}

abbrev pub TroveCanTell : Format → TroveParts → Type 0
TroveCanTell f t = CanTell f t.files

abbrev pub trove_text : Format → TroveParts → List ℕ
trove_text f t = stream_bytes (encoding_of f) t

abbrev pub rel_text : Format → RelParts → List ℕ
rel_text f rel = rel_stream_bytes (encoding_of f) rel

-- the most bytes of a database file
abbrev pub limit : Format → ℕ
limit One = FORMAT_1_DATABASE_LIMIT
limit Two = DATABASE_LIMIT

-- The one spelling of a database: the troves, the numbers of the oldest and the newest job, the end.
abbrev pub database_bytes : Format → List TroveParts → ℕ → ℕ → List ℕ
database_bytes f list oldest newest = database_magic f ++ (items_bytes (trove_text f) 0x50 list
    ++ (item_bytes 0x51 (to_be_bytes w32 oldest ++ to_be_bytes w32 newest) ++ item_bytes 0x5F []))

-- The numbers of a stack: both 0 where it is empty; else from 1 on, and no more of them than a stack has jobs.
abbrev pub AreEnds : ℕ → ℕ → Type 0
AreEnds oldest newest = ((oldest ≡ 0) × (newest ≡ 0))
    ⊎ ((1 ≤ oldest) × (oldest ≤ newest) × (newest < oldest + STACK_LIMIT) × (newest ≤ JOBS_LIMIT))

-- The list can be told in the format, and its database is within the limit. (The numbers don't change its length.)
pub record Fits (f : Format) (list : List TroveParts) : Type 0 where
  pub told : All (TroveCanTell f) list
  pub short : length (database_bytes f list 0 0) ≤ limit f
