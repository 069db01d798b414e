-- What the steps of moving find and make.
use Rattle.std.specs.Prelude.{◌≡◌, true, false, map, All, Contains}
use Rattle.repo_index.specs.cny-base.declared.refusal.Fault.{Fault}
use Rattle.repo_index.specs.cny-base.declared.refusal.Fault.TheVariants.{Refused, Memory}
use Rattle.cny_version.specs.Label.{LabelParts}
use Rattle.cny_version.specs.Version.{WholeVersion}
use Rattle.repo_index.specs.trove-parts.declared.id.TroveId.{TroveId}
use Rattle.repo_index.specs.trove-stream.declared.parts.TroveParts.{TroveParts}
use Rattle.repo_shadow.specs.declared.way.Way.{Way}
use Rattle.repo_shadow.specs.Moved.{moved_id, is_long_version, is_too_long, too_large_version}
pub use Rattle.cny_version.specs.cny-base.Refusals.{IsRefusalOrMemory}

-- The version is too long, and the refusal says so; or memory ran out.
abbrev pub IsTooLongOrMemory : WholeVersion → Fault → Type 0
IsTooLongOrMemory v (Refused refused) = (refused ≡ too_large_version v) × (is_long_version v ≡ true)
IsTooLongOrMemory v Memory = Unit {0}

-- the moved version isn't too long
abbrev pub Fits : Way → LabelParts → TroveId → Type 0
Fits way label id = is_too_long (moved_id way label id) ≡ false

-- the trove with its id and all its references moved
abbrev pub wholly_moved : Way → LabelParts → TroveParts → TroveParts
wholly_moved way label t = record {
  id = moved_id way label t.id;
  files = t.files;
  refs = map (moved_id way label) t.refs;
  requires_ = t.requires_;
  provides = t.provides;
}

-- The moved versions of the trove and of its references aren't too long, and no two references have one name.
pub record CanMove (way : Way) (label : LabelParts) (t : TroveParts) : Type 0 where
  pub fits : Fits way label t.id
  pub refs_fit : All (Fits way label) t.refs
  pub apart : (r s : TroveId) → Contains t.refs r → Contains t.refs s → r.name ≡ s.name → r ≡ s
