-- What the bytes of a manifest stand for.
use Rattle.std.specs.Prelude.{◌≡◌, ℕ, List, None, map}
use Rattle.manifest_troves.specs.change-set.ChangeSet.{HasContents}
use Rattle.manifest_troves.specs.change-set.declared.change.Part.TheVariants.{Whole}
use Rattle.cny_manifest.specs.declared.made.Made.{Made}
use Rattle.cny_manifest.specs.Body.{Body}
use Rattle.cny_manifest.specs.Made.{lines_of}
use Rattle.cny_manifest.specs.Spelling.{IsSpelling}
use Rattle.manifest_troves.specs.Contents.{first_collision, contents_of}
use Rattle.manifest_troves.specs.Troves.{troves_of}

-- The bytes are a spelling of a value, of whose contents no two collide: the troves and the contents that it stands for.
pub record Makes (bytes : List ℕ) (made : Made) : Type 0 where
  pub body : Body
  pub spelled : IsSpelling bytes body
  pub troves_are : made.troves ≡ troves_of (lines_of body)
  pub apart : first_collision body.contents ≡ None
  pub contents_are : made.contents ≡ contents_of body.contents

-- The contents are those of a change set of its troves: their names strictly rise, and each is the SHA-1 of its bytes and is
-- recorded, with their size, by a file of one of the troves.
abbrev pub HasOwnContents : Made → Type 0
HasOwnContents made = HasContents (record { parts = map Whole made.troves; contents = made.contents })
