-- The lists of a trove that a relative one makes.
use Rattle.std.specs.Prelude.{◌≡◌}
use Rattle.cny_dep.specs.Order.{dep_cmp}
use Rattle.trove_stream.specs.trove-parts.Order.{id_cmp}
use Rattle.trove_stream.specs.trove-parts.Files.{path_of}
use Rattle.trove_stream.specs.trove-parts.Paths.{path_cmp}
use Rattle.trove_stream.specs.declared.parts.TroveParts.{TroveParts}
use Rattle.trove_stream.specs.declared.rel.RelParts.{RelParts}
use Rattle.trove_stream.specs.Amends.{IsAmended}
use Rattle.trove_stream.specs.Leads.{id_key, dep_key}

-- the parts have the new id, and each list is what is made of the old one
pub record AreAmended (rel : RelParts) (old fresh : TroveParts) : Type 0 where
  pub to : fresh.id ≡ rel.fresh
  pub files : IsAmended path_of path_cmp rel.paths_gone rel.files_set old.files fresh.files
  pub refs : IsAmended id_key id_cmp rel.refs_gone rel.refs_added old.refs fresh.refs
  pub required : IsAmended dep_key dep_cmp rel.requires_gone rel.requires_added old.requires_ fresh.requires_
  pub provided : IsAmended dep_key dep_cmp rel.provides_gone rel.provides_added old.provides fresh.provides
