-- What a relative trove makes of a trove.
use Rattle.std.specs.Prelude.{◌≡◌}
use Rattle.trove_parts.specs.cny-base.declared.refusal.Fault.{Fault}
use Rattle.trove_parts.specs.cny-base.declared.refusal.Fault.TheVariants.{Refused, Memory}
use Rattle.trove_parts.specs.cny-base.declared.refusal.Refusal.TheVariants.{MissingBase}
use Rattle.cny_dep.specs.Dep.{Dependency}
use Rattle.trove_parts.specs.declared.id.TroveId.{TroveId}
use Rattle.trove_parts.specs.Id.{id_text_of}
use Rattle.trove_parts.specs.Files.{path_of}
use Rattle.trove_stream.specs.declared.parts.TroveParts.{TroveParts}
use Rattle.trove_stream.specs.Trove.{IsTrove}
use Rattle.trove_stream.specs.declared.rel.RelParts.{RelParts}
use Rattle.trove_stream.specs.Rel.{IsRel}
use Rattle.trove_stream.specs.Amends.{Amends}

-- a reference is its own key
abbrev pub id_key : TroveId → TroveId
id_key id = id

-- and so is a dependency
abbrev pub dep_key : Dependency → Dependency
dep_key dep = dep

-- The relative trove makes the new trove of the old one: each list has the old elements that aren't gone, and those that are
-- set or added; at a path that is set the old record gives way.
pub record Leads (rel : RelParts) (old fresh : TroveParts) : Type 0 where
  pub rel_is : IsRel rel
  pub from : old.id ≡ rel.old
  pub to : fresh.id ≡ rel.fresh
  pub files : Amends path_of rel.paths_gone rel.files_set old.files fresh.files
  pub refs : Amends id_key rel.refs_gone rel.refs_added old.refs fresh.refs
  pub required : Amends dep_key rel.requires_gone rel.requires_added old.requires_ fresh.requires_
  pub provided : Amends dep_key rel.provides_gone rel.provides_added old.provides fresh.provides
  pub trove : IsTrove fresh

-- no trove comes of the old one
abbrev pub LeadsNowhere : RelParts → TroveParts → Type 0
LeadsNowhere rel old = (fresh : TroveParts) → Leads rel old fresh → ⊥

-- the refusal names the id of a missing base
abbrev pub NamesBase : TroveId → Fault → Type 0
NamesBase id (Refused refusal) = refusal ≡ MissingBase (id_text_of id)
NamesBase id Memory = Unit {0}

-- The base of the relative trove is missing, as no trove comes of this one; or memory ran out.
abbrev pub IsMissingBase : RelParts → TroveParts → Fault → Type 0
IsMissingBase rel old (Refused refusal) = (refusal ≡ MissingBase (id_text_of rel.old)) × LeadsNowhere rel old
IsMissingBase rel old Memory = Unit {0}
