-- A relative trove leads to one trove.
use Rattle.trove_stream.specs.Leads.{Leads}
use Rattle.std.proofs.Common.{◌≡◌}
use Rattle.trove_stream.specs.declared.parts.TroveParts.{TroveParts}
use Rattle.trove_stream.specs.declared.rel.RelParts.{RelParts}

-- a relative trove leads from a trove to one at most
abbrev pub LeadsToOne : Type 0
LeadsToOne = (rel : RelParts) (old a b : TroveParts) → Leads rel old a → Leads rel old b → a ≡ b
