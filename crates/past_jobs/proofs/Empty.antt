-- The table of no troves, and one of an installed list.
use Rattle.std.proofs.Common.{◌≡◌, ℕ, List, [], sym, subst}
use Rattle.local_db.specs.trove-stream.declared.parts.TroveParts.{TroveParts}
use Rattle.local_db.specs.Installed.{IsInstalled}
use Rattle.local_db.specs.declared.format.Format.{Format}
use Rattle.local_db.specs.Formats.{Fits}
use Rattle.past_jobs.specs.Table.{Marks, Troves, troves_of, IsIndexed, IsHeld}
use Rattle.local_db.proofs.Other.{no_troves}
use Rattle.local_db.proofs.Together.{nothing_fits}

pub held_list : (f : Format) (troves : Troves) (m : Marks) (len : ℕ) (list : List TroveParts) → IsIndexed f troves m len → troves_of troves ≡ list → IsInstalled list → Fits f list → IsHeld f troves m len
held_list f troves m len list indexed is installed fits = record { indexed = indexed; installed = subst IsInstalled (sym is) installed; fits = subst (Fits f) (sym is) fits }

pub held_empty : (f : Format) (troves : Troves) (m : Marks) (len : ℕ) → IsIndexed f troves m len → troves_of troves ≡ [] → IsHeld f troves m len
held_empty f troves m len indexed is = held_list f troves m len [] indexed is no_troves (nothing_fits f)
