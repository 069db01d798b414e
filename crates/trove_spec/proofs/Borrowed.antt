-- A borrowed line, as the closures of a search read it.
use Rattle.std.proofs.Common.{Bor, List, [], ℕ}

abbrev pub now_of : Bor (List ℕ) → List ℕ
now_of line = line.now

abbrev pub none : Bor (List ℕ)
none = record { ref_ptr = (0, 0); now = [] }
