-- Contents in memory or in files: how many they are, and that they stay.
use Rattle.std.proofs.Common.{◌≡◌, IsTrue, List, [], ◌∷◌, length, map, refl, sym, ◌∙◌, ap}
use Rattle.std.proofs.lemmas.List.Elements.{All-head, All-tail, All-weaker}
use Rattle.std.specs.FinMap.{get}
use Rattle.journal_log.specs.tree-disk.Tree.{Name, Tree}
use Rattle.journal_log.specs.tree-disk.Clear.{is_within}
use Rattle.journal_log.specs.tree-disk.Rows.{bytes_at, bytes_of}
use Rattle.change_set.specs.declared.change.Carried.{Carried}
use Rattle.change_pull.specs.declared.staged.Staged.{Staged}
use Rattle.change_pull.specs.Files.{carried_in}
use Rattle.change_pull.specs.Incoming.{AreStaged, HaveNames, IsStaged, StandStaged}

pub carried_many : (contents listed : List Carried) → listed ≡ contents → length listed ≡ length contents
carried_many contents listed same = ap length same

pub carried_steady : (contents : List Carried) (dir : Name) (listed : List Carried) (x y : Tree) → listed ≡ contents → ((q : Name) → IsTrue (is_within dir q) → get y q ≡ get x q) → listed ≡ contents
carried_steady contents dir listed x y same stays = same

pub staged_many : (contents : List Staged) (listed : List Carried) → HaveNames contents listed → length listed ≡ length contents
staged_many contents listed names = names.many

-- the contents of files that stay
same_contents : (dir : Name) (x y : Tree) → ((q : Name) → IsTrue (is_within dir q) → get y q ≡ get x q) → (contents : List Staged) → AreStaged dir x contents → map (carried_in y) contents ≡ map (carried_in x) contents
same_contents dir x y stays [] all = refl
same_contents dir x y stays (one ∷ contents) all =
    let bytes : bytes_at y one.path ≡ bytes_at x one.path = ap bytes_of (stays one.path (All-head (IsStaged dir x) one contents all).within) in
    let rest = same_contents dir x y stays contents (All-tail (IsStaged dir x) one contents all) in
    λ i. record { name = one.name; bytes = bytes i } ∷ rest i

pub staged_steady : (contents : List Staged) (dir : Name) (listed : List Carried) (x y : Tree) → StandStaged contents dir listed x → ((q : Name) → IsTrue (is_within dir q) → get y q ≡ get x q) → StandStaged contents dir listed y
staged_steady contents dir listed x y stand stays = record {
  are = stand.are ∙ sym (same_contents dir x y stays contents stand.staged);
  staged = All-weaker (IsStaged dir x) (IsStaged dir y) (λ one is. record { within = is.within; size = ap (λ o. length (bytes_of o)) (stays one.path is.within) ∙ is.size }) contents stand.staged;
}
