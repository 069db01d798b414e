-- Where a stream stands that decides nothing, and its first fault if nothing more comes.
use Rattle.std.proofs.Common.{◌≡◌, inl, inr, ℕ, suc, ◌+◌, ◌<◌, ◌^◌, false, List, [], ◌∷◌, ◌++◌, length, map, slice_get, Option, None, refl, sym, ap, ◌∙◌, subst, arith, append-nil, length-append}
use Rattle.change_set.specs.cny-base.declared.refusal.Refusal.{Refusal}
use Rattle.change_set.specs.cny-base.declared.refusal.Refusal.TheVariants.{Malformed}
use Rattle.cny_stream.specs.Cut.{Position, InMagic, InHead, InValue, Stands, open_bytes}
use Rattle.cny_stream.specs.Decided.{Decided, Undecided}
use Rattle.cny_stream.proofs.Faults.{no_bytes}
use Rattle.std.specs.FinMap.{get}
use Rattle.journal_log.specs.tree-disk.Rows.{bytes_of}
use Rattle.journal_log.specs.tree-disk.Tree.{Name, Tree}
use Rattle.change_set.specs.declared.change.Carried.{Carried}
use Rattle.change_pull.specs.Files.{HoldsFiles, carried_in, file_with, files_of, number_path, staged_from, staged_of}
use Rattle.change_set.specs.declared.change.ChangeSet.{ChangeSet}
use Rattle.change_set.specs.ChangeSet.{magic}
use Rattle.change_set.specs.FirstFault.{IsFirstFault}
use Rattle.change_pull.specs.declared.reading.Reading.{Reading}
use Rattle.change_pull.specs.Front.{front_bytes, tags_behind_set}
use Rattle.change_pull.specs.Open.{IsOpen, IsOpenAt, IsNextOpen}
use Rattle.change_pull.proofs.Undecided.{IsShort, short_head, short_value, at_open, at_magic, open_undecided, whole_undecided, magic_undecided}

-- what there is of the next item isn't all of it
short_of : (r : Reading) (set : ChangeSet) (whole : List ℕ) (position : Position) (written : Option (List ℕ)) → Stands magic r.cutter whole position → IsNextOpen set r.item position written → IsShort (tags_behind_set set) (open_bytes position)
short_of r set whole (InMagic front) written stands next = absurd next
short_of r set whole (InHead front) written stands next = short_head (tags_behind_set set) front next.0 stands.is_at.few
short_of r set whole (InValue tag len value) written stands next = short_value (tags_behind_set set) tag len value next.expected next.small next.fits stands.is_at.some

pub open_is_undecided : (r : Reading) (dir : Name) (given : List ℕ) → IsOpen r dir given → Undecided IsFirstFault given
open_is_undecided r dir given it = by it.is_at
  where
    by : IsOpenAt r given it.set it.written → Undecided IsFirstFault given
    by (inl x) = magic_undecided given x.2.is_at.few
    by (inr (inl x)) = subst (Undecided IsFirstFault) (sym x.4) (open_undecided it.set (open_bytes x.0) x.2.set_is (short_of r it.set (front_bytes it.set) x.0 it.written x.1 x.3))
    by (inr (inr x)) = subst (Undecided IsFirstFault) (sym x.3) (whole_undecided it.set x.2.set_is)

pub open_ends : (r : Reading) (dir : Name) (given : List ℕ) → IsOpen r dir given → r.ended ≡ false → IsFirstFault given (Malformed r.given)
open_ends r dir given it going_on = by it.is_at
  where
    by : IsOpenAt r given it.set it.written → IsFirstFault given (Malformed r.given)
    by (inl x) = subst (λ (n : ℕ). IsFirstFault given (Malformed n)) (sym x.3.count) (at_magic given x.2.is_at.few)
    by (inr (inl x)) =
        let count : length (front_bytes it.set ++ open_bytes x.0) ≡ r.given = length-append (front_bytes it.set) (open_bytes x.0) ∙ sym x.2.count in
        subst (λ (l : List ℕ). IsFirstFault l (Malformed r.given)) (sym x.4)
        (subst (λ (n : ℕ). IsFirstFault (front_bytes it.set ++ open_bytes x.0) (Malformed n)) count (at_open it.set (open_bytes x.0) x.2.set_is (short_of r it.set (front_bytes it.set) x.0 it.written x.1 x.3)))
    by (inr (inr x)) = let ended = x.2.ended in absurd (cc)

-- what is decided is the first fault of what was given itself
pub decided_now : (given : List ℕ) (refusal : Refusal) → Decided IsFirstFault given refusal → IsFirstFault given refusal
decided_now given refusal decided = subst (λ (l : List ℕ). IsFirstFault l refusal) (append-nil given) (decided [] no_bytes)

-- ---- the files of a whole set

carried_same : (tree : Tree) (dir : Name) (contents : List Carried) (number : ℕ) → number + length contents < 2 ^ 64 → ((k : ℕ) → k < length contents → get tree (number_path dir (number + k)) ≡ file_with (slice_get (map (λ (c : Carried). c.bytes) contents) k))
    → map (carried_in tree) (staged_from dir number contents) ≡ contents
carried_same tree dir [] number small each = refl
carried_same tree dir (x ∷ contents) number small each =
    let here : bytes_of (get tree (number_path dir number)) ≡ x.bytes = ap (λ (n : ℕ). bytes_of (get tree (number_path dir n))) (let zero_more : number ≡ number + 0 = omega arith in zero_more) ∙ ap bytes_of (each 0 (omega arith)) in
    let rest = carried_same tree dir contents (number + 1) (omega (arith, small)) (λ k low. ap (λ (n : ℕ). get tree (number_path dir n)) (let next : number + 1 + k ≡ number + suc k = omega arith in next) ∙ each (suc k) (omega (arith, low))) in
    ap (λ (b : List ℕ). record { name = x.name; bytes = b } ∷ map (carried_in tree) (staged_from dir (number + 1) contents)) here ∙ ap (λ (l : List Carried). x ∷ l) rest

pub files_carried : (tree : Tree) (dir : Name) (contents : List Carried) → length contents < 2 ^ 64 → HoldsFiles tree dir (files_of contents None) → map (carried_in tree) (staged_of dir contents) ≡ contents
files_carried tree dir contents small holds =
    carried_same tree dir contents 0 (omega (arith, small)) (λ k low. ap (λ (n : ℕ). get tree (number_path dir n)) (let same : 0 + k ≡ k = omega arith in same) ∙ holds.each k (omega (arith, low, small)))
