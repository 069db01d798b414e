-- Contents that a change set carries.
use Rattle.change_set.specs.declared.change.Carried.{Carried}
use Rattle.std.proofs.Common.{List, Ordering, [], arith, get_or, length, subst, suc, sym, zero, ℕ, ◌<◌, ◌∷◌, ◌≡◌}
use Rattle.std.specs.Cmp.Lexicographic.{slice_cmp}
use Rattle.std.specs.List.{AllByRecursion}
use Rattle.std.specs.Ordering.{nat_cmp}
use Rattle.std.specs.List.Sorted.{IsStrictlySortedBy}
use Rattle.change_set.specs.ChangeSet.{content_cmp}

-- how the name of a content compares with the one that is looked for
abbrev pub against : List ℕ → Carried → Ordering
against name content = slice_cmp nat_cmp content.name name

pub rec_at : (P : Carried → Type 0) (cs : List Carried) (i : ℕ) (e : Carried) → AllByRecursion P cs → i < length cs → e ≡ get_or cs i e → P e
rec_at P [] i e all lt is = absurd (omega arith)
rec_at P (c ∷ cs) zero e all lt is = subst P (sym is) all.0
rec_at P (c ∷ cs) (suc i) e all lt is = rec_at P cs i e all.1 (omega arith) is

-- nothing carried rises
pub no_carried : IsStrictlySortedBy content_cmp []
unfolding IsStrictlySortedBy
no_carried = tt
