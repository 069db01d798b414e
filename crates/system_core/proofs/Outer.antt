-- Names outside the private directory, and those directly below them.
use Rattle.std.proofs.Common.{◌≡◌, ◌⊎◌, inl, inr, ⊎_elim, true, ap, sym}
use Rattle.rollback_stack.proofs.cny-base.Below.{below_parent}
use Rattle.rollback_stack.specs.cny-base.Path.{parent}
use Rattle.rollback_stack.specs.cny-base.Reserved.{private_directory, is_pinned, is_reserved}
use Rattle.rollback_stack.specs.tree-disk.Tree.{Name}
use Rattle.local_db.proofs.Places.{below_reserved}
use Rattle.local_db.proofs.Putting.{reserved_at_or_below as at_or_below}

-- that of a reserved name is reserved or pinned
pub parent_inner : (q : Name) → is_reserved q ≡ true → (is_reserved (parent q) ≡ true) ⊎ (is_pinned (parent q) ≡ true)
parent_inner q h = ⊎_elim
    (λ at. inr (ap (λ (n : Name). is_pinned (parent n)) at))
    (λ low. ⊎_elim
    (λ here. inl (ap is_reserved (sym here)))
    (λ under. inl (below_reserved (parent q) under))
    (below_parent private_directory q (λ e. absurd (cc e)) low))
    (at_or_below q h)
