-- The lines of the demo that are still to be run.
use Rattle.std.proofs.Common.{◌≡◌, ◌≢◌, ◌≤◌, ◌<◌, ◌+◌, ◌-◌, ℕ, zero, suc, Bool, true, false, ◌==◌, [], ◌∷◌, refl, sym, ap, ◌∙◌, inl, inr, arith}
use Rattle.std.specs.Prelude.{◌⊎◌}
use Rattle.std.proofs.lemmas.Bool.Decides.{eqb_tells}
use Rattle.cny_version.proofs.cny-base.Joins.{not_zero}
use Rattle.cny_batch.specs.Demo.{line_at, lines_from}
use Rattle.conary_cli.specs.Lines.{last_shown}

-- so many behind the first, and whether it is the last
first_of : (packages place more : ℕ) → last_shown (lines_from packages place (suc more)) ≡ record { shown = more == 0; line = line_at packages place } ∷ last_shown (lines_from packages (place + 1) more)
first_of packages place zero = refl
first_of packages place (suc more) = ap (λ (b : Bool). record { shown = b; line = line_at packages place } ∷ last_shown (lines_from packages (place + 1) (suc more))) (sym (not_zero more))

-- none is left behind a line where its place is the last
same_last : (place count : ℕ) (left here : Bool) → place < count → ((left ≡ true) × (count - (place + 1) ≡ 0)) ⊎ ((left ≡ false) × (count - (place + 1) ≢ 0)) → ((here ≡ true) × (place + 1 ≡ count)) ⊎ ((here ≡ false) × (place + 1 ≢ count)) → left ≡ here
same_last place count left here lt (inl a) (inl b) = a.0 ∙ sym b.0
same_last place count left here lt (inl a) (inr b) = absurd (b.1 (omega (arith, lt, a.1)))
same_last place count left here lt (inr a) (inl b) = absurd (a.1 (omega (arith, lt, b.1)))
same_last place count left here lt (inr a) (inr b) = a.0 ∙ sym b.0

pub next_of_demo : (packages count place : ℕ) (last : Bool) → place < count → last ≡ (place + 1 == count) → last_shown (lines_from packages place (count - place)) ≡ record { shown = last; line = line_at packages place } ∷ last_shown (lines_from packages (place + 1) (count - (place + 1)))
next_of_demo packages count place last lt is =
    let more : count - place ≡ suc (count - (place + 1)) = omega (arith, lt) in
    let same : (count - (place + 1) == 0) ≡ (place + 1 == count) = same_last place count (count - (place + 1) == 0) (place + 1 == count) lt (eqb_tells (count - (place + 1)) 0) (eqb_tells (place + 1) count) in
    ap (λ n. last_shown (lines_from packages place n)) more
    ∙ first_of packages place (count - (place + 1))
    ∙ ap (λ (b : Bool). record { shown = b; line = line_at packages place } ∷ last_shown (lines_from packages (place + 1) (count - (place + 1)))) (same ∙ sym is)

pub none_of_demo : (packages count place : ℕ) → count ≤ place → last_shown (lines_from packages place (count - place)) ≡ []
none_of_demo packages count place le =
    let none : count - place ≡ 0 = omega (arith, le) in
    ap (λ n. last_shown (lines_from packages place n)) none
