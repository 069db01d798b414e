-- Lists that are cut at the first place of a byte.
use Rattle.std.proofs.Common.{◌≡◌, ℕ, false, List, [], ◌∷◌, ◌++◌, length, ◌==◌, refl, sym, ap, ◌∙◌, arith}
use Rattle.std.proofs.lemmas.Bool.Decides.{nat_tests}
use Rattle.std.proofs.lemmas.List.{append-nil, append_cancel_right}
use Rattle.cny_dep.proofs.Cuts.{same_cut, no_cut}
use Rattle.trove_parts.specs.Id.{in_brackets}
use Rattle.trove_parts.specs.Parts.{Lacks, IsCutAtBracket}

-- ---- a text, and behind it another in brackets

-- one text, cut twice before the brackets
pub same_brackets : (x y f g : List ℕ) → Lacks 91 x → Lacks 91 y → x ++ in_brackets f ≡ y ++ in_brackets g → (x ≡ y) × (f ≡ g)
same_brackets x y [] [] lx ly e = (sym (append-nil x) ∙ e ∙ append-nil y, refl)
same_brackets x y [] (b ∷ g) lx ly e = absurd (no_cut 91 x y ((b ∷ g) ++ 93 ∷ []) lx (sym (append-nil x) ∙ e))
same_brackets x y (a ∷ f) [] lx ly e = absurd (no_cut 91 y x ((a ∷ f) ++ 93 ∷ []) ly (sym (append-nil y) ∙ sym e))
same_brackets x y (a ∷ f) (b ∷ g) lx ly e =
    let parts = same_cut 91 x y ((a ∷ f) ++ 93 ∷ []) ((b ∷ g) ++ 93 ∷ []) lx ly e in
    (parts.0, append_cancel_right (a ∷ f) (b ∷ g) (93 ∷ []) parts.1)

pub same_parts : (text version flavor other brackets : List ℕ) → IsCutAtBracket text version flavor → IsCutAtBracket text other brackets → (version ≡ other) × (flavor ≡ brackets)
same_parts text version flavor other brackets one two = same_brackets version other flavor brackets one.front two.front (sym one.whole ∙ two.whole)

-- a text without `[` is that of a version alone
pub no_brackets : (text : List ℕ) → Lacks 91 text → IsCutAtBracket text text []
no_brackets text lacks = record { front = lacks; whole = sym (append-nil text) }

pub with_brackets : (text version rest flavor : List ℕ) → text ≡ version ++ 91 ∷ rest → Lacks 91 version → rest ≡ flavor ++ 93 ∷ [] → (length flavor ≡ 0 → ⊥) → IsCutAtBracket text version flavor
with_brackets text version rest [] whole lacks ends some = absurd (some refl)
with_brackets text version rest (b ∷ flavor) whole lacks ends some = record { front = lacks; whole = whole ∙ ap (λ l. version ++ 91 ∷ l) ends }

-- where something in brackets is behind the first `[`, it isn't empty, and ends in `]`
pub bracketed : (text version rest other flavor : List ℕ) → text ≡ version ++ 91 ∷ rest → Lacks 91 version → IsCutAtBracket text other flavor → (rest ≡ flavor ++ 93 ∷ []) × (length flavor ≡ 0 → ⊥)
bracketed text version rest other [] whole lacks cut = absurd (no_cut 91 other version rest cut.front (sym (append-nil other) ∙ sym cut.whole ∙ whole))
bracketed text version rest other (b ∷ flavor) whole lacks cut =
    ((same_cut 91 version other rest ((b ∷ flavor) ++ 93 ∷ []) lacks cut.front (sym whole ∙ cut.whole)).1, λ none. absurd (omega (arith, none)))

-- a text whose first `[` is followed by `]` alone, or by nothing in brackets
pub empty_brackets : (text version rest inner other flavor : List ℕ) → text ≡ version ++ 91 ∷ rest → Lacks 91 version → rest ≡ inner ++ 93 ∷ [] → length inner ≡ 0 → IsCutAtBracket text other flavor → ⊥
empty_brackets text version rest inner other flavor whole lacks ends none cut =
    let found = bracketed text version rest other flavor whole lacks cut in
    let same : inner ≡ flavor = append_cancel_right inner flavor (93 ∷ []) (sym ends ∙ found.0) in
    found.1 (sym (ap length same) ∙ none)

pub above_zero : (n : ℕ) → (n == 0) ≡ false → n ≡ 0 → ⊥
above_zero n is e = grind (arith, nat_tests)

-- ---- bytes that are equal by their test
