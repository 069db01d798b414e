use Rattle.std.proofs.Common.{◌≡◌, ◌≢◌, ℕ, ◌==◌, false, ◌&&◌, ◌||◌, nat_le, List, [], ◌∷◌, length, refl, sym, ap, arith, lit<}
use Rattle.std.proofs.lemmas.Bool.Decides.{nat_tests}
use Rattle.std.proofs.lemmas.Str.Pattern.{strip_prefix_char}
use Rattle.cny_base.specs.Path.{is_path, are_parts}
use Rattle.cny_base.proofs.path_grammar.is_path.Goals as goal

-- a path begins with a slash
no_slash_first : (bytes : List ℕ) → ((rest : List ℕ) → bytes ≢ 47 ∷ rest) → false ≡ is_path bytes
no_slash_first [] none = refl
no_slash_first (b ∷ bs) none =
    sym (ap (λ v. v && (length bs == 0 || (nat_le (length bs) 1023 && are_parts bs))) (other (λ same. none bs (ap (λ (n : ℕ). n ∷ bs) same))))
  where
    other : (b ≢ 47) → (b == 47) ≡ false
    other apart = grind (arith, nat_tests)

pub returns-in_default : goal.returns-in_default
returns-in_default c =
    no_slash_first c.args.text.now (rw c.in_default.is at (strip_prefix_char 47 c.args.text.now c.strip_prefix.result c.strip_prefix.ensures.cases (lit< tt)))
