use Rattle.std.proofs.Common.{ℕ, zero, suc, ◌<◌, [], ◌∷◌, refl, arith}
use Rattle.std.proofs.lemmas.Nat.{be_bytes_4}
use Rattle.cny_base.proofs.StrFields.{IsBytes}
use Rattle.cny_stream.proofs.push.length_of.Goals as goal

four_bytes : (a b c d : ℕ) → a < 256 → b < 256 → c < 256 → d < 256 → IsBytes (a ∷ b ∷ c ∷ d ∷ [])
four_bytes a b c d fa fb fc fd zero = fa
four_bytes a b c d fa fb fc fd (suc zero) = fb
four_bytes a b c d fa fb fc fd (suc (suc zero)) = fc
four_bytes a b c d fa fb fc fd (suc (suc (suc zero))) = fd
four_bytes a b c d fa fb fc fd (suc (suc (suc (suc i)))) = omega arith

pub returns : goal.returns
returns c =
    be_bytes_4 (c.args.a ∷ c.args.b ∷ c.args.c ∷ c.args.d ∷ []) c.from_be_bytes.result refl
    (four_bytes c.args.a c.args.b c.args.c c.args.d (omega arith) (omega arith) (omega arith) (omega arith)) c.from_be_bytes.ensures
