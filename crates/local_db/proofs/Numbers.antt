-- Two numbers, each in four bytes.
use Rattle.std.proofs.Common.{◌≡◌, ℕ, ◌≤◌, List, ◌++◌, length, take, drop, sym, ◌∙◌, ap, subst, arith}
use Rattle.std.specs.Int.{w32, to_be_bytes, from_be_bytes}
use Rattle.std.proofs.lemmas.List.{length-take, take-append-drop}
use Rattle.std.proofs.lemmas.Nat.{be_bytes_4}
use Rattle.local_db.specs.Reading.{AreNumbers}
use Rattle.trove_stream.proofs.cny-base.StrFields.{IsBytes, drop_bytes, take_bytes}
use Rattle.cny_stream.proofs.Items.{head_below as below}

pub numbers_here : (value rest last : List ℕ) (oldest newest : ℕ) → IsBytes value → 4 ≤ length value → oldest ≡ from_be_bytes w32 (take 4 value) → rest ≡ drop 4 value
    → last ≡ rest → length last ≡ 4 → newest ≡ from_be_bytes w32 last → AreNumbers value oldest newest
numbers_here value rest last oldest newest bytes long is rest_is last_is four new_is =
    let last_bytes : IsBytes last = subst IsBytes (sym (last_is ∙ rest_is)) (drop_bytes 4 value bytes) in
    let low = below (take 4 value) (take_bytes 4 value bytes) in
    let high = below last last_bytes in
    record {
      oldest_fits = omega (arith, low, is);
      newest_fits = omega (arith, high, new_is);
      spelled = sym (take-append-drop 4 value)
          ∙ ap (λ (l : List ℕ). l ++ drop 4 value) (sym (be_bytes_4 (take 4 value) oldest (omega (arith, length-take 4 value, long)) (take_bytes 4 value bytes) is))
          ∙ ap (λ (l : List ℕ). to_be_bytes w32 oldest ++ l) (sym rest_is ∙ sym last_is ∙ sym (be_bytes_4 last newest four last_bytes new_is));
    }
