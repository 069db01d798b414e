-- Troves are equal where their streams are.
use Rattle.std.proofs.Common.{◌≡◌, ℕ, Bool, IsTrue, List, sym, ap, ◌∙◌}
use Rattle.std.specs.Cmp.Lexicographic.{bytes_decides}
use Rattle.std.specs.Str.{bytes_eq}
use Rattle.local_db.specs.cny-stream.declared.encoding.Encoding.{Encoding}
use Rattle.local_db.specs.cny-stream.declared.encoding.Encoding.TheVariants.{Explicit}
use Rattle.local_db.specs.trove-stream.declared.parts.TroveParts.{TroveParts}
use Rattle.local_db.specs.trove-stream.Stream.{stream_bytes}
use Rattle.local_db.specs.trove-stream.Trove.{IsTrove}

pub streams_tell : ((one other : Encoding) (a b : TroveParts) → IsTrove a → IsTrove b → stream_bytes one a ≡ stream_bytes other b → a ≡ b)
    → (t u : TroveParts) (x y : List ℕ) (same : Bool) → x ≡ stream_bytes Explicit t → y ≡ stream_bytes Explicit u → IsTrove t → IsTrove u → same ≡ bytes_eq x y
    → (IsTrue same → t ≡ u) × (t ≡ u → IsTrue same)
streams_tell unique t u x y same x_is y_is t_is u_is same_is = (
  λ h. unique Explicit Explicit t u t_is u_is (sym x_is ∙ (bytes_decides x y).0 (sym same_is ∙ h) ∙ y_is),
  λ e. same_is ∙ (bytes_decides x y).1 (x_is ∙ ap (stream_bytes Explicit) e ∙ sym y_is),
)
