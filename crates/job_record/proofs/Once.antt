-- Bytes tell one fingerprint, one delta and one entry.
use Rattle.std.proofs.Common.{◌≡◌, ℕ, List, [], ◌++◌, drop, refl, sym, ◌∙◌, ap, arith, append-nil}
use Rattle.local_db.specs.declared.format.Format.{Format}
use Rattle.local_db.specs.declared.record.Delta.{Delta}
use Rattle.local_db.specs.declared.record.Delta.TheVariants.{Came, Was, Turned}
use Rattle.local_db.specs.declared.record.Told.{Told}
use Rattle.local_db.specs.declared.record.Told.TheVariants.{Listed, Own}
use Rattle.local_db.specs.declared.record.ToldEntry.{ToldEntry}
use Rattle.local_db.specs.RecordText.{IsDelta, delta_value, tag_of, told_text, IsTold, entry_text, IsToldEntry}
use Rattle.local_db.proofs.Spellings.{Distinct, id_once, no_sign, rel_once, same_marks, trove_once}
use Rattle.change_rel.proofs.trove-parts.ItemFields.{path_fits as fits_path}
use Rattle.change_rel.proofs.cny-base.IdFields.{same_str}

-- ---- fingerprints

pub same_told : (s t : Told) (a b : List ℕ) → IsTold s → IsTold t → told_text s ++ a ≡ told_text t ++ b → (s ≡ t) × (a ≡ b)
same_told Listed Listed a b f g e = (refl, ap (drop 1) e)
same_told Listed (Own n) a b f g e = absurd (no_sign n b a (sym e))
same_told (Own m) Listed a b f g e = absurd (no_sign m a b e)
same_told (Own m) (Own n) a b f g e = let r = same_marks m n a b f g e in (ap Own r.0, r.1)

-- ---- entries

pub entry_once : (d e : ToldEntry) → IsToldEntry d → IsToldEntry e → entry_text d ≡ entry_text e → d ≡ e
entry_once d e d_is e_is same =
    let paths = same_str d.path e.path (told_text d.before ++ told_text d.after) (told_text e.before ++ told_text e.after)
    (fits_path d.path d_is.path_is) (fits_path e.path e_is.path_is) same in
    let first = same_told d.before e.before (told_text d.after) (told_text e.after) d_is.before_is e_is.before_is paths.1 in
    let second = same_told d.after e.after [] [] d_is.after_is e_is.after_is
    (append-nil (told_text d.after) ∙ first.1 ∙ sym (append-nil (told_text e.after))) in
    let p0 = paths.0 in let f0 = first.0 in let s0 = second.0 in
    λ i. record { path = p0 i; before = f0 i; after = s0 i }

-- ---- trove deltas

pub delta_once : Distinct → (f : Format) (u v : Delta) → IsDelta f u → IsDelta f v → tag_of u ≡ tag_of v → delta_value f u ≡ delta_value f v → u ≡ v
delta_once d f (Came a) (Came b) x y tags e = ap Came (id_once d a b x y e)
delta_once d f (Came a) (Was b) x y tags e = absurd (omega (arith, tags))
delta_once d f (Came a) (Turned b) x y tags e = absurd (omega (arith, tags))
delta_once d f (Was a) (Came b) x y tags e = absurd (omega (arith, tags))
delta_once d f (Was a) (Was b) x y tags e = ap Was (trove_once d f a b x.0 y.0 e)
delta_once d f (Was a) (Turned b) x y tags e = absurd (omega (arith, tags))
delta_once d f (Turned a) (Came b) x y tags e = absurd (omega (arith, tags))
delta_once d f (Turned a) (Was b) x y tags e = absurd (omega (arith, tags))
delta_once d f (Turned a) (Turned b) x y tags e = ap Turned (rel_once d f a b x.0 y.0 e)
