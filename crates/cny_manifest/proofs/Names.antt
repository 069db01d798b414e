-- Names of components of a package, and the last of lists that rise.
use Rattle.std.proofs.Common.{◌≡◌, ℕ, suc, ◌-◌, List, [], ◌∷◌, length, Some, ap, ◌∙◌, arith}
use Rattle.std.specs.Prelude.{slice_get}
use Rattle.std.specs.Ordering.{is_lt}
use Rattle.std.specs.declared.cmp.Ordering.{Ordering}
use Rattle.manifest_troves.specs.trove-parts.declared.files.FileAt.{FileAt}
use Rattle.cny_manifest.specs.Body.{is_above, is_above_path, path_cmp}

-- ---- fronts

-- ---- the last

pub last_above : {A : Type 0} (cmp : A → A → Ordering) (xs : List A) (x y : A) → Some x ≡ slice_get xs (length xs - 1) → is_above cmp xs y ≡ is_lt (cmp x y)
last_above cmp [] x y is = absurd (cc)
last_above cmp (a ∷ []) x y is = let same : a ≡ x = cc in ap (λ z. is_lt (cmp z y)) same
last_above cmp (a ∷ b ∷ xs) x y is =
    let place : length (a ∷ b ∷ xs) - 1 ≡ suc (length (b ∷ xs) - 1) = omega arith in
    last_above cmp (b ∷ xs) x y (is ∙ ap (slice_get (a ∷ b ∷ xs)) place)

pub last_path : (files : List FileAt) (file : FileAt) (path : List ℕ) → Some file ≡ slice_get files (length files - 1) → is_above_path files path ≡ is_lt (path_cmp file path)
last_path [] file path is = absurd (cc)
last_path (a ∷ []) file path is = let same : a ≡ file = cc in ap (λ z. is_lt (path_cmp z path)) same
last_path (a ∷ b ∷ files) file path is =
    let place : length (a ∷ b ∷ files) - 1 ≡ suc (length (b ∷ files) - 1) = omega arith in
    last_path (b ∷ files) file path (is ∙ ap (slice_get (a ∷ b ∷ files)) place)
