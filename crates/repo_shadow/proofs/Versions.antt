-- Versions and ids as they are moved.
use Rattle.std.proofs.Common.{◌≡◌, ◌↔◌, ◌<◌, inl, inr, false, length, Result, Ok, Err, refl, sym, ap, subst, ◌∙◌, true≢false}
use Rattle.std.specs.Prelude.{IsErrOf, OnOk, IfErr}
use Rattle.std.proofs.lemmas.Bool.{lt-ltb, le-ltb, cases_lt}
use Rattle.repo_index.specs.cny-base.declared.limits.TheConstants.{VERSION_LIMIT}
use Rattle.repo_index.specs.cny-base.declared.refusal.Fault.{Fault}
use Rattle.repo_index.specs.cny-base.declared.refusal.Fault.TheVariants.{Refused, Memory}
use Rattle.repo_index.specs.cny-base.declared.refusal.Refusal.{Refusal}
use Rattle.repo_index.specs.cny-base.declared.refusal.What.TheVariants as what
use Rattle.cny_version.specs.Label.{LabelParts}
use Rattle.cny_version.specs.TooLarge.{TooLargeOrMemory}
use Rattle.cny_version.specs.Version.{WholeVersion, last_label, version_text}
use Rattle.repo_index.specs.trove-parts.declared.id.TroveId.{TroveId}
use Rattle.repo_shadow.specs.declared.way.Way.{Way}
use Rattle.repo_shadow.specs.declared.way.Way.TheVariants.{Shadow, Branch}
use Rattle.repo_shadow.specs.Moved.{moved_version, is_long_version, too_large_version}
use Rattle.repo_shadow.specs.Steps.{Fits, IsTooLongOrMemory}
use Rattle.cny_version.proofs.VersionSteps.{last_snoc as last_push}

-- the revision stays
pub moved_revision : (way : Way) (label : LabelParts) (v : WholeVersion) → (moved_version way label v).revision ≡ v.revision
moved_revision Shadow label v = refl
moved_revision Branch label v = refl

-- the last label is the one onto which it moves
pub last_moved : (way : Way) (label : LabelParts) (v : WholeVersion) → last_label (moved_version way label v).branch ≡ label
last_moved Shadow label v = last_push v.branch.first v.branch.shadows label
last_moved Branch label v = refl

-- where the moved version fits, memory alone may run out
pub never_too_long : (way : Way) (label : LabelParts) (id : TroveId) (fault : Fault) → Fits way label id → IsTooLongOrMemory (moved_version way label id.version) fault → fault ≡ Memory
never_too_long way label id (Refused refused) fits long = absurd (true≢false (sym long.1 ∙ fits))
never_too_long way label id Memory fits long = refl

-- ---- versions that are too long

-- what is made fits
pub fits_if_made : (v : WholeVersion) (r : Result WholeVersion Fault) → (IsErrOf r (Refused (too_large_version v)) ↔ (VERSION_LIMIT < length (version_text v))) → OnOk r (is_long_version v ≡ false)
fits_if_made v (Err fault) refused = tt
fits_if_made v (Ok made) refused = elim (cases_lt VERSION_LIMIT (length (version_text v))) [
  | inl long ↦ absurd (cc (refused.1 long))
  | inr short ↦ le-ltb VERSION_LIMIT (length (version_text v)) short
]

-- what is refused is too long
pub long_if_refused : (v : WholeVersion) (r : Result WholeVersion Fault) → (IsErrOf r (Refused (too_large_version v)) ↔ (VERSION_LIMIT < length (version_text v)))
    → IfErr r (TooLargeOrMemory what.Version (length (version_text v))) → IfErr r (IsTooLongOrMemory v)
long_if_refused v (Ok made) refused is = tt
long_if_refused v (Err (Refused reason)) refused is = (is, lt-ltb VERSION_LIMIT (length (version_text v)) (refused.0 (ap (λ (r : Refusal). Err (Refused r)) is)))
long_if_refused v (Err Memory) refused is = tt

-- the same of a version that moves on a way
module _ {way own : Way} (is : way ≡ own) (label : LabelParts) (v : WholeVersion) (r : Result WholeVersion Fault)
    (refused : IsErrOf r (Refused (too_large_version (moved_version own label v))) ↔ (VERSION_LIMIT < length (version_text (moved_version own label v)))) where
  pub fits_on_way : OnOk r (is_long_version (moved_version way label v) ≡ false)
  fits_on_way = subst (λ (w : Way). OnOk r (is_long_version (moved_version w label v) ≡ false)) (sym is) (fits_if_made (moved_version own label v) r refused)

  pub long_on_way : IfErr r (TooLargeOrMemory what.Version (length (version_text (moved_version own label v)))) → IfErr r (IsTooLongOrMemory (moved_version way label v))
  long_on_way fault = subst (λ (w : Way). IfErr r (IsTooLongOrMemory (moved_version w label v))) (sym is) (long_if_refused (moved_version own label v) r refused fault)
