-- Why no local changes are told, on every disk.
use Rattle.std.proofs.Common.{◌≡◌, ℕ, Bool, true, false, cond, List, [], ◌∷◌, Some, None, Result, Ok, Err, IfErr, IsErrAnd, refl, sym, ap, subst, ◌∙◌}
use Rattle.std.specs.Prelude.{nat_lt}
use Rattle.update_job.specs.cny-base.Stop.{stop_of_fault}
use Rattle.update_job.specs.cny-base.declared.limits.TheConstants.{VERSION_LIMIT}
use Rattle.update_job.specs.cny-base.declared.refusal.Fault.{Fault}
use Rattle.update_job.specs.cny-base.declared.refusal.Fault.TheVariants as fault
use Rattle.update_job.specs.cny-base.declared.refusal.Refusal.{Refusal}
use Rattle.update_job.specs.cny-base.declared.refusal.Refusal.TheVariants as refusal
use Rattle.update_job.specs.cny-base.declared.refusal.What.{What}
use Rattle.update_job.specs.cny-base.declared.refusal.What.TheVariants as what
use Rattle.update_job.specs.cny-base.declared.stop.Stop.{Stop}
use Rattle.update_job.specs.cny-base.declared.stop.Stop.TheVariants as stop
use Rattle.update_job.specs.change-set.declared.change.Carried.{Carried}
use Rattle.update_job.specs.trove-stream.declared.parts.TroveParts.{TroveParts}
use Rattle.update_job.specs.trove-stream.Installed.{IsNameless}
use Rattle.manifest_troves.specs.Contents.{IsCollisionOf}
use Rattle.tree_scan.specs.tree-disk.Steps.{IsDiskStop}
use Rattle.root_edits.specs.Standing.{IsSizeRefusal, IsSizeStop}
use Rattle.root_edits.specs.Local.{IsLocalAnswer, IsLocalStop, PassesVersions}
use Rattle.root_edits.specs.Moved.{local_size, too_long}
use Rattle.root_edits.specs.Reached.{AreReached}
use Rattle.root_edits.specs.Steps.{IsUninstalled}
use Rattle.cny_version.specs.cny-base.Refusals.{IsRefusalOrMemory}

-- ---- what stands

disk_size : (e : Stop) → IsDiskStop e → IsSizeStop e
disk_size stop.Failed is = tt
disk_size stop.Memory is = tt
disk_size (stop.Refused why) is = absurd is
disk_size (stop.Damaged path) is = absurd is
disk_size stop.FarFailed is = absurd is
disk_size (stop.FarDamaged path) is = absurd is

-- a single call that stopped, passed on by `?`
pub disk_passed : {T : Type 0} (e : Stop) (r : Result T Stop) → IsErrAnd r (λ s. s ≡ e) → IsDiskStop e → IfErr r IsSizeStop
disk_passed e (Ok x) is stops = tt
disk_passed e (Err s) is stops = subst IsSizeStop (sym is) (disk_size e stops)

-- ---- an answer

-- the refusal of a version that is too long
long_by : (troves : List TroveParts) (refused : Refusal) → too_long troves ≡ Some refused → (size : ℕ) × (refused ≡ refusal.TooLarge what.Version size)
long_by [] refused is = absurd (cc is)
long_by (t ∷ troves) refused is = by (nat_lt VERSION_LIMIT (local_size t.id)) (long_by troves refused) is
  where
    by : (p : Bool) → (too_long troves ≡ Some refused → (size : ℕ) × (refused ≡ refusal.TooLarge what.Version size))
        → cond p (Some (refusal.TooLarge what.Version (local_size t.id))) (too_long troves) ≡ Some refused → (size : ℕ) × (refused ≡ refusal.TooLarge what.Version size)
    by true rest is = let same : refusal.TooLarge what.Version (local_size t.id) ≡ refused = cc is in (local_size t.id, sym same)
    by false rest is = rest is

module _ (list : List TroveParts) (name : List ℕ) where
  passed : {T : Type 0} (e : Stop) (r : Result T Stop) → IsErrAnd r (λ s. s ≡ e) → IsLocalStop list name e → IfErr r (IsLocalStop list name)
  passed e (Ok x) is stops = tt
  passed e (Err s) is stops = subst (IsLocalStop list name) (sym is) stops

  uninstalled : (e : Fault) → IsUninstalled list name e → IsLocalStop list name (stop_of_fault e)
  uninstalled (fault.Refused refused) is = subst (IsLocalAnswer list name) (sym is.refusal_is) (record { missing = is.missing; refusal_is = refl })
  uninstalled fault.Memory is = tt

  -- no trove of the name is installed
  pub uninstalled_stop : {T : Type 0} (e : Fault) (r : Result T Stop) → IsErrAnd r (λ s. s ≡ stop_of_fault e) → IsUninstalled list name e → IfErr r (IsLocalStop list name)
  uninstalled_stop e r is why = passed (stop_of_fault e) r is (uninstalled e why)

  module _ (troves : List TroveParts) (installed : IsNameless name list → ⊥) (reached : AreReached list name troves) where
    long : (e : Fault) → IsRefusalOrMemory (too_long troves) e → IsLocalStop list name (stop_of_fault e)
    long (fault.Refused refused) is =
        let l = long_by troves refused is in
        subst (IsLocalAnswer list name) (sym l.1) (record { installed = installed; troves = troves; reached = reached; refusal_is = is ∙ ap Some l.1 })
    long fault.Memory is = tt

    -- a version is too long
    pub long_stop : {T : Type 0} (e : Fault) (r : Result T Stop) → IsErrAnd r (λ s. s ≡ stop_of_fault e) → IsRefusalOrMemory (too_long troves) e → IfErr r (IsLocalStop list name)
    long_stop e r is why = passed (stop_of_fault e) r is (long e why)

    module _ (short : too_long troves ≡ None) where
      passes : PassesVersions list name
      passes = record { installed = installed; troves = troves; reached = reached; short = short }

      large : (why : Refusal) → IsSizeRefusal why → IsLocalAnswer list name why
      large (refusal.TooLarge kind size) is = subst (λ (k : What). IsLocalAnswer list name (refusal.TooLarge k size)) (sym is) passes
      large _ is = absurd is

      size_local : (e : Stop) → IsSizeStop e → IsLocalStop list name e
      size_local (stop.Refused why) is = large why is
      size_local stop.Failed is = passes
      size_local stop.Memory is = tt
      size_local (stop.Damaged path) is = absurd is
      size_local stop.FarFailed is = absurd is
      size_local (stop.FarDamaged path) is = absurd is

      -- what stands is too large, or couldn't be read
      pub size_stop : {T : Type 0} (e : Stop) (r : Result T Stop) → IsErrAnd r (λ s. s ≡ e) → IsSizeStop e → IfErr r (IsLocalStop list name)
      size_stop e r is why = passed e r is (size_local e why)

      colliding : (contents : List Carried) (e : Fault) → IsCollisionOf contents e → IsLocalStop list name (stop_of_fault e)
      colliding contents (fault.Refused refused) is = subst (IsLocalAnswer list name) (sym is.3) passes
      colliding contents fault.Memory is = tt

      -- two contents collide
      pub collision_stop : {T : Type 0} (contents : List Carried) (e : Fault) (r : Result T Stop) → IsErrAnd r (λ s. s ≡ stop_of_fault e) → IsCollisionOf contents e → IfErr r (IsLocalStop list name)
      collision_stop contents e r is why = passed (stop_of_fault e) r is (colliding contents e why)
