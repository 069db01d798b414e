-- What an erasure may be refused by.
use Rattle.std.proofs.Common.{◌≡◌, ℕ, true, List, [], ◌∷◌, ◌++◌, Option, Some, None, Result, Ok, Err, Contains, refl, sym, subst}
use Rattle.std.specs.Prelude.{IfErr}
use Rattle.std.proofs.lemmas.List.Elements.{All-contains}
use Rattle.rollback_stack.specs.cny-base.declared.refusal.Refusal.{Refusal}
use Rattle.rollback_stack.specs.cny-base.declared.refusal.Refusal.TheVariants as refusal
use Rattle.rollback_stack.specs.cny-base.declared.stop.Stop.{Stop}
use Rattle.rollback_stack.specs.cny-base.declared.stop.Stop.TheVariants.{Refused, Memory, Failed, Damaged, FarFailed, FarDamaged}
use Rattle.rollback_stack.specs.change-set.declared.change.Carried.{Carried}
use Rattle.rollback_stack.specs.content-store.Contents.{Answers}
use Rattle.rollback_stack.specs.cny-stream.declared.record.FileRec.{FileRec}
use Rattle.rollback_stack.specs.cny-stream.declared.record.FileRec.TheVariants as rec
use Rattle.rollback_stack.specs.cny-stream.Record.{is_dir}
use Rattle.rollback_stack.specs.trove-stream.declared.parts.TroveParts.{TroveParts}
use Rattle.rollback_stack.specs.tree-disk.Disk.{DiskModel}
use Rattle.rollback_stack.specs.tree-disk.Tree.{Tree}
use Rattle.local_db.specs.declared.db.Db.{Db}
use Rattle.conflict_plan.specs.declared.planned.Planned.{Planned}
use Rattle.conflict_plan.specs.Plan as planning
use Rattle.conflict_plan.specs.Plan.{IsPlan, planned_at}
use Rattle.job_targets.specs.Outcome as outcome
use Rattle.job_targets.specs.Outcome.{IsMissing}
use Rattle.job_targets.proofs.Changing.{own_plans}
use Rattle.system_core.specs.Last.{too_large, too_many}
use Rattle.update_job.specs.Lists.{IsErased, IsNotInstalled}
use Rattle.local_db.specs.Installed.{IsInstalled}
use Rattle.local_db.specs.SystemState.{SystemState}
use Rattle.system_core.specs.declared.done.Done.{Done}
use Rattle.system_core.specs.Job.{IsJobRefusal, IsTestRefusal, Sources, last, unmet, unplanned, untargeted, untested}
use Rattle.system_core.specs.Lists.{to_erased}
use Rattle.system_core.specs.Steps.{StepEnds, HasOwnCause, IsErasureRefusal, IsErasureStop, IsJobLimit, IsRefusal, no_job, no_list}
use Rattle.system_core.proofs.Erasing.{erased_dir, erased_owned, erased_unshared}
use Rattle.local_db.proofs.cny-base.Lists.{contains_at, contains_first, contains_rest}

in_split : (front : List Planned) (x : Planned) (rest : List Planned) → Contains (front ++ x ∷ rest) x
in_split [] x rest = contains_first x rest
in_split (y ∷ front) x rest = contains_rest y x (front ++ x ∷ rest) (in_split front x rest)

no_missing : (carried : List Carried) (answers : Answers) (tree : Tree) (x : Planned) (want : Option FileRec) (why : Refusal) → ((r : FileRec) → want ≡ Some r → is_dir r ≡ true) → IsMissing carried answers tree x want why → ⊥
no_missing carried answers tree x None why dirs is = is
no_missing carried answers tree x (Some (rec.Dir mode owner)) why dirs is = is
no_missing carried answers tree x (Some (rec.File mode owner flags size name)) why dirs is = absurd (cc (dirs (rec.File mode owner flags size name) refl))
no_missing carried answers tree x (Some (rec.Link target)) why dirs is = is

module _ (from : Sources) (s : SystemState) (list_is : IsInstalled s.installed) (names : List (List ℕ)) (list : List TroveParts) (erased : IsErased s.installed names list) where
  among : (t : TroveParts) → Contains list t → Contains s.installed t
  among t h = let stays = erased.stays t h in contains_at s.installed stays.place t stays.there

  planned_refusal : (why : Refusal) → planning.IsFirstRefusal s.installed list from.options s.tree why → IsErasureRefusal why
  planned_refusal (refusal.Owned path first second) is =
      absurd (cc (is.owners, erased_unshared s.installed list list_is.unshared list_is.troves list_is.rising erased.rising among path))
  planned_refusal (refusal.Unowned path) is =
      absurd (erased_owned s.installed list list_is.unshared list_is.troves list_is.rising erased.rising among from.options s.tree path path is.refused)
  planned_refusal (refusal.Edited path) is = tt
  planned_refusal (refusal.Parent path) is = tt
  planned_refusal _ is = absurd is

  target_refusal : (planned : List Planned) → IsPlan s.installed list from.options s.tree planned → (why : Refusal) → outcome.IsFirstRefusal from.carried from.answers planned s.tree why → IsErasureRefusal why
  target_refusal planned plan (refusal.MissingContent name) is =
      absurd (no_missing from.carried from.answers s.tree is.first is.first.want (refusal.MissingContent name)
      (erased_dir s.installed list list_is.unshared list_is.troves list_is.rising erased.rising among from.options s.tree planned plan.planned is.first
      (All-contains (λ (y : Planned). planned_at planned y.path ≡ Some y) planned is.first (own_plans planned plan.planned.rising)
      (subst (λ (l : List Planned). Contains l is.first) (sym is.split) (in_split is.front is.first is.rest)))) is.missing)
  target_refusal planned plan (refusal.TooLarge what size) is = subst IsJobLimit (sym is.is_local) tt
  target_refusal planned plan (refusal.Collision name at) is = tt
  target_refusal planned plan _ is = absurd is

  test_refusal : (why : Refusal) → IsTestRefusal from s.installed list s.tree why → IsErasureRefusal why
  test_refusal why (unmet is) = subst IsErasureRefusal (sym is.3) tt
  test_refusal why (unplanned closed is) = planned_refusal why is
  test_refusal why (untargeted closed planned plan is) = target_refusal planned plan why is

  job_refusal : (why : Refusal) → IsJobRefusal from s list why → IsErasureRefusal why
  job_refusal why (untested is) = test_refusal why is
  job_refusal why (last puts passes (too_large large is)) = subst IsErasureRefusal (sym is) tt
  job_refusal why (last puts passes (too_many short some full is)) = subst IsErasureRefusal (sym is) tt

refusal_of_erasure : (from : Sources) (s : SystemState) → IsInstalled s.installed → (names : List (List ℕ)) (why : Refusal) → IsRefusal from (to_erased s.installed names) s why → IsErasureRefusal why
refusal_of_erasure from s list_is names why (no_list is) = let r : IsNotInstalled s.installed names why = is in subst IsErasureRefusal (sym r.refusal_is) tt
refusal_of_erasure from s list_is names why (no_job list leads is) = job_refusal from s list_is names list leads.1 why is

pub erasure_stops : {D : Type 0} (disk : DiskModel D) (from : Sources) (s : SystemState) → IsInstalled s.installed → (names : List (List ℕ)) (old new : D) (db : Db) (r : Result Done Stop)
    → StepEnds disk from (to_erased s.installed names) s old new db r → (rose : Type 0) → IfErr r (HasOwnCause rose) → IfErr r IsErasureStop
erasure_stops disk from s list_is names old new db (Ok made) ends rose cause = tt
erasure_stops disk from s list_is names old new db (Err (Refused why)) ends rose cause = refusal_of_erasure from s list_is names why ends.answer
erasure_stops disk from s list_is names old new db (Err Memory) ends rose cause = tt
erasure_stops disk from s list_is names old new db (Err Failed) ends rose cause = tt
erasure_stops disk from s list_is names old new db (Err (Damaged path)) ends rose cause = absurd cause
erasure_stops disk from s list_is names old new db (Err FarFailed) ends rose cause = absurd cause
erasure_stops disk from s list_is names old new db (Err (FarDamaged path)) ends rose cause = absurd cause
