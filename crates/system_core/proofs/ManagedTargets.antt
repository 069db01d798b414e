-- The writes of a plan over the tree of a root are those over the tree of the system that the root stores.
use Rattle.std.proofs.Common.{◌≡◌, ℕ, false, cond, List, [], ◌∷◌, ◌++◌, Option, Some, None, refl, ◌∙◌, ap, subst}
use Rattle.std.specs.List.{AllByRecursion}
use Rattle.std.specs.Option.{option_or}
use Rattle.rollback_stack.specs.cny-base.Reserved.{is_reserved}
use Rattle.rollback_stack.specs.cny-base.declared.node.Node.{Node}
use Rattle.rollback_stack.specs.cny-base.declared.refusal.Refusal.{Refusal}
use Rattle.rollback_stack.specs.cny-base.declared.refusal.Refusal.TheVariants.{Collision, MissingContent, TooLarge}
use Rattle.rollback_stack.specs.cny-base.declared.refusal.What.{What}
use Rattle.rollback_stack.specs.change-set.declared.change.Carried.{Carried}
use Rattle.rollback_stack.specs.cny-stream.declared.record.FileRec.{FileRec}
use Rattle.rollback_stack.specs.cny-stream.declared.record.FileRec.TheVariants as rec
use Rattle.rollback_stack.specs.trove-stream.declared.parts.TroveParts.{TroveParts}
use Rattle.rollback_stack.specs.tree-disk.Rows.{bytes_of}
use Rattle.rollback_stack.specs.tree-disk.Tree.{Tree, AgreesOutside}
use Rattle.rollback_stack.specs.content-store.Contents.{Answers}
use Rattle.rollback_stack.specs.journal-log.declared.put.Put.{Put}
use Rattle.rollback_stack.specs.journal-log.declared.put.Want.{Want}
use Rattle.job_targets.specs.declared.entry.Entry.{Entry}
use Rattle.job_targets.specs.Agree.{IsFirstCollision}
use Rattle.conflict_plan.specs.declared.planned.Planned.{Planned}
use Rattle.conflict_plan.specs.Plan.{mark_of_want}
use Rattle.local_db.specs.Steps.{want_of}
use Rattle.job_targets.specs.declared.targets.Targets.{Targets}
use Rattle.job_targets.specs.Contents.{Finds, FindsBehind, carried_bytes, is_file_of, standing}
use Rattle.job_targets.specs.Outcome.{AreTargets, IsFirstClash, IsFirstLarge, IsFirstRefusal, IsFirstUnfound, IsMissing, IsUnfound}
use Rattle.job_targets.specs.Targets.{ArePutsOf, IsTarget, entries_at, entry_at}
use Rattle.system_core.specs.Job.{IsTestRefusal, IsTested, Sources, unmet, unplanned, untargeted}
use Rattle.system_core.proofs.Managed.{IsManaged, KeepsOut, outer_plan, plan_managed, refusal_managed}
use Rattle.update_job.specs.cny-base.Sized.{of_size}

-- none of these paths is in the private directory
abbrev AreOuter : List Planned → Type 0
AreOuter ys = AllByRecursion (λ (y : Planned). is_reserved y.path ≡ false) ys

outer_front : (front : List Planned) (first : Planned) (rest : List Planned) → AreOuter (front ++ first ∷ rest) → AreOuter front × (is_reserved first.path ≡ false)
outer_front [] first rest outer = (tt, outer.0)
outer_front (y ∷ front) first rest outer = let later = outer_front front first rest outer.1 in ((outer.0, later.0), later.1)

module _ (carried : List Carried) (answers : Answers) (x t : Tree) (agrees : AgreesOutside is_reserved x t) where
  standing_same : (y : Planned) (size : ℕ) (name : List ℕ) → is_reserved y.path ≡ false → standing x y size name ≡ standing t y size name
  standing_same y size name out = ap (λ (o : Option Node). cond (is_file_of size name y.was) (Some (bytes_of o)) None) (agrees y.path out)

  finds_same : (y : Planned) (size : ℕ) (name : List ℕ) (found : Option (List ℕ)) → is_reserved y.path ≡ false → Finds carried answers x y size name found → Finds carried answers t y size name found
  finds_same y size name found out finds = by (of_size size (carried_bytes carried name)) finds
    where
      by : (o : Option (List ℕ)) → FindsBehind o answers x y size name found → FindsBehind o answers t y size name found
      by (Some bytes) is = is
      by None is = record { answer = is.answer; answered = is.answered; first = is.first ∙ ap (option_or (of_size size is.answer)) (standing_same y size name out) }

  target_same : (y : Planned) (o : Option FileRec) (w : Want) → is_reserved y.path ≡ false → IsTarget carried answers x y o w → IsTarget carried answers t y o w
  target_same y None w out is = is
  target_same y (Some (rec.Dir mode owner)) w out is = is
  target_same y (Some (rec.File mode owner flags size name)) w out is = record { bytes = is.bytes; found = finds_same y size name (Some is.bytes) out is.found; is = is.is }
  target_same y (Some (rec.Link target)) w out is = is

  puts_same : (ys : List Planned) (ps : List Put) → AreOuter ys → ArePutsOf carried answers x ys ps → ArePutsOf carried answers t ys ps
  puts_same [] [] outer are = tt
  puts_same [] (p ∷ ps) outer are = absurd are
  puts_same (y ∷ ys) [] outer are = absurd are
  puts_same (y ∷ ys) (p ∷ ps) outer are =
      (record { path = are.0.path; target = target_same y y.want p.want outer.0 are.0.target }, puts_same ys ps outer.1 are.1)

  entry_same : (y : Planned) → is_reserved y.path ≡ false → entry_at x y ≡ entry_at t y
  entry_same y out = λ i. record { path = y.path; was = want_of (agrees y.path out i); mark = mark_of_want y.want }

  entries_same : (ys : List Planned) → AreOuter ys → entries_at x ys ≡ entries_at t ys
  entries_same [] outer = refl
  entries_same (y ∷ ys) outer = ap (λ (e : Entry). e ∷ entries_at x ys) (entry_same y outer.0) ∙ ap (λ (l : List Entry). entry_at t y ∷ l) (entries_same ys outer.1)

  unfound_same : (y : Planned) (size : ℕ) (name : List ℕ) (why : Refusal) → is_reserved y.path ≡ false → IsUnfound carried answers x y size name why → IsUnfound carried answers t y size name why
  unfound_same y size name (MissingContent missing) out is = (is.0, finds_same y size name None out is.1)
  unfound_same y size name _ out is = absurd is

  missing_same : (y : Planned) (o : Option FileRec) (why : Refusal) → is_reserved y.path ≡ false → IsMissing carried answers x y o why → IsMissing carried answers t y o why
  missing_same y None why out is = absurd is
  missing_same y (Some (rec.Dir mode owner)) why out is = absurd is
  missing_same y (Some (rec.File mode owner flags size name)) why out is = unfound_same y size name why out is
  missing_same y (Some (rec.Link target)) why out is = absurd is

  -- ---- of a plan outside

  module _ (planned : List Planned) (outer : AreOuter planned) where
    targets_same : (made : Targets) → AreTargets carried answers planned x made → AreTargets carried answers planned t made
    targets_same made are = record {
      puts = puts_same planned made.puts outer are.puts;
      small = are.small;
      entries = are.entries ∙ entries_same planned outer;
      agree = are.agree;
    }

    unfound_first : (why : Refusal) → IsFirstUnfound carried answers x planned why → IsFirstUnfound carried answers t planned why
    unfound_first why is =
        let parts = outer_front is.front is.first is.rest (subst AreOuter is.split outer) in
        record {
          front = is.front;
          first = is.first;
          rest = is.rest;
          split = is.split;
          puts = is.puts;
          found = puts_same is.front is.puts parts.0 is.found;
          missing = missing_same is.first is.first.want why parts.1 is.missing;
        }

    large_first : (what : What) (size : ℕ) → IsFirstLarge carried answers x planned what size → IsFirstLarge carried answers t planned what size
    large_first what size is = record { puts = is.puts; found = puts_same planned is.puts outer is.found; is_local = is.is_local; large = is.large }

    clash_first : (name : List ℕ) (at : ℕ) → IsFirstClash carried answers x planned name at → IsFirstClash carried answers t planned name at
    clash_first name at is = record {
      puts = is.puts;
      found = puts_same planned is.puts outer is.found;
      small = is.small;
      collides = subst (λ (es : List Entry). IsFirstCollision es name at) (entries_same planned outer) is.collides;
    }

    target_refusal_same : (why : Refusal) → IsFirstRefusal carried answers planned x why → IsFirstRefusal carried answers planned t why
    target_refusal_same (MissingContent name) is = unfound_first (MissingContent name) is
    target_refusal_same (TooLarge what size) is = large_first what size is
    target_refusal_same (Collision name at) is = clash_first name at is
    target_refusal_same _ is = absurd is

-- ---- the tests of a job

module _ (from : Sources) (before list : List TroveParts) (x t : Tree) (man : IsManaged x t) (olds : KeepsOut before) (freshes : KeepsOut list) where
  pub tested_managed : (made : Targets) → IsTested from before list x made → IsTested from before list t made
  tested_managed made is = record {
    closed = is.closed;
    planned = is.planned;
    plan = plan_managed before list from.options x t man olds freshes is.planned is.plan;
    targets = targets_same from.carried from.answers x t man.agrees is.planned (outer_plan before list from.options x t man olds freshes is.planned is.plan.planned) made is.targets;
  }

  pub test_refusal_managed : (why : Refusal) → IsTestRefusal from before list x why → IsTestRefusal from before list t why
  test_refusal_managed why (unmet is) = unmet is
  test_refusal_managed why (unplanned closed is) = unplanned closed (refusal_managed before list from.options x t man olds freshes why is)
  test_refusal_managed why (untargeted closed planned plan is) =
      untargeted closed planned (plan_managed before list from.options x t man olds freshes planned plan)
      (target_refusal_same from.carried from.answers x t man.agrees planned (outer_plan before list from.options x t man olds freshes planned plan.planned) why is)
