-- The writes and entries of a plan, as a job asks them on every disk.
use Rattle.std.proofs.Common.{◌≡◌, ◌≢◌, true, false, List, [], ◌∷◌, map, Option, Some, None, refl, sym, ◌∙◌, ap, subst}
use Rattle.std.proofs.lemmas.List.Elements.{All-from_recursion, recursion_from_All, All-contains}
use Rattle.std.specs.List.{All, AllByRecursion, AllZip}
use Rattle.std.specs.FinMap.{get}
use Rattle.rollback_stack.specs.cny-base.declared.node.Node.{Node}
use Rattle.rollback_stack.specs.cny-base.declared.refusal.Refusal.{Refusal}
use Rattle.rollback_stack.specs.cny-base.declared.node.Node.TheVariants as node
use Rattle.rollback_stack.specs.trove-stream.declared.parts.TroveParts.{TroveParts}
use Rattle.rollback_stack.specs.trove-stream.Trove.{IsTrove}
use Rattle.rollback_stack.specs.tree-disk.Tree.{Tree}
use Rattle.rollback_stack.specs.tree-scan.Marks.{fingerprint}
use Rattle.rollback_stack.specs.journal-log.declared.put.Put.{Put}
use Rattle.rollback_stack.specs.journal-log.Targets.{node_of}
use Rattle.job_targets.specs.declared.entry.Entry.{Entry}
use Rattle.local_db.specs.SystemState.{IsFree}
use Rattle.local_db.specs.Steps.{paths_of, want_of}
use Rattle.conflict_plan.specs.declared.planned.Planned.{Planned}
use Rattle.conflict_plan.specs.Plan.{ArePlannable, IsPlannable}
use Rattle.job_targets.specs.Targets.{HaveEntries, HavePuts}
use Rattle.job_targets.specs.Carrying.{HaveWants, whole_of}
use Rattle.job_targets.specs.Old.{is_staged}
use Rattle.job_targets.specs.Outcome.{AreSavable}
use Rattle.rollback_stack.specs.journal-log.declared.put.Want.{Want}
use Rattle.rollback_stack.specs.Entries.{entries_of}
use Rattle.system_core.specs.JobWriting.{entries_over, AreRecordedTargets, StandsBeforeOrAfter}
use Rattle.system_core.specs.Something.{is_something, is_some_by, LacksSomething}
use Rattle.system_core.specs.Lists.{AllPathsAllowed}
use Rattle.system_core.proofs.Recorded.{plannable_free}

-- the writes are at the planned paths
abbrev pub HavePaths : List Planned → List Put → Type 0
HavePaths = AllZip (λ (x : Planned) (p : Put). p.path ≡ x.path)

pub paths_of_puts : (xs : List Planned) (ps : List Put) → HavePuts xs ps → HavePaths xs ps
paths_of_puts [] [] puts = tt
paths_of_puts [] (p ∷ ps) puts = absurd puts
paths_of_puts (x ∷ xs) [] puts = absurd puts
paths_of_puts (x ∷ xs) (p ∷ ps) puts = (puts.0.path, paths_of_puts xs ps puts.1)

pub paths_of_wants : (Gives : Want → Type 0) (xs : List Planned) (ps : List Put) → HaveWants Gives xs ps → HavePaths xs ps
paths_of_wants Gives [] [] puts = tt
paths_of_wants Gives [] (p ∷ ps) puts = absurd puts
paths_of_wants Gives (x ∷ xs) [] puts = absurd puts
paths_of_wants Gives (x ∷ xs) (p ∷ ps) puts = (puts.0.path, paths_of_wants Gives xs ps puts.1)

pub paths_whole : (tree : Tree) (xs : List Planned) (ps : List Put) → HavePaths xs ps → HavePaths xs (whole_of tree ps)
paths_whole tree [] [] puts = tt
paths_whole tree [] (p ∷ ps) puts = absurd puts
paths_whole tree (x ∷ xs) [] puts = absurd puts
paths_whole tree (x ∷ xs) (p ∷ ps) puts = (puts.0, paths_whole tree xs ps puts.1)

pub paths_same : (xs : List Planned) (ps : List Put) (es : List Entry) → HavePaths xs ps → HaveEntries xs es → map (λ (e : Entry). e.path) es ≡ paths_of ps
paths_same [] [] [] puts entries = refl
paths_same [] [] (e ∷ es) puts entries = absurd entries
paths_same [] (p ∷ ps) es puts entries = absurd puts
paths_same (x ∷ xs) [] es puts entries = absurd puts
paths_same (x ∷ xs) (p ∷ ps) [] puts entries = absurd entries
paths_same (x ∷ xs) (p ∷ ps) (e ∷ es) puts entries =
    ap (λ n. n ∷ map (λ (d : Entry). d.path) es) (entries.0.path ∙ sym puts.0) ∙ ap (λ l. p.path ∷ l) (paths_same xs ps es puts.1 entries.1)

free_by : (xs : List Planned) (ps : List Put) → HavePaths xs ps → AllByRecursion (λ (x : Planned). IsFree x.path) xs → AllByRecursion (λ (p : Put). IsFree p.path) ps
free_by [] [] puts all = tt
free_by [] (p ∷ ps) puts all = absurd puts
free_by (x ∷ xs) [] puts all = absurd puts
free_by (x ∷ xs) (p ∷ ps) puts all = (subst IsFree (sym puts.0) all.0, free_by xs ps puts.1 all.1)

planned_free : (old fresh : List TroveParts) (xs : List Planned) → All IsTrove old → All IsTrove fresh → AllPathsAllowed old → AllPathsAllowed fresh
    → AllByRecursion (IsPlannable old fresh) xs → AllByRecursion (λ (x : Planned). IsFree x.path) xs
planned_free old fresh [] olds freshes a b all = tt
planned_free old fresh (x ∷ xs) olds freshes a b all = (plannable_free old fresh x olds freshes a b all.0, planned_free old fresh xs olds freshes a b all.1)

-- the paths of the writes are free
pub puts_free : (old fresh : List TroveParts) (xs : List Planned) (ps : List Put) → All IsTrove old → All IsTrove fresh → AllPathsAllowed old → AllPathsAllowed fresh
    → ArePlannable old fresh xs → HavePaths xs ps → All (λ (p : Put). IsFree p.path) ps
puts_free old fresh xs ps olds freshes a b plannable puts =
    All-from_recursion (λ (p : Put). IsFree p.path) ps
    (free_by xs ps puts (planned_free old fresh xs olds freshes a b (recursion_from_All (IsPlannable old fresh) xs plannable.each)))

-- what a job asks of them on every disk
pub are_targets : (old fresh : List TroveParts) (xs : List Planned) (ps : List Put) (es : List Entry) → All IsTrove old → All IsTrove fresh → AllPathsAllowed old → AllPathsAllowed fresh
    → ArePlannable old fresh xs → HavePaths xs ps → HaveEntries xs es → All (λ (p : Put). is_staged p.want ≡ false) ps → AreSavable es → All StandsBeforeOrAfter (entries_of es) → AreRecordedTargets ps es
are_targets old fresh xs ps es olds freshes a b plannable puts entries given savable something = record {
  free = puts_free old fresh xs ps olds freshes a b plannable puts;
  given = given;
  paths = paths_same xs ps es puts entries;
  entries = record { given = savable.given; entries_are = savable.told; rising = savable.rising };
  something = something;
  agree = savable.agree;
}

-- ---- where the disk tells its tree something stands at each path before or after

some_over : (was now : Option Node) → was ≢ now → is_some_by (want_of was) (fingerprint now) ≡ true
some_over None None differ = absurd (differ refl)
some_over None (Some (node.Dir mode)) differ = refl
some_over None (Some (node.File mode bytes)) differ = refl
some_over None (Some (node.Link target)) differ = refl
some_over (Some (node.Dir mode)) now differ = refl
some_over (Some (node.File mode bytes)) now differ = refl
some_over (Some (node.Link target)) now differ = refl

each_over : (x : Tree) (ps : List Put) → AllByRecursion (λ (p : Put). get x p.path ≢ node_of p.want) ps → AllByRecursion (λ (e : Entry). is_something e ≡ true) (entries_over x ps)
each_over x [] all = tt
each_over x (p ∷ ps) all = (some_over (get x p.path) (node_of p.want) all.0, each_over x ps all.1)

-- so none lacks both
pub nothing_lacks : (x : Tree) (ps : List Put) (es : List Entry) → All (λ (p : Put). get x p.path ≢ node_of p.want) ps → es ≡ entries_over x ps → (why : Refusal) → LacksSomething es why → ⊥
nothing_lacks x ps es changes is why lacks =
    absurd (cc (
      lacks.nothing,
      All-contains (λ (e : Entry). is_something e ≡ true) es lacks.entry
          (subst (All (λ (e : Entry). is_something e ≡ true)) (sym is) (All-from_recursion (λ (e : Entry). is_something e ≡ true) (entries_over x ps)
          (each_over x ps (recursion_from_All (λ (p : Put). get x p.path ≢ node_of p.want) ps changes)))) lacks.among,
    ))
