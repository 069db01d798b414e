-- What a job makes of contents that answer something, it makes of contents that answer at least that.
use Rattle.std.proofs.Common.{ℕ, List, [], ◌∷◌, Option, Some, None, Result, Ok, Err}
use Rattle.cli_call.specs.cny-base.declared.options.Options.{Options}
use Rattle.cli_call.specs.cny-base.declared.refusal.Refusal.{Refusal}
use Rattle.cli_call.specs.cny-base.declared.refusal.Refusal.TheVariants.{MissingContent, TooLarge, Collision}
use Rattle.cli_call.specs.cny-base.declared.stop.Stop.{Stop}
use Rattle.cli_call.specs.cny-base.declared.stop.Stop.TheVariants.{Refused, Memory, Failed, Damaged, FarFailed, FarDamaged}
use Rattle.cli_call.specs.change-set.declared.change.Carried.{Carried}
use Rattle.cli_call.specs.conflict-plan.declared.planned.Planned.{Planned}
use Rattle.cli_call.specs.content-store.Contents.{Answers}
use Rattle.cli_call.specs.cny-stream.declared.record.FileRec.{FileRec}
use Rattle.cli_call.specs.cny-stream.declared.record.FileRec.TheVariants as rec
use Rattle.cli_call.specs.journal-log.declared.put.Put.{Put}
use Rattle.cli_call.specs.journal-log.declared.put.Want.{Want}
use Rattle.cli_call.specs.trove-stream.declared.parts.TroveParts.{TroveParts}
use Rattle.cli_call.specs.tree-disk.Tree.{Tree}
use Rattle.cli_call.specs.tree-disk.Disk.{DiskModel}
use Rattle.local_db.specs.declared.db.Db.{Db}
use Rattle.cli_call.specs.job-targets.declared.targets.Targets.{Targets}
use Rattle.cli_call.specs.job-targets.Contents.{Finds, FindsBehind, carried_bytes}
use Rattle.cli_call.specs.job-targets.Outcome.{AreTargets, IsFirstRefusal, IsMissing, IsUnfound}
use Rattle.cli_call.specs.job-targets.Targets.{ArePutsOf, IsTarget}
use Rattle.local_db.specs.SystemState.{SystemState}
use Rattle.cli_call.specs.system-core.declared.done.Done.{Done}
use Rattle.cli_call.specs.system-core.Job.{IsJobRefusal, IsTestRefusal, IsTested, PassesTests, last, sources_of, unmet, unplanned, untargeted, untested}
use Rattle.cli_call.specs.system-core.Lists.{ListStep}
use Rattle.cli_call.specs.system-core.Steps.{StepEnds, IsStepDone, StopsOnTheWay, IsRefusal, no_job, no_list, reading, writing}
use Rattle.update_job.specs.cny-base.Sized.{of_size}

module _ (carried : List Carried) (options : Options) (one two : Answers) (more : (name : List ℕ) (found : Option (List ℕ)) → one name found → two name found) where
  -- ---- the writes

  behind : (own : Option (List ℕ)) (tree : Tree) (x : Planned) (size : ℕ) (name : List ℕ) (found : Option (List ℕ)) → FindsBehind own one tree x size name found → FindsBehind own two tree x size name found
  behind (Some bytes) tree x size name found is = is
  behind None tree x size name found is = record { answer = is.answer; answered = more name is.answer is.answered; first = is.first }

  finds : (tree : Tree) (x : Planned) (size : ℕ) (name : List ℕ) (found : Option (List ℕ)) → Finds carried one tree x size name found → Finds carried two tree x size name found
  finds tree x size name found is = behind (of_size size (carried_bytes carried name)) tree x size name found is

  target : (tree : Tree) (x : Planned) (o : Option FileRec) (w : Want) → IsTarget carried one tree x o w → IsTarget carried two tree x o w
  target tree x None w is = is
  target tree x (Some (rec.Dir mode owner)) w is = is
  target tree x (Some (rec.File mode owner flags size name)) w is = record { bytes = is.bytes; found = finds tree x size name (Some is.bytes) is.found; is = is.is }
  target tree x (Some (rec.Link to)) w is = is

  puts_of : (tree : Tree) (xs : List Planned) (ps : List Put) → ArePutsOf carried one tree xs ps → ArePutsOf carried two tree xs ps
  puts_of tree [] [] is = tt
  puts_of tree (x ∷ xs) (p ∷ ps) is = (record { path = is.0.path; target = target tree x x.want p.want is.0.target }, puts_of tree xs ps is.1)
  puts_of tree [] (p ∷ ps) is = absurd is
  puts_of tree (x ∷ xs) [] is = absurd is

  targets : (planned : List Planned) (tree : Tree) (t : Targets) → AreTargets carried one planned tree t → AreTargets carried two planned tree t
  targets planned tree t is = record { puts = puts_of tree planned t.puts is.puts; small = is.small; entries = is.entries; agree = is.agree }

  -- ---- the tests

  unfound : (tree : Tree) (x : Planned) (size : ℕ) (name : List ℕ) (why : Refusal) → IsUnfound carried one tree x size name why → IsUnfound carried two tree x size name why
  unfound tree x size name (MissingContent missing) is = (is.0, finds tree x size name None is.1)
  unfound tree x size name _ is = absurd is

  missing : (tree : Tree) (x : Planned) (o : Option FileRec) (why : Refusal) → IsMissing carried one tree x o why → IsMissing carried two tree x o why
  missing tree x None why is = absurd is
  missing tree x (Some (rec.Dir mode owner)) why is = absurd is
  missing tree x (Some (rec.File mode owner flags size name)) why is = unfound tree x size name why is
  missing tree x (Some (rec.Link to)) why is = absurd is

  first_refusal : (planned : List Planned) (tree : Tree) (why : Refusal) → IsFirstRefusal carried one planned tree why → IsFirstRefusal carried two planned tree why
  first_refusal planned tree (MissingContent name) is = record {
    front = is.front;
    first = is.first;
    rest = is.rest;
    split = is.split;
    puts = is.puts;
    found = puts_of tree is.front is.puts is.found;
    missing = missing tree is.first is.first.want (MissingContent name) is.missing;
  }
  first_refusal planned tree (TooLarge what size) is = record { puts = is.puts; found = puts_of tree planned is.puts is.found; is_local = is.is_local; large = is.large }
  first_refusal planned tree (Collision name at) is = record { puts = is.puts; found = puts_of tree planned is.puts is.found; small = is.small; collides = is.collides }
  first_refusal planned tree _ is = absurd is

  tested : (before list : List TroveParts) (tree : Tree) (made : Targets) → IsTested (sources_of carried one options) before list tree made → IsTested (sources_of carried two options) before list tree made
  tested before list tree made is = record { closed = is.closed; planned = is.planned; plan = is.plan; targets = targets is.planned tree made is.targets }

  test_refusal : (before list : List TroveParts) (tree : Tree) (why : Refusal) → IsTestRefusal (sources_of carried one options) before list tree why → IsTestRefusal (sources_of carried two options) before list tree why
  test_refusal before list tree why (unmet is) = unmet is
  test_refusal before list tree why (unplanned closed is) = unplanned closed is
  test_refusal before list tree why (untargeted closed planned plan is) = untargeted closed planned plan (first_refusal planned tree why is)

  module _ (s : SystemState) where
    pub passes_more : (list : List TroveParts) (puts : List Put) → PassesTests (sources_of carried one options) s list puts → PassesTests (sources_of carried two options) s list puts
    passes_more list puts (made, is, passed) = (made, is, tested s.installed list s.tree made passed)

    job_refusal : (list : List TroveParts) (why : Refusal) → IsJobRefusal (sources_of carried one options) s list why → IsJobRefusal (sources_of carried two options) s list why
    job_refusal list why (untested is) = untested (test_refusal s.installed list s.tree why is)
    job_refusal list why (last puts passes refused) = last puts (passes_more list puts passes) refused

    -- ---- how it ends

    module _ {D : Type 0} (disk : DiskModel D) (step : ListStep) where
      pub refusal_more : (why : Refusal) → IsRefusal (sources_of carried one options) step s why → IsRefusal (sources_of carried two options) step s why
      refusal_more why (no_list is) = no_list is
      refusal_more why (no_job list leads is) = no_job list leads (job_refusal list why is)

      module _ (old new : D) (now : Db) where
        on_the_way : (e : Stop) → StopsOnTheWay disk (sources_of carried one options) step s old new e → StopsOnTheWay disk (sources_of carried two options) step s old new e
        on_the_way e (reading read) = reading read
        on_the_way e (writing list leads puts passes passed changes are goes) = writing list leads puts (passes_more list puts passes) passed changes are goes

        pub done_more : (made : Done) → IsStepDone disk (sources_of carried one options) step s old new now made → IsStepDone disk (sources_of carried two options) step s old new now made
        done_more made is = record { list = is.list; leads = is.leads; puts = is.puts; passes = passes_more is.list is.puts is.passes; ends = is.ends; changes = is.changes }

        pub ends_more : (r : Result Done Stop) → StepEnds disk (sources_of carried one options) step s old new now r → StepEnds disk (sources_of carried two options) step s old new now r
        ends_more (Ok made) is = done_more made is
        ends_more (Err (Refused why)) is = record { answer = refusal_more why is.answer; same = is.same; time = is.time }
        ends_more (Err Failed) is = on_the_way Failed is
        ends_more (Err Memory) is = on_the_way Memory is
        ends_more (Err (Damaged path)) is = is
        ends_more (Err FarFailed) is = is
        ends_more (Err (FarDamaged path)) is = is
