-- A job with a given list after it: the list is installed then, and where it was installed before, nothing changes.
use Rattle.std.proofs.Common.{◌≡◌, inl, inr, Bool, true, false, List, [], Option, Some, None, Ok, refl, sym, ap, ◌∙◌}
use Rattle.std.specs.FinMap.{get}
use Rattle.std.specs.Prelude.{is_some, ◌&&◌, ◌||◌, if◌then◌else◌, Contains}
use Rattle.std.specs.List.Sorted.{IsStrictlySortedBy}
use Rattle.std.specs.declared.cmp.Ordering.{Ordering}
use Rattle.cli_call.specs.cny-base.Path.{parent}
use Rattle.cli_call.specs.cny-base.Reserved.{is_pinned}
use Rattle.cli_call.specs.cny-base.declared.node.Node.{Node}
use Rattle.cli_call.specs.cny-base.declared.node.Node.TheVariants as node
use Rattle.cli_call.specs.cny-base.declared.options.Options.{Options}
use Rattle.cli_call.specs.cny-stream.declared.record.FileRec.{FileRec}
use Rattle.cli_call.specs.cny-stream.Record as recorded
use Rattle.cli_call.specs.tree-disk.Tree.{is_dir, Name, Tree, WellFormed}
use Rattle.cli_call.specs.tree-scan.declared.mark.Mark.{Mark}
use Rattle.cli_call.specs.tree-scan.Marks as marks
use Rattle.cli_call.specs.tree-scan.Marks.{fingerprint, fingerprint_at, fingerprint_of_record}
use Rattle.rollback_stack.proofs.tree-scan.MarkLaws.{same_mark_itself}
use Rattle.cli_call.specs.conflict-plan.declared.table.Outcome.{Outcome}
use Rattle.cli_call.specs.conflict-plan.declared.table.Outcome.TheVariants.{Stays}
use Rattle.cli_call.specs.conflict-plan.Claims.{record_at}
use Rattle.cli_call.specs.conflict-plan.Plan as planning
use Rattle.cli_call.specs.conflict-plan.Plan.{change_of, mark_after, refusal_of, IsOrphan, IsUnshared}
use Rattle.cli_call.specs.conflict-plan.Table.{changed_outcome, matches, outcome_by, path_outcome}
use Rattle.cli_call.specs.trove-stream.declared.parts.TroveParts.{TroveParts}
use Rattle.cli_call.specs.trove-stream.Installed.{IsRising}
use Rattle.dep_closure.specs.Closed.{IsClosed}
use Rattle.local_db.specs.SystemState.{IsSystemState}
use Rattle.local_db.proofs.cny-base.Lists.{nothing_in, place_in}
use Rattle.update_job.specs.declared.comparing.Change.{Change}
use Rattle.update_job.specs.Changes.{AreChanges, IsChange, IsFresh}
use Rattle.update_job.proofs.Mapped.{one_named}
use Rattle.cli_call.specs.system-core.Job.{Sources}
use Rattle.cli_call.specs.system-core.Lists.{to_list}
use Rattle.cny_report.specs.Troves.{nothing_changes}
use Rattle.cli_call.specs.Answer.{answer}
use Rattle.cli_call.specs.cny-laws.State.{after, Change as Step, Effect, RootState, State}
use Rattle.root_commands.specs.JobOutcome.{IsChangeBy, JobOutcome}

-- ---- the list that follows

pub list_after : (from : Sources) (list : List TroveParts) (s : State) (e : Effect) → JobOutcome from (to_list list) s.root (Ok e) → (after s e.change).root.installed ≡ list
list_after from list s e job = by job.change
  where
    by : IsChangeBy s.root job.list job.puts e.change → (after s e.change).root.installed ≡ list
    by (inl same) = ap (λ (c : Step). (after s c).root.installed) same.1 ∙ (let none = same.0 in sym none.same_list) ∙ job.leads
    by (inr done) = ap (λ (c : Step). (after s c).root.installed) done.1 ∙ job.leads

-- ---- a path that both lists record alike

one_of_three : (a b : Bool) → (a || (true || b)) ≡ true
one_of_three true b = refl
one_of_three false b = refl

alike : (r : Option FileRec) (was : Mark) (remains : Bool) (options : Options) → outcome_by r r was remains options ≡ Stays
alike None was remains options = refl
alike (Some rec) was remains options =
    let first = recorded.is_dir rec && marks.is_dir was in
    let rest = ((recorded.flags_of rec).initial && marks.is_file was) || matches was rec in
    let other = changed_outcome rec rec was options in
    ap (λ (b : Bool). if (first || (b || rest)) then Stays else other) (same_mark_itself (fingerprint_of_record rec))
    ∙ ap (λ (b : Bool). if b then Stays else other) (one_of_three first rest)

stays : (path : Name) (r : Option FileRec) (was : Mark) (remains : Bool) (options : Options) → path_outcome path r r was remains options ≡ Stays
stays path r was remains options = by (is_pinned path)
  where
    by : (b : Bool) → (if b then Stays else outcome_by r r was remains options) ≡ Stays
    by true = refl
    by false = alike r was remains options

-- ---- the tree

stands : (o : Option Node) → marks.is_nothing (fingerprint o) ≡ false → is_some o ≡ true
stands None is = absurd (cc is)
stands (Some n) is = refl

is_directory : (o : Option Node) → is_dir o ≡ true → marks.is_dir (fingerprint o) ≡ false → ⊥
is_directory None there lost = cc there
is_directory (Some (node.Dir mode)) there lost = cc lost
is_directory (Some (node.File mode bytes)) there lost = cc there
is_directory (Some (node.Link target)) there lost = cc there

no_orphan : (tree : Tree) → WellFormed tree → (path : Name) → IsOrphan (mark_after [] tree) path → ⊥
no_orphan tree formed path orphan = is_directory (get tree (parent path)) (formed.parents path (stands (get tree path) orphan.stands)) orphan.no_way

-- ---- the job

none_rise : {A : Type 0} (cmp : A → A → Ordering) → IsStrictlySortedBy cmp []
unfolding IsStrictlySortedBy
none_rise cmp = tt

module _ (list : List TroveParts) (rising : IsRising list) where
  same_trove : (t u : TroveParts) → Contains list t → Contains list u → t.id.name ≡ u.id.name → t ≡ u
  same_trove t u there here names =
      let one = place_in list t there in
      let two = place_in list u here in
      one_named list rising one.0 two.0 t u one.2 two.2 names

  never_fresh : (t : TroveParts) (c : Change) → Contains list t → IsFresh list t c → ⊥
  never_fresh t c among (inl none) = none.0 t among refl
  never_fresh t c among (inr again) = let other = again.0 in other.differs (same_trove other.was t other.there among other.same_name)

  never_changed : (c : Change) → IsChange list list c → ⊥
  never_changed c (inl lost) = let gone = lost.2 in gone.none lost.0 lost.1 refl
  never_changed c (inr fresh) = never_fresh fresh.0 c fresh.1 fresh.2

  no_changes : AreChanges list list []
  no_changes = record {
    rising = none_rise _;
    each = λ c among. absurd (nothing_in c among);
    all = λ c is. absurd (never_changed c is);
  }

no_plan : (list : List TroveParts) (options : Options) (tree : Tree) → IsUnshared list → WellFormed tree → planning.IsPlan list list options tree []
no_plan list options tree unshared formed = record {
  unshared = unshared;
  no_conflict = λ path. ap (λ (o : Outcome). refusal_of o path) (stays path (record_at list path) (fingerprint_at tree path) false options);
  planned = record {
    rising = none_rise _;
    targets = λ path remains is. sym (ap (λ (o : Outcome). change_of o path (fingerprint_at tree path) (record_at list path)) (stays path (record_at list path) (fingerprint_at tree path) remains options));
  };
  no_orphan = no_orphan tree formed;
}

-- a job with the list after it that is installed, if it is closed and no two of its troves share a path
pub same_list_stays : (from : Sources) (s : RootState) → IsSystemState s → IsClosed s.installed → IsUnshared s.installed → JobOutcome from (to_list s.installed) s (Ok (answer nothing_changes))
same_list_stays from s system closed unshared = let installed = system.list in record {
  list = s.installed;
  leads = refl;
  puts = [];
  passes = (
    record { puts = []; entries = [] },
    refl,
    record {
      closed = closed;
      planned = [];
      plan = no_plan s.installed from.options s.tree unshared system.tree;
      targets = record { puts = tt; small = refl; entries = refl; agree = λ a b one other names. absurd (nothing_in one.entry one.there) };
    },
  );
  changes = [];
  are = no_changes s.installed installed.rising;
  change = inl (record { no_target = refl; same_list = refl }, refl);
  out = refl;
}
