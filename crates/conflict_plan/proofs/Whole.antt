-- The whole of planning, from what each part found.
use Rattle.std.proofs.Common.{◌≡◌, List, map, Some, None, Ok, Err, IsTrue, sym, ◌∙◌, ap, subst}
use Rattle.std.specs.List.{All}
use Rattle.std.specs.List.Sorted.{IsStrictlySortedBy}
use Rattle.std.specs.Ordering.{nat_cmp}
use Rattle.std.specs.Cmp.Lexicographic.{slice_cmp}
use Rattle.trove_stream.specs.cny-base.Path.{is_path}
use Rattle.trove_stream.specs.cny-base.declared.options.Options.{Options}
use Rattle.trove_stream.specs.cny-base.declared.refusal.Refusal.{Refusal}
use Rattle.trove_stream.specs.cny-base.declared.refusal.Refusal.TheVariants as refusal
use Rattle.trove_stream.specs.declared.parts.TroveParts.{TroveParts}
use Rattle.tree_scan.specs.tree-disk.Tree.{Name, Tree, WellFormed}
use Rattle.conflict_plan.specs.declared.drafting.Draft.{Draft}
use Rattle.conflict_plan.specs.declared.entries.Entry.{Entry}
use Rattle.conflict_plan.specs.declared.planned.Planned.{Planned}
use Rattle.conflict_plan.specs.declared.records.Side.TheVariants as side
use Rattle.conflict_plan.specs.Claims.{claims, owners_at}
use Rattle.conflict_plan.specs.Drafts.{drafts_of}
use Rattle.conflict_plan.specs.Entries.{entry_of}
use Rattle.conflict_plan.specs.Orphans.{least_orphan, IsSeenPlan}
use Rattle.conflict_plan.specs.Plan.{conflict_at, IsFirstRefusal, IsPlan}
use Rattle.conflict_plan.specs.Records.{noted_all}
use Rattle.conflict_plan.specs.Settled.{settled, IsSeen}
use Rattle.conflict_plan.proofs.Assembled.{AreEntries, AreFound, first_conflict, first_orphan, have_paths, is_plan, no_conflict}
use Rattle.conflict_plan.proofs.Building.{built, drafts_passed, drafts_plan, drafts_refusal, plan_of}
use Rattle.conflict_plan.proofs.Ending.{conflict_refuses}
use Rattle.conflict_plan.proofs.Entered.{At, found_at, rising_keys}
use Rattle.conflict_plan.proofs.Noting.{all_noted}
use Rattle.conflict_plan.proofs.Sighted.{drafts_seen, plan_seen}

-- the entries of a map are those of two lists
pub entries_are : (old fresh : List TroveParts) (es : List At) (made : List Entry) → IsStrictlySortedBy (slice_cmp nat_cmp) (map (λ (e : At). e.0) es) → made ≡ map entry_of es
    → All (λ (e : Entry). IsTrue (is_path e.path)) made → ((path : Name) → found_at es path ≡ noted_all side.Fresh (claims fresh path) (noted_all side.Old (claims old path) None)) → AreEntries old fresh es
entries_are old fresh es made ordered is paths found = record {
  rising = rising_keys es ordered;
  paths = have_paths es (subst (All (λ (e : Entry). IsTrue (is_path e.path))) is paths);
  found = λ path. found path ∙ all_noted (claims old path) (claims fresh path);
}

-- the same, without that the names are paths
pub found_are : (old fresh : List TroveParts) (es : List At) → IsStrictlySortedBy (slice_cmp nat_cmp) (map (λ (e : At). e.0) es)
    → ((path : Name) → found_at es path ≡ noted_all side.Fresh (claims fresh path) (noted_all side.Old (claims old path) None)) → AreFound old fresh es
found_are old fresh es ordered found = record {
  rising = rising_keys es ordered;
  found = λ path. found path ∙ all_noted (claims old path) (claims fresh path);
}

module _ {old fresh : List TroveParts} {es : List At} (options : Options) (tree : Tree) (made : List Entry) (entries : AreEntries old fresh es) (is_made : made ≡ map entry_of es) where
  of_entries : drafts_of options tree made ≡ drafts_of options tree (map entry_of es)
  of_entries = ap (drafts_of options tree) is_made

  -- where the table refuses
  pub ends_conflict : (why : Refusal) → ((q : Name) → owners_at fresh q ≡ None) → drafts_of options tree made ≡ Err why → IsFirstRefusal old fresh options tree why
  ends_conflict why free is =
      conflict_refuses old fresh options tree why (first_conflict options tree entries why free (drafts_refusal options tree es why (sym of_entries ∙ is)))

  pub all_drafts_seen : (drafts : List Draft) → drafts_of options tree made ≡ Ok drafts → All (IsSeen tree) drafts
  all_drafts_seen drafts is = drafts_seen options tree made drafts is

  calm : (drafts : List Draft) → drafts_of options tree made ≡ Ok drafts → (q : Name) → conflict_at old fresh options tree q ≡ None
  calm drafts is = no_conflict options tree entries (drafts_passed options tree es drafts (sym of_entries ∙ is))

  planned_is : (drafts : List Draft) (plan : List Planned) → drafts_of options tree made ≡ Ok drafts → plan ≡ settled tree drafts → plan ≡ plan_of options tree es
  planned_is drafts plan is settles = settles ∙ drafts_plan options tree es drafts (sym of_entries ∙ is)

  pub all_planned_seen : (drafts : List Draft) (plan : List Planned) → drafts_of options tree made ≡ Ok drafts → plan ≡ settled tree drafts → All (IsSeenPlan tree) plan
  all_planned_seen drafts plan is settles =
      subst (All (IsSeenPlan tree)) (sym (planned_is drafts plan is settles)) (plan_seen tree (plan_of options tree es) (built options tree es entries.rising entries.paths).seen)

  -- where nothing is refused
  pub ends_plan : (drafts : List Draft) (plan : List Planned) → WellFormed tree → ((q : Name) → owners_at fresh q ≡ None) → drafts_of options tree made ≡ Ok drafts → plan ≡ settled tree drafts
      → least_orphan plan tree plan ≡ None → IsPlan old fresh options tree plan
  ends_plan drafts plan well free is settles least =
      let same = planned_is drafts plan is settles in
      subst (IsPlan old fresh options tree) (sym same)
      (is_plan options tree entries well free (calm drafts is) (subst (λ p. least_orphan p tree p ≡ None) same least))

  -- where a parent is missing
  pub ends_orphan : (drafts : List Draft) (plan : List Planned) (path : Name) → WellFormed tree → ((q : Name) → owners_at fresh q ≡ None) → drafts_of options tree made ≡ Ok drafts → plan ≡ settled tree drafts
      → least_orphan plan tree plan ≡ Some path → IsFirstRefusal old fresh options tree (refusal.Parent path)
  ends_orphan drafts plan path well free is settles least =
      first_orphan options tree entries well path free (calm drafts is) (subst (λ p. least_orphan p tree p ≡ Some path) (planned_is drafts plan is settles) least)
