-- Writes that name staged files, and the writes that they mean.
use Rattle.std.proofs.Common.{◌≡◌, ℕ, Bool, true, false, ◌&&◌, IsTrue, List, [], ◌∷◌, length, map, Option, Some, None, All, Result, Ok, Err, refl, sym, ◌∙◌, ap, subst}
use Rattle.std.specs.Prelude.{nat_le, IfOk, ◌==◌}
use Rattle.std.specs.List.{list_all}
use Rattle.std.specs.FinMap.{get}
use Rattle.std.specs.Str.{bytes_eq}
use Rattle.std.proofs.lemmas.List.Elements.{All-cons, All-head, All-nil, All-tail}
use Rattle.sha1.specs.Sha1.{sha1}
use Rattle.local_db.specs.cny-base.Reserved.{private_directory}
use Rattle.local_db.specs.cny-base.declared.node.Node.{Node}
use Rattle.local_db.specs.cny-base.declared.node.Node.TheVariants as node
use Rattle.local_db.specs.cny-base.declared.refusal.Refusal.{Refusal}
use Rattle.local_db.specs.cny-base.declared.refusal.Refusal.TheVariants.{MissingContent}
use Rattle.local_db.specs.cny-base.declared.stop.Stop.{Stop}
use Rattle.change_set.specs.declared.change.Carried.{Carried}
use Rattle.change_set.proofs.cny-base.ByteLists.{same_bytes}
use Rattle.change_set.proofs.cny-base.Below.{test_equal as same_size}
use Rattle.conflict_plan.specs.declared.planned.Planned.{Planned}
use Rattle.conflict_plan.specs.Plan as plan
use Rattle.content_store.specs.Contents.{Answers, ContentsModel}
use Rattle.local_db.specs.cny-stream.declared.record.FileRec.{FileRec}
use Rattle.local_db.specs.journal-log.declared.put.Put.{Put}
use Rattle.local_db.specs.journal-log.declared.put.Want.{Want}
use Rattle.local_db.specs.journal-log.declared.put.Want.TheVariants as want
use Rattle.local_db.specs.journal-log.Own.{staged_file}
use Rattle.local_db.specs.journal-log.Targets.{node_of}
use Rattle.local_db.specs.tree-disk.Disk.{DiskModel}
use Rattle.local_db.specs.tree-disk.Rows.{bytes_of}
use Rattle.local_db.specs.tree-disk.Tree.{Name, Tree, is_byte, is_node, may_stand, WellFormed}
use Rattle.local_db.proofs.cny-base.Bools.{both}
use Rattle.local_db.specs.tree-journal.Staging.{has_content, is_content, resolve, resolved, AllStaged}
use Rattle.tree_scan.specs.Marks.{fingerprint}
use Rattle.tree_scan.specs.declared.mark.Mark.{Mark}
use Rattle.tree_scan.specs.declared.mark.Mark.TheVariants as mark
use Rattle.tree_scan.proofs.tree-disk.Nodes.{left_true}
use Rattle.tree_scan.proofs.tree-disk.Laws.{second}
use Rattle.job_targets.specs.declared.targets.Targets.{Targets}
use Rattle.job_targets.specs.Carrying.{AreStagedPuts, AreStagedTargets, AreWholePuts, FitWants, HasWant, HaveWants, IsCarriedFile, IsElsewhereFile, IsWantOf, IsWholeFile, IsWholePut, whole_of, whole_targets}
use Rattle.job_targets.specs.Contents.{carried_bytes, FindsBehind, of_size}
use Rattle.job_targets.specs.Gathering.{Gathers}
use Rattle.job_targets.specs.Old.{HasMark, is_staged}
use Rattle.conflict_plan.specs.Orphans.{IsSeenPlan}
use Rattle.job_targets.specs.Outcome.{AreChanges, AreGiven, AreHeld, AreOver, AreTargets, FitPlan, IsUnfound, IsUnfoundElsewhere}
use Rattle.job_targets.specs.Targets.{HasPut, HavePuts, IsChange, IsPutOf}
use Rattle.job_targets.specs.Wanted.{mark_of_want}
use Rattle.job_targets.proofs.GatherLaws.{gathers_answer, gathers_stop}
use Rattle.job_targets.proofs.Fitting.{over_one}
use Rattle.job_targets.proofs.Listed.{changing_puts, given_puts, marked_puts, target_by}

-- ---- wants whose bytes are given

pub mark_given : (w : Want) → is_staged w ≡ false → mark_of_want w ≡ fingerprint (node_of w)
mark_given want.Nothing is = refl
mark_given (want.Dir mode) is = refl
mark_given (want.File mode bytes) is = refl
mark_given (want.Link target) is = refl
mark_given (want.Staged mode number size name) is = absurd (cc is)

pub want_given : (Gives : Want → Type 0) (m : Mark) (w : Want) → (is_staged w ≡ false → Gives w) → HasMark m w → IsWantOf Gives m w
want_given Gives m w others has = record { gives = others has.given; marked = mark_given w has.given ∙ has.marked }

pub itself : (base : Name) (tree : Tree) (w : Want) → is_staged w ≡ false → resolved base tree w ≡ w
itself base tree want.Nothing is = refl
itself base tree (want.Dir mode) is = refl
itself base tree (want.File mode bytes) is = refl
itself base tree (want.Link target) is = refl
itself base tree (want.Staged mode number size name) is = absurd (cc is)

-- ---- files

pub carried_whole : (carried : List Carried) (answers : Answers) (tree : Tree) (x : Planned) (mode size : ℕ) (name : List ℕ) (w : Want) → IsCarriedFile carried tree mode size name w → IsWholeFile carried answers tree x mode size name w
carried_whole carried answers tree x mode size name w is = record {
  file = record { bytes = is.bytes; found = subst (λ (o : Option (List ℕ)). FindsBehind o answers tree x size name (Some is.bytes)) (sym is.found) refl; is = is.is };
  stands = is.stands;
}

pub elsewhere_whole : (carried : List Carried) (answers : Answers) (tree : Tree) (x : Planned) (mode size : ℕ) (name : List ℕ) (w : Want) → of_size size (carried_bytes carried name) ≡ None → IsElsewhereFile answers tree x mode size name w → IsWholeFile carried answers tree x mode size name w
elsewhere_whole carried answers tree x mode size name w none is = subst (IsWholeFile carried answers tree x mode size name) (sym is.is) (record {
  file = record { bytes = is.bytes; found = subst (λ (o : Option (List ℕ)). FindsBehind o answers tree x size name (Some is.bytes)) (sym none) is.found; is = refl };
  stands = refl;
})

pub unfound_whole : (carried : List Carried) (answers : Answers) (tree : Tree) (x : Planned) (size : ℕ) (name : List ℕ) (why : Refusal) → of_size size (carried_bytes carried name) ≡ None → IsUnfoundElsewhere answers tree x size name why → IsUnfound carried answers tree x size name why
unfound_whole carried answers tree x size name (MissingContent missing) none is = (is.0, subst (λ (o : Option (List ℕ)). FindsBehind o answers tree x size name None) (sym none) is.1)
unfound_whole carried answers tree x size name _ none is = absurd is

-- ---- writes

pub whole_by : (carried : List Carried) (answers more : Answers) (tree : Tree) (x : Planned) (p : Put)
    → ((n : List ℕ) (f : Option (List ℕ)) → answers n f → more n f) → IsWholePut carried answers tree x p → IsWholePut carried more tree x p
whole_by carried answers more tree x p widen is =
    record { path = is.path; target = record { target = target_by carried answers more tree x x.want (resolved private_directory tree p.want) widen is.target.target; stands = is.target.stands } }

pub staged_puts : (carried : List Carried) (answers : Answers) (tree : Tree) (xs : List Planned) (ps : List Put) → AreWholePuts carried answers tree xs ps → AreStagedPuts carried answers tree xs ps
staged_puts carried answers tree [] [] are = record { found = tt; stand = All-nil _ }
staged_puts carried answers tree (x ∷ xs) (p ∷ ps) are =
    let rest = staged_puts carried answers tree xs ps are.1 in
    record {
      found = (record { path = are.0.path; target = are.0.target.target }, rest.found);
      stand = All-cons (λ (q : Put). IsTrue (has_content private_directory tree q.want)) p ps are.0.target.stands rest.stand;
    }
staged_puts carried answers tree [] (p ∷ ps) are = absurd are
staged_puts carried answers tree (x ∷ xs) [] are = absurd are

-- ---- what is meant

pub resolved_given : (base : Name) (tree : Tree) (w : Want) → is_staged (resolved base tree w) ≡ false
resolved_given base tree want.Nothing = refl
resolved_given base tree (want.Dir mode) = refl
resolved_given base tree (want.File mode bytes) = refl
resolved_given base tree (want.Link target) = refl
resolved_given base tree (want.Staged mode number size name) = refl

content_marked : (o : Option Node) (mode size : ℕ) (name : List ℕ) → is_content o size name ≡ true → mark.File mode (length (bytes_of o)) (sha1 (bytes_of o)) ≡ mark.File mode size name
content_marked None mode size name is = absurd (cc is)
content_marked (Some (node.Dir m)) mode size name is = absurd (cc is)
content_marked (Some (node.Link target)) mode size name is = absurd (cc is)
content_marked (Some (node.File m bytes)) mode size name is =
    let long : length bytes ≡ size = same_size (length bytes) size (left_true (length bytes == size) (bytes_eq (sha1 bytes) name) is) in
    let named : sha1 bytes ≡ name = same_bytes (sha1 bytes) name (second (length bytes == size) (bytes_eq (sha1 bytes) name) is) in
    cc (long, named)

pub marked_whole : (base : Name) (tree : Tree) (w : Want) → IsTrue (has_content base tree w) → fingerprint (node_of (resolved base tree w)) ≡ mark_of_want w
marked_whole base tree want.Nothing stands = refl
marked_whole base tree (want.Dir mode) stands = refl
marked_whole base tree (want.File mode bytes) stands = refl
marked_whole base tree (want.Link target) stands = refl
marked_whole base tree (want.Staged mode number size name) stands = content_marked (get tree (staged_file base number)) mode size name stands

module _ (Gives : Want → Type 0) (tree : Tree) where
  pub whole_have : (xs : List Planned) (ps : List Put) → HaveWants Gives xs ps → AllStaged private_directory tree ps → HavePuts xs (whole_of tree ps)
  whole_have [] [] have stand = tt
  whole_have (x ∷ xs) (p ∷ ps) have stand =
      let here : IsTrue (has_content private_directory tree p.want) = All-head (λ (q : Put). IsTrue (has_content private_directory tree q.want)) p ps stand in
      let first : HasPut x (resolve private_directory tree p) = record {
        path = have.0.path;
        marked = record { given = resolved_given private_directory tree p.want; marked = marked_whole private_directory tree p.want here ∙ have.0.is.marked };
      } in
      (first, whole_have xs ps have.1 (All-tail (λ (q : Put). IsTrue (has_content private_directory tree q.want)) p ps stand))
  whole_have [] (p ∷ ps) have stand = absurd have
  whole_have (x ∷ xs) [] have stand = absurd have

  -- targets with staged files fit the plan as those that they mean
  pub fit_whole : (planned : List Planned) (t : Targets) → FitWants Gives planned t → AllStaged private_directory tree t.puts → FitPlan planned (whole_targets tree t)
  fit_whole planned t fits stand = record { puts = whole_have planned t.puts fits.puts stand; entries = fits.entries; small = fits.small; agree = fits.agree }

-- ---- contents in memory

abbrev Given : Want → Type 0
Given w = is_staged w ≡ false

pub given_have : (xs : List Planned) (ps : List Put) → HaveWants Given xs ps → HavePuts xs ps
given_have [] [] have = tt
given_have (x ∷ xs) (p ∷ ps) have =
    (record { path = have.0.path; marked = record { given = have.0.is.gives; marked = sym (mark_given p.want have.0.is.gives) ∙ have.0.is.marked } }, given_have xs ps have.1)
given_have [] (p ∷ ps) have = absurd have
given_have (x ∷ xs) [] have = absurd have

whole_given : (tree : Tree) (xs : List Planned) (ps : List Put) → HaveWants Given xs ps → whole_of tree ps ≡ ps
whole_given tree [] [] have = refl
whole_given tree (x ∷ xs) (p ∷ ps) have =
    let here : resolve private_directory tree p ≡ p = ap (λ (w : Want). record { path = p.path; want = w }) (itself private_directory tree p.want have.0.is.gives) in
    ap (λ (q : Put). q ∷ whole_of tree ps) here ∙ ap (λ (l : List Put). p ∷ l) (whole_given tree xs ps have.1)
whole_given tree [] (p ∷ ps) have = absurd have
whole_given tree (x ∷ xs) [] have = absurd have

pub given_fits : (planned : List Planned) (r : Result Targets Stop) → IfOk r (FitWants Given planned) → IfOk r (FitPlan planned)
given_fits planned (Ok t) fits = record { puts = given_have planned t.puts fits.puts; entries = fits.entries; small = fits.small; agree = fits.agree }
given_fits planned (Err stop) fits = tt

as_targets : (carried : List Carried) (answers : Answers) (planned : List Planned) (tree : Tree) (t : Targets) → FitWants Given planned t → AreStagedTargets carried answers planned tree t → AreTargets carried answers planned tree t
as_targets carried answers planned tree t fits are =
    subst (λ (ps : List Put). AreTargets carried answers planned tree (record { puts = ps; entries = t.entries })) (whole_given tree planned t.puts fits.puts) are.targets

module _ {D C : Type 0} {disk : DiskModel D} {contents : ContentsModel C} (carried : List Carried) (answers : Answers) (planned : List Planned) where
  pub given_gathers : {old new : D} {far far' : C} {V : Tree → Refusal → Type 0} (r : Result Targets Stop)
      → Gathers disk contents (λ tree. AreStagedTargets carried answers planned tree) V old new far far' r → IfOk r (FitWants Given planned)
      → Gathers disk contents (AreTargets carried answers planned) V old new far far' r
  given_gathers {old = old} (Ok t) run fits = gathers_answer run (λ tells are. as_targets carried answers planned (disk.reads old) t fits are)
  given_gathers (Err stop) run fits = gathers_stop run refl (λ tells why h. h)

-- ---- what the staged targets mean, where the disk tells its tree

content_held : (mode : ℕ) (o : Option Node) → IsTrue (may_stand o) → IsTrue (may_stand (Some (node.File mode []))) → IsTrue (may_stand (Some (node.File mode (bytes_of o))))
unfolding is_node
content_held mode None o_held held = held
content_held mode (Some (node.Dir m)) o_held held = held
content_held mode (Some (node.Link target)) o_held held = held
content_held mode (Some (node.File m bytes)) o_held held =
    both (nat_le mode 4095) (list_all is_byte bytes) (left_true (nat_le mode 4095) (list_all is_byte []) held) (second (nat_le m 4095) (list_all is_byte bytes) o_held)

held_one : (x : Tree) → WellFormed x → (w : Want) → IsTrue (may_stand (node_of w)) → IsTrue (may_stand (node_of (resolved private_directory x w)))
held_one x formed want.Nothing held = held
held_one x formed (want.Dir mode) held = held
held_one x formed (want.File mode bytes) held = held
held_one x formed (want.Link target) held = held
held_one x formed (want.Staged mode number size name) held = content_held mode (get x (staged_file private_directory number)) (formed.nodes (staged_file private_directory number)) held

pub held_whole : (x : Tree) → WellFormed x → (puts : List Put) → AreHeld puts → AreHeld (whole_of x puts)
held_whole x formed [] held = All-nil _
held_whole x formed (p ∷ puts) held =
    All-cons (λ (q : Put). IsTrue (may_stand (node_of q.want))) (resolve private_directory x p) (whole_of x puts)
    (held_one x formed p.want (All-head (λ (q : Put). IsTrue (may_stand (node_of q.want))) p puts held))
    (held_whole x formed puts (All-tail (λ (q : Put). IsTrue (may_stand (node_of q.want))) p puts held))

module _ {D C : Type 0} {disk : DiskModel D} {contents : ContentsModel C} (Gives : Want → Type 0) (listed : Tree → List Carried) (answers : Answers) (planned : List Planned) where
  pub fits_whole : {old new : D} {far far' : C} {V : Tree → Refusal → Type 0} (r : Result Targets Stop) → Gathers disk contents (λ tree. AreStagedTargets (listed tree) answers planned tree) V old new far far' r → IfOk r (FitWants Gives planned) → IsTrue disk.tells
      → IfOk r (λ (t : Targets). FitPlan planned (whole_targets (disk.reads old) t))
  fits_whole {old = old} (Ok t) run fits tells = let are = run.ends tells in fit_whole Gives (disk.reads old) planned t fits are.stand
  fits_whole (Err stop) run fits tells = tt

  pub over_whole : {old new : D} {far far' : C} {V : Tree → Refusal → Type 0} (r : Result Targets Stop) → Gathers disk contents (λ tree. AreStagedTargets (listed tree) answers planned tree) V old new far far' r → IfOk r (FitWants Gives planned) → IsTrue disk.tells
      → IfOk r (λ (t : Targets). AreOver (disk.reads old) (whole_targets (disk.reads old) t))
  over_whole {old = old} (Ok t) run fits tells =
      let are = run.ends tells in
      over_one (listed (disk.reads old)) answers planned (disk.reads old) (whole_targets (disk.reads old) t) are.targets (fit_whole Gives (disk.reads old) planned t fits are.stand)
  over_whole (Err stop) run fits tells = tt

  pub changes_whole : {old new : D} {far far' : C} {V : Tree → Refusal → Type 0} (r : Result Targets Stop) → Gathers disk contents (λ tree. AreStagedTargets (listed tree) answers planned tree) V old new far far' r → IfOk r (FitWants Gives planned) → IsTrue disk.tells
      → All (IsSeenPlan (disk.reads old)) planned → All IsChange planned → IfOk r (λ (t : Targets). AreChanges (disk.reads old) (whole_of (disk.reads old) t.puts))
  changes_whole {old = old} (Ok t) run fits tells seen change =
      let are = run.ends tells in
      changing_puts (disk.reads old) planned (whole_of (disk.reads old) t.puts) seen change (whole_have Gives (disk.reads old) planned t.puts fits.puts are.stand)
  changes_whole (Err stop) run fits tells seen change = tt

  pub given_whole : {old new : D} {far far' : C} {V : Tree → Refusal → Type 0} (r : Result Targets Stop) → Gathers disk contents (λ tree. AreStagedTargets (listed tree) answers planned tree) V old new far far' r → IfOk r (FitWants Gives planned) → IsTrue disk.tells
      → WellFormed (disk.reads old) → IfOk r (λ (t : Targets). AreHeld t.puts) → IfOk r (λ (t : Targets). AreGiven (whole_of (disk.reads old) t.puts))
  given_whole {old = old} (Ok t) run fits tells formed held =
      let are = run.ends tells in
      let have = whole_have Gives (disk.reads old) planned t.puts fits.puts are.stand in
      let puts = whole_of (disk.reads old) t.puts in
      record { given = given_puts planned puts have; held = held_whole (disk.reads old) formed t.puts held; marks = marked_puts planned puts t.entries have fits.entries }
  given_whole (Err stop) run fits tells formed held = tt
