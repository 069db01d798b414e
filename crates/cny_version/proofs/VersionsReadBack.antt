-- The text of a version is read as that version.
use Rattle.std.proofs.Common.{◌≡◌, ℕ, ◌≤◌, Bool, true, cond, ◌&&◌, List, [], ◌∷◌, ◌++◌, length, Option, Some, None, refl, sym, ap, ◌∙◌, subst, arith, append_assoc, length-append}
use Rattle.std.proofs.lemmas.List.{append-nil}
use Rattle.std.specs.List.{list_all}
use Rattle.std.specs.Option.{option_and_then}
use Rattle.std.proofs.lemmas.Bool.{and_from, le-leb}
use Rattle.std.proofs.lemmas.List.Folds.{list_all-append}
use Rattle.cny_version.specs.declared.revision.Revision.{Revision}
use Rattle.cny_version.specs.Label.{LabelParts, label_text, is_label}
use Rattle.cny_version.specs.Revision.{revision_text}
use Rattle.cny_version.specs.Version.{Part, BranchParts, VersionParts, WholeBranch, WholeVersion, branch_text_by, version_text_by, branch_text, version_text, last_label, depth, IsBranch, IsVersion}
use Rattle.cny_version.specs.Filled.{no_label, filled_branch, filled_by}
use Rattle.cny_version.specs.Made.{shadowed, branched}
use Rattle.cny_version.specs.Reading.{pieces, label_found, revision_found, short_branch, short_version, step_to, step_found, version_on, branch_at, version_in, version_found}
use Rattle.cny_version.proofs.TextPieces.{is_free, pieces_at}
use Rattle.cny_version.proofs.RevisionTexts.{revision_no_slash, revision_back}
use Rattle.cny_version.proofs.LongerBranches.{text_shadowed, text_branched, filled_shadowed, filled_branched, was_shadowed, was_branched}
use Rattle.cny_version.proofs.VersionTexts.{slashed, slashed_append, pieces_slashed, start, start_text}

-- the text of each label that fills up to one by the rules is read as that one, and has no slash
pub record ReadsBack {L : Type 0} (fill : LabelParts → L → LabelParts) (text : L → List ℕ) (whole : Bool) : Type 0 where
  pub back : (previous : LabelParts) (a : L) → is_label (fill previous a) ≡ true → label_found whole previous (text a) ≡ Some (fill previous a)
  pub no_slash : (previous : LabelParts) (a : L) → is_label (fill previous a) ≡ true → is_free 47 (text a) ≡ true

-- ---- a branch as its first label and the steps from there

-- A step to a label: onto a shadow, or from a revision of the branch.
record Step (L : Type 0) : Type 0 where
  at : Option Revision
  label : L

step_of : {L : Type 0} → BranchParts L → Option Revision → L → BranchParts L
step_of b None label = shadowed b label
step_of b (Some r) label = branched b r label

walk : {L : Type 0} → BranchParts L → List (Step L) → BranchParts L
walk b [] = b
walk b (s ∷ steps) = walk (step_of b s.at s.label) steps

shadow_steps : {L : Type 0} → List L → List (Step L)
shadow_steps [] = []
shadow_steps (label ∷ labels) = record { at = None; label = label } ∷ shadow_steps labels

-- the steps from a revision through further parts to the last labels
steps_from : {L : Type 0} → Revision → List (Part L) → L → List L → List (Step L)
steps_from r [] first shadows = record { at = Some r; label = first } ∷ shadow_steps shadows
steps_from r (p ∷ parts) first shadows = record { at = Some r; label = p.first } ∷ (shadow_steps p.shadows ++ steps_from p.revision parts first shadows)

steps_of : {L : Type 0} → List (Part L) → L → List L → List (Step L)
steps_of [] first shadows = shadow_steps shadows
steps_of (p ∷ parts) first shadows = shadow_steps p.shadows ++ steps_from p.revision parts first shadows

origin : {L : Type 0} → List (Part L) → L → L
origin [] first = first
origin (p ∷ parts) first = p.first

branch_of : {L : Type 0} → List (Part L) → L → List L → BranchParts L
branch_of before first shadows = record { before = before; first = first; shadows = shadows }

walk_shadows : {L : Type 0} (before : List (Part L)) (first : L) (done shadows : List L) (steps : List (Step L))
    → walk (branch_of before first done) (shadow_steps shadows ++ steps) ≡ walk (branch_of before first (done ++ shadows)) steps
unfolding walk step_of shadow_steps branch_of
walk_shadows before first done [] steps = ap (λ l. walk (branch_of before first l) steps) (sym (append-nil done))
walk_shadows before first done (label ∷ shadows) steps =
    walk_shadows before first (done ++ label ∷ []) shadows steps
    ∙ ap (λ l. walk (branch_of before first l) steps) (append_assoc done (label ∷ []) shadows)

walk_from : {L : Type 0} (done : List (Part L)) (own : L) (shadows : List L) (r : Revision) (parts : List (Part L)) (first : L) (last : List L)
    → walk (branch_of done own shadows) (steps_from r parts first last)
    ≡ branch_of (done ++ record { first = own; shadows = shadows; revision = r } ∷ parts) first last
unfolding walk step_of steps_from branch_of
walk_from done own shadows r [] first last =
    ap (λ l. walk (branch_of (done ++ record { first = own; shadows = shadows; revision = r } ∷ []) first []) l) (sym (append-nil (shadow_steps last)))
    ∙ walk_shadows (done ++ record { first = own; shadows = shadows; revision = r } ∷ []) first [] last []
walk_from done own shadows r (p ∷ parts) first last =
    walk_shadows (done ++ record { first = own; shadows = shadows; revision = r } ∷ []) p.first [] p.shadows (steps_from p.revision parts first last)
    ∙ walk_from (done ++ record { first = own; shadows = shadows; revision = r } ∷ []) p.first p.shadows p.revision parts first last
    ∙ ap (λ l. branch_of l first last) (append_assoc done (record { first = own; shadows = shadows; revision = r } ∷ []) (p ∷ parts))

walk_all : {L : Type 0} (before : List (Part L)) (first : L) (shadows : List L)
    → walk (start (origin before first)) (steps_of before first shadows) ≡ branch_of before first shadows
unfolding walk steps_of origin branch_of start
walk_all [] first shadows = ap (λ l. walk (branch_of [] first []) l) (sym (append-nil (shadow_steps shadows))) ∙ walk_shadows [] first [] shadows []
walk_all (p ∷ parts) first shadows =
    walk_shadows [] p.first [] p.shadows (steps_from p.revision parts first shadows)
    ∙ walk_from [] p.first p.shadows p.revision parts first shadows

-- ---- the pieces of the steps' texts

between : Option Revision → List ℕ
between None = []
between (Some r) = revision_text r

step_pieces : {L : Type 0} → (L → List ℕ) → List (Step L) → List (List ℕ)
step_pieces text [] = []
step_pieces text (s ∷ steps) = between s.at ∷ text s.label ∷ step_pieces text steps

text_step : {L : Type 0} (text : L → List ℕ) (b : BranchParts L) (at : Option Revision) (label : L)
    → branch_text_by text (step_of b at label) ≡ branch_text_by text b ++ ((47 ∷ between at) ++ (47 ∷ text label))
unfolding step_of between
text_step text b None label = text_shadowed text b label
text_step text b (Some r) label = text_branched text b r label

text_walk : {L : Type 0} (text : L → List ℕ) (b : BranchParts L) (steps : List (Step L))
    → branch_text_by text (walk b steps) ≡ branch_text_by text b ++ slashed (step_pieces text steps)
unfolding walk step_pieces slashed
text_walk text b [] = sym (append-nil (branch_text_by text b))
text_walk text b (s ∷ steps) =
    let own : List ℕ = 47 ∷ between s.at in
    let label : List ℕ = 47 ∷ text s.label in
    text_walk text (step_of b s.at s.label) steps
    ∙ ap (λ l. l ++ slashed (step_pieces text steps)) (text_step text b s.at s.label)
    ∙ append_assoc (branch_text_by text b) (own ++ label) (slashed (step_pieces text steps))
    ∙ ap (λ l. branch_text_by text b ++ l) (append_assoc own label (slashed (step_pieces text steps)))

-- ---- the same steps with their labels filled up

filled_walk : {L : Type 0} → (LabelParts → L → LabelParts) → WholeBranch → List (Step L) → WholeBranch
filled_walk fill b [] = b
filled_walk fill b (s ∷ steps) = filled_walk fill (step_of b s.at (fill (last_label b) s.label)) steps

filled_step : {L : Type 0} (fill : LabelParts → L → LabelParts) (b : BranchParts L) (at : Option Revision) (label : L)
    → filled_branch fill (step_of b at label) ≡ step_of (filled_branch fill b) at (fill (last_label (filled_branch fill b)) label)
unfolding step_of
filled_step fill b None label = filled_shadowed fill b label
filled_step fill b (Some r) label = filled_branched fill b r label

walk_filled : {L : Type 0} (fill : LabelParts → L → LabelParts) (b : BranchParts L) (steps : List (Step L))
    → filled_branch fill (walk b steps) ≡ filled_walk fill (filled_branch fill b) steps
unfolding walk filled_walk
walk_filled fill b [] = refl
walk_filled fill b (s ∷ steps) =
    walk_filled fill (step_of b s.at s.label) steps ∙ ap (λ f. filled_walk fill f steps) (filled_step fill b s.at s.label)

-- ---- what is by the rules at the end was so before

record WasStep (b : WholeBranch) (at : Option Revision) (label : LabelParts) : Type 0 where
  branch : IsBranch b
  last : is_label label ≡ true

was_step : (b : WholeBranch) (at : Option Revision) (label : LabelParts) → IsBranch (step_of b at label) → WasStep b at label
unfolding step_of
was_step b None label is = let was = was_shadowed b label is in record { branch = was.0; last = was.1 }
was_step b (Some r) label is = let was = was_branched b r label is in record { branch = was.branch; last = was.last }

was_walk : {L : Type 0} (fill : LabelParts → L → LabelParts) (b : WholeBranch) (steps : List (Step L)) → IsBranch (filled_walk fill b steps) → IsBranch b
unfolding filled_walk
was_walk fill b [] is = is
was_walk fill b (s ∷ steps) is =
    let label : LabelParts = fill (last_label b) s.label in
    (was_step b s.at label (was_walk fill (step_of b s.at label) steps is)).branch

longer_step : (b : WholeBranch) (at : Option Revision) (label : LabelParts) → length (branch_text b) ≤ length (branch_text (step_of b at label))
longer_step b at label =
    let e : length (branch_text (step_of b at label)) ≡ length (branch_text b ++ ((47 ∷ between at) ++ (47 ∷ label_text label))) = ap length (text_step label_text b at label) in
    omega (arith, e, length-append (branch_text b) ((47 ∷ between at) ++ (47 ∷ label_text label)))

longer_walk : {L : Type 0} (fill : LabelParts → L → LabelParts) (b : WholeBranch) (steps : List (Step L)) → length (branch_text b) ≤ length (branch_text (filled_walk fill b steps))
unfolding filled_walk
longer_walk fill b [] = omega arith
longer_walk fill b (s ∷ steps) =
    let label : LabelParts = fill (last_label b) s.label in
    omega (arith, longer_step b s.at label, longer_walk fill (step_of b s.at label) steps)

-- ---- each step is found

pub short_branch_is : (b : WholeBranch) → length (branch_text b) ≤ 512 → short_branch b ≡ Some b
short_branch_is b short = ap (λ t. cond t (Some b) None) (le-leb (length (branch_text b)) 512 short)

short_version_is : (v : WholeVersion) → length (version_text v) ≤ 512 → short_version v ≡ Some v
short_version_is v short = ap (λ t. cond t (Some v) None) (le-leb (length (version_text v)) 512 short)

-- no text of a revision is empty
no_empty_revision : (depth : ℕ) (r : Revision) → revision_found depth [] ≡ Some r → ⊥
unfolding revision_found
no_empty_revision depth r found = cc found

step_to_revision : (b : WholeBranch) (r : Revision) (label : LabelParts) (text : List ℕ) → revision_found (depth b) text ≡ Some r → step_to b text label ≡ short_branch (branched b r label)
step_to_revision b r label [] found = absurd (no_empty_revision (depth b) r found)
step_to_revision b r label (x ∷ xs) found = ap (λ o. option_and_then (λ r. short_branch (branched b r label)) o) found

step_to_is : (b : WholeBranch) (at : Option Revision) (label : LabelParts) → IsBranch (step_of b at label) → length (branch_text (step_of b at label)) ≤ 512
    → step_to b (between at) label ≡ Some (step_of b at label)
unfolding step_of between
step_to_is b None label is short = short_branch_is (shadowed b label) short
step_to_is b (Some r) label is short =
    step_to_revision b r label (revision_text r) (revision_back (depth b) r (was_branched b r label is).fits)
    ∙ short_branch_is (branched b r label) short

found_step : {L : Type 0} (fill : LabelParts → L → LabelParts) (text : L → List ℕ) (whole : Bool) → ReadsBack fill text whole
    → (b : WholeBranch) (at : Option Revision) (a : L) → IsBranch (step_of b at (fill (last_label b) a)) → length (branch_text (step_of b at (fill (last_label b) a))) ≤ 512
    → step_found whole b (between at) (text a) ≡ Some (step_of b at (fill (last_label b) a))
unfolding step_found
found_step fill text whole reads b at a is short =
    let label : LabelParts = fill (last_label b) a in
    ap (λ o. option_and_then (λ label. step_to b (between at) label) o) (reads.back (last_label b) a (was_step b at label is).last)
    ∙ step_to_is b at label is short

with : WholeBranch → Revision → WholeVersion
with b r = record { branch = b; revision = r }

found_on : {L : Type 0} (fill : LabelParts → L → LabelParts) (text : L → List ℕ) (whole : Bool) → ReadsBack fill text whole
    → (b : WholeBranch) (steps : List (Step L)) (r : Revision) → IsVersion (with (filled_walk fill b steps) r)
    → version_on whole b (step_pieces text steps ++ revision_text r ∷ []) ≡ Some (with (filled_walk fill b steps) r)
unfolding filled_walk step_pieces with
found_on fill text whole reads b [] r is =
    ap (λ o. option_and_then (λ r. short_version (with b r)) o) (revision_back (depth b) r is.revision)
    ∙ short_version_is (with b r) is.short
found_on fill text whole reads b (s ∷ steps) r is =
    let c : WholeBranch = step_of b s.at (fill (last_label b) s.label) in
    let last : WholeBranch = filled_walk fill c steps in
    let short : length (branch_text c) ≤ 512 = omega (arith, longer_walk fill c steps, is.short, length-append (branch_text last) (47 ∷ revision_text r)) in
    ap (λ o. option_and_then (λ c. version_on whole c (step_pieces text steps ++ revision_text r ∷ [])) o)
    (found_step fill text whole reads b s.at s.label (was_walk fill c steps is.branch) short)
    ∙ found_on fill text whole reads c steps r is

-- ---- no piece has a slash

free_between : (b : WholeBranch) (at : Option Revision) (label : LabelParts) → IsBranch (step_of b at label) → is_free 47 (between at) ≡ true
unfolding step_of between
free_between b None label is = refl
free_between b (Some r) label is = revision_no_slash (depth b) r (was_branched b r label is).fits

pieces_free_of_slash : {L : Type 0} (fill : LabelParts → L → LabelParts) (text : L → List ℕ) (whole : Bool) → ReadsBack fill text whole
    → (b : WholeBranch) (steps : List (Step L)) → IsBranch (filled_walk fill b steps) → list_all (is_free 47) (step_pieces text steps) ≡ true
unfolding filled_walk step_pieces
pieces_free_of_slash fill text whole reads b [] is = refl
pieces_free_of_slash fill text whole reads b (s ∷ steps) is =
    let label : LabelParts = fill (last_label b) s.label in
    let here : IsBranch (step_of b s.at label) = was_walk fill (step_of b s.at label) steps is in
    and_from (is_free 47 (between s.at)) (is_free 47 (text s.label) && list_all (is_free 47) (step_pieces text steps))
    (free_between b s.at label here)
    (and_from (is_free 47 (text s.label)) (list_all (is_free 47) (step_pieces text steps))
    (reads.no_slash (last_label b) s.label (was_step b s.at label here).last)
    (pieces_free_of_slash fill text whole reads (step_of b s.at label) steps is))

-- ---- the whole text

found_at : {L : Type 0} (fill : LabelParts → L → LabelParts) (text : L → List ℕ) (whole : Bool) → ReadsBack fill text whole
    → (a : L) (steps : List (Step L)) (r : Revision) → IsVersion (with (filled_branch fill (walk (start a) steps)) r)
    → version_found whole (branch_text_by text (walk (start a) steps) ++ 47 ∷ revision_text r) ≡ Some (with (filled_branch fill (walk (start a) steps)) r)
unfolding version_found slashed start with
found_at fill text whole reads a steps r is =
    let ends : List (List ℕ) = step_pieces text steps ++ revision_text r ∷ [] in
    let same : filled_branch fill (walk (start a) steps) ≡ filled_walk fill (branch_at (fill no_label a)) steps = walk_filled fill (start a) steps in
    let own : IsVersion (with (filled_walk fill (branch_at (fill no_label a)) steps) r) = subst (λ f. IsVersion (with f r)) same is in
    let first : is_label (fill no_label a) ≡ true = (was_walk fill (branch_at (fill no_label a)) steps own.branch).1.0 in
    let tail : slashed (step_pieces text steps) ++ 47 ∷ revision_text r ≡ slashed ends =
    ap (λ l. slashed (step_pieces text steps) ++ 47 ∷ l) (sym (append-nil (revision_text r))) ∙ sym (slashed_append (step_pieces text steps) (revision_text r ∷ [])) in
    let text_is : branch_text_by text (walk (start a) steps) ++ 47 ∷ revision_text r ≡ 47 ∷ (text a ++ slashed ends) =
    ap (λ l. l ++ 47 ∷ revision_text r) (text_walk text (start a) steps)
    ∙ ap (λ l. (l ++ slashed (step_pieces text steps)) ++ 47 ∷ revision_text r) (start_text text a)
    ∙ append_assoc (47 ∷ text a) (slashed (step_pieces text steps)) (47 ∷ revision_text r)
    ∙ ap (λ l. (47 ∷ text a) ++ l) tail in
    let free : list_all (is_free 47) (text a ∷ ends) ≡ true =
    and_from (is_free 47 (text a)) (list_all (is_free 47) ends) (reads.no_slash no_label a first)
    (list_all-append (is_free 47) (step_pieces text steps) (revision_text r ∷ [])
    ∙ and_from (list_all (is_free 47) (step_pieces text steps)) (is_free 47 (revision_text r) && true)
    (pieces_free_of_slash fill text whole reads (branch_at (fill no_label a)) steps own.branch)
    (and_from (is_free 47 (revision_text r)) true (revision_no_slash (depth (filled_walk fill (branch_at (fill no_label a)) steps)) r own.revision) refl)) in
    let cut : pieces 47 (47 ∷ (text a ++ slashed ends)) ≡ [] ∷ text a ∷ ends =
    pieces_at 47 [] (text a ++ slashed ends) refl ∙ ap (λ l. [] ∷ l) (pieces_slashed (text a) ends free) in
    ap (λ l. version_in whole (pieces 47 l)) text_is
    ∙ ap (version_in whole) cut
    ∙ ap (λ o. option_and_then (λ label. version_on whole (branch_at label) ends) o) (reads.back no_label a first)
    ∙ found_on fill text whole reads (branch_at (fill no_label a)) steps r own
    ∙ ap (λ f. Some (with f r)) (sym same)

pub version_back : {L : Type 0} (fill : LabelParts → L → LabelParts) (text : L → List ℕ) (whole : Bool) → ReadsBack fill text whole
    → (v : VersionParts L) → IsVersion (filled_by fill v) → version_found whole (version_text_by text v) ≡ Some (filled_by fill v)
unfolding with branch_of
version_back fill text whole reads v is =
    let a = origin v.branch.before v.branch.first in
    let steps = steps_of v.branch.before v.branch.first v.branch.shadows in
    let same : walk (start a) steps ≡ v.branch = walk_all v.branch.before v.branch.first v.branch.shadows in
    let own : IsVersion (with (filled_branch fill (walk (start a) steps)) v.revision) = subst (λ b. IsVersion (with (filled_branch fill b) v.revision)) (sym same) is in
    ap (λ b. version_found whole (branch_text_by text b ++ 47 ∷ revision_text v.revision)) (sym same)
    ∙ found_at fill text whole reads a steps v.revision own
    ∙ ap (λ b. Some (with (filled_branch fill b) v.revision)) same
