-- Version texts, and the versions that they write.
use Rattle.std.proofs.Common.{◌≡◌, ℕ, ◌≤◌, Bool, true, leb, List, [], ◌∷◌, ◌++◌, length, Some, refl, sym, ap, ◌∙◌, subst, append_assoc}
use Rattle.std.proofs.lemmas.List.{append-nil}
use Rattle.std.specs.List.{list_all, join_with_byte}
use Rattle.std.specs.Cmp.{first_so, second_so}
use Rattle.std.proofs.lemmas.Bool.{leb-true}
use Rattle.std.proofs.lemmas.List.Splits.{join_with_byte-slice_split}
use Rattle.cny_version.specs.declared.revision.Revision.{Revision}
use Rattle.cny_version.specs.Label.{LabelParts, is_label}
use Rattle.cny_version.specs.Revision.{revision_text}
use Rattle.cny_version.specs.Version.{BranchParts, VersionParts, WholeBranch, WholeVersion, branch_text_by, version_text_by, branch_text, version_text, last_label, depth, IsBranch, IsVersion}
use Rattle.cny_version.specs.Filled.{no_label, filled_branch, filled_by}
use Rattle.cny_version.specs.Made.{shadowed, branched}
use Rattle.cny_version.specs.Reading.{pieces, label_found, revision_found, short_branch, short_version, step_to, step_found, version_on, branch_at, version_in, version_found}
use Rattle.cny_version.proofs.TextPieces.{is_free, pieces_at, pieces_free}
use Rattle.cny_version.proofs.LabelTexts.{label_sound}
use Rattle.cny_version.proofs.RevisionTexts.{revision_sound}
use Rattle.cny_version.proofs.LongerBranches.{text_shadowed, text_branched, filled_shadowed, filled_branched, is_shadowed, is_branched}
use Rattle.cny_version.proofs.Options.{bind_some, test_some}

-- ---- pieces, each after a slash

unfoldable pub slashed : List (List ℕ) → List ℕ
slashed [] = []
slashed (p ∷ ps) = (47 ∷ p) ++ slashed ps

slashed_join : (p : List ℕ) (ps : List (List ℕ)) → slashed (p ∷ ps) ≡ 47 ∷ join_with_byte 47 (p ∷ ps)
unfolding slashed
slashed_join p [] = append-nil (47 ∷ p)
slashed_join p (q ∷ ps) = ap (λ l. (47 ∷ p) ++ l) (slashed_join q ps)

slashed_pieces : (text p : List ℕ) (ps : List (List ℕ)) → pieces 47 text ≡ p ∷ ps → slashed (p ∷ ps) ≡ 47 ∷ text
slashed_pieces text p ps are =
    slashed_join p ps ∙ ap (λ l. 47 ∷ join_with_byte 47 l) (sym are) ∙ ap (λ l. 47 ∷ l) (join_with_byte-slice_split 47 text)

pub slashed_append : (xs ys : List (List ℕ)) → slashed (xs ++ ys) ≡ slashed xs ++ slashed ys
unfolding slashed
slashed_append [] ys = refl
slashed_append (x ∷ xs) ys = ap (λ l. (47 ∷ x) ++ l) (slashed_append xs ys) ∙ sym (append_assoc (47 ∷ x) (slashed xs) (slashed ys))

pub pieces_slashed : (p : List ℕ) (ps : List (List ℕ)) → list_all (is_free 47) (p ∷ ps) ≡ true → pieces 47 (p ++ slashed ps) ≡ p ∷ ps
unfolding slashed
pieces_slashed p [] free = ap (pieces 47) (append-nil p) ∙ pieces_free 47 p (first_so (is_free 47 p) true free)
pieces_slashed p (q ∷ ps) free =
    pieces_at 47 p (q ++ slashed ps) (first_so (is_free 47 p) (list_all (is_free 47) (q ∷ ps)) free)
    ∙ ap (λ l. p ∷ l) (pieces_slashed q ps (second_so (is_free 47 p) (list_all (is_free 47) (q ∷ ps)) free))

-- ---- how labels are written and read: whole, or as what they don't share with the label before

-- each label that is found is one that fills up to it, and whose text is the piece
abbrev pub FindsWritten : {L : Type 0} → (LabelParts → L → LabelParts) → (L → List ℕ) → Bool → Type 0
FindsWritten {L} fill text whole = (previous : LabelParts) (piece : List ℕ) (label : LabelParts) → label_found whole previous piece ≡ Some label
    → (a : L) × (fill previous a ≡ label) × (text a ≡ piece)

-- ---- a step, by what is found

short_is : (b c : WholeBranch) → short_branch b ≡ Some c → b ≡ c
short_is b c found = let k = test_some (leb (length (branch_text b)) 512) (Some b) c found in cc (k.1)

record IsShadowStep (whole : Bool) (b : WholeBranch) (piece : List ℕ) (c : WholeBranch) : Type 0 where
  label : LabelParts
  found : label_found whole (last_label b) piece ≡ Some label
  same : shadowed b label ≡ c

shadow_step : (whole : Bool) (b : WholeBranch) (piece : List ℕ) (c : WholeBranch) → step_found whole b [] piece ≡ Some c → IsShadowStep whole b piece c
unfolding step_found
shadow_step whole b piece c found =
    let label = bind_some (λ label. step_to b [] label) (label_found whole (last_label b) piece) c found in
    record { label = label.0; found = label.1; same = short_is (shadowed b label.0) c label.2 }

record IsBranchStep (whole : Bool) (b : WholeBranch) (between piece : List ℕ) (c : WholeBranch) : Type 0 where
  label : LabelParts
  revision : Revision
  found : label_found whole (last_label b) piece ≡ Some label
  revision_is : revision_found (depth b) between ≡ Some revision
  same : branched b revision label ≡ c

branch_step : (whole : Bool) (b : WholeBranch) (x : ℕ) (xs piece : List ℕ) (c : WholeBranch) → step_found whole b (x ∷ xs) piece ≡ Some c → IsBranchStep whole b (x ∷ xs) piece c
unfolding step_found
branch_step whole b x xs piece c found =
    let label = bind_some (λ label. step_to b (x ∷ xs) label) (label_found whole (last_label b) piece) c found in
    let r = bind_some (λ r. short_branch (branched b r label.0)) (revision_found (depth b) (x ∷ xs)) c label.2 in
    record { label = label.0; revision = r.0; found = label.1; revision_is = r.1; same = short_is (branched b r.0 label.0) c r.2 }

-- ---- what is read is by the rules

step_is : (whole : Bool) (b : WholeBranch) (between piece : List ℕ) (c : WholeBranch) → IsBranch b → step_found whole b between piece ≡ Some c → IsBranch c
step_is whole b [] piece c is found =
    let s = shadow_step whole b piece c found in
    subst IsBranch s.same (is_shadowed b s.label is (label_sound whole (last_label b) piece s.label s.found).is)
step_is whole b (x ∷ xs) piece c is found =
    let s = branch_step whole b x xs piece c found in
    subst IsBranch s.same
    (is_branched b s.revision s.label is (revision_sound (depth b) (x ∷ xs) s.revision s.revision_is).is (label_sound whole (last_label b) piece s.label s.found).is)

record IsEnd (b : WholeBranch) (piece : List ℕ) (v : WholeVersion) : Type 0 where
  revision : Revision
  found : revision_found (depth b) piece ≡ Some revision
  short : length (version_text (record { branch = b; revision = revision })) ≤ 512
  same : record { branch = b; revision = revision } ≡ v

end_step : (whole : Bool) (b : WholeBranch) (piece : List ℕ) (v : WholeVersion) → version_on whole b (piece ∷ []) ≡ Some v → IsEnd b piece v
end_step whole b piece v found =
    let r = bind_some (λ r. short_version (with r)) (revision_found (depth b) piece) v found in
    let k = test_some (leb (length (version_text (with r.0))) 512) (Some (with r.0)) v r.2 in
    record { revision = r.0; found = r.1; short = leb-true (length (version_text (with r.0))) 512 k.0; same = cc (k.1) }
  where
    with : Revision → WholeVersion
    with r = record { branch = b; revision = r }

version_on_is : (whole : Bool) (b : WholeBranch) (ps : List (List ℕ)) (v : WholeVersion) → IsBranch b → version_on whole b ps ≡ Some v → IsVersion v
version_on_is whole b [] v is found = absurd (cc found)
version_on_is whole b (p ∷ []) v is found =
    let e = end_step whole b p v found in
    subst IsVersion e.same (record { branch = is; revision = (revision_sound (depth b) p e.revision e.found).is; short = e.short })
version_on_is whole b (p ∷ q ∷ ps) v is found =
    let c = bind_some (λ c. version_on whole c ps) (step_found whole b p q) v found in
    version_on_is whole c.0 ps v (step_is whole b p q c.0 is c.1) c.2

pub first_is : (label : LabelParts) → is_label label ≡ true → IsBranch (branch_at label)
first_is label is = (tt, (is, refl))

version_in_is : (whole : Bool) (ps : List (List ℕ)) (v : WholeVersion) → version_in whole ps ≡ Some v → IsVersion v
version_in_is whole [] v found = absurd (cc found)
version_in_is whole ((x ∷ xs) ∷ ps) v found = absurd (cc found)
version_in_is whole ([] ∷ []) v found = absurd (cc found)
version_in_is whole ([] ∷ p ∷ ps) v found =
    let label = bind_some (λ label. version_on whole (branch_at label) ps) (label_found whole no_label p) v found in
    version_on_is whole (branch_at label.0) ps v (first_is label.0 (label_sound whole no_label p label.0 label.1).is) label.2

pub version_is : (whole : Bool) (text : List ℕ) (v : WholeVersion) → version_found whole text ≡ Some v → IsVersion v
unfolding version_found
version_is whole text v found = version_in_is whole (pieces 47 text) v found

-- ---- what is read is the text

record WritesBranch {L : Type 0} (fill : LabelParts → L → LabelParts) (text : L → List ℕ) (b : WholeBranch) (written : List ℕ) : Type 0 where
  from : BranchParts L
  filled_is : filled_branch fill from ≡ b
  text_is : branch_text_by text from ≡ written

pub record WritesVersion {L : Type 0} (fill : LabelParts → L → LabelParts) (text : L → List ℕ) (v : WholeVersion) (written : List ℕ) : Type 0 where
  pub from : VersionParts L
  pub filled_is : filled_by fill from ≡ v
  pub text_is : version_text_by text from ≡ written

step_writes : {L : Type 0} (fill : LabelParts → L → LabelParts) (text : L → List ℕ) (whole : Bool) → FindsWritten fill text whole
    → (b : WholeBranch) (written between piece : List ℕ) (c : WholeBranch) → WritesBranch fill text b written → step_found whole b between piece ≡ Some c
    → WritesBranch fill text c (written ++ ((47 ∷ between) ++ (47 ∷ piece)))
step_writes fill text whole reads b written [] piece c w found =
    let s = shadow_step whole b piece c found in
    let a = reads (last_label b) piece s.label s.found in
    record {
      from = shadowed w.from a.0;
      filled_is = filled_shadowed fill w.from a.0 ∙ ap (λ f. shadowed f (fill (last_label f) a.0)) w.filled_is ∙ ap (shadowed b) a.1 ∙ s.same;
      text_is = text_shadowed text w.from a.0 ∙ ap (λ l. l ++ (47 ∷ 47 ∷ text a.0)) w.text_is ∙ ap (λ l. written ++ (47 ∷ 47 ∷ l)) a.2;
    }
step_writes fill text whole reads b written (x ∷ xs) piece c w found =
    let s = branch_step whole b x xs piece c found in
    let a = reads (last_label b) piece s.label s.found in
    let own : revision_text s.revision ≡ x ∷ xs = (revision_sound (depth b) (x ∷ xs) s.revision s.revision_is).text_is in
    record {
      from = branched w.from s.revision a.0;
      filled_is = filled_branched fill w.from s.revision a.0 ∙ ap (λ f. branched f s.revision (fill (last_label f) a.0)) w.filled_is ∙ ap (branched b s.revision) a.1 ∙ s.same;
      text_is = text_branched text w.from s.revision a.0
          ∙ ap (λ l. l ++ ((47 ∷ revision_text s.revision) ++ (47 ∷ text a.0))) w.text_is
          ∙ ap (λ l. written ++ ((47 ∷ l) ++ (47 ∷ text a.0))) own
          ∙ ap (λ l. written ++ ((47 ∷ x ∷ xs) ++ (47 ∷ l))) a.2;
    }

version_on_writes : {L : Type 0} (fill : LabelParts → L → LabelParts) (text : L → List ℕ) (whole : Bool) → FindsWritten fill text whole
    → (b : WholeBranch) (written : List ℕ) (ps : List (List ℕ)) (v : WholeVersion) → WritesBranch fill text b written → version_on whole b ps ≡ Some v
    → WritesVersion fill text v (written ++ slashed ps)
unfolding slashed
version_on_writes fill text whole reads b written [] v w found = absurd (cc found)
version_on_writes fill text whole reads b written (p ∷ []) v w found =
    let e = end_step whole b p v found in
    record {
      from = record { branch = w.from; revision = e.revision };
      filled_is = ap (λ f. with f e.revision) w.filled_is ∙ e.same;
      text_is = ap (λ l. l ++ 47 ∷ revision_text e.revision) w.text_is
          ∙ ap (λ l. written ++ 47 ∷ l) ((revision_sound (depth b) p e.revision e.found).text_is ∙ sym (append-nil p));
    }
  where
    with : WholeBranch → Revision → WholeVersion
    with f r = record { branch = f; revision = r }
version_on_writes fill text whole reads b written (p ∷ q ∷ ps) v w found =
    let c = bind_some (λ c. version_on whole c ps) (step_found whole b p q) v found in
    let more = version_on_writes fill text whole reads c.0 (written ++ ((47 ∷ p) ++ (47 ∷ q))) ps v (step_writes fill text whole reads b written p q c.0 w c.1) c.2 in
    record {
      from = more.from;
      filled_is = more.filled_is;
      text_is = more.text_is ∙ append_assoc written ((47 ∷ p) ++ (47 ∷ q)) (slashed ps) ∙ ap (λ l. written ++ l) (append_assoc (47 ∷ p) (47 ∷ q) (slashed ps));
    }

unfoldable pub start : {L : Type 0} → L → BranchParts L
start a = record { before = []; first = a; shadows = [] }

pub start_text : {L : Type 0} (text : L → List ℕ) (a : L) → branch_text_by text (start a) ≡ 47 ∷ text a
unfolding start
start_text text a = append-nil (47 ∷ text a)

version_in_writes : {L : Type 0} (fill : LabelParts → L → LabelParts) (text : L → List ℕ) (whole : Bool) → FindsWritten fill text whole
    → (written : List ℕ) (ps : List (List ℕ)) (v : WholeVersion) → pieces 47 written ≡ ps → version_in whole ps ≡ Some v → WritesVersion fill text v written
unfolding slashed start
version_in_writes fill text whole reads written [] v are found = absurd (cc found)
version_in_writes fill text whole reads written ((x ∷ xs) ∷ ps) v are found = absurd (cc found)
version_in_writes fill text whole reads written ([] ∷ []) v are found = absurd (cc found)
version_in_writes fill text whole reads written ([] ∷ p ∷ ps) v are found =
    let label = bind_some (λ label. version_on whole (branch_at label) ps) (label_found whole no_label p) v found in
    let a = reads no_label p label.0 label.1 in
    let w = version_on_writes fill text whole reads (branch_at label.0) (47 ∷ p) ps v
    (record { from = start a.0; filled_is = ap branch_at a.1; text_is = start_text text a.0 ∙ ap (λ l. 47 ∷ l) a.2 }) label.2 in
    let two : 47 ∷ ((47 ∷ p) ++ slashed ps) ≡ 47 ∷ written = slashed_pieces written [] (p ∷ ps) are in
    let one : (47 ∷ p) ++ slashed ps ≡ written = cc two in
    record { from = w.from; filled_is = w.filled_is; text_is = w.text_is ∙ one }

pub version_writes : {L : Type 0} (fill : LabelParts → L → LabelParts) (text : L → List ℕ) (whole : Bool) → FindsWritten fill text whole
    → (written : List ℕ) (v : WholeVersion) → version_found whole written ≡ Some v → WritesVersion fill text v written
unfolding version_found
version_writes fill text whole reads written v found = version_in_writes fill text whole reads written (pieces 47 written) v refl found
