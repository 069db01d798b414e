-- A branch that is kept with its depth and its text, and one label more.
use Rattle.std.proofs.Common.{◌≡◌, ℕ, ◌+◌, ◌-◌, ◌≤◌, suc, true, List, [], ◌∷◌, ◌++◌, length, Option, Some, None, Bor, refl, sym, ap, ◌∙◌, subst, arith, length-append}
use Rattle.std.specs.List.{slice_get}
use Rattle.std.specs.Option.{option_copied, unwrap_or}
use Rattle.cny_version.specs.declared.revision.Revision.{Revision}
use Rattle.cny_version.specs.Label.{LabelParts, label_text, is_label}
use Rattle.cny_version.specs.Revision.{revision_text, is_revision}
use Rattle.cny_version.specs.Version.{Part, WholeBranch, branch_text, last_of, depth}
use Rattle.cny_version.specs.Kept.{IsBranchWith}
use Rattle.cny_version.specs.Made.{shadowed, part_of, branched}
use Rattle.cny_version.specs.Reading.{branch_at}
use Rattle.cny_version.proofs.LabelTexts.{label_short}
use Rattle.cny_version.proofs.LongerBranches.{text_shadowed, text_branched, is_shadowed, is_branched, depth_shadowed, depth_branched}
use Rattle.cny_version.proofs.VersionTexts.{start, start_text, first_is}

pub kept_at : (label : LabelParts) (before : List (Part LabelParts)) (shadows : List LabelParts) (text : List ℕ) → is_label label ≡ true → before ≡ [] → shadows ≡ [] → text ≡ 47 ∷ label_text label
    → IsBranchWith (record { before = before; first = label; shadows = shadows }) 0 text
unfolding start
kept_at label before shadows text is none no_shadows text_is =
    let same : branch_at label ≡ record { before = before; first = label; shadows = shadows } =
    ap (λ (b : List (Part LabelParts)). branch b []) (sym none) ∙ ap (λ (s : List LabelParts). branch before s) (sym no_shadows) in
    subst (λ b. IsBranchWith b 0 text) same
    (record {
      branch = first_is label is;
      depth_is = refl;
      few = omega arith;
      text_is = text_is ∙ sym (start_text label_text label);
      short = omega (arith, ap length text_is, label_short label is);
    })
  where
    branch : List (Part LabelParts) → List LabelParts → WholeBranch
    branch before shadows = record { before = before; first = label; shadows = shadows }

pub kept_shadow : (b : WholeBranch) (label : LabelParts) (n : ℕ) (shadows : List LabelParts) (old new : List ℕ) → IsBranchWith b n old → is_label label ≡ true
    → shadows ≡ b.shadows ++ label ∷ [] → new ≡ old ++ (47 ∷ 47 ∷ label_text label) → length (branch_text (shadowed b label)) ≤ 512
    → IsBranchWith (record { before = b.before; first = b.first; shadows = shadows }) (n + 1) new
kept_shadow b label n shadows old new kept is more text_is short =
    let same : shadowed b label ≡ record { before = b.before; first = b.first; shadows = shadows } = ap (λ (s : List LabelParts). branch s) (sym more) in
    let text : new ≡ branch_text (shadowed b label) = text_is ∙ ap (λ l. l ++ (47 ∷ 47 ∷ label_text label)) kept.text_is ∙ sym (text_shadowed label_text b label) in
    subst (λ b. IsBranchWith b (n + 1) new) same
    (record {
      branch = is_shadowed b label kept.branch is;
      depth_is = ap (λ d. d + 1) kept.depth_is ∙ sym (depth_shadowed b label);
      few = omega (arith, kept.few, ap length text_is, length-append old (47 ∷ 47 ∷ label_text label));
      text_is = text;
      short = omega (arith, ap length text, short);
    })
  where
    branch : List LabelParts → WholeBranch
    branch shadows = record { before = b.before; first = b.first; shadows = shadows }

pub kept_branch : (b : WholeBranch) (r : Revision) (label : LabelParts) (n : ℕ) (before : List (Part LabelParts)) (shadows : List LabelParts) (old new : List ℕ) → IsBranchWith b n old
    → is_revision (depth b) r ≡ true → is_label label ≡ true → before ≡ b.before ++ part_of b r ∷ [] → shadows ≡ []
    → new ≡ old ++ ((47 ∷ revision_text r) ++ (47 ∷ label_text label)) → length (branch_text (branched b r label)) ≤ 512
    → IsBranchWith (record { before = before; first = label; shadows = shadows }) n new
kept_branch b r label n before shadows old new kept fits is more no_shadows text_is short =
    let same : branched b r label ≡ record { before = before; first = label; shadows = shadows } =
    ap (λ (l : List (Part LabelParts)). branch l []) (sym more) ∙ ap (λ (s : List LabelParts). branch before s) (sym no_shadows) in
    let text : new ≡ branch_text (branched b r label) =
    text_is ∙ ap (λ l. l ++ ((47 ∷ revision_text r) ++ (47 ∷ label_text label))) kept.text_is ∙ sym (text_branched label_text b r label) in
    subst (λ b. IsBranchWith b n new) same
    (record {
      branch = is_branched b r label kept.branch fits is;
      depth_is = kept.depth_is ∙ sym (depth_branched b r label);
      few = omega (arith, kept.few, ap length text_is, length-append old ((47 ∷ revision_text r) ++ (47 ∷ label_text label)));
      text_is = text;
      short = omega (arith, ap length text, short);
    })
  where
    branch : List (Part LabelParts) → List LabelParts → WholeBranch
    branch before shadows = record { before = before; first = label; shadows = shadows }

-- ---- the last label

last_at : (label : LabelParts) (labels : List LabelParts) → slice_get (label ∷ labels) (length (label ∷ labels) - 1) ≡ Some (last_of label labels)
last_at label [] = refl
last_at label (next ∷ labels) =
    let same : length (label ∷ next ∷ labels) - 1 ≡ suc (length (next ∷ labels) - 1) = omega arith in
    ap (slice_get (label ∷ next ∷ labels)) same ∙ last_at next labels

pub last_found : (first : Bor LabelParts) (shadows : List LabelParts) (r : Option (Bor LabelParts)) → option_copied r ≡ slice_get shadows (length shadows - 1)
    → (unwrap_or r first).now ≡ last_of first.now shadows
last_found first [] None is = refl
last_found first [] (Some x) is = absurd (cc is)
last_found first (label ∷ labels) None is = absurd (cc (is, last_at label labels))
last_found first (label ∷ labels) (Some x) is = let same : Some x.now ≡ Some (last_of label labels) = is ∙ last_at label labels in cc same
