-- Branches: one label more, and its text, its labels filled up, and its rules.
use Rattle.std.proofs.Common.{◌≡◌, ℕ, ◌+◌, true, ◌&&◌, List, [], ◌∷◌, ◌++◌, length, IsTrue, refl, sym, ap, ◌∙◌, arith, append_assoc, length-append}
use Rattle.std.proofs.lemmas.List.{append-nil}
use Rattle.std.specs.List.{list_all, flat_map}
use Rattle.std.specs.Cmp.{first_so, second_so}
use Rattle.std.proofs.lemmas.Bool.{and_from}
use Rattle.std.proofs.lemmas.List.Folds.{list_all-append}
use Rattle.std.proofs.lemmas.List.Sums.{sum_by-cons}
use Rattle.cny_version.specs.declared.revision.Revision.{Revision}
use Rattle.cny_version.specs.Label.{LabelParts, is_label}
use Rattle.cny_version.specs.Revision.{revision_text, is_revision}
use Rattle.cny_version.specs.Version.{Part, BranchParts, WholeBranch, labels_text, part_text, branch_text_by, last_of, last_label, depth_of_parts, depth, AreLabels, ArePartsAfter, IsBranch}
use Rattle.cny_version.specs.Filled.{no_label, filled_shadows, filled_part, label_after, filled_parts, filled_branch}
use Rattle.cny_version.specs.Made.{shadowed, part_of, branched}

flat_map_snoc : {X A : Type 0} (f : X → List A) (xs : List X) (x : X) → flat_map f (xs ++ x ∷ []) ≡ flat_map f xs ++ f x
flat_map_snoc f [] x = append-nil (f x)
flat_map_snoc f (y ∷ xs) x = ap (λ l. f y ++ l) (flat_map_snoc f xs x) ∙ sym (append_assoc (f y) (flat_map f xs) (f x))

-- ---- texts

pub text_shadowed : {L : Type 0} (text : L → List ℕ) (b : BranchParts L) (a : L)
    → branch_text_by text (shadowed b a) ≡ branch_text_by text b ++ (47 ∷ 47 ∷ text a)
text_shadowed text b a =
    let parts : List ℕ = flat_map (part_text text) b.before in
    let labels : List ℕ = flat_map (λ label. 47 ∷ 47 ∷ text label) b.shadows in
    ap (λ l. parts ++ ((47 ∷ text b.first) ++ l)) (flat_map_snoc (λ label. 47 ∷ 47 ∷ text label) b.shadows a)
    ∙ ap (λ l. parts ++ l) (sym (append_assoc (47 ∷ text b.first) labels (47 ∷ 47 ∷ text a)))
    ∙ sym (append_assoc parts ((47 ∷ text b.first) ++ labels) (47 ∷ 47 ∷ text a))

pub text_branched : {L : Type 0} (text : L → List ℕ) (b : BranchParts L) (r : Revision) (a : L)
    → branch_text_by text (branched b r a) ≡ branch_text_by text b ++ ((47 ∷ revision_text r) ++ (47 ∷ text a))
text_branched text b r a =
    let parts : List ℕ = flat_map (part_text text) b.before in
    let labels : List ℕ = labels_text text b.first b.shadows in
    let own : List ℕ = 47 ∷ revision_text r in
    ap (λ l. l ++ labels_text text a []) (flat_map_snoc (part_text text) b.before (part_of b r))
    ∙ ap (λ l. (parts ++ (labels ++ own)) ++ l) (append-nil (47 ∷ text a))
    ∙ append_assoc parts (labels ++ own) (47 ∷ text a)
    ∙ ap (λ l. parts ++ l) (append_assoc labels own (47 ∷ text a))
    ∙ sym (append_assoc parts labels (own ++ (47 ∷ text a)))

-- ---- labels filled up

filled_shadows_snoc : {L : Type 0} (fill : LabelParts → L → LabelParts) (previous : LabelParts) (xs : List L) (a : L)
    → filled_shadows fill previous (xs ++ a ∷ []) ≡ filled_shadows fill previous xs ++ fill (last_of previous (filled_shadows fill previous xs)) a ∷ []
filled_shadows_snoc fill previous [] a = refl
filled_shadows_snoc fill previous (x ∷ xs) a = ap (λ l. fill previous x ∷ l) (filled_shadows_snoc fill (fill previous x) xs a)

pub filled_shadowed : {L : Type 0} (fill : LabelParts → L → LabelParts) (b : BranchParts L) (a : L)
    → filled_branch fill (shadowed b a) ≡ shadowed (filled_branch fill b) (fill (last_label (filled_branch fill b)) a)
filled_shadowed fill b a =
    let f : WholeBranch = filled_branch fill b in
    ap (λ (shadows : List LabelParts). branch f.before f.first shadows) (filled_shadows_snoc fill f.first b.shadows a)
  where
    branch : List (Part LabelParts) → LabelParts → List LabelParts → WholeBranch
    branch before first shadows = record { before = before; first = first; shadows = shadows }

filled_parts_snoc : {L : Type 0} (fill : LabelParts → L → LabelParts) (previous : LabelParts) (xs : List (Part L)) (p : Part L)
    → filled_parts fill previous (xs ++ p ∷ []) ≡ filled_parts fill previous xs ++ filled_part fill (label_after previous (filled_parts fill previous xs)) p ∷ []
filled_parts_snoc fill previous [] p = refl
filled_parts_snoc fill previous (x ∷ xs) p =
    ap (λ l. filled_part fill previous x ∷ l) (filled_parts_snoc fill (label_after previous (filled_part fill previous x ∷ [])) xs p)

label_after_snoc : (previous : LabelParts) (xs : List (Part LabelParts)) (p : Part LabelParts) → label_after previous (xs ++ p ∷ []) ≡ last_of p.first p.shadows
label_after_snoc previous [] p = refl
label_after_snoc previous (x ∷ xs) p = label_after_snoc (last_of x.first x.shadows) xs p

pub filled_branched : {L : Type 0} (fill : LabelParts → L → LabelParts) (b : BranchParts L) (r : Revision) (a : L)
    → filled_branch fill (branched b r a) ≡ branched (filled_branch fill b) r (fill (last_label (filled_branch fill b)) a)
filled_branched fill b r a =
    let f : WholeBranch = filled_branch fill b in
    let before : List (Part LabelParts) = f.before ++ part_of f r ∷ [] in
    ap (λ (parts : List (Part LabelParts)). branch parts (fill (label_after no_label parts) a)) (filled_parts_snoc fill no_label b.before (part_of b r))
    ∙ ap (λ label. branch before (fill label a)) (label_after_snoc no_label f.before (part_of f r))
  where
    branch : List (Part LabelParts) → LabelParts → WholeBranch
    branch before first = record { before = before; first = first; shadows = [] }

-- ---- rules

labels_snoc : (shadows : List LabelParts) (label : LabelParts) → list_all is_label (shadows ++ label ∷ []) ≡ (list_all is_label shadows && (is_label label && true))
labels_snoc shadows label = list_all-append is_label shadows (label ∷ [])

pub is_shadowed : (b : WholeBranch) (label : LabelParts) → IsBranch b → IsTrue (is_label label) → IsBranch (shadowed b label)
is_shadowed b label is last =
    (is.0, (is.1.0, labels_snoc b.shadows label ∙ and_from (list_all is_label b.shadows) (is_label label && true) is.1.1 (and_from (is_label label) true last refl)))

pub was_shadowed : (b : WholeBranch) (label : LabelParts) → IsBranch (shadowed b label) → IsBranch b × IsTrue (is_label label)
was_shadowed b label is =
    let both : (list_all is_label b.shadows && (is_label label && true)) ≡ true = sym (labels_snoc b.shadows label) ∙ is.1.1 in (
      (is.0, (is.1.0, first_so (list_all is_label b.shadows) (is_label label && true) both)),
      first_so (is_label label) true (second_so (list_all is_label b.shadows) (is_label label && true) both),
    )

depth_cons : (p : Part LabelParts) (parts : List (Part LabelParts)) → depth_of_parts (p ∷ parts) ≡ length p.shadows + depth_of_parts parts
depth_cons p parts = sum_by-cons (λ (p : Part LabelParts). length p.shadows) p parts

is_revision_at : (r : Revision) (m n : ℕ) → m ≡ n → is_revision m r ≡ true → is_revision n r ≡ true
is_revision_at r m n same is = ap (λ d. is_revision d r) (sym same) ∙ is

parts_snoc : (n : ℕ) (parts : List (Part LabelParts)) (p : Part LabelParts) → ArePartsAfter n parts → AreLabels p.first p.shadows
    → IsTrue (is_revision (n + depth_of_parts parts + length p.shadows) p.revision) → ArePartsAfter n (parts ++ p ∷ [])
parts_snoc n [] p are labels fits = (labels, is_revision_at p.revision (n + depth_of_parts [] + length p.shadows) (n + length p.shadows) (omega arith) fits, tt)
parts_snoc n (x ∷ parts) p are labels fits = (
  are.0,
  are.1,
  parts_snoc (n + length x.shadows) parts p are.2 labels
      (is_revision_at p.revision (n + depth_of_parts (x ∷ parts) + length p.shadows) (n + length x.shadows + depth_of_parts parts + length p.shadows)
      (omega (arith, depth_cons x parts)) fits),
)

record WereParts (n : ℕ) (parts : List (Part LabelParts)) (p : Part LabelParts) : Type 0 where
  front : ArePartsAfter n parts
  labels : AreLabels p.first p.shadows
  fits : is_revision (n + depth_of_parts parts + length p.shadows) p.revision ≡ true

parts_were : (n : ℕ) (parts : List (Part LabelParts)) (p : Part LabelParts) → ArePartsAfter n (parts ++ p ∷ []) → WereParts n parts p
parts_were n [] p are =
    record { front = tt; labels = are.0; fits = is_revision_at p.revision (n + length p.shadows) (n + depth_of_parts [] + length p.shadows) (omega arith) are.1 }
parts_were n (x ∷ parts) p are =
    let were = parts_were (n + length x.shadows) parts p are.2 in
    record {
      front = (are.0, are.1, were.front);
      labels = were.labels;
      fits = is_revision_at p.revision (n + length x.shadows + depth_of_parts parts + length p.shadows) (n + depth_of_parts (x ∷ parts) + length p.shadows)
          (omega (arith, depth_cons x parts)) were.fits;
    }

pub is_branched : (b : WholeBranch) (r : Revision) (label : LabelParts) → IsBranch b → IsTrue (is_revision (depth b) r) → IsTrue (is_label label) → IsBranch (branched b r label)
is_branched b r label is fits last =
    (parts_snoc 0 b.before (part_of b r) is.0 is.1 (is_revision_at r (depth b) (0 + depth_of_parts b.before + length b.shadows) (omega arith) fits), (last, refl))

pub record WasBranched (b : WholeBranch) (r : Revision) (label : LabelParts) : Type 0 where
  pub branch : IsBranch b
  pub fits : is_revision (depth b) r ≡ true
  pub last : is_label label ≡ true

pub was_branched : (b : WholeBranch) (r : Revision) (label : LabelParts) → IsBranch (branched b r label) → WasBranched b r label
was_branched b r label is =
    let were = parts_were 0 b.before (part_of b r) is.0 in
    record {
      branch = (were.front, were.labels);
      fits = is_revision_at r (0 + depth_of_parts b.before + length b.shadows) (depth b) (omega arith) were.fits;
      last = is.1.0;
    }

-- ---- depths

pub depth_shadowed : (b : WholeBranch) (label : LabelParts) → depth (shadowed b label) ≡ depth b + 1
depth_shadowed b label = omega (arith, length-append b.shadows (label ∷ []))

depth_snoc : (parts : List (Part LabelParts)) (p : Part LabelParts) → depth_of_parts (parts ++ p ∷ []) ≡ depth_of_parts parts + length p.shadows
depth_snoc [] p = omega (arith, depth_cons p [])
depth_snoc (x ∷ parts) p = omega (arith, depth_cons x (parts ++ p ∷ []), depth_cons x parts, depth_snoc parts p)

pub depth_branched : (b : WholeBranch) (r : Revision) (label : LabelParts) → depth (branched b r label) ≡ depth b
depth_branched b r label = omega (arith, depth_snoc b.before (part_of b r))
