-- How the reading of a version goes on from label to label.
use Rattle.std.proofs.Common.{◌≡◌, ℕ, ◌≤◌, ◌<◌, Bool, true, false, cond, eqb, leb, List, [], ◌∷◌, length, Option, Some, None, refl, sym, ap, ◌∙◌, arith, ◌+◌, ◌++◌, ◌&&◌, length-append}
use Rattle.std.specs.Option.{option_map, option_and_then, is_some}
use Rattle.std.proofs.lemmas.Bool.{lt-leb, leb-true, leb-false, eqb-true}
use Rattle.cny_version.specs.declared.revision.Revision.{Revision}
use Rattle.cny_version.specs.Label.{LabelParts, label_text}
use Rattle.cny_version.specs.Revision.{revision_text}
use Rattle.cny_version.specs.Version.{WholeBranch, WholeVersion, branch_text, version_text, last_of, last_label, depth}
use Rattle.cny_version.specs.Filled.{no_label}
use Rattle.cny_version.specs.Made.{shadowed, branched}
use Rattle.cny_version.specs.Reading.{pieces, label_found, revision_found, short_branch, short_version, step_to, step_found, version_on, branch_at, version_in, version_found, depth_found, size_found}
use Rattle.cny_version.proofs.RevisionTexts.{revision_sound}
use Rattle.cny_version.proofs.LongerBranches.{text_shadowed, text_branched, depth_shadowed, depth_branched}
use Rattle.cny_version.proofs.VersionTexts.{start, start_text}
use Rattle.cny_version.proofs.VersionsReadBack.{short_branch_is}
use Rattle.cny_version.proofs.ReaderAnswers.{some_of}
use Rattle.cny_version.proofs.Options.{test_some, bind_some}

bind_none : {A B : Type 0} (o : Option A) → option_and_then {T = A} {U = B} (λ x. None) o ≡ None
bind_none None = refl
bind_none (Some x) = refl

-- ---- the first label

pub no_first_slash : (whole : Bool) (text : List ℕ) → pieces 47 text ≡ text ∷ [] → version_found whole text ≡ None
unfolding version_found
no_first_slash whole text are = ap (version_in whole) are ∙ at text
  where
    at : (p : List ℕ) → version_in whole (p ∷ []) ≡ None
    at [] = refl
    at (x ∷ xs) = refl

pub text_before_slash : (whole : Bool) (text before : List ℕ) (ps : List (List ℕ)) → pieces 47 text ≡ before ∷ ps → eqb (length before) 0 ≡ false → version_found whole text ≡ None
unfolding version_found
text_before_slash whole text before ps are some = ap (version_in whole) are ∙ at before some
  where
    at : (p : List ℕ) → eqb (length p) 0 ≡ false → version_in whole (p ∷ ps) ≡ None
    at [] some = absurd (cc some)
    at (x ∷ xs) some = refl

empty_is : (before : List ℕ) → eqb (length before) 0 ≡ true → before ≡ []
empty_is [] is = refl
empty_is (x ∷ xs) is = let long : length (x ∷ xs) ≡ 0 = eqb-true (length (x ∷ xs)) 0 is in absurd (omega arith)

pub no_second_slash : (whole : Bool) (text before rest : List ℕ) → pieces 47 text ≡ before ∷ pieces 47 rest → eqb (length before) 0 ≡ true → pieces 47 rest ≡ rest ∷ [] → version_found whole text ≡ None
unfolding version_found
no_second_slash whole text before rest are empty last =
    ap (version_in whole) (are ∙ ap (λ p. p ∷ pieces 47 rest) (empty_is before empty) ∙ ap (λ ps. [] ∷ ps) last)
    ∙ bind_none (label_found whole no_label rest)

pub first_label_is : (whole : Bool) (text before rest first after : List ℕ) → pieces 47 text ≡ before ∷ pieces 47 rest → eqb (length before) 0 ≡ true → pieces 47 rest ≡ first ∷ pieces 47 after
    → version_found whole text ≡ option_and_then (λ label. version_on whole (branch_at label) (pieces 47 after)) (label_found whole no_label first)
unfolding version_found
first_label_is whole text before rest first after are empty more =
    ap (version_in whole) (are ∙ ap (λ p. p ∷ pieces 47 rest) (empty_is before empty) ∙ ap (λ ps. [] ∷ ps) more)

pub no_first_label : (whole : Bool) (text before rest first after : List ℕ) → pieces 47 text ≡ before ∷ pieces 47 rest → eqb (length before) 0 ≡ true → pieces 47 rest ≡ first ∷ pieces 47 after
    → label_found whole no_label first ≡ None → version_found whole text ≡ None
no_first_label whole text before rest first after are empty more none =
    first_label_is whole text before rest first after are empty more
    ∙ ap (λ o. option_and_then (λ label. version_on whole (branch_at label) (pieces 47 after)) o) none

pub from_first_label : (whole : Bool) (text before rest first after : List ℕ) (label : LabelParts) → pieces 47 text ≡ before ∷ pieces 47 rest → eqb (length before) 0 ≡ true → pieces 47 rest ≡ first ∷ pieces 47 after
    → label_found whole no_label first ≡ Some label → version_found whole text ≡ version_on whole (branch_at label) (pieces 47 after)
from_first_label whole text before rest first after label are empty more some =
    first_label_is whole text before rest first after are empty more
    ∙ ap (λ o. option_and_then (λ label. version_on whole (branch_at label) (pieces 47 after)) o) some

-- ---- a further label

pub no_label_behind : (whole : Bool) (b : WholeBranch) (text between rest : List ℕ) → pieces 47 text ≡ between ∷ pieces 47 rest → pieces 47 rest ≡ rest ∷ [] → version_on whole b (pieces 47 text) ≡ None
no_label_behind whole b text between rest are last =
    ap (version_on whole b) (are ∙ ap (λ ps. between ∷ ps) last) ∙ bind_none (step_found whole b between rest)

pub step_in : (whole : Bool) (b : WholeBranch) (text between rest piece after : List ℕ) → pieces 47 text ≡ between ∷ pieces 47 rest → pieces 47 rest ≡ piece ∷ pieces 47 after
    → version_on whole b (pieces 47 text) ≡ option_and_then (λ c. version_on whole c (pieces 47 after)) (step_found whole b between piece)
step_in whole b text between rest piece after are more = ap (version_on whole b) (are ∙ ap (λ ps. between ∷ ps) more)

pub bad_label : (whole : Bool) (b : WholeBranch) (text between rest piece after : List ℕ) (previous : LabelParts) → pieces 47 text ≡ between ∷ pieces 47 rest → pieces 47 rest ≡ piece ∷ pieces 47 after
    → label_found whole previous piece ≡ None → last_label b ≡ previous → version_on whole b (pieces 47 text) ≡ None
unfolding step_found
bad_label whole b text between rest piece after previous are more none last =
    step_in whole b text between rest piece after are more
    ∙ ap (λ l. option_and_then (λ c. version_on whole c (pieces 47 after)) (option_and_then (λ label. step_to b between label) (label_found whole l piece))) last
    ∙ ap (λ o. option_and_then (λ c. version_on whole c (pieces 47 after)) (option_and_then (λ label. step_to b between label) o)) none

-- ---- a further label, where it is found

pub on_label : (whole : Bool) (b : WholeBranch) (text between piece rest : List ℕ) (label : LabelParts) → pieces 47 text ≡ between ∷ piece ∷ pieces 47 rest
    → label_found whole (last_label b) piece ≡ Some label → version_on whole b (pieces 47 text) ≡ option_and_then (λ c. version_on whole c (pieces 47 rest)) (step_to b between label)
unfolding step_found
on_label whole b text between piece rest label are found =
    ap (version_on whole b) are
    ∙ ap (λ o. option_and_then (λ c. version_on whole c (pieces 47 rest)) (option_and_then (λ l. step_to b between l) o)) found

pub on_end : (whole : Bool) (b : WholeBranch) (text : List ℕ) → pieces 47 text ≡ text ∷ []
    → version_on whole b (pieces 47 text) ≡ option_and_then (λ r. short_version (record { branch = b; revision = r })) (revision_found (depth b) text)
on_end whole b text last = ap (version_on whole b) last

pub last_snoc : (first : LabelParts) (shadows : List LabelParts) (label : LabelParts) → last_of first (shadows ++ label ∷ []) ≡ label
last_snoc first [] label = refl
last_snoc first (x ∷ shadows) label = last_snoc x shadows label

-- what is known of a branch behind a further label
pub record IsStepTo (b : WholeBranch) (between : List ℕ) (label : LabelParts) (depth_is size_is : ℕ) : Type 0 where
  pub to : WholeBranch
  pub found : step_to b between label ≡ Some to
  pub last : last_label to ≡ label
  pub depth_to : depth to ≡ depth_is
  pub size_to : length (branch_text to) ≡ size_is

long_to : (b : WholeBranch) → 512 < length (branch_text b) → short_branch b ≡ None
long_to b long = ap (λ t. cond t (Some b) None) (lt-leb (length (branch_text b)) 512 long)

shadow_long : (b : WholeBranch) (label : LabelParts) → length (branch_text (shadowed b label)) ≡ length (branch_text b) + (2 + 0 + length (label_text label))
shadow_long b label = omega (arith, ap length (text_shadowed label_text b label), length-append (branch_text b) (47 ∷ 47 ∷ label_text label))

branch_long : (b : WholeBranch) (r : Revision) (label : LabelParts)
    → length (branch_text (branched b r label)) ≡ length (branch_text b) + (2 + length (revision_text r) + length (label_text label))
branch_long b r label =
    omega (arith, ap length (text_branched label_text b r label), length-append (branch_text b) ((47 ∷ revision_text r) ++ (47 ∷ label_text label)), length-append (47 ∷ revision_text r) (47 ∷ label_text label))

sized : (size longer : ℕ) (between : List ℕ) (label : LabelParts) → size_found size between label ≡ Some longer → (longer ≡ size + (2 + length between + length (label_text label))) × (longer ≤ 512)
sized size longer between label found =
    let k = test_some (leb (size + (2 + length between + length (label_text label))) 512) (Some (size + (2 + length between + length (label_text label)))) longer found in
    let same : size + (2 + length between + length (label_text label)) ≡ longer = cc (k.1) in
    (sym same, omega (arith, same, leb-true (size + (2 + length between + length (label_text label))) 512 k.0))

oversized : (size : ℕ) (between : List ℕ) (label : LabelParts) → size_found size between label ≡ None → 512 < size + (2 + length between + length (label_text label))
oversized size between label found = at (leb (size + (2 + length between + length (label_text label))) 512) refl found
  where
    at : (t : Bool) → leb (size + (2 + length between + length (label_text label))) 512 ≡ t → cond t (Some (size + (2 + length between + length (label_text label)))) None ≡ None
        → 512 < size + (2 + length between + length (label_text label))
    at true is found = absurd (cc found)
    at false is found = leb-false (size + (2 + length between + length (label_text label))) 512 is

pub step_goes : (b : WholeBranch) (between : List ℕ) (label : LabelParts) (size new_depth new_size : ℕ) → length (branch_text b) ≡ size
    → depth_found (depth b) between ≡ Some new_depth → size_found size between label ≡ Some new_size → IsStepTo b between label new_depth new_size
step_goes b [] label size new_depth new_size size_is deep sized_is =
    let k = sized size new_size [] label sized_is in
    let long : length (branch_text (shadowed b label)) ≡ new_size = omega (arith, shadow_long b label, k.0, size_is) in
    record {
      to = shadowed b label;
      found = short_branch_is (shadowed b label) (omega (arith, long, k.1));
      last = last_snoc b.first b.shadows label;
      depth_to = depth_shadowed b label ∙ cc deep;
      size_to = long;
    }
step_goes b (x ∷ xs) label size new_depth new_size size_is deep sized_is =
    let k = sized size new_size (x ∷ xs) label sized_is in
    let d = test_some (is_some (revision_found (depth b) (x ∷ xs))) (Some (depth b)) new_depth deep in
    let r = some_of (revision_found (depth b) (x ∷ xs)) d.0 in
    let text : revision_text r.0 ≡ x ∷ xs = (revision_sound (depth b) (x ∷ xs) r.0 r.1).text_is in
    let long : length (branch_text (branched b r.0 label)) ≡ new_size = omega (arith, branch_long b r.0 label, k.0, size_is, ap length text) in
    record {
      to = branched b r.0 label;
      found = ap (λ o. option_and_then (λ r. short_branch (branched b r label)) o) r.1 ∙ short_branch_is (branched b r.0 label) (omega (arith, long, k.1));
      last = refl;
      depth_to = depth_branched b r.0 label ∙ cc (d.1);
      size_to = long;
    }

pub step_not_deep : (b : WholeBranch) (between : List ℕ) (label : LabelParts) → depth_found (depth b) between ≡ None → step_to b between label ≡ None
step_not_deep b [] label deep = absurd (cc deep)
step_not_deep b (x ∷ xs) label deep =
    ap (λ o. option_and_then (λ r. short_branch (branched b r label)) o) (at (revision_found (depth b) (x ∷ xs)) deep)
  where
    at : (o : Option Revision) → cond (is_some o) (Some (depth b)) None ≡ None → o ≡ None
    at None is = refl
    at (Some r) is = absurd (cc is)

pub step_oversized : (b : WholeBranch) (between : List ℕ) (label : LabelParts) (size : ℕ) → length (branch_text b) ≡ size → size_found size between label ≡ None → step_to b between label ≡ None
step_oversized b [] label size size_is long =
    long_to (shadowed b label) (omega (arith, shadow_long b label, oversized size [] label long, size_is))
step_oversized b (x ∷ xs) label size size_is long = at (revision_found (depth b) (x ∷ xs)) refl
  where
    at : (o : Option Revision) → revision_found (depth b) (x ∷ xs) ≡ o → option_and_then (λ r. short_branch (branched b r label)) (revision_found (depth b) (x ∷ xs)) ≡ None
    at None is = ap (λ o. option_and_then (λ r. short_branch (branched b r label)) o) is
    at (Some r) is =
        let text : revision_text r ≡ x ∷ xs = (revision_sound (depth b) (x ∷ xs) r is).text_is in
        ap (λ o. option_and_then (λ r. short_branch (branched b r label)) o) is
        ∙ long_to (branched b r label) (omega (arith, branch_long b r label, oversized size (x ∷ xs) label long, size_is, ap length text))

-- ---- where a scan of a text is

pub record IsAt (whole : Bool) (label : LabelParts) (depth_is size : ℕ) (rest : List ℕ) (found : Option WholeVersion) : Type 0 where
  pub branch : WholeBranch
  pub last : last_label branch ≡ label
  pub depth_at : depth branch ≡ depth_is
  pub size_at : length (branch_text branch) ≡ size
  pub same : version_on whole branch (pieces 47 rest) ≡ found

pub at_first : (whole : Bool) (label : LabelParts) (rest : List ℕ) (found : Option WholeVersion) → found ≡ version_on whole (branch_at label) (pieces 47 rest)
    → IsAt whole label 0 (1 + length (label_text label)) rest found
unfolding start
at_first whole label rest found same =
    record { branch = branch_at label; last = refl; depth_at = refl; size_at = omega (arith, ap length (start_text label_text label)); same = sym same }

pub at_next : (whole : Bool) (previous label : LabelParts) (n m size longer : ℕ) (text between piece rest : List ℕ) (found : Option WholeVersion) → IsAt whole previous n size text found
    → pieces 47 text ≡ between ∷ piece ∷ pieces 47 rest → label_found whole previous piece ≡ Some label → depth_found n between ≡ Some m → size_found size between label ≡ Some longer
    → IsAt whole label m longer rest found
at_next whole previous label n m size longer text between piece rest found at are label_is deep sized_is =
    let s = step_goes at.branch between label size m longer at.size_at (ap (λ d. depth_found d between) at.depth_at ∙ deep) sized_is in
    record {
      branch = s.to;
      last = s.last;
      depth_at = s.depth_to;
      size_at = s.size_to;
      same = sym (on_label whole at.branch text between piece rest label are (ap (λ l. label_found whole l piece) at.last ∙ label_is)
          ∙ ap (λ o. option_and_then (λ c. version_on whole c (pieces 47 rest)) o) s.found) ∙ at.same;
    }

none_behind : (whole : Bool) (previous label : LabelParts) (n size : ℕ) (text between piece rest : List ℕ) (found : Option WholeVersion) → (at : IsAt whole previous n size text found)
    → pieces 47 text ≡ between ∷ piece ∷ pieces 47 rest → label_found whole previous piece ≡ Some label → step_to at.branch between label ≡ None → found ≡ None
none_behind whole previous label n size text between piece rest found at are label_is none =
    sym at.same
    ∙ on_label whole at.branch text between piece rest label are (ap (λ l. label_found whole l piece) at.last ∙ label_is)
    ∙ ap (λ o. option_and_then (λ c. version_on whole c (pieces 47 rest)) o) none

pub at_not_deep : (whole : Bool) (previous label : LabelParts) (n size : ℕ) (text between piece rest : List ℕ) (found : Option WholeVersion) → IsAt whole previous n size text found
    → pieces 47 text ≡ between ∷ piece ∷ pieces 47 rest → label_found whole previous piece ≡ Some label → depth_found n between ≡ None → found ≡ None
at_not_deep whole previous label n size text between piece rest found at are label_is deep =
    none_behind whole previous label n size text between piece rest found at are label_is
    (step_not_deep at.branch between label (ap (λ d. depth_found d between) at.depth_at ∙ deep))

pub at_oversized : (whole : Bool) (previous label : LabelParts) (n size : ℕ) (text between piece rest : List ℕ) (found : Option WholeVersion) → IsAt whole previous n size text found
    → pieces 47 text ≡ between ∷ piece ∷ pieces 47 rest → label_found whole previous piece ≡ Some label → size_found size between label ≡ None → found ≡ None
at_oversized whole previous label n size text between piece rest found at are label_is long =
    none_behind whole previous label n size text between piece rest found at are label_is (step_oversized at.branch between label size at.size_at long)

-- ---- the end of a text

end_short : (b : WholeBranch) (r : Revision) (text : List ℕ) (size : ℕ) → length (branch_text b) ≡ size → revision_text r ≡ text
    → length (version_text (record { branch = b; revision = r })) ≡ size + 1 + length text
end_short b r text size size_is text_is = omega (arith, length-append (branch_text b) (47 ∷ revision_text r), size_is, ap length text_is)

some_short : (v : WholeVersion) (size : ℕ) → length (version_text v) ≡ size → is_some (short_version v) ≡ leb size 512
some_short v size is = ap (λ n. is_some (cond (leb n 512) (Some v) None)) is ∙ at (leb size 512)
  where
    at : (t : Bool) → is_some (cond t (Some v) None) ≡ t
    at true = refl
    at false = refl

pub at_end : (whole : Bool) (previous : LabelParts) (n size : ℕ) (text : List ℕ) (found : Option WholeVersion) → IsAt whole previous n size text found → pieces 47 text ≡ text ∷ []
    → (is_some (revision_found n text) && leb (size + 1 + length text) 512) ≡ is_some found
at_end whole previous n size text found at last =
    go (revision_found (depth at.branch) text) refl
    ∙ sym (ap is_some (sym at.same ∙ on_end whole at.branch text last))
  where
    same_depth : revision_found n text ≡ revision_found (depth at.branch) text
    same_depth = ap (λ d. revision_found d text) (sym at.depth_at)

    go : (o : Option Revision) → revision_found (depth at.branch) text ≡ o
        → (is_some (revision_found n text) && leb (size + 1 + length text) 512)
        ≡ is_some (option_and_then (λ r. short_version (record { branch = at.branch; revision = r })) (revision_found (depth at.branch) text))
    go None is =
        ap (λ o. is_some o && leb (size + 1 + length text) 512) (same_depth ∙ is)
        ∙ sym (ap (λ o. is_some (option_and_then (λ r. short_version (record { branch = at.branch; revision = r })) o)) is)
    go (Some r) is =
        ap (λ o. is_some o && leb (size + 1 + length text) 512) (same_depth ∙ is)
        ∙ sym (some_short (record { branch = at.branch; revision = r }) (size + 1 + length text) (end_short at.branch r text size at.size_at (revision_sound (depth at.branch) text r is).text_is))
        ∙ sym (ap (λ o. is_some (option_and_then (λ r. short_version (record { branch = at.branch; revision = r })) o)) is)

-- the depth stays below the length
pub still_shallow : (n m size longer : ℕ) (between : List ℕ) (label : LabelParts) → depth_found n between ≡ Some m → size_found size between label ≡ Some longer → n ≤ size → m ≤ longer
still_shallow n m size longer [] label deep sized_is shallow =
    let same : n + 1 ≡ m = cc deep in
    omega (arith, (sized size longer [] label sized_is).0)
still_shallow n m size longer (x ∷ xs) label deep sized_is shallow =
    let same : n ≡ m = cc ((test_some (is_some (revision_found n (x ∷ xs))) (Some n) m deep).1) in
    omega (arith, (sized size longer (x ∷ xs) label sized_is).0)

pub still_short : (size longer : ℕ) (between : List ℕ) (label : LabelParts) → size_found size between label ≡ Some longer → longer ≤ 512
still_short size longer between label sized_is = (sized size longer between label sized_is).1

-- ---- a branch that is made longer

pub shadow_is : (b : WholeBranch) (between : List ℕ) (label : LabelParts) → eqb (length between) 0 ≡ true → length (branch_text (shadowed b label)) ≤ 512 → step_to b between label ≡ Some (shadowed b label)
shadow_is b between label empty short = ap (λ p. step_to b p label) (empty_is between empty) ∙ short_branch_is (shadowed b label) short

pub shadow_fits : (b : WholeBranch) (between : List ℕ) (label : LabelParts) (size longer : ℕ) → eqb (length between) 0 ≡ true → length (branch_text b) ≡ size → size_found size between label ≡ Some longer
    → length (branch_text (shadowed b label)) ≤ 512
shadow_fits b between label size longer empty size_is found =
    omega (arith, shadow_long b label, ap length (empty_is between empty), sized size longer between label found, size_is)

pub branch_is : (b : WholeBranch) (between : List ℕ) (label : LabelParts) (size longer : ℕ) → eqb (length between) 0 ≡ false → length (branch_text b) ≡ size → size_found size between label ≡ Some longer
    → step_to b between label ≡ option_map (λ r. branched b r label) (revision_found (depth b) between)
branch_is b [] label size longer some size_is found = absurd (cc some)
branch_is b (x ∷ xs) label size longer some size_is found = at (revision_found (depth b) (x ∷ xs)) refl
  where
    at : (o : Option Revision) → revision_found (depth b) (x ∷ xs) ≡ o
        → option_and_then (λ r. short_branch (branched b r label)) (revision_found (depth b) (x ∷ xs)) ≡ option_map (λ r. branched b r label) (revision_found (depth b) (x ∷ xs))
    at None is = ap (λ o. option_and_then (λ r. short_branch (branched b r label)) o) is ∙ sym (ap (λ o. option_map (λ r. branched b r label) o) is)
    at (Some r) is =
        let text : revision_text r ≡ x ∷ xs = (revision_sound (depth b) (x ∷ xs) r is).text_is in
        ap (λ o. option_and_then (λ r. short_branch (branched b r label)) o) is
        ∙ short_branch_is (branched b r label) (omega (arith, branch_long b r label, sized size longer (x ∷ xs) label found, size_is, ap length text))
        ∙ sym (ap (λ o. option_map (λ r. branched b r label) o) is)

pub end_oversized : (b : WholeBranch) (text : List ℕ) → 512 < length (branch_text b) + 1 + length text
    → option_and_then (λ r. short_version (record { branch = b; revision = r })) (revision_found (depth b) text) ≡ None
end_oversized b text long = at (revision_found (depth b) text) refl
  where
    at : (o : Option Revision) → revision_found (depth b) text ≡ o → option_and_then (λ r. short_version (record { branch = b; revision = r })) (revision_found (depth b) text) ≡ None
    at None is = ap (λ o. option_and_then (λ r. short_version (record { branch = b; revision = r })) o) is
    at (Some r) is =
        let size = end_short b r text (length (branch_text b)) refl (revision_sound (depth b) text r is).text_is in
        ap (λ o. option_and_then (λ r. short_version (record { branch = b; revision = r })) o) is
        ∙ ap (λ t. cond t (Some (record { branch = b; revision = r })) None) (lt-leb (length (version_text (record { branch = b; revision = r }))) 512 (omega (arith, size)))

pub step_last : (b c : WholeBranch) (between : List ℕ) (label : LabelParts) → step_to b between label ≡ Some c → last_label c ≡ label
step_last b c [] label found =
    let k = test_some (leb (length (branch_text (shadowed b label))) 512) (Some (shadowed b label)) c found in
    let same : shadowed b label ≡ c = cc (k.1) in
    ap last_label (sym same) ∙ last_snoc b.first b.shadows label
step_last b c (x ∷ xs) label found =
    let r = bind_some (λ r. short_branch (branched b r label)) (revision_found (depth b) (x ∷ xs)) c found in
    let k = test_some (leb (length (branch_text (branched b r.0 label))) 512) (Some (branched b r.0 label)) c r.2 in
    let same : branched b r.0 label ≡ c = cc (k.1) in
    ap last_label (sym same)

-- the reading of the text goes on from the longer branch
pub on_longer : (whole : Bool) (b c : WholeBranch) (text between piece rest : List ℕ) (label : LabelParts) → pieces 47 text ≡ between ∷ piece ∷ pieces 47 rest
    → label_found whole (last_label b) piece ≡ Some label → step_to b between label ≡ Some c → version_on whole c (pieces 47 rest) ≡ version_on whole b (pieces 47 text)
on_longer whole b c text between piece rest label are found step =
    sym (on_label whole b text between piece rest label are found ∙ ap (λ o. option_and_then (λ c. version_on whole c (pieces 47 rest)) o) step)

pub on_no_longer : (whole : Bool) (b : WholeBranch) (text between piece rest : List ℕ) (label : LabelParts) → pieces 47 text ≡ between ∷ piece ∷ pieces 47 rest
    → label_found whole (last_label b) piece ≡ Some label → step_to b between label ≡ None → version_on whole b (pieces 47 text) ≡ None
on_no_longer whole b text between piece rest label are found step =
    on_label whole b text between piece rest label are found ∙ ap (λ o. option_and_then (λ c. version_on whole c (pieces 47 rest)) o) step
