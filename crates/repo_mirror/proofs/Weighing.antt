-- The contents of an absolute change set are as long as is told of them by the records of files.
use Rattle.std.proofs.Common.{◌≡◌, ◌≢◌, ◌⊎◌, inl, inr, ⊎_elim, ℕ, suc, ◌+◌, Bool, true, false, ◌&&◌, ◌||◌, ◌==◌, cond, not, List, [], ◌∷◌, ◌++◌, length, get_or, map, filter, Contains, refl, sym, ap, ◌∙◌, subst, arith, zero-add}
use Rattle.std.specs.Prelude.{◌↔◌, sum_by}
use Rattle.std.specs.Cmp.Lexicographic.{slice_cmp, nat_list_cmp_total}
use Rattle.std.specs.List.{list_any, AllPairs}
use Rattle.std.specs.List.Sorted.{IsStrictlySortedBy}
use Rattle.std.specs.Ordering.{nat_cmp}
use Rattle.std.specs.Str.{bytes_eq}
use Rattle.std.specs.declared.cmp.Ordering.TheVariants.{Less, Equal}
use Rattle.std.proofs.lemmas.Bool.Decides.{nat_tests}
use Rattle.std.proofs.lemmas.Cmp.{tied_itself}
use Rattle.std.proofs.lemmas.List.Folds.{list_any-append}
use Rattle.std.proofs.lemmas.List.Kept.{AllPairs-filter}
use Rattle.std.proofs.lemmas.List.Sums.{sum_by-cons}
use Rattle.std.proofs.lemmas.Map.Keys.{Less-from_sorted}
use Rattle.std.proofs.lemmas.Slice.Eq.{bytes_eq-Decides}
use Rattle.change_set.specs.cny-stream.declared.record.FileRec.{FileRec}
use Rattle.change_set.specs.cny-stream.declared.record.FileRec.TheVariants.{Dir, File, Link}
use Rattle.change_set.specs.cny-stream.Record.{has_name_and_size}
use Rattle.change_set.specs.trove-parts.declared.files.FileAt.{FileAt}
use Rattle.change_set.specs.declared.change.Carried.{Carried}
use Rattle.change_set.specs.ChangeSet.{content_cmp}
use Rattle.change_set.proofs.cny-base.Bools.{both}
use Rattle.change_set.proofs.cny-base.Lists.{contains_cases, contains_first, contains_rest, contains_map, nothing_in, from_map}
use Rattle.repo_index.specs.Catalogue.{is_file_of, is_content}
use Rattle.repo_mirror.specs.Absolute.{name_of, AreSized}
use Rattle.repo_mirror.specs.Lengths.{content_length, contents_length}

-- ---- elements that are kept

kept_from : {A : Type 0} (p : A → Bool) (xs : List A) (t : A) → Contains (filter p xs) t → Contains xs t × (p t ≡ true)
kept_from p [] t h = absurd (nothing_in t h)
kept_from {A} p (x ∷ xs) t h = by (p x) refl h (kept_from p xs t)
  where
    by : (b : Bool) → p x ≡ b → Contains (cond b (x ∷ filter p xs) (filter p xs)) t → (Contains (filter p xs) t → Contains xs t × (p t ≡ true)) → Contains (x ∷ xs) t × (p t ≡ true)
    by true is h rest = ⊎_elim
        (λ same. (subst (λ (u : A). Contains (x ∷ xs) u) same (contains_first x xs), ap p (sym same) ∙ is))
        (λ g. let r = rest g in (contains_rest x t xs r.0, r.1))
        (contains_cases x t (filter p xs) h)
    by false is h rest = let r = rest h in (contains_rest x t xs r.0, r.1)

pub kept_in : {A : Type 0} (p : A → Bool) (xs : List A) (t : A) → Contains xs t → p t ≡ true → Contains (filter p xs) t
kept_in p [] t h is = absurd (nothing_in t h)
kept_in {A} p (x ∷ xs) t h is = ⊎_elim
    (λ same. at (p x) (ap p same ∙ is) same)
    (λ g. later (p x) (kept_in p xs t g is))
    (contains_cases x t xs h)
  where
    at : (b : Bool) → b ≡ true → x ≡ t → Contains (cond b (x ∷ filter p xs) (filter p xs)) t
    at true b_is same = subst (λ (u : A). Contains (x ∷ filter p xs) u) same (contains_first x (filter p xs))
    at false b_is same = absurd (cc b_is)

    later : (b : Bool) → Contains (filter p xs) t → Contains (cond b (x ∷ filter p xs) (filter p xs)) t
    later true g = contains_rest x t (filter p xs) g
    later false g = g

-- ---- distinct names

abbrev pub AreDistinct : List Carried → Type 0
AreDistinct contents = AllPairs (λ (c d : Carried). c.name ≢ d.name) contents

pub distinct_names : (contents : List Carried) → IsStrictlySortedBy content_cmp contents → AreDistinct contents
distinct_names contents rises i j d low high same =
    let less : content_cmp (get_or contents i d) (get_or contents j d) ≡ Less = Less-from_sorted content_cmp contents i j d rises low high in
    let tied : slice_cmp nat_cmp (get_or contents i d).name (get_or contents j d).name ≡ Equal =
    ap (λ (n : List ℕ). slice_cmp nat_cmp (get_or contents i d).name n) (sym same) ∙ tied_itself nat_list_cmp_total (get_or contents i d).name in
    absurd (cc (less, tied))

distinct_first : (c : Carried) (contents : List Carried) → AreDistinct (c ∷ contents) → (d : Carried) → Contains contents d → c.name ≡ d.name → ⊥
distinct_first c contents distinct d h same =
    let apart : c.name ≢ (get_or contents h.0 d).name = distinct 0 (suc h.0) d (omega arith) (omega (arith, h.1)) in
    apart (same ∙ ap name_of (sym h.2))

distinct_rest : (c : Carried) (contents : List Carried) → AreDistinct (c ∷ contents) → AreDistinct contents
distinct_rest c contents distinct i j d low high = distinct (suc i) (suc j) d (omega arith) (omega arith)

-- ---- one content less

-- the item of a content
abbrev pub weight : Carried → ℕ
weight c = 25 + length c.bytes

abbrev pub is_other : List ℕ → Carried → Bool
is_other name c = not (bytes_eq name c.name)

other_of : (name : List ℕ) (c : Carried) → (name ≡ c.name → ⊥) → is_other name c ≡ true
other_of name c apart = by (bytes_eq name c.name) (bytes_eq-Decides name c.name).0
  where
    by : (b : Bool) → (b ≡ true → name ≡ c.name) → not b ≡ true
    by true same = absurd (apart (same refl))
    by false same = refl

all_other : (name : List ℕ) (contents : List Carried) → ((c : Carried) → Contains contents c → name ≡ c.name → ⊥) → filter (is_other name) contents ≡ contents
all_other name [] apart = refl
all_other name (c ∷ contents) apart =
    by (is_other name c) (other_of name c (apart c (contains_first c contents))) (all_other name contents (λ d h. apart d (contains_rest c d contents h)))
  where
    by : (b : Bool) → b ≡ true → filter (is_other name) contents ≡ contents → cond b (c ∷ filter (is_other name) contents) (filter (is_other name) contents) ≡ c ∷ contents
    by true is rest = ap (λ (l : List Carried). c ∷ l) rest
    by false is rest = absurd (cc is)

pub without : (name : List ℕ) (contents : List Carried) (c : Carried) → AreDistinct contents → Contains contents c → c.name ≡ name
    → sum_by weight contents ≡ weight c + sum_by weight (filter (is_other name) contents)
without name [] c distinct h is = absurd (nothing_in c h)
without name (d ∷ contents) c distinct h is =
    sum_by-cons weight d contents
    ∙ by (bytes_eq name d.name) (bytes_eq-Decides name d.name) (contains_cases d c contents h) (λ g. without name contents c (distinct_rest d contents distinct) g is)
  where
    here : name ≡ d.name → (d ≡ c) ⊎ Contains contents c → d ≡ c
    here same (inl e) = e
    here same (inr g) = absurd (distinct_first d contents distinct c g (sym same ∙ sym is))

    by : (b : Bool) → ((b ≡ true → name ≡ d.name) × (name ≡ d.name → b ≡ true)) → (d ≡ c) ⊎ Contains contents c
        → (Contains contents c → sum_by weight contents ≡ weight c + sum_by weight (filter (is_other name) contents))
        → weight d + sum_by weight contents ≡ weight c + sum_by weight (cond (not b) (d ∷ filter (is_other name) contents) (filter (is_other name) contents))
    by true decides among rest_of =
        let same : name ≡ d.name = decides.0 refl in
        let weights = ap weight (here same among) in
        let rest = ap (sum_by weight) (all_other name contents (λ e g apart. distinct_first d contents distinct e g (sym same ∙ apart))) in
        omega (arith, weights, rest)
    by false decides (inl e) rest_of = absurd (cc (decides.1 (sym is ∙ ap name_of (sym e))))
    by false decides (inr g) rest_of =
        let rest = rest_of g in
        let first = sum_by-cons weight d (filter (is_other name) contents) in
        omega (arith, rest, first)

-- ---- all contents

-- the contents are those that the files name and that none of the files before them does
abbrev pub AreNamed : List FileAt → List FileAt → List Carried → Type 0
AreNamed before files contents = (name : List ℕ) → Contains (map name_of contents) name ↔ ((list_any (is_file_of name) files ≡ true) × (list_any (is_file_of name) before ≡ false))

behind : (before : List FileAt) (file : FileAt) (name : List ℕ) → list_any (is_file_of name) (before ++ file ∷ []) ≡ (list_any (is_file_of name) before || is_file_of name file)
behind before file name = list_any-append (is_file_of name) before (file ∷ []) ∙ ap (λ (b : Bool). list_any (is_file_of name) before || b) (last (is_file_of name file))
  where
    last : (b : Bool) → (b || false) ≡ b
    last true = refl
    last false = refl

-- the tests of a name, of one more file before and one less behind
goes_on : (x f b : Bool) → (x ≡ true → b ≡ true) → ((x || f) ≡ true) × (b ≡ false) → (f ≡ true) × ((b || x) ≡ false)
goes_on true f b known h = absurd (cc (known refl, h.1))
goes_on false f true known h = absurd (cc (h.1))
goes_on false f false known h = (h.0, refl)

goes_back : (x f b : Bool) → (f ≡ true) × ((b || x) ≡ false) → ((x || f) ≡ true) × (b ≡ false)
goes_back true f true h = absurd (cc (h.1))
goes_back true f false h = absurd (cc (h.1))
goes_back false f true h = absurd (cc (h.1))
goes_back false f false h = (h.0, refl)

goes_other : (x f b : Bool) → x ≡ false → ((x || f) ≡ true) × (b ≡ false) → (f ≡ true) × ((b || x) ≡ false)
goes_other x f b apart h = goes_on x f b (λ is. absurd (cc (is, apart))) h

not_named : (x b : Bool) → (b || x) ≡ false → x ≡ false
not_named true true h = absurd (cc h)
not_named true false h = absurd (cc h)
not_named false b h = refl

module _ (before : List FileAt) (file : FileAt) (files : List FileAt) (contents : List Carried) (named : AreNamed before (file ∷ files) contents) where
  -- a file that names nothing, or a content that is named before
  same_named : ((name : List ℕ) → is_file_of name file ≡ true → list_any (is_file_of name) before ≡ true) → AreNamed (before ++ file ∷ []) files contents
  same_named known name = (
    (λ h. let both = goes_on (is_file_of name file) (list_any (is_file_of name) files) (list_any (is_file_of name) before) (known name) ((named name).0 h) in (both.0, behind before file name ∙ both.1)),
    (λ h. (named name).1 (goes_back (is_file_of name file) (list_any (is_file_of name) files) (list_any (is_file_of name) before) (h.0, sym (behind before file name) ∙ h.1))),
  )

  module _ (of : List ℕ) (is : (name : List ℕ) → is_file_of name file ≡ bytes_eq of name) where
    other_name : (c : Carried) → is_other of c ≡ true → is_file_of c.name file ≡ false
    other_name c other = is c.name ∙ by (bytes_eq of c.name) other
      where
        by : (b : Bool) → not b ≡ true → b ≡ false
        by true h = absurd (cc h)
        by false h = refl

    still_other : (c : Carried) → is_file_of c.name file ≡ false → is_other of c ≡ true
    still_other c apart = ap not (sym (is c.name) ∙ apart)

    -- a content that is new: the others stay
    others_named : AreNamed (before ++ file ∷ []) files (filter (is_other of) contents)
    others_named name = (
      (λ h.
          let c = from_map name_of (filter (is_other of) contents) name h in
          let kept = kept_from (is_other of) contents c.0 c.1 in
          let apart : is_file_of name file ≡ false = ap (λ (n : List ℕ). is_file_of n file) (sym c.2) ∙ other_name c.0 kept.1 in
          let there : Contains (map name_of contents) name = subst (λ (n : List ℕ). Contains (map name_of contents) n) c.2 (contains_map name_of contents c.0 kept.0) in
          let both = goes_other (is_file_of name file) (list_any (is_file_of name) files) (list_any (is_file_of name) before) apart ((named name).0 there) in
          (both.0, behind before file name ∙ both.1)),
      (λ h.
          let now : (list_any (is_file_of name) before || is_file_of name file) ≡ false = sym (behind before file name) ∙ h.1 in
          let there = (named name).1 (goes_back (is_file_of name file) (list_any (is_file_of name) files) (list_any (is_file_of name) before) (h.0, now)) in
          let c = from_map name_of contents name there in
          let apart : is_file_of c.0.name file ≡ false = ap (λ (n : List ℕ). is_file_of n file) c.2 ∙ not_named (is_file_of name file) (list_any (is_file_of name) before) now in
          let kept = kept_in (is_other of) contents c.0 c.1 (still_other c.0 apart) in
          subst (λ (n : List ℕ). Contains (map name_of (filter (is_other of) contents)) n) c.2 (contains_map name_of (filter (is_other of) contents) c.0 kept)),
    )

sized_rest : (file : FileAt) (files : List FileAt) (contents : List Carried) → AreSized (file ∷ files) contents → AreSized files contents
sized_rest file files contents sized c f size h g is = sized c f size h (contains_rest file f files g) is

sized_kept : (p : Carried → Bool) (files : List FileAt) (contents : List Carried) → AreSized files contents → AreSized files (filter p contents)
sized_kept p files contents sized c f size h g is = sized c f size (kept_from p contents c h).0 g is

same_size : (size : ℕ) (name other : List ℕ) → name ≡ other → (size == size && bytes_eq name other) ≡ true
same_size size name other same = both (size == size) (bytes_eq name other) (equal_itself size) ((bytes_eq-Decides name other).1 same)
  where
    equal_itself : (n : ℕ) → (n == n) ≡ true
    equal_itself n = grind (arith, nat_tests)

-- one file more, where what comes behind it is weighed
module _ (before : List FileAt) (file : FileAt) (files : List FileAt) (contents : List Carried) (distinct : AreDistinct contents) (named : AreNamed before (file ∷ files) contents) (sized : AreSized (file ∷ files) contents)
    (rest : (cs : List Carried) → AreDistinct cs → AreNamed (before ++ file ∷ []) files cs → AreSized files cs → sum_by weight cs ≡ contents_length (before ++ file ∷ []) files) where
  nothing : ((name : List ℕ) → is_file_of name file ≡ true → list_any (is_file_of name) before ≡ true) → sum_by weight contents ≡ 0 + contents_length (before ++ file ∷ []) files
  nothing known =
      rest contents distinct (same_named before file files contents named known) (sized_rest file files contents sized)
      ∙ sym (zero-add (contents_length (before ++ file ∷ []) files))

  not_a_file : ((name : List ℕ) → is_file_of name file ≡ false) → sum_by weight contents ≡ 0 + contents_length (before ++ file ∷ []) files
  not_a_file none = nothing (λ name is. absurd (cc (none name, is)))

  of_file : (size : ℕ) (name : List ℕ) → ((other : List ℕ) → is_file_of other file ≡ bytes_eq name other) → ((c : Carried) → c.name ≡ name → has_name_and_size c.name size file.rec ≡ true)
      → (b : Bool) → list_any (is_file_of name) before ≡ b → sum_by weight contents ≡ cond b 0 (25 + size) + contents_length (before ++ file ∷ []) files
  of_file size name is has true known =
      nothing (λ other there.
      let same : name ≡ other = (bytes_eq-Decides name other).0 (sym (is other) ∙ there) in
      ap (λ (n : List ℕ). list_any (is_file_of n) before) (sym same) ∙ known)
  of_file size name is has false known =
      let own : is_file_of name file ≡ true = is name ∙ (bytes_eq-Decides name name).1 refl in
      let there = (named name).1 (ap (λ (b : Bool). b || list_any (is_file_of name) files) own, known) in
      let c = from_map name_of contents name there in
      let long : length c.0.bytes ≡ size = sized c.0 file size c.1 (contains_first file files) (has c.0 c.2) in
      let less = without name contents c.0 distinct c.1 c.2 in
      let others = rest (filter (is_other name) contents) (AllPairs-filter (λ (c d : Carried). c.name ≢ d.name) (is_other name) contents distinct)
      (others_named before file files contents named name is) (sized_kept (is_other name) files contents (sized_rest file files contents sized)) in
      omega (arith, long, less, others)

  one_file : (rec : FileRec) → file.rec ≡ rec → sum_by weight contents ≡ content_length before rec + contents_length (before ++ file ∷ []) files
  one_file (Dir mode owner) is = not_a_file (λ name. ap (is_content name) is)
  one_file (Link target) is = not_a_file (λ name. ap (is_content name) is)
  one_file (File mode owner flags size name) is =
      of_file size name (λ other. ap (is_content other) is)
      (λ c same. ap (has_name_and_size c.name size) is ∙ same_size size name c.name (sym same))
      (list_any (is_file_of name) before) refl

pub weighed : (before files : List FileAt) (contents : List Carried) → AreDistinct contents → AreNamed before files contents → AreSized files contents → sum_by weight contents ≡ contents_length before files
weighed before [] [] distinct named sized = refl
weighed before [] (c ∷ contents) distinct named sized =
    let none = (named c.name).0 (contains_map name_of (c ∷ contents) c (contains_first c contents)) in
    absurd (cc (none.0))
weighed before (file ∷ files) contents distinct named sized =
    one_file before file files contents distinct named sized (λ cs d n s. weighed (before ++ file ∷ []) files cs d n s) file.rec refl
