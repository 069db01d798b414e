-- The first lines, and what they say.
use Rattle.std.proofs.Common.{◌≡◌, ◌⊎◌, inl, inr, ⊎_elim, ℕ, zero, suc, ◌+◌, ◌<◌, true, List, [], ◌∷◌, ◌++◌, length, map, flat_map, take, get_or, refl, sym, ap, subst, ◌∙◌, append_assoc, append-nil, arith, codes}
use Rattle.std.specs.Prelude.{All, Contains}
use Rattle.std.specs.BTreeSet.{insert_key}
use Rattle.std.specs.Cmp.Lexicographic.{slice_cmp}
use Rattle.std.specs.List.Sorted.{IsStrictlySortedBy}
use Rattle.std.specs.Ordering.{nat_cmp, ordering_then, match_ordering}
use Rattle.std.specs.declared.cmp.Ordering.{Ordering}
use Rattle.std.specs.declared.cmp.Ordering.TheVariants.{Less, Equal, Greater}
use Rattle.std.proofs.lemmas.Grind.{flat_map-append}
use Rattle.std.proofs.lemmas.List.{take_more, map-append}
use Rattle.std.proofs.lemmas.List.Elements.{All-nil, All-cons, All-head, All-tail, All-map, All-push, All-weaker, Contains-append_left, Contains-push}
use Rattle.std.proofs.lemmas.Map.Views.{All-insert_key}
use Rattle.cny_dep.specs.Dep.{Dependency, IsDependency, dep_text}
use Rattle.cny_dep.specs.Order.{dep_cmp}
use Rattle.cny_dep.proofs.DepParts.{one_dep, canonical_relaxed}
use Rattle.std.specs.Str.{IsUtf8, is_utf8}
use Rattle.std.proofs.lemmas.Str.{is_utf8-from_IsUtf8}
use Rattle.manifest_troves.proofs.Names.{tied}
use Rattle.manifest_troves.specs.trove-parts.declared.id.TroveId.{TroveId}
use Rattle.manifest_troves.specs.declared.lines.DepLine.{DepLine}
use Rattle.cny_manifest.specs.Body.{dep_line_cmp}
use Rattle.cny_manifest.specs.Grammar.{IsDepField}
use Rattle.cny_manifest.specs.Lines.{with_feed}
use Rattle.cny_manifest.specs.Spelling.{IsDepLine, AreDepLines, IsOwnLine, magic_line, name_line, version_line}
use Rattle.cny_pack.specs.Head.{SaysDep, IsSaidBy, SaysOneOf, SaysDeps, HasLine, AreOwn, AreDeps, AddsLines, AddsId, AddsDep, AddsDeps, AddsGiven, IsHead, dep_line_of}
use Rattle.cny_pack.specs.declared.head.DepWords.{DepWords}
use Rattle.cny_pack.specs.declared.head.Words.{Words}
use Rattle.cny_pack.proofs.Planning.{sorted_put}

abbrev pub Pair : Type 0
Pair = List ℕ × Dependency

abbrev pub pair_cmp : Pair → Pair → Ordering
pair_cmp a b = ordering_then (slice_cmp nat_cmp a.0 b.0) (dep_cmp a.1 b.1)

-- ---- elements

here : {A : Type 0} (x : A) (xs : List A) → Contains (x ∷ xs) x
here x xs = (0, omega arith, refl)

there : {A : Type 0} (x y : A) (xs : List A) → Contains xs y → Contains (x ∷ xs) y
there x y xs within = (suc within.0, (let lt = within.1 in omega arith), within.2)

where_is : {A : Type 0} (x y : A) (xs : List A) → Contains (x ∷ xs) y → (x ≡ y) ⊎ Contains xs y
where_is x y xs within = at within.0 within.1 within.2
  where
    at : (i : ℕ) → i < suc (length xs) → get_or (x ∷ xs) i y ≡ y → (x ≡ y) ⊎ Contains xs y
    at zero lt is = inl is
    at (suc i) lt is = inr (i, omega (arith, lt), is)

pub all_back : {A B : Type 0} (f : A → B) (P : B → Type 0) (xs : List A) → All P (map f xs) → All (λ x. P (f x)) xs
all_back f P [] all = All-nil (λ x. P (f x))
all_back f P (x ∷ xs) all = All-cons (λ y. P (f y)) x xs (All-head P (f x) (map f xs) all) (all_back f P xs (All-tail P (f x) (map f xs) all))

-- ---- a pair that is put among others

still : (keys : List Pair) (k : Pair) (line : DepLine) → Contains (map dep_line_of keys) line → Contains (map dep_line_of (insert_key pair_cmp keys k)) line
still [] k line within = absurd (let lt = within.1 in omega arith)
still (x ∷ xs) k line within = at (pair_cmp k x) (λ later. still xs k line later)
  where
    at : (o : Ordering) → (Contains (map dep_line_of xs) line → Contains (map dep_line_of (insert_key pair_cmp xs k)) line) → Contains (map dep_line_of (match_ordering o (k ∷ x ∷ xs) (x ∷ xs) (x ∷ insert_key pair_cmp xs k))) line
    at Less rest = there (dep_line_of k) line (map dep_line_of (x ∷ xs)) within
    at Equal rest = within
    at Greater rest = ⊎_elim
        (λ is. subst (λ (l : DepLine). Contains (map dep_line_of (x ∷ insert_key pair_cmp xs k)) l) is (here (dep_line_of x) (map dep_line_of (insert_key pair_cmp xs k))))
        (λ later. there (dep_line_of x) line (map dep_line_of (insert_key pair_cmp xs k)) (rest later))
        (where_is (dep_line_of x) line (map dep_line_of xs) within)

-- the only pair that comes neither before nor behind it
same_pair : (a b : Pair) → IsDependency a.1 → IsDependency b.1 → pair_cmp a b ≡ Equal → a ≡ b
same_pair a b first second is = at (slice_cmp nat_cmp a.0 b.0) refl is
  where
    by_text : dep_text a.1 ≡ dep_text b.1 → a.1 ≡ b.1
    by_text same = one_dep (dep_text a.1) a.1 b.1 first second (canonical_relaxed (dep_text a.1) a.1 first refl) (canonical_relaxed (dep_text a.1) b.1 second same)

    at : (o : Ordering) → slice_cmp nat_cmp a.0 b.0 ≡ o → ordering_then o (dep_cmp a.1 b.1) ≡ Equal → a ≡ b
    at Less e is = absurd (cc is)
    at Greater e is = absurd (cc is)
    at Equal e is = ap (λ (n : List ℕ). (n, a.1)) (tied a.0 b.0 e) ∙ ap (λ (d : Dependency). (b.0, d)) (by_text (tied (dep_text a.1) (dep_text b.1) is))

now_there : (keys : List Pair) (k : Pair) → All (λ (p : Pair). IsDependency p.1) keys → IsDependency k.1 → Contains (map dep_line_of (insert_key pair_cmp keys k)) (dep_line_of k)
now_there [] k valid is = here (dep_line_of k) []
now_there (x ∷ xs) k valid is = at (pair_cmp k x) refl (now_there xs k (All-tail (λ (p : Pair). IsDependency p.1) x xs valid) is)
  where
    at : (o : Ordering) → pair_cmp k x ≡ o → Contains (map dep_line_of (insert_key pair_cmp xs k)) (dep_line_of k) → Contains (map dep_line_of (match_ordering o (k ∷ x ∷ xs) (x ∷ xs) (x ∷ insert_key pair_cmp xs k))) (dep_line_of k)
    at Less e rest = here (dep_line_of k) (map dep_line_of (x ∷ xs))
    at Equal e rest =
        subst (λ (p : Pair). Contains (map dep_line_of (x ∷ xs)) (dep_line_of p)) (sym (same_pair k x is (All-head (λ (p : Pair). IsDependency p.1) x xs valid) e))
        (here (dep_line_of x) (map dep_line_of xs))
    at Greater e rest = there (dep_line_of x) (dep_line_of k) (map dep_line_of (insert_key pair_cmp xs k)) rest

-- ---- what was given so far

said_more : (given : List DepWords) (words : DepWords) (line : DepLine) → IsSaidBy given line → IsSaidBy (given ++ words ∷ []) line
said_more given words line said = (said.0, Contains-append_left given (words ∷ []) said.0 said.1, said.2)

pub deps_none : (whole : List ℕ) → AreDeps whole [] []
unfolding IsStrictlySortedBy
deps_none whole = record {
  says = record { each = All-nil (IsSaidBy []); all = All-nil (SaysOneOf []) };
  own = record { valid = All-nil (IsOwnLine whole); rising = tt };
}

pub deps_more : (whole : List ℕ) (given : List DepWords) (words : DepWords) (k : Pair) (keys new : List Pair) → AreDeps whole given keys → SaysDep words (dep_line_of k) → IsOwnLine whole (dep_line_of k) → new ≡ insert_key pair_cmp keys k → IsStrictlySortedBy pair_cmp new
    → AreDeps whole (given ++ words ∷ []) new
deps_more whole given words k keys new are says own is sorted =
    let each : All (λ (p : Pair). IsSaidBy given (dep_line_of p)) keys = all_back dep_line_of (IsSaidBy given) keys are.says.each in
    let more : All (λ (p : Pair). IsSaidBy (given ++ words ∷ []) (dep_line_of p)) keys =
    All-weaker (λ (p : Pair). IsSaidBy given (dep_line_of p)) (λ (p : Pair). IsSaidBy (given ++ words ∷ []) (dep_line_of p)) (λ p. said_more given words (dep_line_of p)) keys each in
    let valid : All (λ (p : Pair). IsDependency p.1) keys = All-weaker (λ (p : Pair). IsSaidBy given (dep_line_of p)) (λ (p : Pair). IsDependency p.1) (λ p said. said.2.dep.valid) keys each in
    let owned : All (λ (p : Pair). IsOwnLine whole (dep_line_of p)) keys = all_back dep_line_of (IsOwnLine whole) keys are.own.valid in
    subst (AreDeps whole (given ++ words ∷ [])) (sym is)
    (record {
      says = record {
        each = All-map (IsSaidBy (given ++ words ∷ [])) dep_line_of (insert_key pair_cmp keys k)
            (All-insert_key pair_cmp k (λ (p : Pair). IsSaidBy (given ++ words ∷ []) (dep_line_of p)) keys more (words, Contains-push given words, says));
        all = All-push (SaysOneOf (map dep_line_of (insert_key pair_cmp keys k))) given words
            (All-weaker (SaysOneOf (map dep_line_of keys)) (SaysOneOf (map dep_line_of (insert_key pair_cmp keys k))) (λ w one. (one.0, still keys k one.0 one.1, one.2)) given are.says.all)
            (dep_line_of k, now_there keys k valid says.dep.valid, says);
      };
      own = record {
        valid = All-map (IsOwnLine whole) dep_line_of (insert_key pair_cmp keys k) (All-insert_key pair_cmp k (λ (p : Pair). IsOwnLine whole (dep_line_of p)) keys owned own);
        rising = sorted_put dep_line_of dep_line_cmp (insert_key pair_cmp keys k) (subst (IsStrictlySortedBy pair_cmp) is sorted);
      };
    })

pub deps_next : (whole : List ℕ) (given : List DepWords) (at : ℕ) (d : DepWords) (k : Pair) (keys new : List Pair) → SaysDep (get_or given at d) (dep_line_of k) → at < length given → AreDeps whole (take at given) keys → IsOwnLine whole (dep_line_of k)
    → new ≡ insert_key pair_cmp keys k → IsStrictlySortedBy pair_cmp new → AreDeps whole (take (at + 1) given) new
deps_next whole given at d k keys new says within are own is sorted =
    subst (λ (l : List DepWords). AreDeps whole l new) (sym (take_more given at d within))
    (deps_more whole (take at given) (get_or given at d) k keys new are says own is sorted)

-- ---- their lines

lines_push : (word : List ℕ) (deps : List DepLine) (texts : List (List ℕ)) (dep : DepLine) (line : List ℕ) → AreDepLines word deps texts → IsDepLine word dep line → AreDepLines word (deps ++ dep ∷ []) (texts ++ line ∷ [])
lines_push word [] [] dep line are is = (is, tt)
lines_push word [] (t ∷ texts) dep line are is = absurd are
lines_push word (d ∷ deps) [] dep line are is = absurd are
lines_push word (d ∷ deps) (t ∷ texts) dep line are is = (are.0, lines_push word deps texts dep line are.1 is)

pub added_on : (old mid new : List ℕ) (texts more : List (List ℕ)) → AddsLines texts old mid → AddsLines more mid new → AddsLines (texts ++ more) old new
added_on old mid new texts more first next =
    next ∙ ap (λ (l : List ℕ). l ++ flat_map with_feed more) first ∙ append_assoc old (flat_map with_feed texts) (flat_map with_feed more)
    ∙ ap (λ (l : List ℕ). old ++ l) (sym (flat_map-append with_feed texts more))

pub added_one : (old new line : List ℕ) → new ≡ old ++ with_feed line → AddsLines (line ∷ []) old new
added_one old new line is = is ∙ ap (λ (l : List ℕ). old ++ l) (sym (append-nil (with_feed line)))

pub written_none : (word text : List ℕ) → AddsDeps word [] text text []
written_none word text = record { texts = []; fit = All-nil (HasLine word); same = refl; are = tt; added = sym (append-nil text) }

pub written_more : (word : List ℕ) (done : List Pair) (pair : Pair) (old mid new : List ℕ) (lines : List DepLine) → AddsDeps word done old mid lines → AddsDep word (dep_line_of pair) mid new
    → AddsDeps word (done ++ pair ∷ []) old new (lines ++ dep_line_of pair ∷ [])
written_more word done pair old mid new lines so_far one = record {
  texts = so_far.texts ++ one.line ∷ [];
  fit = All-push (HasLine word) lines (dep_line_of pair) so_far.fit one.fits;
  same = ap (λ (l : List DepLine). l ++ dep_line_of pair ∷ []) so_far.same ∙ sym (map-append dep_line_of done (pair ∷ []));
  are = lines_push word lines so_far.texts (dep_line_of pair) one.line so_far.are one.is;
  added = added_on old mid new so_far.texts (one.line ∷ []) so_far.added (added_one mid new one.line one.added);
}

-- ---- one line

pub four_parts : (front name text a b c d e : List ℕ) → a ≡ front → b ≡ a ++ 32 ∷ [] → c ≡ b ++ name → d ≡ c ++ 32 ∷ [] → e ≡ d ++ text → e ≡ front ++ 32 ∷ (name ++ 32 ∷ text)
four_parts front name text a b c d e first second third fourth fifth =
    fifth ∙ ap (λ (l : List ℕ). l ++ text) fourth ∙ append_assoc c (32 ∷ []) text
    ∙ ap (λ (l : List ℕ). l ++ 32 ∷ text) third ∙ append_assoc b name (32 ∷ text)
    ∙ ap (λ (l : List ℕ). l ++ (name ++ 32 ∷ text)) second ∙ append_assoc a (32 ∷ []) (name ++ 32 ∷ text)
    ∙ ap (λ (l : List ℕ). l ++ 32 ∷ (name ++ 32 ∷ text)) first

pub dep_field : (text : List ℕ) (dep : Dependency) → IsUtf8 text → text ≡ dep_text dep → IsDependency dep → IsDepField (dep_text dep) dep
dep_field text dep utf8 is valid = record {
  utf8 = ap is_utf8 (sym is) ∙ is_utf8-from_IsUtf8 text utf8;
  valid = valid;
  spelled = canonical_relaxed (dep_text dep) dep valid refl;
}

-- ---- all of them

pub head_is : (words : Words) (first a b c : List ℕ) (id : TroveId) (lines more : List DepLine) → first ≡ with_feed (magic_line true) → AddsId words first a id → AddsGiven id.name (codes "requires") words.requires_.now a b lines
    → AddsGiven id.name (codes "provides") words.provides.now b c more → IsHead words (record { text = c; id = id; requires_ = lines; provides = more })
head_is words first a b c id lines more start adds required provided =
    let one = required.added in
    let two = provided.added in
    let req = required.are in
    let prov = provided.are in
    let front : List (List ℕ) = name_line id.name ∷ version_line words.version.now ∷ adds.flavor in
    let all : AddsLines ((front ++ one.texts) ++ two.texts) first c = added_on first b c (front ++ one.texts) two.texts (added_on first a b front one.texts adds.added one.added) two.added in
    record {
      says = record {
        name = adds.name;
        version = adds.version_is;
        flavor = adds.flavor_says;
        requires_ = subst (SaysDeps words.requires_.now) (sym one.same) req.says;
        provides = subst (SaysDeps words.provides.now) (sym two.same) prov.says;
      };
      lines = record {
        version = words.version.now;
        flavor = adds.flavor;
        required = one.texts;
        provided = two.texts;
        no_group = adds.no_group;
        named = adds.named;
        name_fits = adds.name_fits;
        version_is = adds.version_is;
        version_fits = adds.version_fits;
        flavor_is = adds.flavor_is;
        requires_are = one.are;
        provides_are = two.are;
        requires_own = subst (AreOwn id.name) (sym one.same) req.own;
        provides_own = subst (AreOwn id.name) (sym two.same) prov.own;
        spelled =
            all
            ∙ ap (λ (l : List ℕ). l ++ flat_map with_feed ((front ++ one.texts) ++ two.texts)) start
            ∙ ap (λ (l : List (List ℕ)). flat_map with_feed (magic_line true ∷ name_line id.name ∷ version_line words.version.now ∷ l)) (append_assoc adds.flavor one.texts two.texts);
      };
    }
