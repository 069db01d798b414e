-- An index with one note more.
use Rattle.std.proofs.Common.{◌≡◌, ℕ, ◌+◌, ◌<◌, Bool, true, false, cond, IsTrue, List, length, get_or, take, Option, Some, None, String, All, refl, sym, ap, ◌∙◌, subst, true≢false}
use Rattle.std.specs.BTreeMap.{BTreeMap, get_by_text}
use Rattle.std.specs.BTreeSet.{BTreeSet, contains}
use Rattle.std.specs.Cmp.Lexicographic.{slice_cmp}
use Rattle.std.specs.Map.{update}
use Rattle.std.specs.Option.{option_map_or}
use Rattle.std.specs.Ordering.{nat_cmp}
use Rattle.std.specs.Str.{bytes_eq}
use Rattle.std.proofs.lemmas.List.Elements.{All-more, All-weaker}
use Rattle.cny_dep.specs.Dep.{Dependency}
use Rattle.trove_stream.specs.declared.parts.TroveParts.{TroveParts}
use Rattle.dep_closure.specs.Slots.{notes, IsNoted}
use Rattle.trove_stream.proofs.cny-base.ByteLists.{bytes_itself, bytes_mean}

-- whether a name is in the set that stands there, if one does
abbrev is_in : Option (BTreeSet (List ℕ)) → List ℕ → Bool
is_in o name = option_map_or (λ (names : BTreeSet (List ℕ)). contains (slice_cmp nat_cmp) names name) o false

module _ {Y : Type 0} (old new : BTreeMap (String Y) (BTreeSet (List ℕ))) (dep : List ℕ) (names : BTreeSet (List ℕ))
    (updated : (other : List ℕ) → get_by_text new other ≡ update bytes_eq (get_by_text old) dep (Some names) other) where
  at_other : (other name : List ℕ) → bytes_eq dep other ≡ false → notes new other name ≡ notes old other name
  at_other other name is = ap (λ (o : Option (BTreeSet (List ℕ))). is_in o name) (updated other ∙ ap (λ (b : Bool). cond b (Some names) (get_by_text old other)) is)

  at_same : (other name : List ℕ) → bytes_eq dep other ≡ true → notes new other name ≡ contains (slice_cmp nat_cmp) names name
  at_same other name is = ap (λ (o : Option (BTreeSet (List ℕ))). is_in o name) (updated other ∙ ap (λ (b : Bool). cond b (Some names) (get_by_text old other)) is)

  -- a set that keeps its names keeps what is noted
  pub notes_kept : (before : BTreeSet (List ℕ)) → get_by_text old dep ≡ Some before
      → ((name : List ℕ) → IsTrue (contains (slice_cmp nat_cmp) before name) → IsTrue (contains (slice_cmp nat_cmp) names name))
      → (other name : List ℕ) → IsTrue (notes old other name) → IsTrue (notes new other name)
  notes_kept before was kept other name noted = at (bytes_eq dep other) refl
    where
      at : (b : Bool) → bytes_eq dep other ≡ b → IsTrue (notes new other name)
      at true is =
          let there : notes old other name ≡ contains (slice_cmp nat_cmp) before name = ap (λ (o : Option (BTreeSet (List ℕ))). is_in o name) (ap (get_by_text old) (sym (bytes_mean dep other is)) ∙ was) in
          at_same other name is ∙ kept name (sym there ∙ noted)
      at false is = at_other other name is ∙ noted

  -- a set where none was keeps what is noted
  pub notes_added : get_by_text old dep ≡ None → (other name : List ℕ) → IsTrue (notes old other name) → IsTrue (notes new other name)
  notes_added was other name noted = at (bytes_eq dep other) refl
    where
      at : (b : Bool) → bytes_eq dep other ≡ b → IsTrue (notes new other name)
      at true is =
          let nothing : notes old other name ≡ false = ap (λ (o : Option (BTreeSet (List ℕ))). is_in o name) (ap (get_by_text old) (sym (bytes_mean dep other is)) ∙ was) in
          absurd (true≢false (sym noted ∙ nothing))
      at false is = at_other other name is ∙ noted

  pub notes_own : (name : List ℕ) → IsTrue (contains (slice_cmp nat_cmp) names name) → IsTrue (notes new dep name)
  notes_own name there = at_same dep name (bytes_itself dep) ∙ there

-- ---- one dependency after another

-- a trove was noted for these dependencies so far
pub record NotedSoFar {Y : Type 0} (old new : BTreeMap (String Y) (BTreeSet (List ℕ))) (name : List ℕ) (deps : List Dependency) : Type 0 where
  pub noted : IsNoted new name deps
  pub kept : (dep other : List ℕ) → IsTrue (notes old dep other) → IsTrue (notes new dep other)

pub still_noted : {Y : Type 0} (old new : BTreeMap (String Y) (BTreeSet (List ℕ))) → ((dep other : List ℕ) → IsTrue (notes old dep other) → IsTrue (notes new dep other))
    → (name : List ℕ) (deps : List Dependency) → IsNoted old name deps → IsNoted new name deps
still_noted old new kept name deps noted = All-weaker (λ (d : Dependency). IsTrue (notes old d.name name)) (λ (d : Dependency). IsTrue (notes new d.name name)) (λ d h. kept d.name name h) deps noted

pub noted_more : {Y : Type 0} (first old new : BTreeMap (String Y) (BTreeSet (List ℕ))) (name : List ℕ) (deps : List Dependency) (i : ℕ) (dep : Dependency) → i < length deps → dep ≡ get_or deps i dep
    → NotedSoFar first old name (take i deps) → ((dep other : List ℕ) → IsTrue (notes old dep other) → IsTrue (notes new dep other)) → IsTrue (notes new dep.name name)
    → NotedSoFar first new name (take (i + 1) deps)
noted_more first old new name deps i dep within is so_far kept own = record {
  noted = All-more (λ (d : Dependency). IsTrue (notes new d.name name)) deps i dep within (still_noted old new kept name (take i deps) so_far.noted)
      (subst (λ (d : Dependency). IsTrue (notes new d.name name)) is own);
  kept = λ d other h. kept d other (so_far.kept d other h);
}

-- these troves were noted so far, each for some dependencies of its own
pub record AllNotedSoFar {Y : Type 0} (deps : TroveParts → List Dependency) (old new : BTreeMap (String Y) (BTreeSet (List ℕ))) (list : List TroveParts) : Type 0 where
  pub noted : All (λ (t : TroveParts). IsNoted new t.id.name (deps t)) list
  pub kept : (dep other : List ℕ) → IsTrue (notes old dep other) → IsTrue (notes new dep other)

pub all_noted_more : {Y : Type 0} (deps : TroveParts → List Dependency) (first old new : BTreeMap (String Y) (BTreeSet (List ℕ))) (list : List TroveParts) (i : ℕ) (t : TroveParts) → i < length list → t ≡ get_or list i t
    → AllNotedSoFar deps first old (take i list) → ((dep other : List ℕ) → IsTrue (notes old dep other) → IsTrue (notes new dep other)) → IsNoted new t.id.name (deps t)
    → AllNotedSoFar deps first new (take (i + 1) list)
all_noted_more deps first old new list i t within is so_far kept own = record {
  noted = All-more (λ (u : TroveParts). IsNoted new u.id.name (deps u)) list i t within
      (All-weaker (λ (u : TroveParts). IsNoted old u.id.name (deps u)) (λ (u : TroveParts). IsNoted new u.id.name (deps u)) (λ u h. still_noted old new kept u.id.name (deps u) h) (take i list) so_far.noted)
      (subst (λ (u : TroveParts). IsNoted new u.id.name (deps u)) is own);
  kept = λ d other h. kept d other (so_far.kept d other h);
}

-- ---- what an index says

pub noted_in : {Y : Type 0} (index : BTreeMap (String Y) (BTreeSet (List ℕ))) (dep name : List ℕ) (names : BTreeSet (List ℕ)) → get_by_text index dep ≡ Some names
    → IsTrue (notes index dep name) → IsTrue (contains (slice_cmp nat_cmp) names name)
noted_in index dep name names there noted = sym (ap (λ (o : Option (BTreeSet (List ℕ))). is_in o name) there) ∙ noted

pub noted_nowhere : {Y : Type 0} (index : BTreeMap (String Y) (BTreeSet (List ℕ))) (dep name : List ℕ) → get_by_text index dep ≡ None → IsTrue (notes index dep name) → ⊥
noted_nowhere index dep name there noted = absurd (true≢false (sym noted ∙ ap (λ (o : Option (BTreeSet (List ℕ))). is_in o name) there))
