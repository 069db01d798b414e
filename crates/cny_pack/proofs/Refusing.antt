-- Which words are refused.
use Rattle.std.proofs.Common.{◌≡◌, ◌<◌, ℕ, List, ◌∷◌, ◌++◌, length, map, get_or, refl, sym, ap, subst, ◌∙◌, arith}
use Rattle.std.specs.Prelude.{All, Contains}
use Rattle.std.proofs.lemmas.List.{get_or_default}
use Rattle.std.proofs.lemmas.List.Elements.{All-contains, All-weaker, Contains-append_right}
use Rattle.cny_dep.specs.Dep.{Dependency}
use Rattle.cny_dep.proofs.DepParts.{one_dep}
use Rattle.manifest_troves.specs.declared.lines.DepLine.{DepLine}
use Rattle.cny_manifest.specs.Spelling.{IsOwnLine}
use Rattle.cny_pack.specs.Causes.{CanOwn, CanDep, HasBadDep}
use Rattle.cny_pack.specs.Head.{SaysDep, IsSaidBy, SaysOneOf, HasLine, AddsGiven, dep_line_of}
use Rattle.cny_pack.specs.declared.head.DepWords.{DepWords}
use Rattle.cny_pack.proofs.Heading.{Pair, all_back}

-- words say one line at most
one_line : (words : DepWords) (a b : DepLine) → SaysDep words a → SaysDep words b → a ≡ b
one_line words a b first next =
    let names : a.name ≡ b.name = first.name ∙ sym next.name in
    let deps : a.dep ≡ b.dep = one_dep words.dep.now a.dep b.dep first.dep.valid next.dep.valid first.dep.spelled next.dep.spelled in
    ap (λ (n : List ℕ). dep_line_of (n, a.dep)) names ∙ ap (λ (d : Dependency). dep_line_of (b.name, d)) deps

-- a line that is too long is that of words that were given
pub said_long : (word whole : List ℕ) (given : List DepWords) (deps : List Pair) (pair : Pair) → All (IsSaidBy given) (map dep_line_of deps) → Contains deps pair → (HasLine word (dep_line_of pair) → ⊥) → HasBadDep word whole given
said_long word whole given deps pair said within long =
    let by = All-contains (λ (p : Pair). IsSaidBy given (dep_line_of p)) deps pair (all_back dep_line_of (IsSaidBy given) deps said) within in
    (by.0, by.1, λ can. long (subst (HasLine word) (one_line by.0 can.line (dep_line_of pair) can.says by.2) can.fits))

pub own_first : (word whole : List ℕ) (words : DepWords) → (CanOwn whole words → ⊥) → CanDep word whole words → ⊥
own_first word whole words none can = none (record { line = can.line; says = can.says; own = can.own })

pub given_can : (word whole : List ℕ) (given : List DepWords) (old new : List ℕ) (lines : List DepLine) → AddsGiven whole word given old new lines → All (CanDep word whole) given
given_can word whole given old new lines adds =
    let all : List DepLine = map dep_line_of adds.deps in
    All-weaker (SaysOneOf all) (CanDep word whole)
    (λ words one. record {
      line = one.0;
      says = one.2;
      own = All-contains (IsOwnLine whole) all one.0 adds.are.own.valid one.1;
      fits = All-contains (HasLine word) all one.0 (subst (λ (l : List DepLine). All (HasLine word) l) adds.added.same adds.added.fit) one.1;
    })
    given adds.are.says.all

-- the one at this place can't be so
pub bad_at : (whole : List ℕ) (given : List DepWords) (at : ℕ) (d : DepWords) → at < length given → (CanOwn whole (get_or given at d) → ⊥) → (words : DepWords) × Contains given words × (CanOwn whole words → ⊥)
bad_at whole given at d within none = (get_or given at d, (at, within, get_or_default given at (get_or given at d) d within), none)

-- what is left of a list begins with an element of it
pub begins_rest : {A : Type 0} (done left rest all : List A) (x : A) → done ++ left ≡ all → left ≡ x ∷ rest → Contains all x
begins_rest {A} done left rest all x whole is =
    subst (λ (l : List A). Contains l x) (ap (λ (l : List A). done ++ l) (sym is) ∙ whole) (Contains-append_right done (x ∷ rest) x (0, omega arith, refl))
