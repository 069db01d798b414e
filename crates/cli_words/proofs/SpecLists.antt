-- Which lists of specifications words are.
use Rattle.std.proofs.Common.{◌≡◌, ◌≤◌, ◌<◌, ◌+◌, ◌++◌, List, [], ◌∷◌, ℕ, length, take, drop, get_or, refl, sym, ap, subst, ◌∙◌, arith}
use Rattle.std.proofs.lemmas.List.{take_more, take-append-drop, append_assoc}
use Rattle.trove_spec.specs.declared.given.GivenSpec.{GivenSpec}
use Rattle.cli_words.specs.declared.words.Command.{Command}
use Rattle.cli_words.specs.declared.words.Command.TheVariants as command
use Rattle.cli_words.specs.declared.words.UpdateOptions.{UpdateOptions}
use Rattle.cli_words.specs.Words.{AreGivenSpecs, HasNone, IsGiven, IsOnly, IsUpdateWith}

more : (words : List (List ℕ)) (specs : List GivenSpec) (word : List ℕ) (given : GivenSpec) → AreGivenSpecs words specs → IsGiven word given → AreGivenSpecs (words ++ word ∷ []) (specs ++ given ∷ [])
more [] [] word given are is = (is, tt)
more [] (first ∷ specs) word given are is = absurd are
more (first ∷ words) [] word given are is = absurd are
more (first ∷ words) (one ∷ specs) word given are is = (are.0, more words specs word given are.1 is)

-- the specifications of words, those of another word and those of further ones
record Parted (words : List (List ℕ)) (word : List ℕ) (rest : List (List ℕ)) (specs : List GivenSpec) : Type 0 where
  front : List GivenSpec
  given : GivenSpec
  back : List GivenSpec
  whole : specs ≡ front ++ given ∷ back
  before : AreGivenSpecs words front
  is : IsGiven word given
  after : AreGivenSpecs rest back

parted : (words : List (List ℕ)) (word : List ℕ) (rest : List (List ℕ)) (specs : List GivenSpec) → AreGivenSpecs (words ++ word ∷ rest) specs → Parted words word rest specs
parted [] word rest [] are = absurd are
parted [] word rest (one ∷ specs) are = record { front = []; given = one; back = specs; whole = refl; before = tt; is = are.0; after = are.1 }
parted (first ∷ words) word rest [] are = absurd are
parted (first ∷ words) word rest (one ∷ specs) are =
    let p = parted words word rest specs are.1 in
    record { front = one ∷ p.front; given = p.given; back = p.back; whole = ap (λ (l : List GivenSpec). one ∷ l) p.whole; before = (are.0, p.before); is = p.is; after = p.after }

none_left : (specs : List GivenSpec) → AreGivenSpecs [] specs → specs ≡ []
none_left [] are = refl
none_left (one ∷ specs) are = absurd are

same_more : (specs front back other : List GivenSpec) (given part : GivenSpec) → specs ≡ front → given ≡ part → back ≡ [] → other ≡ front ++ part ∷ back → specs ++ given ∷ [] ≡ other
same_more specs front back other given part s g b o =
    ap (λ (l : List GivenSpec). l ++ given ∷ []) s
    ∙ (ap (λ (x : GivenSpec). front ++ x ∷ []) g
    ∙ (ap (λ (l : List GivenSpec). front ++ part ∷ l) (sym b)
    ∙ sym o))

only_more : (words : List (List ℕ)) (specs : List GivenSpec) (word : List ℕ) (given : GivenSpec) → IsOnly (AreGivenSpecs words) specs → IsOnly (IsGiven word) given → IsOnly (AreGivenSpecs (words ++ word ∷ [])) (specs ++ given ∷ [])
only_more words specs word given one last = record {
  is = more words specs word given one.is last.is;
  only = λ other are.
      let p = parted words word [] other are in
      same_more specs p.front p.back other given p.given (one.only p.front p.before) (last.only p.given p.is) (none_left p.back p.after) p.whole;
}

-- no words are no specifications
pub none_only : IsOnly (AreGivenSpecs []) []
none_only = record { is = tt; only = λ other are. sym (none_left other are) }

-- the words up to a place, with the one that stands there
pub one_more : (words : List (List ℕ)) (i : ℕ) (word : List ℕ) (specs : List GivenSpec) (given : GivenSpec) → i < length words → word ≡ get_or words i word
    → IsOnly (AreGivenSpecs (take i words)) specs → IsOnly (IsGiven word) given → IsOnly (AreGivenSpecs (take (i + 1) words)) (specs ++ given ∷ [])
one_more words i word specs given within here one last =
    let longer : take (i + 1) words ≡ take i words ++ word ∷ [] = take_more words i word within ∙ ap (λ (w : List ℕ). take i words ++ w ∷ []) (sym here) in
    subst (λ (l : List (List ℕ)). IsOnly (AreGivenSpecs l) (specs ++ given ∷ [])) (sym longer) (only_more (take i words) specs word given one last)

-- the specification of the word at a place
pub part_of : (words : List (List ℕ)) (i : ℕ) (word : List ℕ) → i < length words → word ≡ get_or words i word
    → (specs : List GivenSpec) → AreGivenSpecs words specs → (given : GivenSpec) × IsGiven word given
part_of words i word within here specs are =
    let rest = drop (i + 1) words in
    let longer : take (i + 1) words ≡ take i words ++ word ∷ [] = take_more words i word within ∙ ap (λ (w : List ℕ). take i words ++ w ∷ []) (sym here) in
    let whole : words ≡ take i words ++ (word ∷ rest) = sym (take-append-drop (i + 1) words) ∙ (ap (λ (l : List (List ℕ)). l ++ rest) longer ∙ append_assoc (take i words) (word ∷ []) rest) in
    let p = parted (take i words) word rest specs (subst (λ (l : List (List ℕ)). AreGivenSpecs l specs) whole are) in
    (p.given, p.is)

-- ---- `update`

pub no_update_of_none : (options : UpdateOptions) (words : List (List ℕ)) → length words ≡ 0 → HasNone (IsUpdateWith options words)
no_update_of_none options words none = record { none = λ c is. let some : 1 ≤ length words = is.given.some in absurd (omega arith) }

pub no_update_of_many : (options : UpdateOptions) (words : List (List ℕ)) → 65 ≤ length words → HasNone (IsUpdateWith options words)
no_update_of_many options words many = record { none = λ c is. let few : length words ≤ 64 = is.given.few in absurd (omega arith) }

pub specs_part : (options : UpdateOptions) (words : List (List ℕ)) (c : Command) → IsUpdateWith options words c → (specs : List GivenSpec) × AreGivenSpecs words specs
specs_part options words c is = (is.specs, is.given.given)

same_update : (options : UpdateOptions) (specs other : List GivenSpec) → specs ≡ other → command.Update specs options.job options.resolve ≡ command.Update other options.job options.resolve
same_update options specs other same = ap (λ (l : List GivenSpec). command.Update l options.job options.resolve) same

pub update_only : (options : UpdateOptions) (words : List (List ℕ)) (specs : List GivenSpec) → 1 ≤ length words → length words ≤ 64 → IsOnly (AreGivenSpecs words) specs → IsOnly (IsUpdateWith options words) (command.Update specs options.job options.resolve)
update_only options words specs some few one = record {
  is = record { specs = specs; is = refl; given = record { some = some; few = few; given = one.is } };
  only = λ c is. same_update options specs is.specs (one.only is.specs is.given.given) ∙ sym is.is;
}
