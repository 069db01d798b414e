-- Which commands words are that hold specifications.
use Rattle.std.proofs.Common.{◌≡◌, ◌≤◌, List, [], ◌∷◌, ℕ, length, true, false, Option, Some, None, refl, sym, ap, ◌∙◌, arith}
use Rattle.std.proofs.lemmas.Bool.{false≢true}
use Rattle.cny_version.specs.Label.{LabelParts}
use Rattle.repo_shadow.specs.declared.way.Way.{Way}
use Rattle.trove_spec.specs.declared.spec.Spec.{Spec}
use Rattle.trove_spec.specs.Spec.{IsSpecText}
use Rattle.trove_spec.specs.declared.given.GivenSpec.{GivenSpec}
use Rattle.cli_words.specs.declared.words.Command.{Command}
use Rattle.cli_words.specs.declared.words.Command.TheVariants as command
use Rattle.cli_words.specs.Words.{HasNone, IsOnly, is_short_word, IsGiven, IsLabelWord, AreSpecs, IsSend, IsMove}

-- ---- a specification with its text

pub given_part : (word : List ℕ) (given : GivenSpec) → IsGiven word given → (spec : Spec) × IsSpecText word spec
given_part word given is = (given.spec, is.spelled)

same_given : (spec other : Spec) (text given : List ℕ) → spec ≡ other → text ≡ given → ◌≡◌ {A = GivenSpec} (record { spec = spec; text = text }) (record { spec = other; text = given })
same_given spec other text given s t =
    let first : ◌≡◌ {A = GivenSpec} (record { spec = spec; text = text }) (record { spec = other; text = text }) = ap (λ (x : Spec). let made : GivenSpec = record { spec = x; text = text } in made) s in
    let second : ◌≡◌ {A = GivenSpec} (record { spec = other; text = text }) (record { spec = other; text = given }) = ap (λ (x : List ℕ). let made : GivenSpec = record { spec = other; text = x } in made) t in
    first ∙ second

pub given_only : (word : List ℕ) (spec : Spec) (text : List ℕ) → is_short_word word ≡ true → IsOnly (IsSpecText word) spec → text ≡ word → IsOnly (IsGiven word) (record { spec = spec; text = text })
given_only word spec text short one same = record {
  is = record { short = short; spelled = one.is; text_is = same };
  only = λ other is. same_given spec other.spec text other.text (one.only other.spec is.spelled) (same ∙ sym is.text_is);
}

-- a word that is too long is none
pub no_given : (word : List ℕ) → is_short_word word ≡ false → HasNone (IsGiven word)
no_given word long = record { none = λ given is. false≢true (sym long ∙ is.short) }

-- ---- `changeset`

same_send : (from from' : Option GivenSpec) (to to' : GivenSpec) → from ≡ from' → to ≡ to' → command.SendChanges from to ≡ command.SendChanges from' to'
same_send from from' to to' f t = ap (λ (x : Option GivenSpec). command.SendChanges x to) f ∙ ap (λ (x : GivenSpec). command.SendChanges from' x) t

no_specs_of_more : (word other more : List ℕ) (words : List (List ℕ)) (from : Option GivenSpec) (to : GivenSpec) → AreSpecs (word ∷ other ∷ more ∷ words) from to → ⊥
no_specs_of_more word other more words None to are = are
no_specs_of_more word other more words (Some from) to are = are

pub no_long_send : (words : List (List ℕ)) → 3 ≤ length words → HasNone (IsSend words)
no_long_send [] long = absurd (omega arith)
no_long_send (word ∷ []) long = absurd (omega arith)
no_long_send (word ∷ other ∷ []) long = absurd (omega arith)
no_long_send (word ∷ other ∷ more ∷ words) long = record { none = λ c sends. no_specs_of_more word other more words sends.from sends.to sends.specs }

-- one specification
whole_given : (word : List ℕ) (from : Option GivenSpec) (to : GivenSpec) → AreSpecs (word ∷ []) from to → (from ≡ None) × IsGiven word to
whole_given word None to are = (refl, are)
whole_given word (Some from) to are = absurd are

pub whole_part : (word : List ℕ) (c : Command) → IsSend (word ∷ []) c → (given : GivenSpec) × IsGiven word given
whole_part word c sends = let w = whole_given word sends.from sends.to sends.specs in (sends.to, w.1)

pub whole_only : (word : List ℕ) (to : GivenSpec) → IsOnly (IsGiven word) to → IsOnly (IsSend (word ∷ [])) (command.SendChanges None to)
whole_only word to one = record {
  is = record { from = None; to = to; is = refl; specs = one.is };
  only = λ c sends.
      let w = whole_given word sends.from sends.to sends.specs in same_send None sends.from to sends.to (sym w.0) (one.only sends.to w.1) ∙ sym sends.is;
}

-- two of them
between_given : (word other : List ℕ) (from : Option GivenSpec) (to : GivenSpec) → AreSpecs (word ∷ other ∷ []) from to → (first : GivenSpec) × (from ≡ Some first) × IsGiven word first × IsGiven other to
between_given word other None to are = absurd are
between_given word other (Some first) to are = (first, refl, are.0, are.1)

pub from_part : (word other : List ℕ) (c : Command) → IsSend (word ∷ other ∷ []) c → (given : GivenSpec) × IsGiven word given
from_part word other c sends = let p = between_given word other sends.from sends.to sends.specs in (p.0, p.2)

pub to_part : (word other : List ℕ) (c : Command) → IsSend (word ∷ other ∷ []) c → (given : GivenSpec) × IsGiven other given
to_part word other c sends = let p = between_given word other sends.from sends.to sends.specs in (sends.to, p.3)

pub between_only : (word other : List ℕ) (from to : GivenSpec) → IsOnly (IsGiven word) from → IsOnly (IsGiven other) to → IsOnly (IsSend (word ∷ other ∷ [])) (command.SendChanges (Some from) to)
between_only word other from to first second = record {
  is = record { from = Some from; to = to; is = refl; specs = (first.is, second.is) };
  only = λ c sends.
      let p = between_given word other sends.from sends.to sends.specs in
      same_send (Some from) sends.from to sends.to (ap (λ (x : GivenSpec). Some x) (first.only p.0 p.2) ∙ sym p.1) (second.only sends.to p.3) ∙ sym sends.is;
}

-- ---- `shadow` and `branch`

same_move : (onto : Way) (label label' : LabelParts) (given given' : GivenSpec) → label ≡ label' → given ≡ given' → command.Move onto label given ≡ command.Move onto label' given'
same_move onto label label' given given' l g = ap (λ (x : LabelParts). command.Move onto x given) l ∙ ap (λ (x : GivenSpec). command.Move onto label' x) g

pub label_part : (onto : Way) (word other : List ℕ) (c : Command) → IsMove onto (word ∷ other ∷ []) c → (label : LabelParts) × IsLabelWord word label
label_part onto word other c moves = (moves.label, moves.both.0)

pub spec_part : (onto : Way) (word other : List ℕ) (c : Command) → IsMove onto (word ∷ other ∷ []) c → (given : GivenSpec) × IsGiven other given
spec_part onto word other c moves = (moves.given, moves.both.1)

pub move_only : (onto : Way) (word other : List ℕ) (label : LabelParts) (given : GivenSpec) → IsOnly (IsLabelWord word) label → IsOnly (IsGiven other) given → IsOnly (IsMove onto (word ∷ other ∷ [])) (command.Move onto label given)
move_only onto word other label given first second = record {
  is = record { label = label; given = given; is = refl; both = (first.is, second.is) };
  only = λ c moves. same_move onto label moves.label given moves.given (first.only moves.label moves.both.0) (second.only moves.given moves.both.1) ∙ sym moves.is;
}

pub no_long_move : (onto : Way) (words : List (List ℕ)) → 3 ≤ length words → HasNone (IsMove onto words)
no_long_move onto [] long = absurd (omega arith)
no_long_move onto (word ∷ []) long = absurd (omega arith)
no_long_move onto (word ∷ other ∷ []) long = absurd (omega arith)
no_long_move onto (word ∷ other ∷ more ∷ words) long = record { none = λ c moves. moves.both }
