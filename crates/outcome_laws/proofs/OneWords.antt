-- Words are one thing at most, and call one.
use Rattle.std.proofs.Common.{◌≡◌, ◌⊎◌, inl, inr, ℕ, Bool, true, false, codes, List, [], ◌∷◌, Option, Some, None, Result, Ok, Err, refl, sym, ap, ◌∙◌}
use Rattle.std.specs.Prelude.{if◌then◌else◌}
use Rattle.std.specs.Str.{bytes_eq}
use Rattle.cny_version.specs.Label.{LabelParts}
use Rattle.repo_shadow.specs.declared.way.Way.{Way}
use Rattle.repo_shadow.specs.declared.way.Way.TheVariants as way
use Rattle.trove_spec.specs.declared.given.GivenSpec.{GivenSpec}
use Rattle.trove_spec.proofs.OneConfig.{OneLabel}
use Rattle.conary_cli.specs.cli-call.cny-laws.declared.failure.Failure.{Failure}
use Rattle.conary_cli.specs.cli-words.declared.words.Command.{Command}
use Rattle.conary_cli.specs.cli-words.declared.words.Command.TheVariants as command
use Rattle.conary_cli.specs.cli-words.Calls.{as_call, batch_of, demo_of, AreCall, AreOfKind, IsSingle}
use Rattle.conary_cli.specs.cli-words.Words.{is_input, update_options_at, AreGivenSpecs, AreLabelAndSpec, AreOfForm, AreSpecs, AreWords, IsGiven, IsMove, IsOrUsage, IsSend, IsUpdate}
use Rattle.outcome_laws.specs.OneOutcome.{AtMostOne}
use Rattle.outcome_laws.proofs.OneSpec.{spec_once}

-- what holds of one of three, by two tests, holds of the one or of another
pub cases_if : {K : Type 0} (Holds : K → Type 0) {x y z : K} (a b : Bool) → Holds (if a then x else (if b then y else z)) → Holds x ⊎ (Holds y ⊎ Holds z)
cases_if Holds true b h = inl h
cases_if Holds false true h = inr (inl h)
cases_if Holds false false h = inr (inr h)

-- what holds of one of two, by a test, leads on from each of them
split_if : {K A : Type 0} (Holds : K → Type 0) {x y : K} (b : Bool) → Holds (if b then x else y) → (Holds x → A) → (Holds y → A) → A
split_if Holds true h first second = first h
split_if Holds false h first second = second h

module _ (one_label : OneLabel) where
  given_once : (word : List ℕ) → AtMostOne (IsGiven word)
  given_once word a b h g =
      let specs = spec_once one_label word a.spec b.spec h.spelled g.spelled in
      let texts : a.text ≡ b.text = h.text_is ∙ sym g.text_is in
      λ i. record { spec = specs i; text = texts i }

  -- ---- `changeset`

  both_once : (words : List (List ℕ)) (from other : Option GivenSpec) (to more : GivenSpec) → AreSpecs words from to → AreSpecs words other more → (from ≡ other) × (to ≡ more)
  both_once [] None other to more h g = absurd h
  both_once [] (Some from) other to more h g = absurd h
  both_once (word ∷ []) None None to more h g = (refl, given_once word to more h g)
  both_once (word ∷ []) None (Some other) to more h g = absurd g
  both_once (word ∷ []) (Some from) other to more h g = absurd h
  both_once (word ∷ second ∷ []) None other to more h g = absurd h
  both_once (word ∷ second ∷ []) (Some from) None to more h g = absurd g
  both_once (word ∷ second ∷ []) (Some from) (Some other) to more h g = (ap (λ (x : GivenSpec). Some x) (given_once word from other h.0 g.0), given_once second to more h.1 g.1)
  both_once (word ∷ second ∷ third ∷ words) None other to more h g = absurd h
  both_once (word ∷ second ∷ third ∷ words) (Some from) other to more h g = absurd h

  send_once : (words : List (List ℕ)) → AtMostOne (IsSend words)
  send_once words a b h g =
      let both = both_once words h.from g.from h.to g.to h.specs g.specs in
      h.is ∙ ap (λ (x : Option GivenSpec). command.SendChanges x h.to) both.0 ∙ ap (λ (x : GivenSpec). command.SendChanges g.from x) both.1 ∙ sym g.is

  -- ---- `shadow` and `branch`

  labelled_once : (words : List (List ℕ)) (label other : LabelParts) (given more : GivenSpec) → AreLabelAndSpec words label given → AreLabelAndSpec words other more → (label ≡ other) × (given ≡ more)
  labelled_once [] label other given more h g = absurd h
  labelled_once (word ∷ []) label other given more h g = absurd h
  labelled_once (word ∷ second ∷ []) label other given more h g = (one_label label other h.0.valid g.0.valid (sym h.0.spelled ∙ g.0.spelled), given_once second given more h.1 g.1)
  labelled_once (word ∷ second ∷ third ∷ words) label other given more h g = absurd h

  move_once : (onto : Way) (words : List (List ℕ)) → AtMostOne (IsMove onto words)
  move_once onto words a b h g =
      let both = labelled_once words h.label g.label h.given g.given h.both g.both in
      h.is ∙ ap (λ (x : LabelParts). command.Move onto x h.given) both.0 ∙ ap (λ (x : GivenSpec). command.Move onto g.label x) both.1 ∙ sym g.is

  -- ---- `update`

  all_given_once : (words : List (List ℕ)) → AtMostOne (AreGivenSpecs words)
  all_given_once [] [] [] h g = refl
  all_given_once [] [] (b ∷ bs) h g = absurd g
  all_given_once [] (a ∷ as') bs h g = absurd h
  all_given_once (word ∷ words) [] bs h g = absurd h
  all_given_once (word ∷ words) (a ∷ as') [] h g = absurd g
  all_given_once (word ∷ words) (a ∷ as') (b ∷ bs) h g =
      let first = given_once word a b h.0 g.0 in
      let rest = all_given_once words as' bs h.1 g.1 in
      λ i. first i ∷ rest i

  update_once : (words : List (List ℕ)) → AtMostOne (IsUpdate words)
  update_once words a b h g =
      let options = (update_options_at words).0 in
      h.is ∙ ap (λ (x : List GivenSpec). command.Update x options.job options.resolve) (all_given_once (update_options_at words).1 h.specs g.specs h.given.given g.given.given) ∙ sym g.is

  -- ---- all words

  abbrev done_so : Command → Result Command Failure
  done_so c = Ok c

  abbrev none_so : Failure → Result Command Failure
  none_so e = Err e

  or_usage_once : (Is : Command → Type 0) → AtMostOne Is → AtMostOne (IsOrUsage Is)
  or_usage_once Is one (Ok a) (Ok b) h g = ap done_so (one a b h g)
  or_usage_once Is one (Ok a) (Err f) h g = absurd (g.1.none a h)
  or_usage_once Is one (Err e) (Ok b) h g = absurd (h.1.none b g)
  or_usage_once Is one (Err e) (Err f) h g = ap none_so (h.0 ∙ sym g.0)

  sends_once : (words : List (List ℕ)) → AtMostOne (IsOrUsage (IsSend words))
  sends_once words = or_usage_once (IsSend words) (send_once words)

  moves_once : (onto : Way) (words : List (List ℕ)) → AtMostOne (IsOrUsage (IsMove onto words))
  moves_once onto words = or_usage_once (IsMove onto words) (move_once onto words)

  pub words_once : (words : List (List ℕ)) → AtMostOne (AreWords words)
  words_once [] a b h g = h ∙ sym g
  words_once (word ∷ words) a b h g =
      split_if (λ k. AreOfForm k (word ∷ words) a × AreOfForm k (word ∷ words) b) (bytes_eq word (codes "changeset")) (h, g)
      (λ sends. sends_once words a b sends.0 sends.1)
      (λ none. split_if (λ k. AreOfForm k (word ∷ words) a × AreOfForm k (word ∷ words) b) (bytes_eq word (codes "shadow")) none
      (λ moves. moves_once way.Shadow words a b moves.0 moves.1)
      (λ nor. split_if (λ k. AreOfForm k (word ∷ words) a × AreOfForm k (word ∷ words) b) (bytes_eq word (codes "branch")) nor
      (λ moves. moves_once way.Branch words a b moves.0 moves.1)
      (λ not. split_if (λ k. AreOfForm k (word ∷ words) a × AreOfForm k (word ∷ words) b) (bytes_eq word (codes "update")) not
      (λ updates. split_if (λ k. AreOfForm k (word ∷ words) a × AreOfForm k (word ∷ words) b) (is_input (update_options_at words).1) updates
      (λ input. input.0 ∙ sym input.1)
      (λ given. or_usage_once (IsUpdate words) (update_once words) a b given.0 given.1))
      (λ others. others.0 ∙ sym others.1))))

  single_once : (words : List (List ℕ)) → AtMostOne (IsSingle words)
  single_once words a b h g = h.is ∙ ap as_call (words_once words h.command g.command h.are g.are) ∙ sym g.is

  pub calls_once : (words : List (List ℕ)) → AtMostOne (AreCall words)
  calls_once [] a b h g = single_once [] a b h g
  calls_once (word ∷ words) a b h g = by (cases_if (λ k. AreOfKind k (word ∷ words) a × AreOfKind k (word ∷ words) b) (bytes_eq word (codes "batch")) (bytes_eq word (codes "demo")) (h, g))
    where
      by : (((a ≡ batch_of words) × (b ≡ batch_of words)) ⊎ (((a ≡ demo_of words) × (b ≡ demo_of words)) ⊎ (IsSingle (word ∷ words) a × IsSingle (word ∷ words) b))) → a ≡ b
      by (inl p) = p.0 ∙ sym p.1
      by (inr (inl p)) = p.0 ∙ sym p.1
      by (inr (inr p)) = single_once (word ∷ words) a b p.0 p.1
