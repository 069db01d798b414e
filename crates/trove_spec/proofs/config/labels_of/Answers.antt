use Rattle.std.proofs.Common.{◌≡◌, ℕ, ◌+◌, ◌<◌, ◌≤◌, Bool, true, false, cond, not, List, [], ◌∷◌, ◌++◌, length, take, drop, map, filter, get_or, Vec, Err, sym, ap, subst, ◌∙◌, length-append, append-nil, arith, rules}
use Rattle.std.specs.List.{AllZip}
use Rattle.std.specs.declared.alloc.Global.{Global}
use Rattle.std.proofs.lemmas.List.{take_more}
use Rattle.std.proofs.lemmas.List.Elements.{filter-append}
use Rattle.repo_index.specs.cny-base.declared.text.TextFault.TheVariants.{Bad}
use Rattle.cny_version.specs.Label.{LabelParts}
use Rattle.trove_spec.specs.Config.{is_word_there, IsTextOf}
use Rattle.trove_spec.proofs.ConfigLines.{paired-push, split_at, too_many, paired_at, same_fault}
use Rattle.trove_spec.proofs.config.labels_of.Goals.{then-not-is_empty+else-are_most+in-Ok+in_ok-push-in-Ok, else-not-is_empty}
use Rattle.trove_spec.proofs.Borrowed.{none, now_of}
use Rattle.cny_version.proofs.cny-base.Lists.{map_push as map-push}
use Rattle.trove_spec.proofs.config.labels_of.Goals as goal

pub returns-then-are_most-clause-bad : goal.returns-then-are_most-clause-bad
returns-then-are_most-clause-bad c h labels all few =
    let words = c.args.words.now in
    let i = c.loop-word.word-index in
    let within : i < length words = omega arith in
    let there : is_word_there (get_or words i none).now ≡ true = search rules in
    let many : 64 ≤ length c.loop-word.labels.items = search rules in
    too_many IsTextOf is_word_there (map now_of (take i words)) (map now_of (drop (i + 1) words)) (get_or words i none).now c.loop-word.labels.items labels 64 there c.loop-word.invariant.found many
    (subst (λ (l : List (List ℕ)). AllZip IsTextOf (filter is_word_there l) labels) (split_at now_of words i none within) all) few

pub returns-in-Err-clause-bad : goal.returns-in-Err-clause-bad
returns-in-Err-clause-bad c h labels all few =
    let words = c.args.words.now in
    let i = c.loop-word.word-index in
    let within : i < length words = omega arith in
    let there : is_word_there (get_or words i none).now ≡ true = search rules in
    let label = paired_at IsTextOf is_word_there (map now_of (take i words)) (map now_of (drop (i + 1) words)) (get_or words i none).now labels there
    (subst (λ (l : List (List ℕ)). AllZip IsTextOf (filter is_word_there l) labels) (split_at now_of words i none within) all) in
    c.in-Err.ensures.bad.0 (ap Err (same_fault c.in-Err.fault Bad h)) (label.0, label.1.0, label.1.1)

pub loop-word-preserved : goal.loop-word-preserved
loop-word-preserved c =
    let words = c.args.words.now in
    let i = c.loop-word.word-index in
    let within : i < length words = omega arith in
    let word = (get_or words i none).now in
    let before = map now_of (take i words) in
    let longer : map now_of (take (i + 1) words) ≡ before ++ word ∷ [] = ap (map now_of) (take_more words i none within) ∙ map-push now_of (take i words) (get_or words i none) in
    let filtered : filter is_word_there (map now_of (take (i + 1) words)) ≡ filter is_word_there before ++ cond (is_word_there word) (word ∷ []) [] =
    ap (filter is_word_there) longer ∙ filter-append is_word_there before (word ∷ []) in
    elim c.if-not-is_empty.branch [
      | then-not-is_empty+else-are_most+in-Ok+in_ok-push-in-Ok w ↦
          let there : is_word_there word ≡ true = ap not (sym w.if-not-is_empty.ensures) in
          let items : c.if-not-is_empty.labels.items ≡ c.loop-word.labels.items ++ w.in-Ok.label ∷ [] =
          ap (λ (v : Vec LabelParts Global). v.items) w.labels-is ∙ w.in_ok-push-in-Ok.ensures.items in
          let more : filter is_word_there (map now_of (take (i + 1) words)) ≡ filter is_word_there before ++ word ∷ [] =
          filtered ∙ ap (λ (b : Bool). filter is_word_there before ++ cond b (word ∷ []) []) there in
          let pairs : AllZip IsTextOf (filter is_word_there before ++ word ∷ []) (c.loop-word.labels.items ++ w.in-Ok.label ∷ []) =
          paired-push IsTextOf (filter is_word_there before) c.loop-word.labels.items word w.in-Ok.label c.loop-word.invariant.found (w.in-Ok.ensures.ok, w.in-Ok.ensures.value) in
          let small : length c.loop-word.labels.items < 64 = search rules in
          record {
            found = subst (λ (l : List (List ℕ)). AllZip IsTextOf l c.if-not-is_empty.labels.items) (sym more)
                (subst (λ (l : List LabelParts). AllZip IsTextOf (filter is_word_there before ++ word ∷ []) l) (sym items) pairs);
            few = omega (arith, small, ap length items, length-append c.loop-word.labels.items (w.in-Ok.label ∷ []));
          }
      | else-not-is_empty w ↦
          let gone : is_word_there word ≡ false = ap not (sym w.if-not-is_empty.ensures) in
          let same : c.if-not-is_empty.labels.items ≡ c.loop-word.labels.items = ap (λ (v : Vec LabelParts Global). v.items) w.labels-is in
          let none_more : filter is_word_there (map now_of (take (i + 1) words)) ≡ filter is_word_there before =
          filtered ∙ ap (λ (b : Bool). filter is_word_there before ++ cond b (word ∷ []) []) gone ∙ append-nil (filter is_word_there before) in
          record {
            found = subst (λ (l : List (List ℕ)). AllZip IsTextOf l c.if-not-is_empty.labels.items) (sym none_more)
                (subst (λ (l : List LabelParts). AllZip IsTextOf (filter is_word_there before) l) (sym same) c.loop-word.invariant.found);
            few = omega (arith, ap length same, c.loop-word.invariant.few);
          }
    ]
