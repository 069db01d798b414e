use Rattle.std.proofs.Common.{◌≡◌, ◌≤◌, [], Err, ◌<◌, ◌+◌, List, ℕ, length, get_or, map, take, sym, subst, ap, ◌∙◌, arith}
use Rattle.std.specs.Prelude.{string_bytes}
use Rattle.std.proofs.lemmas.List.{get_or-map, length-map, take_all}
use Rattle.cli_words.specs.Words.{AreGivenSpecs, IsGiven, IsOnly, ReadsOnly}
use Rattle.cli_words.proofs.Reading.{passed_on}
use Rattle.cli_words.proofs.SpecLists.{none_only, one_more, part_of}
use Rattle.cny_version.proofs.cny-base.Passing.{err_is}
use Rattle.cli_words.proofs.words.read_specs.Goals as goal

pub loop-word-init : goal.loop-word-init
loop-word-init c = subst (IsOnly (AreGivenSpecs [])) (sym c.new-specs.ensures.items) none_only

pub loop-word-preserved : goal.loop-word-preserved
loop-word-preserved c =
    let strings = c.args.words.now in
    let words = map string_bytes strings in
    let i = c.loop-word.word-index in
    let within : i < length strings = omega arith in
    let inside : i < length words = subst (λ (n : ℕ). i < n) (sym (length-map strings string_bytes)) within in
    let word = string_bytes c.word-item.result in
    let here : word ≡ get_or words i word = ap string_bytes c.word-item.is ∙ sym (get_or-map string_bytes strings i c.word-item.result word within) in
    let given : IsOnly (IsGiven word) c.in_ok-given.given = subst (λ (w : List ℕ). IsOnly (IsGiven w) c.in_ok-given.given) c.as_str.ensures.value c.in_ok-given.ensures in
    subst (IsOnly (AreGivenSpecs (take (i + 1) words))) (sym c.in_ok-push.ensures.items) (one_more words i word c.loop-word.specs.items c.in_ok-given.given inside here c.loop-word.invariant given)

pub returns-in_err-given : goal.returns-in_err-given
returns-in_err-given c =
    let strings = c.args.words.now in
    let words = map string_bytes strings in
    let i = c.loop-word.word-index in
    let within : i < length strings = omega arith in
    let inside : i < length words = subst (λ (n : ℕ). i < n) (sym (length-map strings string_bytes)) within in
    let word = string_bytes c.word-item.result in
    let here : word ≡ get_or words i word = ap string_bytes c.word-item.is ∙ sym (get_or-map string_bytes strings i c.word-item.result word within) in
    let reads : ReadsOnly (IsGiven word) (Err c.in_err-given.field-0.0) = subst (λ (w : List ℕ). ReadsOnly (IsGiven w) (Err c.in_err-given.field-0.0)) c.as_str.ensures.value c.in_err-given.ensures in
    err_is (ReadsOnly (AreGivenSpecs words)) c.from_residual.result c.in_err-given.field-0.0 c.from_residual.ensures.1
    (passed_on (IsGiven word) (AreGivenSpecs words) (part_of words i word inside here) c.in_err-given.field-0.0 reads)

pub returns : goal.returns
returns c =
    let words = map string_bytes c.args.words.now in
    let ended : length words ≤ c.loop-word.word-index = subst (λ (n : ℕ). n ≤ c.loop-word.word-index) (sym (length-map c.args.words.now string_bytes)) (omega arith) in
    subst (IsOnly (AreGivenSpecs words)) (sym c.new.ensures)
    (subst (λ (l : List (List ℕ)). IsOnly (AreGivenSpecs l) c.loop-word.specs.items) (take_all c.loop-word.word-index words ended) c.loop-word.invariant)
