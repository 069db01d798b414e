use Rattle.std.proofs.Common.{◌≡◌, ◌∷◌, ◌++◌, Some, None, ap, ◌∙◌, lit<}
use Rattle.std.proofs.lemmas.Result.{IfOk-weaker}
use Rattle.std.proofs.lemmas.Str.Pattern.{split_parts}
use Rattle.trove_parts.specs.declared.id.TroveId.{TroveId}
use Rattle.trove_parts.specs.Id.{IsTroveId, id_text_of}
use Rattle.trove_parts.specs.Parts.{AreTextsOf}
use Rattle.trove_parts.proofs.Reading.{IsCutAtEquals, no_equals, rest_of, texts_of, text_from}
use Rattle.trove_parts.proofs.text.read_id.Goals as goal

pub returns-in_default-clause-bad : goal.returns-in_default-clause-bad
returns-in_default-clause-bad c _ id is same = no_equals c.args.text.now id (split_parts 61 c.args.text.now None c.in_default.ensures.cases (lit< tt)) same

pub returns-in_default-version_and_flavor-clause-bad : goal.returns-in_default-version_and_flavor-clause-bad
returns-in_default-version_and_flavor-clause-bad c _ id is same =
    let parts = split_parts 61 c.args.text.now (Some (c.in-Some.name, c.in-Some.rest)) c.in-Some.ensures.cases (lit< tt) in
    let cut : IsCutAtEquals c.args.text.now c.in-Some.name.now c.in-Some.rest.now = record { whole = parts.0; front = parts.1 } in
    c.in_default-version_and_flavor.ensures.none _ _ (rest_of c.args.text.now c.in-Some.name.now c.in-Some.rest.now id cut is same)

pub returns-clause-value : goal.returns-clause-value
returns-clause-value c =
    let parts = split_parts 61 c.args.text.now (Some (c.in-Some.name, c.in-Some.rest)) c.in-Some.ensures.cases (lit< tt) in
    let cut : IsCutAtEquals c.args.text.now c.in-Some.name.now c.in-Some.rest.now = record { whole = parts.0; front = parts.1 } in
    let found = c.in-Some-version_and_flavor in
    IfOk-weaker c.id_of_texts.result (λ id. AreTextsOf id c.in-Some.name.now found.version.now found.flavor.now) (λ id. c.args.text.now ≡ id_text_of id)
    (λ id texts. text_from c.args.text.now c.in-Some.name.now c.in-Some.rest.now found.version.now found.flavor.now id cut found.ensures.some texts) c.id_of_texts.ensures.value

pub returns-clause-bad : goal.returns-clause-bad
returns-clause-bad c h id is same =
    let parts = split_parts 61 c.args.text.now (Some (c.in-Some.name, c.in-Some.rest)) c.in-Some.ensures.cases (lit< tt) in
    let cut : IsCutAtEquals c.args.text.now c.in-Some.name.now c.in-Some.rest.now = record { whole = parts.0; front = parts.1 } in
    let found = c.in-Some-version_and_flavor in
    c.id_of_texts.ensures.bad h id (texts_of c.args.text.now c.in-Some.name.now c.in-Some.rest.now found.version.now found.flavor.now id cut found.ensures.some is same)

pub returns-clause-only : goal.returns-clause-only
returns-clause-only c =
    let parts = split_parts 61 c.args.text.now (Some (c.in-Some.name, c.in-Some.rest)) c.in-Some.ensures.cases (lit< tt) in
    let cut : IsCutAtEquals c.args.text.now c.in-Some.name.now c.in-Some.rest.now = record { whole = parts.0; front = parts.1 } in
    let found = c.in-Some-version_and_flavor in
    IfOk-weaker c.id_of_texts.result (λ read. (id : TroveId) → AreTextsOf id c.in-Some.name.now found.version.now found.flavor.now → read ≡ id)
    (λ read. (id : TroveId) → IsTroveId id → c.args.text.now ≡ id_text_of id → read ≡ id)
    (λ read only id is same. only id (texts_of c.args.text.now c.in-Some.name.now c.in-Some.rest.now found.version.now found.flavor.now id cut found.ensures.some is same))
    c.id_of_texts.ensures.only

pub returns-clause-early : goal.returns-clause-early
returns-clause-early c none =
    let parts = split_parts 61 c.args.text.now (Some (c.in-Some.name, c.in-Some.rest)) c.in-Some.ensures.cases (lit< tt) in
    let found = c.in-Some-version_and_flavor in
    c.id_of_texts.ensures.early (λ name version. none c.in-Some.name.now found.version.now found.flavor.now name version (parts.0 ∙ ap (λ l. c.in-Some.name.now ++ 61 ∷ l) found.ensures.some.whole))
