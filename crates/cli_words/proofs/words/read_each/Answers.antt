use Rattle.std.proofs.Common.{◌≡◌, get_or, ap, ◌∙◌, sym, arith, Err}
use Rattle.std.specs.Prelude.{string_bytes}
use Rattle.cny_version.specs.cny-base.declared.text.TextFault.TheVariants.{Bad}
use Rattle.std.proofs.lemmas.List.Folds.{list_all_at, list_all-map}
use Rattle.std.proofs.lemmas.Result.{err_from_is_err_and}
use Rattle.cny_version.specs.cny-base.Name.{is_name}
use Rattle.cny_dep.proofs.Faults.{handed_on}
use Rattle.cli_words.proofs.words.read_each.Goals as goal

pub returns-in_err-read-clause-bad : goal.returns-in_err-read-clause-bad
returns-in_err-read-clause-bad c h =
    let met : c.in_err-read.field-0.0 ≡ Bad = handed_on c.from_residual.result c.in_err-read.field-0.0 Bad (err_from_is_err_and c.from_residual.result c.from_residual.ensures.1) h in
    let same : is_name (string_bytes (get_or c.args.words.now c.loop-word.word-index c.word-item.result)) ≡ is_name c.as_str.result.now = ap is_name (ap string_bytes (sym c.word-item.is) ∙ sym c.as_str.ensures.value) in
    list_all-map is_name string_bytes c.args.words.now
    ∙ list_all_at (λ word. is_name (string_bytes word)) c.args.words.now c.loop-word.word-index c.word-item.result (omega arith) (same ∙ c.in_err-read.ensures.bad.0 (ap Err met))
