use Rattle.std.proofs.Common.{◌≡◌, true, sym, ◌∙◌, ap, Some, refl, arith}
use Rattle.std.specs.Result.{result_ok}
use Rattle.cny_base.specs.Number.{is_decimal, decimal_value}
use Rattle.cny_base.proofs.Numbers.{text_of_decimal, decimal_parsed}
use Rattle.cny_base.proofs.number.read_decimal.Goals as goal

pub returns-in_err-ok : goal.returns-in_err-ok
returns-in_err-ok c =
    let is : is_decimal c.args.bytes.now ≡ true = grind arith in
    let text = text_of_decimal _ c.args.bytes.now c.from_utf8.result c.ok.result is c.from_utf8.ensures.cases c.ok.ensures.value in
    absurd (cc (text.1, c.in_err-ok.was))

pub returns : goal.returns
returns c =
    let is : is_decimal c.args.bytes.now ≡ true = grind arith in
    let text = text_of_decimal _ c.args.bytes.now c.from_utf8.result c.ok.result is c.from_utf8.ensures.cases c.ok.ensures.value in
    let same : c.in_ok-ok.field-0 ≡ text.0 = cc (text.1, c.in_ok-ok.was) in
    let bytes : c.in_ok-ok.field-0.now ≡ c.args.bytes.now = ap (λ s. s.now) same ∙ text.2 in
    let parsed = decimal_parsed c.in_ok-ok.field-0.now c.parse.result (ap is_decimal bytes ∙ is) c.parse.ensures.value.0 in
    c.ok-2.ensures.value ∙ ap result_ok parsed ∙ ap (λ l. Some (decimal_value l)) bytes ∙ sym (rw is refl)
