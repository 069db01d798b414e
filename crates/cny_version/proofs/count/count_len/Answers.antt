use Rattle.std.proofs.Common.{◌+◌, ◌-◌, take, drop, get_or, length, sym, ap, ◌∙◌, length-append}
use Rattle.std.specs.Fmt.{decimal}
use Rattle.std.proofs.lemmas.List.{take_all}
use Rattle.cny_version.proofs.CountLoops.{more_text, count_text_split}
use Rattle.cny_version.proofs.count.count_len.Goals as goal

pub returns-clause-len : goal.returns-clause-len
returns-clause-len c =
    let ns = c.args.numbers.now in
    let rest = take (length ns - 1) (drop 1 ns) in
    c.loop-number.invariant.len
    ∙ ap (λ l. c.decimal_len-size.result + length (more_text l)) (take_all c.loop-number.number-index rest c.loop-number-test.false)
    ∙ ap (λ n. n + length (more_text rest)) c.decimal_len-size.ensures.len
    ∙ sym (length-append (decimal (get_or ns 0 0)) (more_text rest))
    ∙ ap length (sym (count_text_split ns c.in-len1-up.len_at_least))
