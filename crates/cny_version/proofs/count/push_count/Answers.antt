use Rattle.std.proofs.Common.{◌++◌, ◌-◌, string_bytes, take, drop, get_or, length, sym, ap, ◌∙◌, append_assoc}
use Rattle.std.specs.Fmt.{decimal}
use Rattle.std.proofs.lemmas.List.{take_all}
use Rattle.cny_version.proofs.CountLoops.{more_text, count_text_split}
use Rattle.cny_version.proofs.count.push_count.Goals as goal

pub returns-after-loop-number : goal.returns-after-loop-number
returns-after-loop-number c =
    let ns = c.args.numbers.now in
    let rest = take (length ns - 1) (drop 1 ns) in
    c.loop-number.invariant
    ∙ ap (λ l. string_bytes c.push_str.new.self ++ more_text l) (take_all c.loop-number.number-index rest c.loop-number-test.false)
    ∙ ap (λ l. l ++ more_text rest) c.in_ok-push_str.ensures.bytes
    ∙ ap (λ l. (string_bytes c.args.text.now ++ l) ++ more_text rest) c.format.ensures.text
    ∙ append_assoc (string_bytes c.args.text.now) (decimal (get_or ns 0 0)) (more_text rest)
    ∙ ap (λ l. string_bytes c.args.text.now ++ l) (sym (count_text_split ns c.in-len1-up.len_at_least))
