use Rattle.std.proofs.Common.{◌≡◌, ℕ, List, length, arith, Result, Err, Vec, Global, ap, sym, subst}
use Rattle.std.proofs.lemmas.Result.{err_from_is_err_and}
use Rattle.tree_disk.specs.cny-base.declared.text.TextFault.{TextFault}
use Rattle.tree_disk.specs.cny-base.declared.text.TextFault.TheVariants.{Bad}
use Rattle.journal_log.specs.declared.put.Put.{Put}
use Rattle.cny_stream.specs.Item.{IsItemAt}
use Rattle.journal_log.specs.PutItem.{IsEnd}
use Rattle.journal_log.proofs.Decoding.{IsReadTo, tail_of, next_of, end_here, put_here, one_more}
use Rattle.journal_log.proofs.decode.read_puts.Goals as goal

-- the fault that a `?` passes on is the call's
passed : (r : Result (Vec Put Global) TextFault) (e f : TextFault) → r ≡ Err e → e ≡ f → r ≡ Err Bad → f ≡ Bad
passed r e f is same bad = cc

pub returns-in_default-clause-bad : goal.returns-in_default-clause-bad
returns-in_default-clause-bad c = λ bad all whole.
    let tail = tail_of c.args.bytes.now c.items.puts.items all c.items.at c.items.invariant whole in
    let item = next_of tail.0 all c.items.puts.items _ _ tail.1 in
    c.in_default.ensures.only item.0 item.1 item.2 item.3.expected item.3.fits item.3.spelled

pub returns-then-not-is_end-clause-bad : goal.returns-then-not-is_end-clause-bad
returns-then-not-is_end-clause-bad c = λ bad all whole.
    let tail = tail_of c.args.bytes.now c.items.puts.items all c.items.at c.items.invariant whole in
    let item = subst (λ (t : ℕ). IsItemAt c.args.bytes.now c.items.at t c.in-Ok.item.from c.in-Ok.item.to) c.if-item-eq-END.true c.in-Ok.ensures.found in
    let end = end_here c.args.bytes.now tail.0 all c.items.puts.items c.items.at c.in-Ok.item.from c.in-Ok.item.to whole.number tail.1 item in
    let counted : length c.items.puts.items ≡ c.len.result = omega (arith, c.items.puts.ok.0) in
    cc (c.if-not-is_end.ensures.1 (subst (λ (n : ℕ). IsEnd c.args.bytes.now c.in-Ok.item.from c.in-Ok.item.to n) counted end))

pub returns-in_err-put-clause-bad : goal.returns-in_err-put-clause-bad
returns-in_err-put-clause-bad c = λ bad all whole.
    let tail = tail_of c.args.bytes.now c.items.puts.items all c.items.at c.items.invariant whole in
    let q = err_from_is_err_and c.from_residual.result c.from_residual.ensures.1 in
    let item = c.in-Ok.ensures.found in
    let here = put_here c.args.bytes.now tail.0 all c.items.puts.items c.items.at c.in-Ok.item.tag c.in-Ok.item.from c.in-Ok.item.to _ tail.1 item c.if-item-eq-END.false in
    c.in_err-put.ensures.bad (ap Err (passed _ q.0 c.in_err-put.field-0.0 q.1 q.2 bad)) here.0 here.1

pub items-preserved : goal.items-preserved
items-preserved c =
    let more = one_more c.args.bytes.now c.items.puts.items c.items.at c.in-Ok.item.tag c.in-Ok.item.from c.in-Ok.item.to c.in_ok-put.put c.items.invariant c.in-Ok.ensures.found c.in_ok-put.ensures.ok in
    subst (λ (l : List Put). IsReadTo c.args.bytes.now l c.in-Ok.item.to) (sym c.in_ok-push.ensures.items) more
