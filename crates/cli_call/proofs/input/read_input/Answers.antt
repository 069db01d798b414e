use Rattle.std.proofs.Common.{◌≡◌, ◌+◌, ◌<◌, ◌≤◌, length, arith, ap, length-append}
use Rattle.cny_laws.specs.Input.{input_limit}
use Rattle.cli_call.proofs.InputBytes.{consumes_more, past, read_all, read_past, within}
use Rattle.cli_call.proofs.input.read_input.Goals as goal

pub returns-then-branch-eq0-clause-read : goal.returns-then-branch-eq0-clause-read
returns-then-branch-eq0-clause-read g c =
    let t = c.in_ok-take_more.ensures.taken in
    let within : length c.take_more.new.bytes.items ≤ input_limit = omega (arith, ap length t.2, length-append c.loop-bytes.bytes.items t.0, t.1, c.if-branch-eq0.true) in
    rw c.from_vec.ensures (read_all _ _ c.take_more.new.bytes.items input_limit _ within
    (rw t.2 (consumes_more _ _ _ _ _ c.loop-bytes.invariant.read t.3)) (c.in_ok-take_more.ensures.end c.if-branch-eq0.true))

pub returns-then-len-gt-INPUT_LIMIT-clause-read : goal.returns-then-len-gt-INPUT_LIMIT-clause-read
returns-then-len-gt-INPUT_LIMIT-clause-read g c =
    let t = c.in_ok-take_more.ensures.taken in
    let long : length c.take_more.new.bytes.items ≡ input_limit + 1 = omega arith in
    read_past _ _ c.take_more.new.bytes.items input_limit _ long (rw t.2 (consumes_more _ _ _ _ _ c.loop-bytes.invariant.read t.3))

pub returns-then-branch-eq0-clause-some : goal.returns-then-branch-eq0-clause-some
returns-then-branch-eq0-clause-some g c =
    let t = c.in_ok-take_more.ensures.taken in
    let small : length c.take_more.new.bytes.items ≤ input_limit = omega (arith, ap length t.2, length-append c.loop-bytes.bytes.items t.0, t.1, c.if-branch-eq0.true) in
    rw c.from_vec.ensures (within input_limit c.take_more.new.bytes.items _ small)

pub returns-then-len-gt-INPUT_LIMIT-clause-some : goal.returns-then-len-gt-INPUT_LIMIT-clause-some
returns-then-len-gt-INPUT_LIMIT-clause-some g c =
    let long : input_limit < length c.take_more.new.bytes.items = omega arith in
    (c.take_more.new.bytes.items, past input_limit c.take_more.new.bytes.items _ long)
