use Rattle.std.proofs.Common.{◌≡◌, [], length, sym, ◌∙◌, append-nil}
use Rattle.trove_parts.specs.Id.{id_bytes}
use Rattle.cny_version.proofs.cny-base.Lists.{is_end}
use Rattle.trove_parts.proofs.refs.TroveIdElement.read.Goals as goal

pub returns-then-found-bytes-clause-bad : goal.returns-then-found-bytes-clause-bad
returns-then-found-bytes-clause-bad c _ x valid same =
    let there = c.in_ok-found.ensures.only x [] valid (same ∙ sym (append-nil (id_bytes x))) in
    let end : c.in_ok-found.found.to ≡ length c.args.bytes.now = is_end c.args.bytes.now c.in_ok-found.found.to c.in_ok-found.ensures.found.within there.1 in
    c.if-found-bytes.true end

pub returns-clause-only : goal.returns-clause-only
returns-clause-only c x valid same = (c.in_ok-found.ensures.only x [] valid (same ∙ sym (append-nil (id_bytes x)))).0
