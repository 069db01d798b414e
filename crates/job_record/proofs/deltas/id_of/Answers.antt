use Rattle.std.proofs.Common.{[], arith, length, ap, sym, ◌∙◌, append-nil}
use Rattle.std.proofs.lemmas.List.{length-drop}
use Rattle.local_db.specs.trove-parts.Id.{id_bytes}
use Rattle.job_record.proofs.deltas.id_of.Goals as goal

pub returns-then-found-value-clause-bad : goal.returns-then-found-value-clause-bad
returns-then-found-value-clause-bad c _ id is e =
    let none = (c.in_ok-found.ensures.only id [] is (e ∙ sym (append-nil (id_bytes id)))).1 in
    let within = c.in_ok-found.ensures.found.within in
    c.if-found-value.true (omega (arith, ap length none, length-drop c.in_ok-found.found.to c.args.value.now, within))
