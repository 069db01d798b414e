use Rattle.std.proofs.Common.{Err, ap, sym, ◌∙◌}
use Rattle.std.proofs.lemmas.Result.{err_from_is_err_and}
use Rattle.local_db.specs.cny-base.declared.text.TextFault.TheVariants.{Bad}
use Rattle.job_record.proofs.EntryItems.{last_entries}
use Rattle.job_record.proofs.Unique.{read_to}
use Rattle.change_rel.proofs.cny-dep.Faults.{handed_on}
use Rattle.job_record.proofs.reading.unordered.Goals as goal

pub returns-in_err-back-clause-bad : goal.returns-in_err-back-clause-bad
returns-in_err-back-clause-bad c h r is =
    let met = handed_on c.from_residual-in_err-back.result c.in_err-back.field-0.0 Bad (err_from_is_err_and c.from_residual-in_err-back.result c.from_residual-in_err-back.ensures.1) h in
    let front = c.in_ok-front.front in
    let parts = read_to (record { ids = c.distinct_ids.ensures.bytes; troves = c.distinct_troves.ensures.unique; rels = c.distinct_rels.ensures.unique })
    c.args.format c.args.bytes.now c.in-Some.number front.deltas.items front.to r c.in-Some.ensures.fits c.in-Some.ensures.some c.in_ok-front.ensures.value c.in_ok-front.ensures.ended is in
    c.in_err-back.ensures.bad (ap Err met) r.entries is.entries_are parts.entries_follow

pub returns-then-not-is_end-clause-bad : goal.returns-then-not-is_end-clause-bad
returns-then-not-is_end-clause-bad c _ r is =
    let front = c.in_ok-front.front in
    let back = c.in_ok-back.back in
    let parts = read_to (record { ids = c.distinct_ids.ensures.bytes; troves = c.distinct_troves.ensures.unique; rels = c.distinct_rels.ensures.unique })
    c.args.format c.args.bytes.now c.in-Some.number front.deltas.items front.to r c.in-Some.ensures.fits c.in-Some.ensures.some c.in_ok-front.ensures.value c.in_ok-front.ensures.ended is in
    let ends = last_entries c.args.bytes.now front.to back.entries.items back.to r.entries c.in_ok-back.ensures.value c.in_ok-back.ensures.ended is.entries_are parts.entries_follow in
    absurd (cc (c.if-not-is_end.ensures.1 ends.1))

pub returns-clause-only : goal.returns-clause-only
returns-clause-only c r is =
    let front = c.in_ok-front.front in
    let back = c.in_ok-back.back in
    let parts = read_to (record { ids = c.distinct_ids.ensures.bytes; troves = c.distinct_troves.ensures.unique; rels = c.distinct_rels.ensures.unique })
    c.args.format c.args.bytes.now c.in-Some.number front.deltas.items front.to r c.in-Some.ensures.fits c.in-Some.ensures.some c.in_ok-front.ensures.value c.in_ok-front.ensures.ended is in
    let ends = last_entries c.args.bytes.now front.to back.entries.items back.to r.entries c.in_ok-back.ensures.value c.in_ok-back.ensures.ended is.entries_are parts.entries_follow in
    let n = sym parts.number_is in
    let us = c.new.ensures ∙ sym parts.deltas_are in
    let es = c.new-2.ensures ∙ sym ends.0 in
    λ i. record { number = n i; deltas = us i; entries = es i }
