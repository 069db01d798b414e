use Rattle.std.proofs.Common.{ℕ, ◌<◌, ◌^◌, sym, subst}
use Rattle.local_db.specs.declared.format.Format.TheVariants.{Two}
use Rattle.job_record.proofs.Records.{entries_told, text_is}
use Rattle.job_record.proofs.making.record_bytes.Goals as goal

pub encode-requires : goal.encode-requires
encode-requires c = entries_told c.args.number c.args.before.now c.args.after.now c.args.changes.now c.in_ok-it.it c.in_ok-it.ensures

pub returns : goal.returns
returns c =
    let n = c.args.number in
    let before = c.args.before.now in
    let after = c.args.after.now in
    let es = c.args.changes.now in
    let it = c.in_ok-it.it in
    let by = c.in_ok-it.ensures in
    let bytes = c.in_ok-bytes.bytes in
    c.records_by_lists.ensures.written Two n before after es it bytes
    (text_is n before after es it by (subst (λ (k : ℕ). k < 2 ^ 32) (sym by.number_is) c.ranges.number.fits) c.requires.rising c.in_ok-bytes.ensures.deltas c.in_ok-bytes.ensures.fits bytes c.in_ok-bytes.ensures.value)
    by
