use Rattle.std.proofs.Common.{◌≡◌, false, sym, subst}
use Rattle.journal_log.specs.declared.put.Put.{Put}
use Rattle.journal_log.specs.Staged.{is_file_want, HaveNoBytes}
use Rattle.journal_log.proofs.Encoding.{one_more}
use Rattle.journal_log.proofs.encode.encode_log.Goals as goal

pub push_put-requires : goal.push_put-requires
push_put-requires c =
    let all = subst HaveNoBytes (sym c.get-items.ensures.value) c.requires.no_bytes in
    record { no_bytes = subst (λ (p : Put). is_file_want p.want ≡ false) (sym c.put-item.is) (all c.loop-put.put-index c.put-item.result c.loop-put-test.true) }

pub loop-put-preserved : goal.loop-put-preserved
loop-put-preserved c =
    let e = c.in_ok-push_put.ensures in
    let all = subst HaveNoBytes (sym c.get-items.ensures.value) c.requires.no_bytes in
    let none = subst (λ (p : Put). is_file_want p.want ≡ false) (sym c.put-item.is) (all c.loop-put.put-index c.put-item.result c.loop-put-test.true) in
    one_more c.get-items.result.now c.loop-put.out c.push_put.new.out c.loop-put.put-index c.put-item.result c.loop-put-test.true c.put-item.is c.loop-put.invariant e.ok
    (record { path = e.path; formed = e.formed; no_bytes = none; fits = e.fits })
