use Rattle.std.proofs.Common.{◌≡◌, Some, refl, ◌∙◌, ap, arith}
use Rattle.std.proofs.lemmas.Result.{IfOk-weaker}
use Rattle.cny_stream.specs.declared.record.FileRec.{FileRec}
use Rattle.cny_stream.specs.Record.{IsFileRecord, record_bytes}
use Rattle.cny_stream.specs.Reading.{record_of}
use Rattle.cny_stream.proofs.Records.{record_taken, record_again, none_found}
use Rattle.cny_stream.proofs.reading.decode_as.Goals as goal

pub returns-clause-value : goal.returns-clause-value
returns-clause-value c =
    IfOk-weaker c.record_in.result (λ rec. record_of c.args.encoding c.args.bytes.now ≡ Some rec) (λ rec. c.args.bytes.now ≡ record_bytes c.args.encoding rec)
    (λ rec is. (record_taken c.args.encoding c.args.bytes.now rec (λ i. omega (arith, c.type_inv.bytes i)) is).1) c.record_in.ensures.value

pub returns-clause-ok : goal.returns-clause-ok
returns-clause-ok c =
    IfOk-weaker c.record_in.result (λ rec. record_of c.args.encoding c.args.bytes.now ≡ Some rec) IsFileRecord
    (λ rec is. (record_taken c.args.encoding c.args.bytes.now rec (λ i. omega (arith, c.type_inv.bytes i)) is).0) c.record_in.ensures.value

pub returns-clause-bad : goal.returns-clause-bad
returns-clause-bad c = (
  (λ h is. let none = c.record_in.ensures.bad.0 h in let some = ap (record_of c.args.encoding) is.2 ∙ record_again c.args.encoding is.0 is.1 in absurd (cc (none, some))),
  (λ outside. c.record_in.ensures.bad.1 (none_found c.args.encoding c.args.bytes.now (record_of c.args.encoding c.args.bytes.now) refl (λ i. omega (arith, c.type_inv.bytes i)) outside)),
)

pub returns-clause-only : goal.returns-clause-only
returns-clause-only c =
    IfOk-weaker c.record_in.result (λ rec. record_of c.args.encoding c.args.bytes.now ≡ Some rec)
    (λ read. (rec : FileRec) → IsFileRecord rec → c.args.bytes.now ≡ record_bytes c.args.encoding rec → read ≡ rec)
    (λ read found rec is spelled. let some = ap (record_of c.args.encoding) spelled ∙ record_again c.args.encoding rec is in cc (found, some)) c.record_in.ensures.value
