use Rattle.std.proofs.lemmas.Result.{err_from_is_err_and}
use Rattle.cny_manifest.proofs.Carrying.{troves_are, own_contents}
use Rattle.cny_manifest.proofs.OneReading.{made_value, made_only, made_exact, collision_fault, collision_memory, collision_same, unread_fault, unread_memory, unread_same}
use Rattle.cny_manifest.proofs.reading.read.Goals as goal

pub returns-in_err-contents-in-Ok-clause-only : goal.returns-in_err-contents-in-Ok-clause-only
returns-in_err-contents-in-Ok-clause-only c = λ made is.
    let p = err_from_is_err_and c.from_residual.result c.from_residual.ensures.1 in
    rw (p.1, p.2) (collision_memory c.args.bytes.now c.in-Ok.troves c.in-Ok.contents.items c.in_err-contents-in-Ok.field-0.0 c.in-Ok.ensures.ok c.in_err-contents-in-Ok.ensures.refused made is)

pub returns-in_err-contents-in-Ok-clause-refused : goal.returns-in_err-contents-in-Ok-clause-refused
returns-in_err-contents-in-Ok-clause-refused c =
    let p = err_from_is_err_and c.from_residual.result c.from_residual.ensures.1 in
    rw (p.1, p.2) (collision_fault c.args.bytes.now c.in-Ok.troves c.in-Ok.contents.items c.in_err-contents-in-Ok.field-0.0 c.in-Ok.ensures.ok c.in_err-contents-in-Ok.ensures.refused)

pub returns-in_err-contents-in-Ok-clause-exact : goal.returns-in_err-contents-in-Ok-clause-exact
returns-in_err-contents-in-Ok-clause-exact c = λ refusal is.
    let p = err_from_is_err_and c.from_residual.result c.from_residual.ensures.1 in
    rw (p.1, p.2) (collision_same c.args.bytes.now c.in-Ok.troves c.in-Ok.contents.items c.in_err-contents-in-Ok.field-0.0 c.in-Ok.ensures.ok c.in_err-contents-in-Ok.ensures.refused refusal is)

pub returns-in_ok-contents-in-Ok-clause-value : goal.returns-in_ok-contents-in-Ok-clause-value
returns-in_ok-contents-in-Ok-clause-value c =
    made_value c.args.bytes.now c.in-Ok.troves c.in-Ok.contents.items c.in_ok-contents-in-Ok.contents c.in-Ok.ensures.ok c.in_ok-contents-in-Ok.ensures.apart c.in_ok-contents-in-Ok.ensures.value

pub returns-in_ok-contents-in-Ok-clause-only : goal.returns-in_ok-contents-in-Ok-clause-only
returns-in_ok-contents-in-Ok-clause-only c = λ made is.
    made_only c.args.bytes.now c.in-Ok.troves c.in-Ok.contents.items c.in_ok-contents-in-Ok.contents c.in-Ok.ensures.ok c.in_ok-contents-in-Ok.ensures.value made is

pub returns-in_ok-contents-in-Ok-clause-exact : goal.returns-in_ok-contents-in-Ok-clause-exact
returns-in_ok-contents-in-Ok-clause-exact c = λ refusal is.
    made_exact c.args.bytes.now c.in-Ok.troves c.in-Ok.contents.items c.in-Ok.ensures.ok c.in_ok-contents-in-Ok.ensures.apart refusal is

pub returns-in-Err-clause-only : goal.returns-in-Err-clause-only
returns-in-Err-clause-only c = λ made is. unread_memory c.args.bytes.now c.in-Err.error c.fault_of.result c.in-Err.ensures.err c.fault_of.ensures made is

pub returns-in-Err-clause-refused : goal.returns-in-Err-clause-refused
returns-in-Err-clause-refused c = unread_fault c.args.bytes.now c.in-Err.error c.fault_of.result c.in-Err.ensures.err c.fault_of.ensures

pub returns-in-Err-clause-exact : goal.returns-in-Err-clause-exact
returns-in-Err-clause-exact c = λ refusal is. unread_same c.args.bytes.now c.in-Err.error c.fault_of.result c.in-Err.ensures.err c.fault_of.ensures refusal is

pub returns-in_ok-contents-in-Ok-clause-troves : goal.returns-in_ok-contents-in-Ok-clause-troves
returns-in_ok-contents-in-Ok-clause-troves c = troves_are c.args.bytes.now c.in-Ok.troves c.in-Ok.contents.items c.in-Ok.ensures.ok

pub returns-in_ok-contents-in-Ok-clause-rising : goal.returns-in_ok-contents-in-Ok-clause-rising
returns-in_ok-contents-in-Ok-clause-rising c = c.in-Ok.ensures.ok.rising

pub returns-in_ok-contents-in-Ok-clause-contents : goal.returns-in_ok-contents-in-Ok-clause-contents
returns-in_ok-contents-in-Ok-clause-contents c =
    own_contents c.args.bytes.now c.in-Ok.troves c.in-Ok.contents.items c.in_ok-contents-in-Ok.contents c.in-Ok.ensures.ok c.in_ok-contents-in-Ok.ensures.given c.in_ok-contents-in-Ok.ensures.rising
