use Rattle.std.proofs.Common.{◌≡◌, Some, None, sym, ap, ◌∙◌}
use Rattle.std.specs.Option.{option_copied}
use Rattle.local_db.specs.trove-stream.Installed.{trove_of}
use Rattle.job_record.proofs.Leading.{one_name, delta_gone, delta_come, delta_other}
use Rattle.job_record.proofs.job_deltas.delta_at.Goals as goal

pub returns-in_default : goal.returns-in_default
returns-in_default c =
    let none : trove_of c.args.name.now c.args.after.now ≡ None = sym c.get.ensures ∙ ap option_copied c.in_default.is in
    let some : trove_of c.args.name.now c.args.before.now ≡ Some c.in-Some-get.was.now = sym c.get-in_default.ensures ∙ ap option_copied c.in-Some-get.is in
    delta_gone c.args.name.now c.args.after.now c.args.before.now c.in-Some-get.was.now c.in_ok-trove.trove none some c.in_ok-trove.ensures

pub returns-in_default-get-2 : goal.returns-in_default-get-2
returns-in_default-get-2 c =
    let some : trove_of c.args.name.now c.args.after.now ≡ Some c.in-Some.now.now = sym c.get.ensures ∙ ap option_copied c.in-Some.is in
    let none : trove_of c.args.name.now c.args.before.now ≡ None = sym c.get-2.ensures ∙ ap option_copied c.in_default-get-2.is in
    delta_come c.args.name.now c.args.after.now c.args.before.now c.in-Some.now.now c.in_ok-id.id some none (c.in_ok-id.ensures ∙ c.id.ensures.value)

pub delta_between-requires-clause-one_name : goal.delta_between-requires-clause-one_name
delta_between-requires-clause-one_name c =
    let first : trove_of c.args.name.now c.args.after.now ≡ Some c.in-Some.now.now = sym c.get.ensures ∙ ap option_copied c.in-Some.is in
    let second : trove_of c.args.name.now c.args.before.now ≡ Some c.in-Some-get-2.was.now = sym c.get-2.ensures ∙ ap option_copied c.in-Some-get-2.is in
    one_name c.args.name.now c.args.after.now c.args.before.now c.in-Some.now.now c.in-Some-get-2.was.now first second

pub returns : goal.returns
returns c =
    let first : trove_of c.args.name.now c.args.after.now ≡ Some c.in-Some.now.now = sym c.get.ensures ∙ ap option_copied c.in-Some.is in
    let second : trove_of c.args.name.now c.args.before.now ≡ Some c.in-Some-get-2.was.now = sym c.get-2.ensures ∙ ap option_copied c.in-Some-get-2.is in
    delta_other c.args.name.now c.args.after.now c.args.before.now c.in-Some.now.now c.in-Some-get-2.was.now c.in_ok-delta.delta first second c.in_ok-delta.ensures
