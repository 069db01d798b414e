use Rattle.std.proofs.Common.{◌≡◌, ◌++◌, string_bytes, codes}
use Rattle.std.specs.List.{flat_map}
use Rattle.std.proofs.lemmas.Result.{on_ok_weaker}
use Rattle.cny_report.specs.Records.{dep_line, trove_text}
use Rattle.cny_report.proofs.Pieces.{trove_grows}
use Rattle.cny_report.proofs.records.push_trove.Goals as goal

pub returns : goal.returns
returns c =
    on_ok_weaker {P = string_bytes c.push_lines-4.new.out ≡ string_bytes c.push_lines-3.new.out ++ flat_map (dep_line (codes "provides ")) c.provides.result.now}
    {Q = string_bytes c.push_lines-4.new.out ≡ string_bytes c.args.out.now ++ trove_text c.args.trove.now} c.push_lines-4.result
    (trove_grows c.args.trove.now c.files.result.now c.refs.result.now c.requires_.result.now c.provides.result.now
    (string_bytes c.args.out.now) (string_bytes c.push.new.out) (string_bytes c.push_lines.new.out) (string_bytes c.push_lines-2.new.out) (string_bytes c.push_lines-3.new.out) (string_bytes c.push_lines-4.new.out)
    c.files.ensures.value c.refs.ensures.value c.requires_.ensures.value c.provides.ensures.value
    c.in_ok-push.ensures c.in_ok-push_lines.ensures c.in_ok-push_lines-2.ensures c.in_ok-push_lines-3.ensures)
    c.push_lines-4.ensures
