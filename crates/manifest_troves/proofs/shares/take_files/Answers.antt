use Rattle.std.proofs.Common.{ℕ, List, length, sym, ap, ◌∙◌}
use Rattle.std.specs.Str.{bytes_eq}
use Rattle.std.proofs.lemmas.Iterator.Adapters.{YieldsList-from_vec}
use Rattle.std.proofs.lemmas.Iterator.Consumers.{YieldsList-turn}
use Rattle.std.proofs.lemmas.Result.{err_from_is_err_and}
use Rattle.manifest_troves.specs.Shares.{share_at, plus_if, plus_file}
use Rattle.manifest_troves.specs.Troves.{entry_component, falls_to}
use Rattle.manifest_troves.proofs.Components.{handed_bad, bad_at}
use Rattle.manifest_troves.proofs.Sharing.{files_more}
use Rattle.manifest_troves.proofs.shares.take_files.Goals as goal

pub returns-in_err-name-clause-bad : goal.returns-in_err-name-clause-bad
returns-in_err-name-clause-bad c = λ is.
    let p = err_from_is_err_and c.from_residual.result c.from_residual.ensures.1 in
    let gives = c.into_iter-file-iterator.ensures.into_iter_gives in
    let turn =
    YieldsList-turn (YieldsList-from_vec {s = c.into_iter-file-iterator.result} c.args.files.items gives.0 (gives.1 ∙ c.args.files.ok.0)) c.loop-file.yielded c.loop-file.file-iterator c.loop-file.yielded_by c.next.result c.next.new.self c.in-Some.file
    c.in-Some.is c.next.ensures.steps in
    bad_at (entry_component c.args.whole.now) c.args.files.items (length c.loop-file.yielded) c.in-Some.file turn.0 turn.1
    (c.in_err-name.ensures.bad (handed_bad c.from_residual.result p.0 c.in_err-name.field-0.0 p.1 p.2 is))

pub loop-file-preserved : goal.loop-file-preserved
loop-file-preserved c = λ name.
    let whole : List ℕ = c.args.whole.now in
    c.in_ok-add.ensures name
    ∙ ap (λ (own : List ℕ). plus_if plus_file (bytes_eq own name) c.in-Some.file (share_at c.loop-file.shares name)) c.in_ok-name.ensures.ok
    ∙ ap (plus_if plus_file (falls_to whole name c.in-Some.file) c.in-Some.file) (c.loop-file.invariant name)
    ∙ sym (files_more whole name (share_at c.args.shares.now name) c.loop-file.yielded c.in-Some.file)
