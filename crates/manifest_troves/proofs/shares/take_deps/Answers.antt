use Rattle.std.proofs.Common.{sym, ap, ◌∙◌}
use Rattle.manifest_troves.specs.Shares.{share_at, plus_if, plus_dep}
use Rattle.manifest_troves.specs.Troves.{is_of}
use Rattle.manifest_troves.proofs.Sharing.{deps_more}
use Rattle.manifest_troves.proofs.shares.take_deps.Goals as goal

pub loop-line-preserved : goal.loop-line-preserved
loop-line-preserved c = λ name.
    c.in_ok-add.ensures name
    ∙ ap (plus_if (plus_dep c.args.kind) (is_of name c.in-Some.line) c.in-Some.line.dep) (c.loop-line.invariant name)
    ∙ sym (deps_more c.args.kind name (share_at c.args.shares.now name) c.loop-line.yielded c.in-Some.line)
