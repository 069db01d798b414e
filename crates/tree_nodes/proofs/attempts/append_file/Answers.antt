use Rattle.std.proofs.Common.{◌∙◌, sym, Some, None}
use Rattle.tree_nodes.proofs.StoredTree.{inserted_at, made_first, stands_put, stood_at}
use Rattle.tree_nodes.proofs.Tried.{appended_new, appended_back, appended_err}
use Rattle.tree_nodes.proofs.attempts.append_file.Goals as goal

pub returns-in_default-clause-ok : goal.returns-in_default-clause-ok
returns-in_default-clause-ok c =
    let none = sym c.in_ok-stood.ensures.old ∙ c.in_default.is in
    appended_new _ _ c.args.path.now c.args.bytes.now
    (stood_at c.args.path.now c.in_ok-name.name None _ c.in_ok-name.ensures.ok none)
    (made_first c.args.path.now c.in_ok-name.name _ c.args.bytes.now _ _ c.in_ok-name.ensures.ok c.in_ok-stood.ensures.entries none c.in_ok-file.ensures)

pub put_back-requires : goal.put_back-requires
put_back-requires c = stands_put c.args.path.now c.in_ok-name.name _ _ _ c.in_ok-name.ensures.ok c.in_ok-stood.ensures.entries

pub returns-clause-ok : goal.returns-clause-ok
returns-clause-ok c =
    appended_back c.put_back.result _ _ _ c.args.path.now c.in_ok-file.file c.in-Some.node c.args.bytes.now
    (stood_at c.args.path.now c.in_ok-name.name (Some c.in-Some.node) _ c.in_ok-name.ensures.ok (sym c.in_ok-stood.ensures.old ∙ c.in-Some.is))
    (inserted_at c.args.path.now c.in_ok-name.name c.in_ok-file.file _ _ c.in_ok-name.ensures.ok c.in_ok-stood.ensures.entries) c.put_back.ensures.ok

pub returns-clause-err : goal.returns-clause-err
returns-clause-err c =
    appended_err c.put_back.result _ _ _ c.args.path.now c.in_ok-file.file c.in-Some.node
    (stood_at c.args.path.now c.in_ok-name.name (Some c.in-Some.node) _ c.in_ok-name.ensures.ok (sym c.in_ok-stood.ensures.old ∙ c.in-Some.is))
    (inserted_at c.args.path.now c.in_ok-name.name c.in_ok-file.file _ _ c.in_ok-name.ensures.ok c.in_ok-stood.ensures.entries) c.put_back.ensures.err
