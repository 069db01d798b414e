use Rattle.std.proofs.Common.{◌∙◌, sym}
use Rattle.tree_nodes.proofs.StoredTree.{stands_put, made_first, regrown_ok, regrown_err}
use Rattle.tree_nodes.proofs.effects.append_at.Goals as goal

pub put_grown-requires : goal.put_grown-requires
put_grown-requires c = stands_put c.args.path.now c.in_ok-name.name _ _ _ c.in_ok-name.ensures.ok c.in_ok-stood.ensures.entries

pub returns-in_default-clause-ok : goal.returns-in_default-clause-ok
returns-in_default-clause-ok c = made_first c.args.path.now c.in_ok-name.name _ c.args.bytes.now _ _ c.in_ok-name.ensures.ok c.in_ok-stood.ensures.entries (sym c.in_ok-stood.ensures.old ∙ c.in_default.is) c.in_ok-file.ensures

pub returns-clause-ok : goal.returns-clause-ok
returns-clause-ok c = regrown_ok c.put_grown.result c.args.path.now c.in_ok-name.name _ c.in-Some.node c.args.bytes.now _ _ _ c.in_ok-name.ensures.ok c.in_ok-stood.ensures.entries (sym c.in_ok-stood.ensures.old ∙ c.in-Some.is) c.put_grown.ensures.ok

pub returns-clause-err : goal.returns-clause-err
returns-clause-err c = regrown_err c.put_grown.result c.args.path.now c.in_ok-name.name _ c.in-Some.node _ _ _ c.in_ok-name.ensures.ok c.in_ok-stood.ensures.entries (sym c.in_ok-stood.ensures.old ∙ c.in-Some.is) c.put_grown.ensures.err
