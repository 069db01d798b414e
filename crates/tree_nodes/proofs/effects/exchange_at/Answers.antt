use Rattle.std.proofs.Common.{◌∙◌, sym, ap, is_some, Some}
use Rattle.std.specs.Option.{option_copied_mut}
use Rattle.tree_nodes.proofs.StoredTree.{get_at, written_some}
use Rattle.tree_nodes.proofs.effects.exchange_at.Goals as goal

pub unreachable-requires : goal.unreachable-requires
unreachable-requires c =
    let found = sym c.get_mut.ensures.value ∙ ap option_copied_mut c.in-None.is in
    absurd (cc (sym c.requires ∙ ap is_some (get_at _ _ c.args.nodes.now.entries found)))

pub returns-clause-stood : goal.returns-clause-stood
returns-clause-stood c =
    let found = sym c.get_mut.ensures.value ∙ ap option_copied_mut c.in-Some.is in
    get_at _ _ c.args.nodes.now.entries found ∙ ap Some (sym c.replace.ensures.value)

pub returns-clause-stands : goal.returns-clause-stands
returns-clause-stands c =
    let found = sym c.get_mut.ensures.value ∙ ap option_copied_mut c.in-Some.is in
    written_some _ _ _ _ _ _ found (c.get_mut.follows.holds c.replace.new.dest).0 (ap Some c.replace.ensures.after)
