use Rattle.std.proofs.Common.{◌∙◌, sym, subst}
use Rattle.manifest_troves.specs.Troves.{KeepsEntries}
use Rattle.manifest_troves.proofs.Entries.{entries_kept}
use Rattle.manifest_troves.proofs.Rising.{troves_rise}
use Rattle.change_set.specs.trove-stream.NameOrder.{HasRisingNames}
use Rattle.manifest_troves.proofs.troves.troves_of.Goals as goal

pub returns-clause-rising : goal.returns-clause-rising
returns-clause-rising c = subst HasRisingNames (sym (c.new.ensures ∙ c.in_ok-troves.ensures.ok)) (troves_rise c.args.lines c.in_ok-troves.ensures.are)

pub returns-clause-entries : goal.returns-clause-entries
returns-clause-entries c = subst (KeepsEntries c.args.lines) (sym (c.new.ensures ∙ c.in_ok-troves.ensures.ok)) (entries_kept c.args.lines)
