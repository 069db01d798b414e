use Rattle.std.proofs.Common.{Err, sym, ap, subst}
use Rattle.cny_pack.specs.Halts.{IsUnread}
use Rattle.cny_pack.specs.declared.stop.BadWord.TheVariants as bad
use Rattle.cny_pack.proofs.Stopping.{unread_is}
use Rattle.cny_dep.specs.declared.parts.Parts.{Parts}
use Rattle.cny_dep.specs.Spelling.{IsRelaxedText, IsReadAs}
use Rattle.tree_disk.specs.cny-base.declared.text.TextFault.{TextFault}
use Rattle.cny_pack.proofs.head.flavor_of.Goals as goal

pub returns-in-Err-clause-refused : goal.returns-in-Err-clause-refused
returns-in-Err-clause-refused c =
    subst (IsUnread bad.Flavor ((parts : Parts) → IsRelaxedText c.args.text.now parts → ⊥)) (sym c.unread.ensures)
    (unread_is c.in-Err.fault bad.Flavor ((parts : Parts) → IsRelaxedText c.args.text.now parts → ⊥) (λ is parts spelled. subst (λ (f : TextFault). IsReadAs (Err f) parts) is (c.in-Err.ensures.only parts spelled)))
