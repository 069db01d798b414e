use Rattle.std.proofs.Common.{◌≡◌, true, false, IsTrue, Err, sym, ap, subst, ◌∙◌}
use Rattle.manifest_troves.specs.cny-base.Name.{is_name}
use Rattle.cny_pack.specs.Halts.{IsUnread}
use Rattle.cny_pack.proofs.Stopping.{unread_is}
use Rattle.cny_pack.proofs.head.name_of.Goals as goal

pub returns-in-Err-clause-refused : goal.returns-in-Err-clause-refused
returns-in-Err-clause-refused c =
    subst (IsUnread c.args.word (IsTrue (is_name c.args.text.now) → ⊥)) (sym c.unread.ensures)
    (unread_is c.in-Err.fault c.args.word (IsTrue (is_name c.args.text.now) → ⊥) (λ is named. let no : true ≡ false = sym named ∙ c.in-Err.ensures.bad.0 (ap Err is) in cc))
