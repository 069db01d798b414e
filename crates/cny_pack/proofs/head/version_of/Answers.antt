use Rattle.std.proofs.lemmas.Str.{is_utf8-from_IsUtf8}
use Rattle.std.proofs.Common.{Err, sym, ap, subst}
use Rattle.cny_pack.specs.Halts.{IsUnread}
use Rattle.cny_pack.specs.declared.stop.BadWord.TheVariants as bad
use Rattle.cny_pack.proofs.Stopping.{unread_is}
use Rattle.cny_version.specs.Version.{WholeVersion, IsVersion}
use Rattle.cny_manifest.specs.Grammar.{IsVersionField}
use Rattle.cny_pack.proofs.head.version_of.Goals as goal

pub returns-in-Ok-clause-is : goal.returns-in-Ok-clause-is
returns-in-Ok-clause-is c = record { utf8 = is_utf8-from_IsUtf8 c.args.text.now c.utf8.text; valid = c.in-Ok.ensures.ok; spelled = c.in-Ok.ensures.value }

pub returns-in-Err-clause-refused : goal.returns-in-Err-clause-refused
returns-in-Err-clause-refused c =
    subst (IsUnread bad.Version ((version : WholeVersion) → IsVersionField c.args.text.now version → ⊥)) (sym c.unread.ensures)
    (unread_is c.in-Err.fault bad.Version ((version : WholeVersion) → IsVersionField c.args.text.now version → ⊥) (λ is version field. c.in-Err.ensures.bad.0 (ap Err is) (field.spelled.0, subst IsVersion field.spelled.1 field.valid, field.spelled.2)))
