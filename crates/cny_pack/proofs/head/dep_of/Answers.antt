use Rattle.std.proofs.lemmas.Str.{is_utf8-from_IsUtf8}
use Rattle.std.proofs.Common.{Err, sym, ap, subst}
use Rattle.cny_pack.specs.Halts.{IsUnread}
use Rattle.cny_pack.specs.declared.stop.BadWord.TheVariants as bad
use Rattle.cny_pack.proofs.Stopping.{unread_is}
use Rattle.cny_dep.specs.Dep.{Dependency}
use Rattle.cny_manifest.specs.Grammar.{IsDepField}
use Rattle.cny_pack.proofs.head.dep_of.Goals as goal

pub returns-in-Ok-clause-is : goal.returns-in-Ok-clause-is
returns-in-Ok-clause-is c = record { utf8 = is_utf8-from_IsUtf8 c.args.text.now c.utf8.text; valid = c.in-Ok.ensures.ok; spelled = c.in-Ok.ensures.value }

pub returns-in-Err-clause-refused : goal.returns-in-Err-clause-refused
returns-in-Err-clause-refused c =
    subst (IsUnread c.args.word ((dep : Dependency) → IsDepField c.args.text.now dep → ⊥)) (sym c.unread.ensures)
    (unread_is c.in-Err.fault c.args.word ((dep : Dependency) → IsDepField c.args.text.now dep → ⊥) (λ is dep field. c.in-Err.ensures.bad (ap Err is) dep field.valid field.spelled))
