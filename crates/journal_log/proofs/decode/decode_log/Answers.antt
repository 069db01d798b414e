use Rattle.std.proofs.Common.{◌≡◌, ℕ, List, sym, subst}
use Rattle.tree_disk.specs.Tree.{Name}
use Rattle.journal_log.specs.declared.put.Put.{Put}
use Rattle.journal_log.specs.PutItem.{ArePutsOf}
use Rattle.journal_log.specs.LogBytes.{IsLogText}
use Rattle.journal_log.specs.Rules.{AreLogged, AreNamed, NothingBelow}
use Rattle.journal_log.specs.WriteSet.{Rises}
use Rattle.journal_log.proofs.Decoding.{log_of_puts, log_rises, log_rules, one_log}
use Rattle.journal_log.proofs.decode.decode_log.Goals as goal

-- ---- paths that don't rise

pub returns-in_default-clause-only : goal.returns-in_default-clause-only
returns-in_default-clause-only c = λ puts log.
    absurd (c.in_default.ensures.none (log_rises c.args.base.now c.in_ok-items.items.items puts c.args.bytes.now c.in_ok-items.ensures.ok log))

pub returns-in_default-clause-bad : goal.returns-in_default-clause-bad
returns-in_default-clause-bad c = λ bad puts log.
    c.in_default.ensures.none (log_rises c.args.base.now c.in_ok-items.items.items puts c.args.bytes.now c.in_ok-items.ensures.ok log)

-- ---- puts that break a rule

rules_of : (base : Name) (items made puts : List Put) (bytes : List ℕ) → made ≡ items → ArePutsOf items bytes → IsLogText base puts bytes → AreNamed base made × NothingBelow made × AreLogged base made
rules_of base items made puts bytes same read log = subst (λ (l : List Put). AreNamed base l × NothingBelow l × AreLogged base l) (sym same) (log_rules base items puts bytes read log)

pub returns-then-not-keeps_rules-clause-only : goal.returns-then-not-keeps_rules-clause-only
returns-then-not-keeps_rules-clause-only c = λ puts log.
    absurd (cc (c.if-not-keeps_rules.ensures.1 (rules_of c.args.base.now c.in_ok-items.items.items c.in-Some.puts puts c.args.bytes.now c.in-Some.ensures.some c.in_ok-items.ensures.ok log)))

pub returns-then-not-keeps_rules-clause-bad : goal.returns-then-not-keeps_rules-clause-bad
returns-then-not-keeps_rules-clause-bad c = λ bad puts log.
    cc (c.if-not-keeps_rules.ensures.1 (rules_of c.args.base.now c.in_ok-items.items.items c.in-Some.puts puts c.args.bytes.now c.in-Some.ensures.some c.in_ok-items.ensures.ok log))

-- ---- the write set

made_log : (base : Name) (items made : List Put) (bytes : List ℕ) → made ≡ items → ArePutsOf items bytes → Rises items → AreNamed base made × NothingBelow made × AreLogged base made → IsLogText base made bytes
made_log base items made bytes same read rises rules =
    log_of_puts base made bytes (subst (λ (l : List Put). ArePutsOf l bytes) (sym same) read) (subst Rises (sym same) rises) rules

pub returns-clause-ok : goal.returns-clause-ok
returns-clause-ok c =
    made_log c.args.base.now c.in_ok-items.items.items c.in-Some.puts c.args.bytes.now c.in-Some.ensures.some c.in_ok-items.ensures.ok c.in-Some.ensures.rises (c.keeps_rules.ensures.0 c.if-not-keeps_rules.false)

pub returns-clause-only : goal.returns-clause-only
returns-clause-only c = λ puts log.
    one_log c.args.base.now c.in-Some.puts puts c.args.bytes.now
    (made_log c.args.base.now c.in_ok-items.items.items c.in-Some.puts c.args.bytes.now c.in-Some.ensures.some c.in_ok-items.ensures.ok c.in-Some.ensures.rises (c.keeps_rules.ensures.0 c.if-not-keeps_rules.false)) log
