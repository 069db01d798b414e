use Rattle.std.proofs.Common.{◌≡◌, false}
use Rattle.journal_log.proofs.Walking.{kept, not_kept, not_logged}
use Rattle.journal_log.proofs.rules.keeps_rules.Goals as goal

pub returns-then-not-are_named : goal.returns-then-not-are_named
returns-then-not-are_named c =
    ((λ h. absurd (cc h)), not_kept c.args.base.now c.get-puts.result.now c.args.puts.now (false ≡ _) c.get-puts.ensures.value c.if-not-are_named.ensures.named.1)

pub returns-then-not-are_logged : goal.returns-then-not-are_logged
returns-then-not-are_logged c =
    ((λ h. absurd (cc h)), not_logged c.args.base.now c.get-puts.result.now c.args.puts.now (false ≡ _) c.get-puts.ensures.value c.if-not-are_logged.ensures.1)

pub returns : goal.returns
returns c =
    kept c.args.base.now c.get-puts.result.now c.args.puts.now c.nothing_is_below.result c.get-puts.ensures.value (c.are_named.ensures.named.0 c.if-not-are_named.false) (c.are_logged.ensures.0 c.if-not-are_logged.false) c.nothing_is_below.ensures.0 c.nothing_is_below.ensures.1
