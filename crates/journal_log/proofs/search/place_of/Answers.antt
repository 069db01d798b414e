use Rattle.std.proofs.Common.{refl, rules}
use Rattle.std.proofs.lemmas.Fn.{always_returns_same}
use Rattle.journal_log.specs.declared.put.Put.{Put}
use Rattle.journal_log.specs.Targets.{is_target}
use Rattle.journal_log.proofs.Rising.{rising_at}
use Rattle.journal_log.proofs.Searching.{against, place_some, place_none}
use Rattle.journal_log.proofs.search.place_of.Goals as goal

pub returns-clause-some : goal.returns-clause-some
returns-clause-some c =
    place_some (λ (p : Put). p.path) is_target (λ path. refl) (λ p puts path. refl) c.args.puts.now c.args.path.now c.binary_search_by.result c.ok.result c.ok.ensures.value c.binary_search_by.ensures.bound
    (c.binary_search_by.ensures.position (against (λ (p : Put). p.path) c.args.path.now) (always_returns_same _ _ _ (λ a r g k. search rules)))

pub returns-clause-none : goal.returns-clause-none
returns-clause-none c =
    place_none (λ (p : Put). p.path) is_target (λ path. refl) (λ p puts path. refl) c.args.puts.now c.args.path.now c.binary_search_by.result c.ok.result c.ok.ensures.value (λ k d lt. rising_at c.args.puts.now k d c.requires lt)
    (c.binary_search_by.ensures.position (against (λ (p : Put). p.path) c.args.path.now) (always_returns_same _ _ _ (λ a r g k. search rules)))
