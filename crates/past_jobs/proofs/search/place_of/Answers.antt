use Rattle.std.proofs.Common.{refl, rules, suc, arith}
use Rattle.std.proofs.lemmas.Fn.{always_returns_same}
use Rattle.std.proofs.lemmas.Map.Keys.{Less-from_sorted}
use Rattle.local_db.proofs.journal-log.Searching.{against, place_some, place_none}
use Rattle.local_db.specs.Record.{Entry, entry_cmp}
use Rattle.past_jobs.specs.Marks.{is_path_of}
use Rattle.past_jobs.proofs.search.place_of.Goals as goal

pub returns-clause-some : goal.returns-clause-some
returns-clause-some c =
    place_some (λ (e : Entry). e.path) is_path_of (λ path. refl) (λ e es path. refl) c.args.changes.now c.args.path.now c.binary_search_by.result c.ok.result c.ok.ensures.value c.binary_search_by.ensures.bound
    (c.binary_search_by.ensures.position (against (λ (e : Entry). e.path) c.args.path.now) (always_returns_same _ _ _ (λ a r g k. search rules)))

pub returns-clause-none : goal.returns-clause-none
returns-clause-none c =
    place_none (λ (e : Entry). e.path) is_path_of (λ path. refl) (λ e es path. refl) c.args.changes.now c.args.path.now c.binary_search_by.result c.ok.result c.ok.ensures.value
    (λ k d lt. Less-from_sorted entry_cmp c.args.changes.now k (suc k) d c.requires (omega arith) lt)
    (c.binary_search_by.ensures.position (against (λ (e : Entry). e.path) c.args.path.now) (always_returns_same _ _ _ (λ a r g k. search rules)))
