use Rattle.std.proofs.Common.{sym, subst}
use Rattle.root_edits.specs.Reached.{AreReached}
use Rattle.root_edits.proofs.Choosing.{reached_are}
use Rattle.cny_version.proofs.cny-base.Lists.{contains_at}
use Rattle.root_edits.proofs.reaching.reached.Goals as goal

pub returns-clause-value : goal.returns-clause-value
returns-clause-value c =
    subst (AreReached c.args.installed.now c.args.name.now) (sym c.in_ok-chosen.ensures)
    (reached_are c.args.installed.now c.args.name.now c.in-Some.start c.in_ok-places.places c.place_of.ensures.rising c.in-Some.ensures.some c.in-Some.ensures.only c.in_ok-places.ensures)

pub returns-clause-installed : goal.returns-clause-installed
returns-clause-installed c =
    λ none. let at = c.in-Some.ensures.some in none at.trove (contains_at c.args.installed.now c.in-Some.start at.trove at.there) at.named
