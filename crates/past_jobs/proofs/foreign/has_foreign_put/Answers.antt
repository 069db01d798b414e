use Rattle.std.proofs.Common.{◌&&◌, sym, ◌∙◌, ap, subst}
use Rattle.std.proofs.lemmas.Map.Iter.{rest_all, rest_more}
use Rattle.std.specs.Borrow.{Bor}
use Rattle.std.specs.List.{list_any}
use Rattle.std.specs.Map.Iter.{deref_pair}
use Rattle.change_rel.specs.cny-base.Below.{begins_with}
use Rattle.local_db.specs.tree-disk.Tree.{Name}
use Rattle.past_jobs.specs.declared.found.FoundMark.{FoundMark}
use Rattle.past_jobs.specs.Seen.{is_foreign_put}
use Rattle.past_jobs.proofs.Ranging.{AreFrom, any_from, from_sorted, goes_on, hits, stops_at}
use Rattle.past_jobs.proofs.foreign.has_foreign_put.Goals as goal

pub loop-path-init : goal.loop-path-init
loop-path-init c =
    let whole = c.into_iter-path-iterator.ensures.into_iter_gives ∙ c.range-path-items.ensures.between tt in
    record {
      from = subst (AreFrom c.args.dir.now) (sym whole) (from_sorted c.args.dir.now c.args.found.now.entries c.range-path-items.ensures.ordered);
      rest = any_from c.args.dir.now (is_foreign_put c.args.changes.now c.args.dir.now) c.args.found.now.entries
          ∙ ap (list_any (λ at. begins_with c.args.dir.now at.0 && is_foreign_put c.args.changes.now c.args.dir.now at)) (sym whole);
    }

pub returns-then-not-begins_with : goal.returns-then-not-begins_with
returns-then-not-begins_with c =
    let x : Bor Name × Bor FoundMark = (c.in-Some.path, c.in-Some.at) in
    let more = rest_more deref_pair c.loop-path.path-iterator c.next.new.self c.next.result x c.in-Some.is c.next.ensures.steps in
    sym (c.loop-path.invariant.rest ∙ ap (list_any (λ at. begins_with c.args.dir.now at.0 && is_foreign_put c.args.changes.now c.args.dir.now at)) more
    ∙ stops_at c.args.dir.now (is_foreign_put c.args.changes.now c.args.dir.now) (deref_pair x) c.next.new.self (subst (AreFrom c.args.dir.now) more c.loop-path.invariant.from) (sym c.begins_with.ensures ∙ c.if-not-begins_with.true))

pub returns-then-is_foreign_put : goal.returns-then-is_foreign_put
returns-then-is_foreign_put c =
    let x : Bor Name × Bor FoundMark = (c.in-Some.path, c.in-Some.at) in
    let more = rest_more deref_pair c.loop-path.path-iterator c.next.new.self c.next.result x c.in-Some.is c.next.ensures.steps in
    sym (c.loop-path.invariant.rest ∙ ap (list_any (λ at. begins_with c.args.dir.now at.0 && is_foreign_put c.args.changes.now c.args.dir.now at)) more
    ∙ hits c.args.dir.now (is_foreign_put c.args.changes.now c.args.dir.now) (deref_pair x) c.next.new.self (sym c.begins_with.ensures ∙ c.if-not-begins_with.false) (sym c.is_foreign_put.ensures ∙ c.if-is_foreign_put.true))

pub loop-path-preserved : goal.loop-path-preserved
loop-path-preserved c =
    let x : Bor Name × Bor FoundMark = (c.in-Some.path, c.in-Some.at) in
    let more = rest_more deref_pair c.loop-path.path-iterator c.next.new.self c.next.result x c.in-Some.is c.next.ensures.steps in
    let from = subst (AreFrom c.args.dir.now) more c.loop-path.invariant.from in
    record {
      from = from.2;
      rest = c.loop-path.invariant.rest ∙ ap (list_any (λ at. begins_with c.args.dir.now at.0 && is_foreign_put c.args.changes.now c.args.dir.now at)) more
          ∙ goes_on c.args.dir.now (is_foreign_put c.args.changes.now c.args.dir.now) (deref_pair x) c.next.new.self (sym c.is_foreign_put.ensures ∙ c.if-is_foreign_put.false);
    }

pub returns : goal.returns
returns c =
    let none = rest_all deref_pair c.loop-path.path-iterator c.next.new.self c.next.result c.in-None.is c.next.ensures.steps in
    sym (c.loop-path.invariant.rest ∙ ap (list_any (λ at. begins_with c.args.dir.now at.0 && is_foreign_put c.args.changes.now c.args.dir.now at)) none)
