use Rattle.std.proofs.Common.{◌≡◌, ◌++◌, ◌∷◌, [], IsTrue, map, ap, sym, ◌∙◌, subst}
use Rattle.std.proofs.lemmas.List.{map-append}
use Rattle.std.proofs.lemmas.List.Elements.{All-push}
use Rattle.std.proofs.lemmas.Map.Iter.{rest_more, rest_so_far}
use Rattle.std.specs.List.{All}
use Rattle.std.specs.Option.{option_or}
use Rattle.trove_stream.specs.cny-base.Path.{is_path}
use Rattle.conflict_plan.specs.declared.entries.Entry.{Entry}
use Rattle.conflict_plan.specs.Entries.{entry_of, first_shared, owned_by}
use Rattle.conflict_plan.proofs.Entered.{At, entry_turn}
use Rattle.conflict_plan.proofs.entries.entries_of.Goals as goal

pub loop-path-preserved : goal.loop-path-preserved
loop-path-preserved c =
    let item : At = (c.in-Some.path, c.in-Some.recorded) in
    let more = rest_more (λ (x : At). x) c.loop-path.path-iterator c.next.new.self c.next.result item c.in-Some.is c.next.ensures.steps in
    let so_far = rest_so_far (λ (x : At). x) c.loop-path.yielded c.into_iter-path-iterator.result c.loop-path.path-iterator c.loop-path.yielded_by in
    let all : c.args.records.entries ≡ map (λ (x : At). x) c.loop-path.yielded ++ (item ∷ c.next.new.self) =
    sym c.into_iter-path-iterator.ensures.into_iter_gives.0 ∙ so_far ∙ ap (λ l. map (λ (x : At). x) c.loop-path.yielded ++ l) more in
    let turn = entry_turn c.args.records.entries c.next.new.self c.loop-path.yielded item all in
    record {
      made = c.in_ok-push.ensures.items ∙ ap (λ l. l ++ c.in_ok-entry.entry ∷ []) c.loop-path.invariant.made
          ∙ ap (λ e. map entry_of c.loop-path.yielded ++ e ∷ []) c.in_ok-entry.ensures.entry ∙ sym (map-append entry_of c.loop-path.yielded (item ∷ []));
      paths = subst (All (λ (e : Entry). IsTrue (is_path e.path))) (sym c.in_ok-push.ensures.items)
          (All-push (λ (e : Entry). IsTrue (is_path e.path)) c.loop-path.entries.items c.in_ok-entry.entry c.loop-path.invariant.paths
          (subst (λ (e : Entry). IsTrue (is_path e.path)) (sym c.in_ok-entry.ensures.entry) c.in_ok-entry.ensures.path));
      rest = c.loop-path.invariant.rest ∙ ap first_shared turn.0
          ∙ ap (λ o. option_or (owned_by c.in-Some.path o c.in-Some.recorded.fresh) (first_shared c.next.new.self)) c.in_ok-entry.ensures.none
          ∙ sym (ap first_shared turn.1);
    }
