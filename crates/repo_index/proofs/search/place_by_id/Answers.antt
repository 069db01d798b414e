use Rattle.std.proofs.Common.{◌≡◌, ℕ, List, Contains, Option, Some, true, nat_eq, sym, ap, subst, ◌∙◌, true≢false}
use Rattle.std.proofs.lemmas.Bool.{eqb-true}
use Rattle.indexmap.specs.IndexMap.{get}
use Rattle.repo_index.specs.Hashes.{hash_of, is_kept}
use Rattle.repo_index.specs.Keys.{is_number}
use Rattle.repo_index.specs.Places.{HasIdAt}
use Rattle.repo_index.proofs.Hashing.{kept_among, same_hash}
use Rattle.repo_index.proofs.Placing.{one_place}
use Rattle.repo_index.proofs.search.place_by_id.Goals as goal
use Rattle.repo_index.proofs.search.place_by_id.Goals.{in-Some+else-is_place_of, in_default}

pub returns-then-is_place_of-clause-only : goal.returns-then-is_place_of-clause-only
returns-then-is_place_of-clause-only c place at =
    ap (λ (p : ℕ). Some p) (one_place c.args.troves.now c.args.id.now _ place c.requires.distinct (c.is_place_of.ensures.0 c.if-is_place_of.true) at)

pub returns-clause-only : goal.returns-clause-only
returns-clause-only c place at =
    let id = c.args.id.now in
    let places = c.args.places.now in
    let kept : is_kept places (hash_of id) place ≡ true =
    subst (λ (hash : ℕ). is_kept places hash place ≡ true) (same_hash at.trove.id id at.has) (c.requires.kept place at.trove at.stands) in
    let not_first : is_number (get nat_eq places.firsts (hash_of id)) place ≡ true → ⊥ = λ is. elim c.match-first.branch [
      | in-Some+else-is_place_of w ↦ (
          let first : get nat_eq places.firsts (hash_of id) ≡ Some w.in-Some.place = ap (get nat_eq places.firsts) (sym c.hash_of.ensures) ∙ sym w.in-Some.ensures in
          let same : w.in-Some.place ≡ place = eqb-true w.in-Some.place place (sym (ap (λ (o : Option ℕ). is_number o place) first) ∙ is) in
          true≢false (sym (w.is_place_of.ensures.1 (subst (HasIdAt c.args.troves.now id) (sym same) at)) ∙ w.if-is_place_of.false))
      | in_default w ↦
          true≢false (sym is ∙ ap (λ (o : Option ℕ). is_number o place) (ap (get nat_eq places.firsts) (sym c.hash_of.ensures) ∙ sym w.in_default.ensures))
    ] in
    c.place_among.ensures.only place (subst (λ (l : List ℕ). Contains l place) (sym c.others.ensures) (kept_among places (hash_of id) place kept not_first)) at
