use Rattle.std.proofs.Common.{◌≡◌, ◌∙◌, sym, rules}
use Rattle.std.proofs.lemmas.Fn.{always_returns_same}
use Rattle.repository.specs.Between.{carried_name}
use Rattle.repository.proofs.Searched.{one_keyed, searched}
use Rattle.change_rel.proofs.cny-base.Keyed.{against, nowhere}
use Rattle.repository.proofs.sizes.content_named.Goals as goal

pub returns-in-Ok-clause-some : goal.returns-in-Ok-clause-some
returns-in-Ok-clause-some c =
    let e = c.index-contents-place.result in
    let named : e.name ≡ c.args.name.now = searched carried_name c.args.contents.now c.args.name.now c.in-Ok.place e c.index-contents-place.is
    (c.in-Ok.ensures.position (against carried_name c.args.name.now) (always_returns_same _ _ _ (λ a r g k. search rules))) in
    record {
      among = (c.in-Ok.place, c.in-Ok.ensures.bound, sym c.index-contents-place.is);
      named = named;
      only = λ other h is. one_keyed carried_name c.args.contents.now c.requires other e h (c.in-Ok.place, c.in-Ok.ensures.bound, sym c.index-contents-place.is) (is ∙ sym named);
    }

pub returns-in-Err-clause-none : goal.returns-in-Err-clause-none
returns-in-Err-clause-none c =
    nowhere carried_name c.args.contents.now c.args.name.now c.requires c.in-Err.field-0
    (c.in-Err.ensures.position (against carried_name c.args.name.now) (always_returns_same _ _ _ (λ a r g k. search rules)))
