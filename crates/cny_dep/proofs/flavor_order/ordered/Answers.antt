use Rattle.std.proofs.Common.{◌≡◌, ◌∙◌, ap, arith, insert}
use Rattle.std.specs.List.{prefix_len}
use Rattle.std.proofs.lemmas.List.Sums.{prefix_len-le-length}
use Rattle.cny_dep.specs.FlavorOrder.{put_all, precedes}
use Rattle.cny_dep.proofs.Putting.{put_last}
use Rattle.cny_dep.proofs.flavor_order.ordered.Goals as goal

pub insert-requires : goal.insert-requires
insert-requires g c = omega (arith, prefix_len-le-length (λ x. precedes (g.T.Worded.word_of x) c.word.result.now) c.as_slice.result.now)

pub loop-item-preserved : goal.loop-item-preserved
loop-item-preserved g c =
    let word = g.T.Worded.word_of in
    let placed : c.place_of-place.result ≡ prefix_len (λ x. precedes (word x) (word c.in-Some.item)) c.loop-item.ordered.items =
    c.place_of-place.ensures ∙ ap (prefix_len (λ x. precedes (word x) c.word.result.now)) c.as_slice.ensures.value
    ∙ ap (λ w. prefix_len (λ x. precedes (word x) w) c.loop-item.ordered.items) c.word.ensures in
    ap (put_all word c.pop.new.self.items) (c.in_ok-insert.ensures.items ∙ ap (λ n. insert c.loop-item.ordered.items n c.in-Some.item) placed)
    ∙ put_last word c.loop-item.items.items c.pop.new.self.items c.in-Some.item c.loop-item.ordered.items c.in-Some.ensures.items
    ∙ c.loop-item.invariant
