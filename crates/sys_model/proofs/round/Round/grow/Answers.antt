use Rattle.std.proofs.Common.{ℕ, List, take, refl, sym, subst, ◌∙◌, arith}
use Rattle.sys_model.specs.Growing.{HasNotedAll, HasTwo, IsRoundOf}
use Rattle.sys_model.proofs.GrownRounds.{grown_replaced, reach_two}
use Rattle.sys_model.proofs.Regrown.{kept_round, renewed_round, tail_at}
use Rattle.sys_model.proofs.round.Round.grow.Goals.{then-replaced-len+in_ok-renew, else-replaced-len}
use Rattle.sys_model.proofs.round.Round.grow.Goals as goal

pub refused-requires : goal.refused-requires
refused-requires c =
    let troves = c.args.known.now.catalogue.now.troves in
    let old = c.args.self.now in
    let more = c.in_ok-reach.ensures.more in
    let new_is = c.as_slice.ensures.keys ∙ more.new_is in
    reach_two troves c.args.known.now.installed.now (take c.args.from c.args.roots.now) c.args.roots.now old c.requires.before c.troves-all.ensures.distinct c.reach.new.places more c.in_ok-reach.ensures.distinct
    c.in_ok-reach.ensures.gathered
    (subst (λ (l : List ℕ). HasTwo troves l old.fresh) (tail_at old.places more.more c.as_slice.result.now c.len-before.result c.len-before.ensures.len new_is) (c.in_ok-noted.ensures.two c.if-not-noted.true))

pub renew-requires : goal.renew-requires
renew-requires c =
    let troves = c.args.known.now.catalogue.now.troves in
    let installed = c.args.known.now.installed.now in
    let old = c.args.self.now in
    let new = c.note_all.new in
    let more = c.in_ok-reach.ensures.more in
    let new_is = c.as_slice.ensures.keys ∙ more.new_is in
    (grown_replaced troves installed (take c.args.from c.args.roots.now) old c.requires.before c.reach.new.places new.fresh new.doubted new.replaced.items more
    (subst (λ (l : List ℕ). HasNotedAll troves installed l old.fresh new.fresh old.doubted new.doubted old.replaced.items new.replaced.items)
    (tail_at old.places more.more c.as_slice.result.now c.len-before.result c.len-before.ensures.len new_is) (c.in_ok-noted.ensures.noted c.if-not-noted.false))).installed_

pub returns-clause-ok : goal.returns-clause-ok
returns-clause-ok c =
    let troves = c.args.known.now.catalogue.now.troves in
    let installed = c.args.known.now.installed.now in
    let roots = c.args.roots.now in
    let front = take c.args.from roots in
    let old = c.args.self.now in
    let new = c.note_all.new in
    let places = c.reach.new.places in
    let more = c.in_ok-reach.ensures.more in
    let new_is = c.as_slice.ensures.keys ∙ more.new_is in
    let noted : HasNotedAll troves installed more.more old.fresh new.fresh old.doubted new.doubted old.replaced.items new.replaced.items =
    subst (λ (l : List ℕ). HasNotedAll troves installed l old.fresh new.fresh old.doubted new.doubted old.replaced.items new.replaced.items)
    (tail_at old.places more.more c.as_slice.result.now c.len-before.result c.len-before.ensures.len new_is) (c.in_ok-noted.ensures.noted c.if-not-noted.false) in
    elim c.if-replaced-len.branch [
      | then-replaced-len+in_ok-renew w ↦ (
          let renewed = w.in_ok-renew.ensures in
          subst (IsRoundOf troves installed roots) (sym w.self-is)
          (renewed_round troves installed front roots old c.requires.before places new.fresh new.doubted new.replaced.items more noted c.in_ok-reach.ensures.distinct c.in_ok-reach.ensures.gathered w.renew.new.self
          renewed.places renewed.fresh renewed.replaced renewed.erased renewed.comers renewed.stayers))
      | else-replaced-len w ↦
          subst (IsRoundOf troves installed roots) (sym w.self-is)
          (kept_round troves installed front roots old c.requires.before places new.fresh new.doubted new.replaced.items more noted c.in_ok-reach.ensures.distinct c.in_ok-reach.ensures.gathered new.replaced refl
          (omega (arith, w.if-replaced-len.false, c.len.ensures, c.len-replaced.ensures)))
    ]
