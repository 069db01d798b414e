use Rattle.std.proofs.Common.{◌≡◌, ◌+◌, length, refl, sym, arith, ◌∙◌}
use Rattle.cny_stream.proofs.Fronts.{no_magic, the_magic}
use Rattle.cny_stream.proofs.cutter.Cutter.push_magic.Goals as goal

pub returns-then-ne : goal.returns-then-ne
returns-then-ne c = λ magic whole front at.
    let cutter = c.args.self.now in
    let eight : length cutter.front ≡ 8 = omega arith in
    let last : cutter.have + 1 ≡ 8 = omega arith in
    let both = no_magic cutter.front cutter.magic cutter.have c.args.byte front c.ne.result eight last at.is_at.there c.ne.ensures c.if-ne.true in
    (both.0, λ is. both.1 (is ∙ sym at.begins), refl)

pub returns : goal.returns
returns c = λ magic whole front at.
    let cutter = c.args.self.now in
    let eight : length cutter.front ≡ 8 = omega arith in
    let last : cutter.have + 1 ≡ 8 = omega arith in (
      the_magic cutter.front cutter.magic cutter.have c.args.byte front c.ne.result eight last at.is_at.there c.ne.ensures c.if-ne.false ∙ at.begins,
      record { begins = at.begins; is_at = record { place = refl; there = refl; few = omega arith } },
    )
