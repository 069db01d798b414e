use Rattle.std.proofs.Common.{ℕ, List, take, arith, length-take}
use Rattle.cny_stream.proofs.Positions.{in_magic, in_head, in_value}
use Rattle.cny_stream.proofs.cutter.Cutter.push.Goals as goal

pub returns-in-Magic-clause-pushed : goal.returns-in-Magic-clause-pushed
returns-in-Magic-clause-pushed c = λ magic whole position at.
    in_magic magic c.args.tags.now c.args.self.now c.push_magic.new.self whole c.args.piece.now c.push_magic.result position c.in-Magic.is c.requires (c.push_magic.ensures magic whole) at

pub returns-in-Head-clause-pushed : goal.returns-in-Head-clause-pushed
returns-in-Head-clause-pushed c = λ magic whole position at.
    in_head magic c.args.tags.now c.args.self.now c.push_head.new.self whole c.args.piece.now c.push_head.result position c.in-Head.is c.requires (c.push_head.ensures magic whole) at

pub returns-in-Value-clause-pushed : goal.returns-in-Value-clause-pushed
returns-in-Value-clause-pushed c = λ magic whole position at.
    let taken : List ℕ = take c.push_value.result.used c.args.piece.now in
    in_value magic c.args.tags.now c.args.self.now c.push_value.new.self whole c.args.piece.now c.push_value.result.event position taken c.in-Value.is
    (λ value tag len is. c.push_value.ensures.pushed magic whole value taken tag len is (omega (arith, length-take c.push_value.result.used c.args.piece.now, c.push_value.ensures.most))) at
