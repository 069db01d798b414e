use Rattle.std.proofs.Common.{◌≡◌, ◌+◌, IsTrue, length, get_or, ap, arith, rules}
use Rattle.std.proofs.Math.ListN.{set}
use Rattle.std.proofs.lemmas.List.{length-set, length-take}
use Rattle.cny_stream.specs.Item.{is_expected}
use Rattle.cny_stream.proofs.Fronts.{head_read, last_of_head}
use Rattle.cny_stream.proofs.cutter.Cutter.push_head.Goals as goal

pub returns : goal.returns
returns c = λ magic whole front at.
    let cutter = c.args.self.now in
    let tags = c.args.tags.now in
    let eight : length cutter.front ≡ 8 = omega arith in
    let bytes = set cutter.front cutter.have c.args.byte in
    let long : length bytes ≡ 8 = omega (arith, length-set cutter.front cutter.have c.args.byte) in
    let five : cutter.have + 1 ≡ 5 = omega (arith, length-take cutter.have cutter.front, ap length at.is_at.there, at.is_at.few) in
    let expected : IsTrue (is_expected tags (get_or bytes 0 0)) = search rules in
    let head = head_read tags bytes c.length_of-len.result (omega arith) c.length_of-len.type_inv expected c.length_of-len.ensures in
    (last_of_head tags cutter.front cutter.have c.args.byte c.length_of-len.result front eight five at.is_at.there head, c.begin_value.ensures magic whole _ at.begins)
