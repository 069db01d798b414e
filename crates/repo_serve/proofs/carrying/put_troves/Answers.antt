use Rattle.std.proofs.Common.{ap, arith}
use Rattle.std.proofs.lemmas.List.Sums.{get_or-le-sum_by}
use Rattle.repo_load.specs.trove-stream.declared.parts.TroveParts.{TroveParts}
use Rattle.repo_mirror.specs.Lengths.{trove_length}
use Rattle.repo_serve.proofs.carrying.put_troves.Goals as goal

pub put_trove-requires : goal.put_trove-requires
put_trove-requires c =
    let t = c.trove-item.result in
    let least = get_or-le-sum_by trove_length c.args.troves.now c.loop-trove.trove-index t (omega arith) in
    let same = ap (λ (u : TroveParts). trove_length u) c.trove-item.is in
    omega (arith, c.requires, least, same)
