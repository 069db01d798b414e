use Rattle.std.proofs.Common.{◌≡◌, true, take, map}
use Rattle.std.specs.List.{list_all}
use Rattle.cny_dep.specs.Part.{is_flag}
use Rattle.cny_dep.proofs.reading.flags_of.Given as goal

abbrev pub invariant-loop-part : goal.invariant-loop-part
invariant-loop-part l = record {
  taken : l.flags.items ≡ map (λ part. part.now) (take l.part-index l.parts);
  valid : list_all is_flag l.flags.items ≡ true;
}
