use Rattle.std.proofs.Common.{◌≡◌, string_bytes, take}
use Rattle.cny_report.specs.Troves.{named_text}
use Rattle.cny_report.proofs.troves.named_text.Given as goal

abbrev pub invariant-loop-trove : goal.invariant-loop-trove
invariant-loop-trove l = string_bytes l.text ≡ named_text l.name (take l.trove-index l.troves)
