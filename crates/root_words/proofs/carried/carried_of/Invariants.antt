use Rattle.std.proofs.Common.{◌≡◌, All}
use Rattle.sha1.specs.Sha1.{sha1}
use Rattle.change_set.specs.declared.change.Carried.{Carried}
use Rattle.root_words.proofs.carried.carried_of.Given as goal

abbrev pub invariant-loop-bytes : goal.invariant-loop-bytes
invariant-loop-bytes l = All (λ (content : Carried). content.name ≡ sha1 content.bytes) l.carried.items
