use Rattle.std.proofs.Common.{◌≡◌, take, All}
use Rattle.std.specs.Cmp.Lexicographic.{slice_cmp}
use Rattle.std.specs.Ordering.{nat_cmp}
use Rattle.std.specs.declared.cmp.Ordering.TheVariants.{Less}
use Rattle.rollback_stack.specs.journal-log.declared.put.Put.{Put}
use Rattle.system_core.proofs.inserting.place_of.Given as goal

abbrev pub invariant-loop-put : goal.invariant-loop-put
invariant-loop-put l =
    record {
      at_is : l.at ≡ l.put-index;
      before : All (λ (p : Put). slice_cmp nat_cmp l.path p.path ≡ Less → ⊥) (take l.put-index l.puts);
    }
