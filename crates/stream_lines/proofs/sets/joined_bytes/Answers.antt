use Rattle.std.proofs.Common.{All, sym, subst}
use Rattle.std.specs.List.Sorted.{IsStrictlySortedBy}
use Rattle.std.proofs.lemmas.List.Elements.{All-nil}
use Rattle.line_words.specs.cny-report.change-set.ChangeSet.{IsContentOf, content_cmp}
use Rattle.update_job.proofs.change-set.Carrying.{no_carried as none_rise}
use Rattle.stream_lines.proofs.sets.joined_bytes.Goals as goal

-- a set without contents
pub encode-requires : goal.encode-requires
encode-requires c = record {
  contents = subst (All (IsContentOf c.in_ok-set.set.parts)) (sym c.in_ok-set.ensures) (All-nil (IsContentOf c.in_ok-set.set.parts));
  rising = subst (IsStrictlySortedBy content_cmp) (sym c.in_ok-set.ensures) none_rise;
}
