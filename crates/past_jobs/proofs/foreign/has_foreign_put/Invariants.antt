use Rattle.std.proofs.Common.{◌≡◌, ◌&&◌}
use Rattle.std.specs.List.{list_any}
use Rattle.change_rel.specs.cny-base.Below.{begins_with}
use Rattle.past_jobs.specs.Seen.{has_foreign_put, is_foreign_put}
use Rattle.past_jobs.proofs.Ranging.{AreFrom}
use Rattle.past_jobs.proofs.foreign.has_foreign_put.Given as goal

abbrev pub invariant-loop-path : goal.invariant-loop-path
invariant-loop-path l = record {
  from : AreFrom l.dir l.path-iterator;
  rest : has_foreign_put l.found l.changes l.dir ≡ list_any (λ at. begins_with l.dir at.0 && is_foreign_put l.changes l.dir at) l.path-iterator;
}
