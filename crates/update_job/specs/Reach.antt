-- What is reached from some roots, step by step.
pub use Rattle.change_rel.specs.cny-base.Reach.{IsReachedIn}
