-- What is reached from some roots, step by step.
pub use Rattle.cny_version.specs.cny-base.Reach.{IsReachedIn}
