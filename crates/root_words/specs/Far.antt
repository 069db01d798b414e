-- Contents that tell nothing of what they hold, but how often they failed.
use Rattle.std.specs.Prelude.{ℕ, false}
use Rattle.content_store.specs.Contents.{ContentsModel, IsSource}

abbrev pub far_contents : {C : Type 0} → (C → ℕ) → ContentsModel C
far_contents failed = record {
  holds = λ c map. ⊥;
  answers = λ c name found. Unit {0};
  tells = false;
  is_damaged = λ c path. ⊥;
  faults = failed;
  searched = λ old new. Unit {0};
}

pub far_source : {C : Type 0} → (failed : C → ℕ) → IsSource (far_contents failed)
far_source failed = record {
  none = λ c. tt;
  next = λ a b c first second. tt;
  mapped = λ c map name found holds answer. absurd holds;
  one = λ tells c name a b first second. absurd (cc tells);
}
