-- Tests that follow one another.
use Rattle.std.specs.Prelude.{◌≡◌, ◌⊎◌, Result, Ok, Err}
use Rattle.repo_index.specs.cny-base.declared.refusal.Fault.{Fault}
use Rattle.repo_index.specs.cny-base.declared.refusal.Fault.TheVariants as fault
use Rattle.repo_index.specs.cny-base.declared.refusal.Refusal.{Refusal}

-- The test finds this, and with it the rest decides.
pub record Finds {A B : Type 0} (Test : Result A Refusal → Type 0) (Rest : A → Result B Refusal → Type 0) (outcome : Result B Refusal) : Type 0 where
  pub value : A
  pub found : Test (Ok value)
  pub rest : Rest value outcome

-- The test refuses, and so the whole is refused.
pub record IsRefusedBy {A B : Type 0} (Test : Result A Refusal → Type 0) (outcome : Result B Refusal) : Type 0 where
  pub refusal : Refusal
  pub refused : Test (Err refusal)
  pub is : outcome ≡ Err refusal

-- a test, and then the rest
abbrev pub AndThen : {A B : Type 0} → (Result A Refusal → Type 0) → (A → Result B Refusal → Type 0) → Result B Refusal → Type 0
AndThen Test Rest outcome = Finds Test Rest outcome ⊎ IsRefusedBy Test outcome

-- the test's outcome, or want of memory
abbrev pub EndsAs : {A : Type 0} → (Result A Refusal → Type 0) → Result A Fault → Type 0
EndsAs Test (Ok x) = Test (Ok x)
EndsAs Test (Err (fault.Refused refusal)) = Test (Err refusal)
EndsAs Test (Err fault.Memory) = Unit {0}
