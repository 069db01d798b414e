-- How the tests of a specification end.
use Rattle.std.proofs.Common.{List, [], ◌∷◌, Result, Ok, Err, refl, inl, inr}
use Rattle.repo_index.specs.cny-base.declared.refusal.Fault.{Fault}
use Rattle.repo_index.specs.cny-base.declared.refusal.Fault.TheVariants as fault
use Rattle.repo_index.specs.cny-base.declared.refusal.Refusal.{Refusal}
use Rattle.repo_index.specs.trove-parts.declared.id.TroveId.{TroveId}
use Rattle.repo_index.specs.trove-stream.declared.parts.TroveParts.{TroveParts}
use Rattle.trove_spec.specs.declared.config.Config.{Config}
use Rattle.trove_spec.specs.Expansion.{IsUnexpanded}
use Rattle.trove_spec.specs.Resolve.{IsUnresolved}
use Rattle.trove_spec.specs.declared.given.GivenSpec.{GivenSpec}
use Rattle.trove_spec.specs.AndThen.{AndThen, EndsAs}
use Rattle.trove_spec.specs.Meant.{Means, Reaches}

pub unresolved : (troves : List TroveParts) (config : Config) (given : GivenSpec) (f : Fault) → IsUnresolved troves given.spec given.text config f → EndsAs (Means troves config given) (Err f)
unresolved troves config given (fault.Refused refused) is = is
unresolved troves config given fault.Memory is = tt

pub unreached : (troves : List TroveParts) (root : TroveId) (f : Fault) → IsUnexpanded troves (root ∷ []) f → EndsAs (Reaches troves root) (Err f)
unreached troves root (fault.Refused refused) is = is
unreached troves root fault.Memory is = tt

-- a test that refuses, before the rest
pub first_fails : {A B : Type 0} (Test : Result A Refusal → Type 0) (Rest : A → Result B Refusal → Type 0) (f : Fault) → EndsAs Test (Err f) → EndsAs (AndThen Test Rest) (Err f)
first_fails Test Rest (fault.Refused refused) ends = inr (record { refusal = refused; refused = ends; is = refl })
first_fails Test Rest fault.Memory ends = tt

-- a test that finds something, and the rest, which fails
pub rest_fails : {A B : Type 0} (Test : Result A Refusal → Type 0) (Rest : A → Result B Refusal → Type 0) (x : A) (f : Fault) → Test (Ok x) → EndsAs (Rest x) (Err f) → EndsAs (AndThen Test Rest) (Err f)
rest_fails Test Rest x (fault.Refused refused) found ends = inl (record { value = x; found = found; rest = ends })
rest_fails Test Rest x fault.Memory found ends = tt
