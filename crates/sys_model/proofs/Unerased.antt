-- Names that are installed are never refused.
use Rattle.std.proofs.Common.{◌≡◌, ℕ, List, Contains}
use Rattle.repo_index.specs.cny-base.declared.refusal.Fault.{Fault}
use Rattle.repo_index.specs.cny-base.declared.refusal.Fault.TheVariants as fault
use Rattle.repo_index.specs.cny-base.declared.refusal.Refusal.{Refusal}
use Rattle.repo_index.specs.trove-stream.declared.parts.TroveParts.{TroveParts}
use Rattle.repo_index.proofs.cny-base.Lists.{contains_at}
use Rattle.update_job.specs.Lists.{HasTroveOf, IsUnerased}

pub not_unerased : {refused : Refusal} (installed : List TroveParts) (replaced : List (List ℕ)) → ((name : List ℕ) → Contains replaced name → HasTroveOf installed name) → (f : Fault) → f ≡ fault.Refused refused
    → IsUnerased installed replaced f → ⊥
not_unerased installed replaced all (fault.Refused other) e is =
    let has = all is.name (contains_at replaced is.number is.name is.there) in
    is.missing has.0 has.1 has.2
not_unerased installed replaced all fault.Memory e is = absurd (cc e)
