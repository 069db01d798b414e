-- What is known of the latest trove, and of the refusals.
use Rattle.std.proofs.Common.{◌≡◌, ℕ, ◌&&◌, true, not, IsTrue, List, Option, Some, is_some, sym, ap, subst, ◌∙◌}
use Rattle.std.specs.Prelude.{IsSome}
use Rattle.std.specs.Cmp.{first_so}
use Rattle.std.specs.Option.{ForSome, option_map}
use Rattle.std.specs.Str.{bytes_eq}
use Rattle.std.proofs.lemmas.Option.{same_Some}
use Rattle.cny_version.specs.declared.revision.Revision.{Revision}
use Rattle.cny_version.specs.Revision.{is_revision}
use Rattle.cny_version.specs.Version.{branch_text, depth, version_text, IsVersion, WholeBranch, WholeVersion}
use Rattle.trove_stream.specs.trove-parts.declared.id.TroveId.{TroveId}
use Rattle.trove_stream.specs.declared.parts.TroveParts.{TroveParts}
use Rattle.trove_stream.specs.Trove.{has_build, is_source, HasRightBuild}
use Rattle.repo_index.specs.Catalogue.{has_source, is_of}
use Rattle.repo_index.specs.Next.{kept_source, latest_trove, revision_of}
use Rattle.repo_index.proofs.Branches.{same_branch}
use Rattle.repo_index.proofs.Searches.{last_found}
use Rattle.trove_stream.specs.Installed.{has_name}
use Rattle.cny_version.proofs.cny-base.ByteLists.{bytes_mean as equal_bytes}

pub for_one : {A : Type 0} (P : A → Type 0) (y : A) → P y → ForSome (Some y) P
for_one P y h = λ x same. subst P (same_Some y x same) h

pub latest_is : (o : Option TroveParts) (t : TroveParts) (r : Revision) → Some t ≡ o → r ≡ revision_of t → Some r ≡ option_map revision_of o
latest_is o t r same is = ap Some is ∙ ap (option_map revision_of) same

module _ (id : TroveId) (troves : List TroveParts) (t : TroveParts) (is : Some t ≡ latest_trove id troves) where
  found : (is_of (branch_text id.version.branch) id.version.revision.upstream (kept_source id.version.revision) t ≡ true) × (has_name id.name t ≡ true)
  found = last_found (is_of (branch_text id.version.branch) id.version.revision.upstream (kept_source id.version.revision)) (has_name id.name) troves t (sym is)

  same_text : branch_text t.id.version.branch ≡ branch_text id.version.branch
  same_text =
      let v = t.id.version in
      let r = id.version.revision in
      equal_bytes (branch_text v.branch) (branch_text id.version.branch)
      (first_so (bytes_eq (branch_text v.branch) (branch_text id.version.branch)) (bytes_eq v.revision.upstream r.upstream)
      (first_so (bytes_eq (branch_text v.branch) (branch_text id.version.branch) && bytes_eq v.revision.upstream r.upstream) (has_source (kept_source r) v.revision.source) found.0))

  pub latest_fits : ((v w : WholeVersion) → IsVersion v → IsVersion w → version_text v ≡ version_text w → v ≡ w) → IsVersion t.id.version → IsVersion id.version → (r : Revision) → r ≡ t.id.version.revision → IsTrue (is_revision (depth id.version.branch) r)
  latest_fits distinct t_is id_is r r_is =
      subst (λ (x : Revision). IsTrue (is_revision (depth id.version.branch) x)) (sym r_is)
      (subst (λ (b : WholeBranch). IsTrue (is_revision (depth b) t.id.version.revision)) (same_branch distinct t.id.version id.version t_is id_is same_text) t_is.revision)

  pub latest_builds : HasRightBuild t.id → HasRightBuild id → (r : Revision) → r ≡ t.id.version.revision → IsSome id.version.revision.build → IsSome r.build
  latest_builds t_right id_right r r_is some =
      let names : t.id.name ≡ id.name = equal_bytes t.id.name id.name found.1 in
      let alike : has_build t.id ≡ has_build id = t_right ∙ ap (λ (n : List ℕ). not (is_source n)) names ∙ sym id_right in
      ap (λ (x : Revision). is_some x.build) r_is ∙ alike ∙ some
