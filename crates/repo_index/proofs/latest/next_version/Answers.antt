use Rattle.std.proofs.Common.{◌≡◌, ◌<◌, ℕ, is_some, Err, sym, ap, subst, ◌∙◌}
use Rattle.std.specs.Option.{option_copied}
use Rattle.std.specs.Prelude.{IsTrue}
use Rattle.trove_stream.specs.cny-base.declared.limits.TheConstants.{VERSION_LIMIT}
use Rattle.trove_stream.specs.cny-base.declared.refusal.Fault.TheVariants.{Refused}
use Rattle.trove_stream.specs.cny-base.declared.refusal.Refusal.TheVariants.{TooLarge}
use Rattle.trove_stream.specs.cny-base.declared.refusal.What.TheVariants as what
use Rattle.cny_version.specs.declared.revision.Revision.{Revision}
use Rattle.cny_version.specs.Made.{with_revision}
use Rattle.cny_version.specs.Next.{latest_count, next_revision, number_to_raise}
use Rattle.cny_version.specs.Revision.{is_revision}
use Rattle.cny_version.specs.TooLarge.{TooLargeOrMemory}
use Rattle.cny_version.specs.Version.{depth, WholeVersion}
use Rattle.repo_index.specs.Next.{latest_revision, refusal_after, version_after}
use Rattle.repo_index.proofs.Passing.{handed_on}
use Rattle.repo_index.proofs.Refusing.{count_refused, none_refused, not_err, number, size_of, version_refused}
use Rattle.cny_version.specs.cny-base.Refusals.{IsRefusalOrMemory}
use Rattle.repo_index.proofs.latest.next_version.Goals as goal

pub next_revision-requires-clause-fits : goal.next_revision-requires-clause-fits
next_revision-requires-clause-fits c = λ x same. subst (λ (d : ℕ). IsTrue (is_revision d x.now)) (sym c.depth-depth.ensures.depth) (c.latest-latest.ensures.fits x same)

pub next_revision-requires-clause-build : goal.next_revision-requires-clause-build
next_revision-requires-clause-build c = λ x same some. c.latest-latest.ensures.build x same (ap (λ (r : Revision). is_some r.build) (sym c.revision.ensures.value) ∙ some)

pub returns-in_err-revision-clause-fault : goal.returns-in_err-revision-clause-fault
returns-in_err-revision-clause-fault c =
    let v = c.args.id.now.version in
    let last = latest_revision c.args.id.now c.args.catalogue.now.troves in
    let e = c.in_err-revision.field-0.0 in
    let numbers : number_to_raise c.depth-depth.result (latest_count c.revision.result.now (option_copied c.latest-latest.result)) ≡ number v last =
    (λ i. number_to_raise (c.depth-depth.ensures.depth i) (latest_count (c.revision.ensures.value i) (c.latest-latest.ensures.value i))) in
    handed_on (IsRefusalOrMemory (refusal_after v last)) c.from_residual.result e c.from_residual.ensures.1
    (count_refused v last e (λ same. sym numbers ∙ c.in_err-revision.ensures.too_large.0 (ap Err same)) c.in_err-revision.ensures.fault)

pub with_revision-requires : goal.with_revision-requires
with_revision-requires c =
    subst (λ (d : ℕ). IsTrue (is_revision d c.in_ok-revision.revision)) c.depth-depth.ensures.depth
    (c.in_ok-revision.ensures.fits (subst (λ (d : ℕ). IsTrue (is_revision d c.revision.result.now)) (sym c.depth-depth.ensures.depth) c.revision.ensures.fits))

pub returns-in_err-version-clause-fault : goal.returns-in_err-version-clause-fault
returns-in_err-version-clause-fault c =
    let v = c.args.id.now.version in
    let last = latest_revision c.args.id.now c.args.catalogue.now.troves in
    let e = c.in_err-version.field-0.0 in
    let numbers : number_to_raise c.depth-depth.result (latest_count c.revision.result.now (option_copied c.latest-latest.result)) ≡ number v last =
    (λ i. number_to_raise (c.depth-depth.ensures.depth i) (latest_count (c.revision.ensures.value i) (c.latest-latest.ensures.value i))) in
    let nexts : next_revision c.revision.result.now c.depth-depth.result (option_copied c.latest-latest.result) ≡ next_revision v.revision (depth v.branch) last =
    (λ i. next_revision (c.revision.ensures.value i) (c.depth-depth.ensures.depth i) (c.latest-latest.ensures.value i)) in
    let version : with_revision v c.in_ok-revision.revision ≡ version_after v last = ap (with_revision v) (c.in_ok-revision.ensures.value ∙ nexts) in
    handed_on (IsRefusalOrMemory (refusal_after v last)) c.from_residual-in_err-version.result e c.from_residual-in_err-version.ensures.1
    (version_refused v last e (λ limit. not_err (c.in_ok-revision.ensures.too_large.1 (numbers ∙ limit)))
    (subst (λ (w : WholeVersion). e ≡ Refused (TooLarge what.Version (size_of w)) → VERSION_LIMIT < size_of w) version (λ same. c.in_err-version.ensures.too_large.0 (ap Err same)))
    (subst (λ (w : WholeVersion). TooLargeOrMemory what.Version (size_of w) e) version c.in_err-version.ensures.fault))

pub returns-clause-value : goal.returns-clause-value
returns-clause-value c =
    let v = c.args.id.now.version in
    let last = latest_revision c.args.id.now c.args.catalogue.now.troves in
    let nexts : next_revision c.revision.result.now c.depth-depth.result (option_copied c.latest-latest.result) ≡ next_revision v.revision (depth v.branch) last =
    (λ i. next_revision (c.revision.ensures.value i) (c.depth-depth.ensures.depth i) (c.latest-latest.ensures.value i)) in
    c.in_ok-version.ensures.value ∙ ap (with_revision v) (c.in_ok-revision.ensures.value ∙ nexts)

pub returns-clause-none : goal.returns-clause-none
returns-clause-none c =
    let v = c.args.id.now.version in
    let last = latest_revision c.args.id.now c.args.catalogue.now.troves in
    let numbers : number_to_raise c.depth-depth.result (latest_count c.revision.result.now (option_copied c.latest-latest.result)) ≡ number v last =
    (λ i. number_to_raise (c.depth-depth.ensures.depth i) (latest_count (c.revision.ensures.value i) (c.latest-latest.ensures.value i))) in
    let nexts : next_revision c.revision.result.now c.depth-depth.result (option_copied c.latest-latest.result) ≡ next_revision v.revision (depth v.branch) last =
    (λ i. next_revision (c.revision.ensures.value i) (c.depth-depth.ensures.depth i) (c.latest-latest.ensures.value i)) in
    let version : with_revision v c.in_ok-revision.revision ≡ version_after v last = ap (with_revision v) (c.in_ok-revision.ensures.value ∙ nexts) in
    none_refused v last (λ limit. not_err (c.in_ok-revision.ensures.too_large.1 (numbers ∙ limit)))
    (subst (λ (w : WholeVersion). VERSION_LIMIT < size_of w → ⊥) version (λ long. not_err (c.in_ok-version.ensures.too_large.1 long)))
