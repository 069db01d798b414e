use Rattle.std.proofs.Common.{◌≡◌, ◌≤◌, length, map, sym, ap, ◌∙◌, arith, Err, subst}
use Rattle.std.specs.List.{slice_split, list_all}
use Rattle.std.specs.List.Sorted.{IsStrictlySortedBy}
use Rattle.std.specs.Cmp.Lexicographic.{slice_cmp}
use Rattle.std.specs.Ordering.{nat_cmp}
use Rattle.std.proofs.lemmas.Bool.{false≢true}
use Rattle.std.proofs.lemmas.List.{length-map}
use Rattle.std.proofs.lemmas.Result.{err_from_is_err_and}
use Rattle.cny_base.specs.declared.text.TextFault.TheVariants.{Bad}
use Rattle.cny_dep.specs.Listing.{is_separator}
use Rattle.cny_dep.specs.Part.{is_flag}
use Rattle.cny_dep.proofs.Faults.{handed_on}
use Rattle.cny_dep.proofs.Separated.{listing_few, listing_valid, make_listing, unsorted}
use Rattle.cny_dep.proofs.reading.flags_in.Goals as goal

pub returns-then-len-gt64-clause-bad : goal.returns-then-len-gt64-clause-bad
returns-then-len-gt64-clause-bad c _ flags listing =
    let long : length c.in_ok-parts.parts.items ≡ length (slice_split is_separator c.args.group.now) = sym (length-map c.in_ok-parts.parts.items (λ part. part.now)) ∙ ap length c.in_ok-parts.ensures in
    absurd (omega (arith, listing_few c.args.group.now flags listing, long))

pub returns-in_err-flags-clause-bad : goal.returns-in_err-flags-clause-bad
returns-in_err-flags-clause-bad c h flags listing =
    let met : c.in_err-flags.field-0.0 ≡ Bad = handed_on c.from_residual-in_err-flags.result c.in_err-flags.field-0.0 Bad (err_from_is_err_and c.from_residual-in_err-flags.result c.from_residual-in_err-flags.ensures.1) h in
    let parts : map (λ part. part.now) c.as_slice.result.now ≡ slice_split is_separator c.args.group.now = ap (map (λ part. part.now)) c.as_slice.ensures.value ∙ c.in_ok-parts.ensures in
    false≢true (sym (c.in_err-flags.ensures.bad (ap Err met)) ∙ ap (list_all is_flag) parts ∙ listing_valid c.args.group.now flags listing)

pub returns-then-not-are_rising-clause-bad : goal.returns-then-not-are_rising-clause-bad
returns-then-not-are_rising-clause-bad c _ flags listing =
    let read : c.in_ok-flags.flags.items ≡ slice_split is_separator c.args.group.now =
    c.in_ok-flags.ensures.value ∙ ap (map (λ part. part.now)) c.as_slice.ensures.value ∙ c.in_ok-parts.ensures in
    let same : c.as_slice-2.result.now ≡ c.sort.new.self.items = c.as_slice-2.ensures.value in
    unsorted c.args.group.now c.in_ok-flags.flags.items c.sort.new.self.items read c.in_ok-sort.ensures.permutation c.in_ok-sort.ensures.sorted
    (λ rising. false≢true (sym c.if-not-are_rising.true ∙ c.are_rising.ensures.1 (subst (IsStrictlySortedBy (slice_cmp nat_cmp)) (sym same) rising))) flags listing

pub returns-clause-found : goal.returns-clause-found
returns-clause-found c =
    let read : c.in_ok-flags.flags.items ≡ slice_split is_separator c.args.group.now =
    c.in_ok-flags.ensures.value ∙ ap (map (λ part. part.now)) c.as_slice.ensures.value ∙ c.in_ok-parts.ensures in
    let same : c.as_slice-2.result.now ≡ c.sort.new.self.items = c.as_slice-2.ensures.value in
    let few : length c.in_ok-flags.flags.items ≤ 64 =
    omega (arith, ap length c.in_ok-flags.ensures.value, length-map c.as_slice.result.now (λ part. part.now), ap length c.as_slice.ensures.value) in
    make_listing c.args.group.now c.in_ok-flags.flags.items c.sort.new.self.items read c.in_ok-flags.ensures.ok few c.in_ok-sort.ensures.permutation
    (subst (IsStrictlySortedBy (slice_cmp nat_cmp)) same (c.are_rising.ensures.0 (cc)))
