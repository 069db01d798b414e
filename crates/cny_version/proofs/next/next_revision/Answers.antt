use Rattle.std.proofs.Common.{◌≡◌, ◌+◌, ◌<◌, ◌^◌, [], ◌∷◌, ◌++◌, true, take, sym, ap, ◌∙◌, subst, refl, arith}
use Rattle.std.specs.Option.{option_copied}
use Rattle.cny_version.specs.Revision.{is_revision}
use Rattle.cny_version.specs.Made.{filled_up}
use Rattle.cny_version.specs.Next.{latest_count, with_count}
use Rattle.cny_version.proofs.NextCounts.{latest_is, fits_latest, raised_is_count, counted_fits}
use Rattle.cny_version.proofs.next.next_revision.Goals as goal

pub returns-clause-value : goal.returns-clause-value
returns-clause-value c =
    let w = c.args.wanted.now in
    let numbers = c.latest_numbers-numbers.result.now in
    let k = latest_is c.args.depth (latest_count w (option_copied c.args.latest)) numbers c.latest_numbers-numbers.ensures in
    c.in_ok-counted.ensures
    ∙ ap (λ n. with_count w w.build n)
    (c.in_ok-count.ensures ∙ ap (λ n. take c.args.depth (filled_up c.args.depth numbers) ++ (n + 1) ∷ []) c.number_at-last.ensures ∙ sym k.next)

pub returns-clause-fits : goal.returns-clause-fits
returns-clause-fits c wanted_is =
    let w = c.args.wanted.now in
    let numbers = c.latest_numbers-numbers.result.now in
    let k = fits_latest c.args.depth w c.args.latest numbers c.requires.fits c.latest_numbers-numbers.ensures in
    let small : c.number_at-last.result + 1 < 2 ^ 32 = omega arith in
    subst (λ r. is_revision c.args.depth r ≡ true) (sym (c.in_ok-counted.ensures ∙ ap (λ n. with_count w w.build n) c.in_ok-count.ensures))
    (counted_fits c.args.depth w w.build (take c.args.depth (filled_up c.args.depth numbers) ++ (c.number_at-last.result + 1) ∷ []) refl wanted_is
    (raised_is_count c.args.depth numbers c.number_at-last.result k.short k.fit small))

pub returns-clause-too_large : goal.returns-clause-too_large
returns-clause-too_large c =
    let numbers = c.latest_numbers-numbers.result.now in
    let k = latest_is c.args.depth (latest_count c.args.wanted.now (option_copied c.args.latest)) numbers c.latest_numbers-numbers.ensures in
    (λ e. absurd (cc e), λ max. absurd (c.if-last.false (c.number_at-last.ensures ∙ sym k.raise ∙ max)))
