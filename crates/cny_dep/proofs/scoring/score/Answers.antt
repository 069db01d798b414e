use Rattle.std.proofs.Common.{◌≡◌, ◌∙◌, ◌≤◌, ◌*◌, ℕ, ℤ, pos, neg_ℤ, ◌≤ℤ◌, Some, ◌+ℤ◌, to_z, of_z, w32, length, FitsSigned, ap, arith}
use Rattle.std.proofs.lemmas.Int.{ints}
use Rattle.std.specs.List.{flat_map}
use Rattle.cny_dep.specs.Score.{flag_cells, set_cells, total}
use Rattle.cny_dep.proofs.Totals.{first_refuses, second_refuses, both_add, few_flags}
use Rattle.cny_dep.proofs.scoring.score.Goals as goal

sum_fits : (a b : ℤ) (k : ℕ) → k ≤ 64 → neg_ℤ (pos (2 * k)) ≤ℤ a → a ≤ℤ pos (2 * k) → neg_ℤ (pos 128) ≤ℤ b → b ≤ℤ pos 128 → FitsSigned w32 (to_z w32 (of_z w32 a) +ℤ to_z w32 (of_z w32 b))
sum_fits a b k few low high low_b high_b = omega (arith, ints)

sum_is : (a b : ℤ) (k : ℕ) → k ≤ 64 → neg_ℤ (pos (2 * k)) ≤ℤ a → a ≤ℤ pos (2 * k) → neg_ℤ (pos 128) ≤ℤ b → b ≤ℤ pos 128
    → to_z w32 (of_z w32 (to_z w32 (of_z w32 a) +ℤ to_z w32 (of_z w32 b))) ≡ a +ℤ b
sum_is a b k few low high low_b high_b = omega (arith, ints)

pub returns-in_err-flags : goal.returns-in_err-flags
returns-in_err-flags c =
    let trove = c.args.trove.now in
    let system = c.args.system.now in
    let trove_flags = c.get.ensures ∙ ap (λ p. p.flags) c.parts-trove.ensures.value in
    let system_flags = c.get-2.ensures ∙ ap (λ p. p.flags) c.parts-system.ensures.value in
    c.from_residual.ensures
    ∙ first_refuses (flag_cells system.flags trove.flags) (flat_map (set_cells system.sets) trove.sets)
    (c.in_err-flags.ensures.value ∙ ap (λ l. total (flag_cells l c.get.result.now)) system_flags ∙ ap (λ l. total (flag_cells system.flags l)) trove_flags)

pub returns-in_err-sets : goal.returns-in_err-sets
returns-in_err-sets c =
    let trove = c.args.trove.now in
    let system = c.args.system.now in
    let trove_flags = c.get.ensures ∙ ap (λ p. p.flags) c.parts-trove.ensures.value in
    let system_flags = c.get-2.ensures ∙ ap (λ p. p.flags) c.parts-system.ensures.value in
    let trove_sets = c.get-3.ensures ∙ ap (λ p. p.sets) c.parts-trove.ensures.value in
    let system_sets = c.get-4.ensures ∙ ap (λ p. p.sets) c.parts-system.ensures.value in
    c.from_residual-in_err-sets.ensures
    ∙ second_refuses (flag_cells system.flags trove.flags) (flat_map (set_cells system.sets) trove.sets) c.in_ok-flags.flags
    (c.in_ok-flags.ensures.value ∙ ap (λ l. total (flag_cells l c.get.result.now)) system_flags ∙ ap (λ l. total (flag_cells system.flags l)) trove_flags)
    (c.in_err-sets.ensures.value ∙ ap (λ l. total (flat_map (set_cells l) c.get-3.result.now)) system_sets ∙ ap (λ l. total (flat_map (set_cells system.sets) l)) trove_sets)

pub overflow_add-result : goal.overflow_add-result
overflow_add-result c =
    let flags = c.in_ok-flags.ensures in
    let sets = c.in_ok-sets.ensures in
    sum_fits c.in_ok-flags.flags c.in_ok-sets.sets (length c.get.result.now)
    (few_flags c.args.trove.now c.get.result.now c.parts-trove.ensures.flavor (c.get.ensures ∙ ap (λ p. p.flags) c.parts-trove.ensures.value))
    flags.low flags.high sets.low sets.high

pub returns : goal.returns
returns c =
    let trove = c.args.trove.now in
    let system = c.args.system.now in
    let trove_flags = c.get.ensures ∙ ap (λ p. p.flags) c.parts-trove.ensures.value in
    let system_flags = c.get-2.ensures ∙ ap (λ p. p.flags) c.parts-system.ensures.value in
    let trove_sets = c.get-3.ensures ∙ ap (λ p. p.sets) c.parts-trove.ensures.value in
    let system_sets = c.get-4.ensures ∙ ap (λ p. p.sets) c.parts-system.ensures.value in
    ap Some (sum_is c.in_ok-flags.flags c.in_ok-sets.sets (length c.get.result.now) (few_flags trove c.get.result.now c.parts-trove.ensures.flavor trove_flags)
    c.in_ok-flags.ensures.low c.in_ok-flags.ensures.high c.in_ok-sets.ensures.low c.in_ok-sets.ensures.high)
    ∙ both_add (flag_cells system.flags trove.flags) (flat_map (set_cells system.sets) trove.sets) c.in_ok-flags.flags c.in_ok-sets.sets
    (c.in_ok-flags.ensures.value ∙ ap (λ l. total (flag_cells l c.get.result.now)) system_flags ∙ ap (λ l. total (flag_cells system.flags l)) trove_flags)
    (c.in_ok-sets.ensures.value ∙ ap (λ l. total (flat_map (set_cells l) c.get-3.result.now)) system_sets ∙ ap (λ l. total (flat_map (set_cells system.sets) l)) trove_sets)
