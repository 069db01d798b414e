use Rattle.std.proofs.Common.{◌≡◌, ◌+◌, ℕ, length, true, sym, ◌∙◌, ap, subst, arith}
use Rattle.std.specs.Fmt.{decimal}
use Rattle.tree_disk.specs.cny-base.Path.{is_path}
use Rattle.tree_disk.specs.Tree.{Name}
use Rattle.journal_log.specs.Joined.{front_of}
use Rattle.journal_log.proofs.StagedTests.{length_decides, longer_front, root_front}
use Rattle.journal_log.proofs.staged.is_staged_path.Goals.{then-dir-gt1, else-dir-gt1}
use Rattle.journal_log.proofs.staged.is_staged_path.Goals as goal

counted : (dir base : Name) (front : ℕ) → dir ≡ base → front ≡ length (front_of dir) → front ≡ length (front_of base)
counted dir base front same is = is ∙ ap (λ (n : Name). length (front_of n)) same

pub returns : goal.returns
returns c =
    let dir = c.text-dir.result.now in
    let same : dir ≡ c.args.base.now = c.text-dir.ensures.value in
    let dir_is : is_path dir ≡ true = c.text-dir.ensures.path in
    let base_is : is_path c.args.base.now ≡ true = subst (λ (n : Name). is_path n ≡ true) same dir_is in
    let front : c.if-dir-gt1.front ≡ length (front_of dir) = elim c.if-dir-gt1.branch [
      | then-dir-gt1 w ↦ w.front-is ∙ sym (longer_front dir dir_is w.if-dir-gt1.true)
      | else-dir-gt1 w ↦ w.front-is ∙ sym (root_front dir dir_is w.if-dir-gt1.false)
    ] in
    let digits : length c.format-last.result.now ≡ length (decimal c.args.number) = ap length c.format-last.ensures.text in
    length_decides c.args.base.now c.args.number (c.if-dir-gt1.front + 2 + length c.format-last.result.now) base_is c.ranges.number.fits
    (let whole = counted dir c.args.base.now c.if-dir-gt1.front same front in omega (arith, whole, digits))
