use Rattle.std.proofs.Common.{ℕ, List, [], ◌∷◌, ◌++◌, Option, refl, sym, subst, codes}
use Rattle.std.specs.Borrow.{Bor}
use Rattle.std.proofs.lemmas.Result.{IfOk-weaker}
use Rattle.cny_pack.specs.Head.{AddsFlavor, AddsFlavorPart}
use Rattle.cny_pack.proofs.Heading.{added_one}
use Rattle.cny_pack.proofs.head.push_flavor_part.Goals as goal

pub returns-in-Some-clause-added : goal.returns-in-Some-clause-added
returns-in-Some-clause-added c =
    let word : List ℕ = c.in-Some.word.now in
    let old : List ℕ = c.args.text.now in
    let new : List ℕ = c.push_flavor.new.text in
    IfOk-weaker c.push_flavor.result (AddsFlavor word old new) (AddsFlavorPart c.args.word old new)
    (λ flavor adds.
    subst (λ (o : Option (Bor (List ℕ))). AddsFlavorPart o old new flavor) (sym c.in-Some.is)
    (record {
      lines = (codes "flavor " ++ word) ∷ [];
      says = adds.is;
      are = (word, adds.is, refl, adds.line.fits);
      added = added_one old new (codes "flavor " ++ word) adds.line.added;
    }))
    c.push_flavor.ensures.added
