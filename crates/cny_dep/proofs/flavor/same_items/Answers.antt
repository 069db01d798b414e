use Rattle.cny_dep.proofs.Putting.{in_order_permutes}
use Rattle.cny_dep.proofs.flavor.same_items.Goals as goal

pub returns : goal.returns
returns c = record { flags = in_order_permutes (λ f. f.word); sets = in_order_permutes (λ s. s.word) }
