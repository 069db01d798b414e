use Rattle.std.proofs.Common.{Bool, List, refl, ◌≡◌, ap, ◌∙◌}
use Rattle.tree_disk.specs.Tree.{Name}
use Rattle.journal_log.specs.declared.put.Put.{Put}
use Rattle.journal_log.specs.Targets.{is_target}
use Rattle.journal_log.proofs.Searching.{is_found}
use Rattle.journal_log.proofs.put.Puts.contains.Goals as goal

same_target : (a puts : List Put) (b path : Name) (t : Bool) → a ≡ puts → b ≡ path → t ≡ is_target a b → t ≡ is_target puts path
same_target a puts b path t e f h = h ∙ ap (λ (l : List Put). is_target l b) e ∙ ap (is_target puts) f

pub returns : goal.returns
returns c =
    same_target c.get.result.now c.args.self.now c.text.result.now c.args.path.now c.is_some.result (c.get.ensures ∙ c.self.view_is) c.text.ensures.value
    (is_found (λ (p : Put). p.path) is_target (λ path. refl) (λ p puts path. refl) c.get.result.now c.text.result.now c.place_of.result c.is_some.result c.place_of.ensures.some c.place_of.ensures.none c.is_some.ensures)
