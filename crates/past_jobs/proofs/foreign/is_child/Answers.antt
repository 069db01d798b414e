use Rattle.std.proofs.Common.{not, ◌&&◌, sym, ap, ◌∙◌, ⊎_elim}
use Rattle.std.proofs.lemmas.Bool.{cases_Bool}
use Rattle.std.specs.Cmp.Lexicographic.{texts_ties}
use Rattle.change_rel.specs.cny-base.Path.{parent, root}
use Rattle.local_db.specs.tree-disk.Laws.{same_means}
use Rattle.local_db.specs.tree-disk.Tree.{Name, same_name}
use Rattle.past_jobs.proofs.foreign.is_child.Goals as goal

pub returns-in-Some : goal.returns-in-Some
returns-in-Some c =
    let not_root = ⊎_elim (λ same. absurd (cc (c.in-Some.ensures.none.1 (same_means c.args.path.now root same)))) (λ o. o) (cases_Bool (same_name c.args.path.now root)) in
    c.eq.ensures ∙ texts_ties c.in-Some.above.now c.text.result.now
    ∙ ap (λ (p : Name). same_name p c.text.result.now) c.in-Some.ensures.some
    ∙ ap (same_name (parent c.args.path.now)) c.text.ensures.value
    ∙ ap (λ b. not b && same_name (parent c.args.path.now) c.args.dir.now) (sym not_root)
