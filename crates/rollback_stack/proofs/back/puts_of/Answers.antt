use Rattle.std.proofs.Common.{◌++◌, ◌∷◌, [], List, map, sym, ◌∙◌, ap, subst, append_assoc}
use Rattle.std.proofs.lemmas.Map.Iter.{rest_all, rest_more}
use Rattle.job_targets.specs.journal-log.WriteSet.{Rises}
use Rattle.job_targets.specs.journal-log.declared.put.Put.{Put}
use Rattle.job_targets.specs.journal-log.declared.put.Want.{Want}
use Rattle.job_targets.specs.tree-disk.Tree.{Name}
use Rattle.rollback_stack.specs.Wanting.{put_of}
use Rattle.rollback_stack.proofs.Mapped.{all_put, rises_from}
use Rattle.rollback_stack.proofs.back.puts_of.Goals as goal

pub loop-path-init : goal.loop-path-init
loop-path-init c =
    ap (λ (l : List Put). l ++ map put_of c.into_iter-path-iterator.result) c.new-items.ensures.items ∙ ap (λ (es : List (Name × Want)). map put_of es) c.into_iter-path-iterator.ensures.into_iter_gives.0

pub loop-path-preserved : goal.loop-path-preserved
loop-path-preserved c =
    let x : Name × Want = (c.in-Some.path, c.in-Some.want) in
    let more = rest_more (λ (e : Name × Want). e) c.loop-path.path-iterator c.next.new.self c.next.result x c.in-Some.is c.next.ensures.steps in
    let items = c.loop-path.items.items in
    ap (λ (l : List Put). l ++ map put_of c.next.new.self) c.in_ok-push.ensures.items
    ∙ append_assoc items (put_of x ∷ []) (map put_of c.next.new.self)
    ∙ sym (ap (λ (es : List (Name × Want)). items ++ map put_of es) more)
    ∙ c.loop-path.invariant

pub unreachable-requires : goal.unreachable-requires
unreachable-requires c =
    let none = rest_all (λ (e : Name × Want). e) c.loop-path.path-iterator c.next.new.self c.next.result c.in-None.is c.next.ensures.steps in
    let whole = all_put c.args.wants c.loop-path.items.items c.loop-path.path-iterator c.loop-path.invariant none in
    c.in-None-new.ensures.none (subst Rises (sym whole) (rises_from c.args.wants.entries c.into_iter-path-iterator.ensures.into_iter_gives.5))
