use Rattle.std.proofs.Common.{◌≡◌, ◌<◌, ◌++◌, ◌∷◌, [], List, length, take, drop, get_or, All, sym, ◌∙◌, ap, subst}
use Rattle.std.specs.Cmp.Lexicographic.{slice_cmp}
use Rattle.std.specs.Ordering.{nat_cmp}
use Rattle.std.specs.declared.cmp.Ordering.TheVariants.{Less}
use Rattle.rollback_stack.specs.journal-log.declared.put.Put.{Put}
use Rattle.rollback_stack.specs.journal-log.WriteSet.{Rises}
use Rattle.local_db.specs.Steps.{IsUnion}
use Rattle.system_core.specs.Inserting.{without}
use Rattle.system_core.proofs.Inserted.{rises_at, union_at, without_out, without_rises, without_same}
use Rattle.system_core.proofs.inserting.with_put.Goals as goal

pub unreachable-requires : goal.unreachable-requires
unreachable-requires c =
    let path = c.args.put.path in
    let puts = without path c.args.puts in
    let at = c.place_of-at.result in
    let left : c.remove_at.new.puts.items ≡ puts = c.remove_at.ensures ∙ ap (without path) c.into_vec-items.ensures.value in
    let same : c.as_slice.result.now ≡ puts = c.as_slice.ensures.value ∙ left in
    let before = subst (λ (l : List Put). All (λ (p : Put). slice_cmp nat_cmp path p.path ≡ Less → ⊥) (take at l)) same c.place_of-at.ensures.before in
    let behind = subst (λ (l : List Put). (d : Put) → at < length l → slice_cmp nat_cmp path (get_or l at d).path ≡ Less) same c.place_of-at.ensures.behind in
    c.in-None.ensures.none (subst Rises (sym (c.in_ok-insert.ensures.items ∙ ap (λ (l : List Put). take at l ++ c.args.put ∷ drop at l) left))
    (rises_at c.args.put puts at (without_rises path c.args.puts (subst Rises c.into_vec-items.ensures.value c.into_vec-items.ensures.rises)) (without_out path c.args.puts) before behind))

pub returns : goal.returns
returns c none =
    let path = c.args.put.path in
    let puts = without path c.args.puts in
    let at = c.place_of-at.result in
    let left : c.remove_at.new.puts.items ≡ puts = c.remove_at.ensures ∙ ap (without path) c.into_vec-items.ensures.value in
    let same : c.as_slice.result.now ≡ puts = c.as_slice.ensures.value ∙ left in
    let before = subst (λ (l : List Put). All (λ (p : Put). slice_cmp nat_cmp path p.path ≡ Less → ⊥) (take at l)) same c.place_of-at.ensures.before in
    let behind = subst (λ (l : List Put). (d : Put) → at < length l → slice_cmp nat_cmp path (get_or l at d).path ≡ Less) same c.place_of-at.ensures.behind in
    subst (λ (l : List Put). IsUnion c.in-Some.puts l (c.args.put ∷ [])) (without_same path c.args.puts none)
    (subst (λ (l : List Put). IsUnion l puts (c.args.put ∷ [])) (sym (c.in-Some.ensures.some ∙ c.in_ok-insert.ensures.items ∙ ap (λ (l : List Put). take at l ++ c.args.put ∷ drop at l) left))
    (union_at c.args.put puts at (without_rises path c.args.puts (subst Rises c.into_vec-items.ensures.value c.into_vec-items.ensures.rises)) (without_out path c.args.puts) before behind))
