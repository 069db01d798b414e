-- One write among others, in the order of their paths.
use Rattle.std.proofs.Common.{◌≡◌, ◌⊎◌, ⊎_elim, inl, inr, ◌+◌, Bool, true, false, List, [], ◌∷◌, ◌++◌, get_or, Contains, refl, sym, ◌∙◌, ap, subst}
use Rattle.std.proofs.lemmas.List.Elements.{All-cons, All-head, All-nil, All-contains}
use Rattle.rollback_stack.specs.journal-log.declared.put.Put.{Put}
use Rattle.rollback_stack.specs.journal-log.Targets.{is_target}
use Rattle.local_db.specs.Steps.{IsUnion}
use Rattle.rollback_stack.specs.tree-disk.Tree.{Name, same_name}
use Rattle.rollback_stack.proofs.tree-disk.Laws.{same_itself}
use Rattle.tree_journal.proofs.WriteSets.{target_at}
use Rattle.local_db.proofs.cny-base.Lists.{contains_cases, contains_first, contains_rest, nothing_in}
use Rattle.tree_journal.proofs.journal-log.Walking.{listed as is_target-from}

-- ---- one more, and one more

no_more : {A : Type 0} (xs : List A) (x : A) → [] ≡ xs ++ x ∷ [] → ⊥
no_more [] x e = absurd (cc e)
no_more (y ∷ ys) x e = absurd (cc e)

-- the last of one is that
pub only_one : {A : Type 0} (xs : List A) (x y : A) → y ∷ [] ≡ xs ++ x ∷ [] → x ≡ y
only_one [] x y e = sym (cc e)
only_one (z ∷ zs) x y e = absurd (no_more zs x (cc e))

-- a path of none of the writes but the last is none of theirs
pub still_apart : (all some : List Put) (p : Put) (path : Name) → IsUnion all some (p ∷ []) → is_target some path ≡ false → same_name path p.path ≡ false → is_target all path ≡ false
still_apart all some p path u out other = by (is_target all path) refl
  where
    never : is_target all path ≡ true → ⊥
    never is =
        let t = target_at all path is in
        ⊎_elim
        (λ in'. absurd (cc (out, ap (is_target some) t.2, is_target-from some t.0 in')))
        (λ in'. ⊎_elim
        (λ (same : p ≡ t.0). absurd (cc (other, ap (λ (q : Name). same_name q p.path) (t.2 ∙ ap (λ (q : Put). q.path) (sym same)), same_itself p.path)))
        (λ none. nothing_in t.0 none)
        (contains_cases p t.0 [] in'))
        (All-contains (λ (q : Put). Contains some q ⊎ Contains (p ∷ []) q) all t.0 u.no_other t.1)

    by : (b : Bool) → is_target all path ≡ b → is_target all path ≡ false
    by true is = absurd (never is)
    by false is = is

pub union_both : (all some puts : List Put) (p q : Put) → IsUnion some puts (q ∷ []) → IsUnion all some (p ∷ []) → IsUnion all puts (p ∷ q ∷ [])
union_both all some puts p q inner outer = record {
  rises = outer.rises;
  some_in = λ k d lt. from_some (get_or puts k d) (inner.some_in k d lt);
  more_in = All-cons (Contains all) p (q ∷ []) (All-head (Contains all) p [] outer.more_in)
      (All-cons (Contains all) q [] (from_some q (All-head (Contains some) q [] inner.more_in)) (All-nil (Contains all)));
  no_other = λ k d lt. ⊎_elim
      (λ (in' : Contains some (get_or all k d)). ⊎_elim
      (λ there. inl there)
      (λ last. inr (contains_rest p (get_or all k d) (q ∷ []) last))
      (All-contains (λ (r : Put). Contains puts r ⊎ Contains (q ∷ []) r) some (get_or all k d) inner.no_other in'))
      (λ (in' : Contains (p ∷ []) (get_or all k d)). inr (first (get_or all k d) in'))
      (outer.no_other k d lt);
}
  where
    from_some : (r : Put) → Contains some r → Contains all r
    from_some r in' = All-contains (Contains all) some r outer.some_in in'

    first : (r : Put) → Contains (p ∷ []) r → Contains (p ∷ q ∷ []) r
    first r in' = ⊎_elim
        (λ (same : p ≡ r). subst (Contains (p ∷ q ∷ [])) same (contains_first p (q ∷ [])))
        (λ none. absurd (nothing_in r none))
        (contains_cases p r [] in')
