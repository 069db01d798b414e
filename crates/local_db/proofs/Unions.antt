-- The tree after the writes of two lists.
use Rattle.std.proofs.Common.{◌≡◌, ◌⊎◌, ⊎_elim, true, false, List, Contains, sym, ◌∙◌, ap}
use Rattle.std.proofs.lemmas.Bool.{cases_Bool}
use Rattle.std.proofs.lemmas.List.Elements.{All-contains}
use Rattle.std.specs.FinMap.{get}
use Rattle.tree_journal.specs.tree-disk.Tree.{Name, Tree}
use Rattle.tree_journal.specs.journal-log.declared.put.Put.{Put}
use Rattle.tree_journal.specs.journal-log.Targets.{node_of, is_target, with_targets}
use Rattle.local_db.proofs.Writes.{not_both, with_targets_target}
use Rattle.local_db.specs.Steps.{IsUnion}
use Rattle.tree_journal.proofs.WriteSets.{target_at, with_targets_outside}
use Rattle.tree_journal.proofs.journal-log.Walking.{listed as is_target-from}

module _ (all some more : List Put) (u : IsUnion all some more) (x : Tree) where
  pub wrote_some : (p : Put) → Contains some p → get (with_targets all x) p.path ≡ node_of p.want
  wrote_some p in' = with_targets_target all x p u.rises (All-contains (Contains all) some p u.some_in in')

  pub wrote_more : (p : Put) → Contains more p → get (with_targets all x) p.path ≡ node_of p.want
  wrote_more p in' = with_targets_target all x p u.rises (All-contains (Contains all) more p u.more_in in')

  no_target : (q : Name) → is_target some q ≡ false → is_target more q ≡ false → is_target all q ≡ false
  no_target q a b = ⊎_elim
      (λ h. let t = target_at all q h in ⊎_elim
      (λ in'. not_both (is_target some q) (ap (is_target some) t.2 ∙ is_target-from some t.0 in') a)
      (λ in'. not_both (is_target more q) (ap (is_target more) t.2 ∙ is_target-from more t.0 in') b)
      (All-contains (λ p. Contains some p ⊎ Contains more p) all t.0 u.no_other t.1))
      (λ h. h)
      (cases_Bool (is_target all q))

  pub wrote_no_other : (q : Name) → is_target some q ≡ false → is_target more q ≡ false → get (with_targets all x) q ≡ get x q
  wrote_no_other q a b = with_targets_outside all x q (no_target q a b)

  -- away from the second list the two trees become equal, where they were
  pub wrote_alike : (t : Tree) (q : Name) → (is_target some q ≡ true → (p : Put) → Contains some p → get (with_targets some t) p.path ≡ node_of p.want)
      → is_target more q ≡ false → get x q ≡ get t q → get (with_targets all x) q ≡ get (with_targets some t) q
  wrote_alike t q hit b same = ⊎_elim
      (λ h. let a = target_at some q h in
      ap (get (with_targets all x)) a.2 ∙ wrote_some a.0 a.1 ∙ sym (hit h a.0 a.1) ∙ ap (get (with_targets some t)) (sym a.2))
      (λ h. wrote_no_other q h b ∙ same ∙ sym (with_targets_outside some t q h))
      (cases_Bool (is_target some q))
