-- A tree holds one record of a number at most.
use Rattle.std.proofs.Common.{◌≡◌, ℕ, ◌-◌, List, [], ◌∷◌, length, All, refl, sym, ◌∙◌, ap, subst, arith}
use Rattle.job_targets.specs.cny-stream.Item.{FitsItem}
use Rattle.job_targets.specs.tree-disk.Tree.{Tree}
use Rattle.job_targets.specs.trove-stream.declared.parts.TroveParts.{TroveParts}
use Rattle.local_db.specs.declared.format.Format.{Format}
use Rattle.local_db.specs.Record.{Delta, Entry, TakesBack, entry_value, record_bytes}
use Rattle.local_db.proofs.OneResult.{OneLed, one_list_back}
use Rattle.local_db.proofs.Spellings.{Distinct, entries_part, one_delta_list, one_entry_list}
use Rattle.rollback_stack.specs.JobReading.{HoldsRecord, HoldsRecords}
use Rattle.change_rel.proofs.cny-base.OptionValues.{same_some}

module _ (led : OneLed) (distinct : Distinct) (f : Format) (x : Tree) where
  module _ (n : ℕ) (after b c : List TroveParts) (es ds : List Entry) (h : HoldsRecord f x n after b es) (g : HoldsRecord f x n after c ds) where
    same_text : record_bytes f n h.text.deltas b after es ≡ record_bytes f n g.text.deltas c after ds
    same_text = sym h.text.text ∙ same_some h.bytes g.bytes (sym h.file ∙ g.file) ∙ g.text.text

    first_part : (h.text.deltas ≡ g.text.deltas) × (entries_part b after es ≡ entries_part c after ds)
    first_part = one_delta_list distinct f n h.text.deltas g.text.deltas b c after es ds h.text.deltas_are g.text.deltas_are h.text.deltas_fit g.text.deltas_fit same_text

    lists : b ≡ c
    lists = one_list_back led h.text.deltas after b c h.checks.list g.checks.list h.text.back (subst (λ (us : List Delta). TakesBack us after c) (sym first_part.0) g.text.back)

    entries : es ≡ ds
    entries = one_entry_list b after es ds h.text.entries_are g.text.entries_are h.text.entries_fit
        (subst (λ (l : List TroveParts). All (λ e. FitsItem (entry_value l after e)) ds) (sym lists) g.text.entries_fit)
        (first_part.1 ∙ ap (λ (l : List TroveParts). entries_part l after ds) (sym lists))

    pub one : (b ≡ c) × (es ≡ ds)
    one = (lists, entries)

  pub several : (n : ℕ) (after b c : List TroveParts) (jobs others : List (List Entry)) → length jobs ≡ length others → HoldsRecords f x n after jobs b → HoldsRecords f x n after others c
      → (b ≡ c) × (jobs ≡ others)
  several n after b c [] [] long h g = (h ∙ sym g, refl)
  several n after b c [] (ds ∷ others) long h g = absurd (omega (arith, long))
  several n after b c (es ∷ jobs) [] long h g = absurd (omega (arith, long))
  several n after b c (es ∷ jobs) (ds ∷ others) long h g =
      let first = one n after h.0 g.0 es ds h.1 g.1 in
      let shorter : length jobs ≡ length others = omega (arith, long) in
      let rest = several (n - 1) h.0 b c jobs others shorter h.2 (subst (λ (l : List TroveParts). HoldsRecords f x (n - 1) l others c) (sym first.0) g.2) in
      let heads = first.1 in
      let tails = rest.1 in
      (rest.0, λ i. heads i ∷ tails i)
