-- How calls follow one another.
use Rattle.std.specs.Prelude.{refl}
use Rattle.std.proofs.Common.{◌∙◌, sym, subst, ap, inl, inr, ⊎_elim, arith}
use Rattle.std.specs.FinMap.{get}
use Rattle.tree_disk.specs.Tree.{Tree}
use Rattle.std.proofs.lemmas.Bool.{cases_lt}
use Rattle.tree_disk.specs.Disk.{DiskModel, IsDisk, IsImageOf, Shows, Unchanged, Elapses}

-- ---- what is read at each moment

module _ {D : Type 0} {disk : DiskModel D} where
  -- nothing has happened yet
  pub shows_start : (d : D) (P : Tree → Type 0) → Shows disk d d P
  shows_start d P = record { later = omega arith; each = λ k lt le. absurd (omega (arith, lt, le)); kept = λ k le. refl }

  -- it may say less
  pub shows_weaker : {old new : D} {P Q : Tree → Type 0} → ((t : Tree) → P t → Q t) → Shows disk old new P → Shows disk old new Q
  shows_weaker weaker run = record { later = run.later; each = λ k lt le. weaker _ (run.each k lt le); kept = run.kept }

  -- one run after another
  pub shows_then : {old mid new : D} {P : Tree → Type 0} → Shows disk old mid P → Shows disk mid new P → Shows disk old new P
  shows_then {mid = mid} {P = P} first then = record {
    later = omega (arith, first.later, then.later);
    each = λ k lt le. ⊎_elim
        (λ after. then.each k after le)
        (λ before. subst P (sym (then.kept k before)) (first.each k lt before))
        (cases_lt (disk.now mid) k);
    kept = λ k le. then.kept k (omega (arith, le, first.later)) ∙ first.kept k le;
  }

-- ---- reads, one after another

pub same_start : {D : Type 0} (disk : DiskModel D) (d : D) → Unchanged disk d d
same_start disk d = record { reads = refl; unsynced = λ p. refl; visible = shows_start d _ }

pub same_on : {D : Type 0} {disk : DiskModel D} {old mid new : D} → Unchanged disk old mid → Unchanged disk mid new → Unchanged disk old new
same_on first then = record {
  reads = then.reads ∙ first.reads;
  unsynced = λ p. then.unsynced p ∙ first.unsynced p;
  visible = shows_then first.visible (shows_weaker (λ t is. is ∙ first.reads) then.visible);
}

-- an unchanged disk has the same crash images
pub same_images : {D : Type 0} {disk : DiskModel D} {old new : D} → Unchanged disk old new → (t : Tree) → IsImageOf disk new t → IsImageOf disk old t
same_images same t image = record {
  well_formed = image.well_formed;
  synced = λ p none. image.synced p (same.unsynced p ∙ none) ∙ ap (λ u. get u p) same.reads;
}

module _ {D : Type 0} {disk : DiskModel D} (laws : IsDisk disk) where
  pub time_start : (d : D) → Elapses disk d d
  time_start d = record { later = omega arith; kept = λ k t le since. since; nothing_else = λ k t le since. inl since }

  -- after a run of reads, one call more
  pub time_on : {old mid new : D} → Unchanged disk old mid → Elapses disk old mid → Elapses disk mid new → Elapses disk old new
  time_on {old} {mid} {new} same first then = record {
    later = omega (arith, first.later, then.later);
    kept = λ k t le since. then.kept k t (omega (arith, le, first.later)) (first.kept k t le since);
    nothing_else = λ k t le since. ⊎_elim
        (λ before. inl (⊎_elim (λ s. s) (λ image. laws.counts_now old k t le (same_images same t image)) (first.nothing_else k t le before)))
        (λ image. inr image)
        (then.nothing_else k t (omega (arith, le, first.later)) since);
  }
