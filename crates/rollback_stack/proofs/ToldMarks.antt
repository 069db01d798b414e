-- Fingerprints that are left to a list.
use Rattle.std.proofs.Common.{◌≡◌, Bool, true, false, cond, Option, Some, None, refl, sym, ◌∙◌, subst}
use Rattle.tree_scan.specs.declared.mark.Mark.{Mark}
use Rattle.tree_scan.specs.Marks.{same_mark}
use Rattle.tree_scan.proofs.MarkLaws.{same_mark_means}
use Rattle.local_db.specs.declared.record.Told.TheVariants.{Listed, Own}
use Rattle.job_record.specs.Lists.{told_by}
use Rattle.local_db.specs.RecordText.{IsTold}
use Rattle.local_db.specs.MarkBytes.{IsMark}

-- ---- what is told determines it

twice : (p q : Bool) (l a b : Mark) → (p ≡ true → l ≡ a) → (q ≡ true → l ≡ b) → cond p Listed (Own a) ≡ cond q Listed (Own b) → a ≡ b
twice true true l a b one two e = sym (one refl) ∙ two refl
twice true false l a b one two e = absurd (cc e)
twice false true l a b one two e = absurd (cc e)
twice false false l a b one two e = cc e

pub told_once : (o : Option Mark) (a b : Mark) → told_by o a ≡ told_by o b → a ≡ b
told_once None a b e = cc e
told_once (Some l) a b e = twice (same_mark l a) (same_mark l b) l a b (same_mark_means l a) (same_mark_means l b) e

marked : (p : Bool) (l mark : Mark) → (p ≡ true → l ≡ mark) → IsMark l → IsTold (cond p Listed (Own mark)) → IsMark mark
marked true l mark same is told = subst IsMark (same refl) is
marked false l mark same is told = told

-- it has bytes, where those that a list records do
pub told_is_mark : (o : Option Mark) (mark : Mark) → ((l : Mark) → o ≡ Some l → IsMark l) → IsTold (told_by o mark) → IsMark mark
told_is_mark None mark recorded told = told
told_is_mark (Some l) mark recorded told = marked (same_mark l mark) l mark (same_mark_means l mark) (recorded l refl) told
