-- Entries at whose path something stands before or after the job.
use Rattle.std.specs.Prelude.{◌≡◌, Bool, true, false, not, List, Contains}
use Rattle.rollback_stack.specs.cny-base.declared.refusal.Refusal.{Refusal}
use Rattle.rollback_stack.specs.cny-base.declared.refusal.Refusal.TheVariants as refusal
use Rattle.rollback_stack.specs.journal-log.declared.put.Want.{Want}
use Rattle.rollback_stack.specs.journal-log.declared.put.Want.TheVariants as want
use Rattle.job_targets.specs.declared.entry.Entry.{Entry}
use Rattle.rollback_stack.specs.tree-scan.declared.mark.Mark.{Mark}
use Rattle.rollback_stack.specs.tree-scan.Marks.{is_nothing}

abbrev pub is_some_by : Want → Mark → Bool
is_some_by want.Nothing mark = not (is_nothing mark)
is_some_by (want.Dir mode) mark = true
is_some_by (want.File mode bytes) mark = true
is_some_by (want.Link target) mark = true
is_some_by (want.Staged mode number size name) mark = true

-- something stood there, or is to stand
abbrev pub is_something : Entry → Bool
is_something e = is_some_by e.was e.mark

-- nothing stood at the path of one of them, and nothing is to stand, and that path is refused as edited
pub record LacksSomething (es : List Entry) (why : Refusal) : Type 0 where
  pub entry : Entry
  pub among : Contains es entry
  pub nothing : is_something entry ≡ false
  pub refusal_is : why ≡ refusal.Edited entry.path

-- nothing stood at the path, and nothing is to stand, and it is refused as edited
abbrev pub IsNothing : Entry → Refusal → Type 0
IsNothing e why = (is_something e ≡ false) × (why ≡ refusal.Edited e.path)
