-- Entries whose bytes are given tell the fingerprints of their nodes.
use Rattle.std.proofs.Common.{◌≡◌, false, List, [], ◌∷◌, map, refl, ap, ◌∙◌}
use Rattle.std.proofs.lemmas.List.Elements.{recursion_from_All}
use Rattle.std.specs.List.{All, AllByRecursion}
use Rattle.job_targets.specs.journal-log.declared.put.Want.{Want}
use Rattle.job_targets.specs.journal-log.declared.put.Want.TheVariants.{Nothing, Dir, File, Link, Staged}
use Rattle.job_targets.specs.journal-log.Targets.{node_of}
use Rattle.job_targets.specs.declared.entry.Entry as saved
use Rattle.job_targets.specs.Old.{is_staged}
use Rattle.job_targets.specs.Wanted.{mark_of_want}
use Rattle.local_db.specs.Record.{Entry}
use Rattle.tree_scan.specs.Marks.{fingerprint}
use Rattle.tree_scan.specs.declared.mark.Mark.{Mark}
use Rattle.rollback_stack.specs.Entries.{entry_of, told_of}

same_mark_of : (want : Want) → is_staged want ≡ false → mark_of_want want ≡ fingerprint (node_of want)
same_mark_of Nothing given = refl
same_mark_of (Dir mode) given = refl
same_mark_of (File mode bytes) given = refl
same_mark_of (Link target) given = refl
same_mark_of (Staged mode number size name) given = absurd (cc given)

same_entry : (e : saved.Entry) → is_staged e.was ≡ false → told_of e ≡ entry_of e
same_entry e given = let as_entry : Mark → Entry = λ m. record { path = e.path; was = m; now = e.mark } in ap as_entry (same_mark_of e.was given)

same_all : (es : List saved.Entry) → AllByRecursion (λ (e : saved.Entry). is_staged e.was ≡ false) es → map told_of es ≡ map entry_of es
same_all [] given = refl
same_all (e ∷ es) given = ap (λ (x : Entry). x ∷ map told_of es) (same_entry e given.0) ∙ ap (λ l. entry_of e ∷ l) (same_all es given.1)

pub same_entries : (es : List saved.Entry) → All (λ (e : saved.Entry). is_staged e.was ≡ false) es → map told_of es ≡ map entry_of es
same_entries es given = same_all es (recursion_from_All (λ (e : saved.Entry). is_staged e.was ≡ false) es given)
