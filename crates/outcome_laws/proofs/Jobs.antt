-- Lists in order are told by their elements: the changes of a list, what an update and an erasure leave; and `rblist` has one outcome.
use Rattle.std.proofs.Common.{◌≡◌, ⊎_elim, ℕ, List, [], ◌∷◌, Ok, Err, Contains, refl, sym, ap, ◌∙◌}
use Rattle.std.proofs.lemmas.Cmp.{on_total}
use Rattle.std.specs.Cmp.{IsTotalOrder}
use Rattle.std.specs.Cmp.Lexicographic.{nat_list_cmp_total}
use Rattle.conary_cli.specs.cli-call.trove-stream.declared.parts.TroveParts.{TroveParts}
use Rattle.conary_cli.specs.cli-call.trove-stream.Installed.{by_name}
use Rattle.conary_cli.specs.cli-call.local-db.SystemState.{StackItem}
use Rattle.conary_cli.specs.cli-call.Answer.{answer}
use Rattle.conary_cli.specs.cli-call.cny-laws.State.{RootState}
use Rattle.cny_report.specs.declared.note.Note.{Note}
use Rattle.cny_report.specs.Jobs.{undos_text}
use Rattle.update_job.specs.Changes.{name_of, by_change, AreChanges}
use Rattle.update_job.specs.Lists.{IsErased, IsUpdated}
use Rattle.conary_cli.specs.root-commands.Jobs.{IsNoteOf, AreNotesOf, ListsJobs, list_jobs}
use Rattle.change_rel.proofs.trove-stream.Members.{same_members}
use Rattle.conary_cli.proofs.cli-call.local-db.Sorted.{trove_total}
use Rattle.outcome_laws.specs.OneOutcome.{AtMostOne, HasOneOutcome}
use Rattle.outcome_laws.proofs.Tests.{done, with_shared}

-- ---- lists in order

change_total : IsTotalOrder by_change
change_total = on_total name_of nat_list_cmp_total

-- two lists have the same changes between them
pub changes_once : (before after : List TroveParts) → AtMostOne (AreChanges before after)
changes_once before after a b h g = same_members by_change change_total a b h.rising g.rising (λ c. ((λ in'. g.all c (h.each c in')), (λ in'. h.all c (g.each c in'))))

pub erased_once : (list : List TroveParts) (names : List (List ℕ)) → AtMostOne (IsErased list names)
erased_once list names a b h g = same_members by_name trove_total a b h.rising g.rising (λ t. ((λ in'. g.all t (h.stays t in')), (λ in'. h.all t (g.stays t in'))))

pub updated_once : (list come : List TroveParts) → AtMostOne (IsUpdated list come)
updated_once list come a b h g = same_members by_name trove_total a b h.rising g.rising (λ t. (one_way a b h g t, one_way b a g h t))
  where
    one_way : (new other : List TroveParts) (h : IsUpdated list come new) (g : IsUpdated list come other) (t : TroveParts) → Contains new t → Contains other t
    one_way new other h g t in' = ⊎_elim (λ fresh. g.fresh t fresh) (λ old. g.old t old) (h.from t in')

-- ---- `rblist`

note_once : (after : List TroveParts) (o : StackItem) (m n : Note) → IsNoteOf after o m → IsNoteOf after o n → m ≡ n
note_once after o m n h g =
    let number : m.number ≡ n.number = h.number ∙ sym g.number in
    let changes : m.changes ≡ n.changes = changes_once o.list after m.changes n.changes h.changes g.changes in
    let paths : m.paths ≡ n.paths = h.paths ∙ sym g.paths in
    λ i. record { number = number i; changes = changes i; paths = paths i }

notes_once : (after : List TroveParts) (stack : List StackItem) (a b : List Note) → AreNotesOf after stack a → AreNotesOf after stack b → a ≡ b
notes_once after [] [] [] h g = refl
notes_once after [] [] (n ∷ b) h g = absurd g
notes_once after [] (m ∷ a) b h g = absurd h
notes_once after (o ∷ olds) [] b h g = absurd h
notes_once after (o ∷ olds) (m ∷ a) [] h g = absurd g
notes_once after (o ∷ olds) (m ∷ a) (n ∷ b) h g =
    let first = note_once after o m n h.0 g.0 in
    let rest = notes_once o.list olds a b h.1 g.1 in
    λ i. first i ∷ rest i

lists_once : (s : RootState) → AtMostOne (ListsJobs s)
lists_once s (Ok x) (Ok y) h g = ap done (h.effect_is ∙ ap (λ (notes : List Note). answer (undos_text notes)) (notes_once s.installed s.stack h.notes g.notes h.are g.are) ∙ sym g.effect_is)
lists_once s (Ok x) (Err q) h g = absurd g
lists_once s (Err p) b h g = absurd h

pub jobs_once : HasOneOutcome list_jobs
jobs_once = with_shared list_jobs (λ s input state. lists_once s.root)
