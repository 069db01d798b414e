-- The states to which events lead are those of the fold, for cuts that the calls tell; and the fold is that of the machine.
use Rattle.std.proofs.Common.{◌≡◌, inl, inr, ⊎_elim, ℕ, List, [], ◌∷◌, refl, sym, subst, arith}
use Rattle.conary_cli.specs.cli-call.tree-disk.Tree.{Tree}
use Rattle.conary_cli.specs.cli-call.cny-laws.State.{State}
use Rattle.cny_batch.specs.declared.line.Line.{Line}
use Rattle.outcome_laws.specs.declared.playing.Event.{Event}
use Rattle.outcome_laws.specs.declared.playing.Event.TheVariants as event
use Rattle.outcome_laws.specs.Machine.{Answers}
use Rattle.outcome_laws.specs.Cuts.{Counts, CountsTo}
use Rattle.outcome_laws.specs.Histories.{altered, called, crashed, Answered, Event as HistoryEvent, Folds}
use Rattle.outcome_laws.specs.Play.{answered, edit_of, met, stopped, EventEnd}
use Rattle.outcome_laws.specs.Played.{Alters, AreSaid, AreUncut, FoldsCall, FoldsOne, FoldsTo, FoldsTold, IsHistory, IsUncut}

-- ---- to which states events lead

-- one event leads from the one state to the other
abbrev pub LeadsFrom : Event → EventEnd → State → State → Type 0
LeadsFrom (event.Call l) (answered tree status out) s t = CountsTo tree status out l s t
LeadsFrom (event.Call l) (stopped tree status out) s t = ⊥
LeadsFrom (event.Call l) (met tree) s t = ⊥
LeadsFrom (event.Stopped l repo_calls root_calls pick) (answered tree status out) s t = ⊥
LeadsFrom (event.Stopped l repo_calls root_calls pick) (stopped tree status out) s t = CountsTo tree status out l s t
LeadsFrom (event.Stopped l repo_calls root_calls pick) (met tree) s t = ⊥
LeadsFrom (event.Edit path _) (answered tree status out) s t = ⊥
LeadsFrom (event.Edit path _) (stopped tree status out) s t = ⊥
LeadsFrom (event.Edit path node) (met tree) s t = Alters tree (edit_of path node) s t

-- those that were made do
abbrev pub LeadThrough : List Event → List EventEnd → State → State → Type 0
LeadThrough [] [] s t = t ≡ s
LeadThrough [] (end ∷ ends) s t = ⊥
LeadThrough (e ∷ events) [] s t = t ≡ s
LeadThrough (e ∷ events) (end ∷ ends) s t = (mid : State) × LeadsFrom e end s mid × LeadThrough events ends mid t

-- ---- the fold

-- one event: before the cuts of the later ones
one_told : (e : Event) (end : EventEnd) (rest : List ℕ) (s t : State) → LeadsFrom e end s t → (cuts : List ℕ) × FoldsOne e end cuts rest s t
one_told (event.Call l) (answered tree status out) rest s t h = (h.0 ∷ rest, (h.0, refl, h.1, h.2))
one_told (event.Call l) (stopped tree status out) rest s t h = absurd h
one_told (event.Call l) (met tree) rest s t h = absurd h
one_told (event.Stopped l repo_calls root_calls pick) (answered tree status out) rest s t h = absurd h
one_told (event.Stopped l repo_calls root_calls pick) (stopped tree status out) rest s t h = (h.0 ∷ rest, (h.0, refl, h.1, h.2))
one_told (event.Stopped l repo_calls root_calls pick) (met tree) rest s t h = absurd h
one_told (event.Edit path _) (answered tree status out) rest s t h = absurd h
one_told (event.Edit path _) (stopped tree status out) rest s t h = absurd h
one_told (event.Edit path _) (met tree) rest s t h = (rest, (refl, h))

pub lead_told : (events : List Event) (ends : List EventEnd) (s t : State) → LeadThrough events ends s t → FoldsTo events ends s t
lead_told [] [] s t h = ([], (refl, h))
lead_told [] (end ∷ ends) s t h = absurd h
lead_told (e ∷ events) [] s t h = ([], (refl, h))
lead_told (e ∷ events) (end ∷ ends) s t h =
    let later = lead_told events ends h.0 t h.2 in
    let first = one_told e end later.0 s h.0 h.1 in
    (first.0, (later.0, h.0, first.1, later.1))

-- ---- as a history of the machine

-- the events that were made are those of a history, which the machine folds
abbrev pub IsMachineFold : List Event → List EventEnd → List ℕ → State → State → Type 0
IsMachineFold events ends cuts s t = (history : List HistoryEvent) × IsHistory events ends history × Folds history cuts s t

-- an event before those of a history
call_folds : (l : Line) (tree : Tree) (status : ℕ) (out cuts rest : List ℕ) (s mid t : State) (later : List HistoryEvent) → FoldsCall l tree status out cuts rest s mid → Folds later rest mid t → Folds (called l ∷ later) cuts s t
call_folds l tree status out cuts rest s mid t later h folds = subst (λ (c : List ℕ). Folds (called l ∷ later) c s t) (sym h.1) (mid, h.3, folds)

crash_folds : (l : Line) (tree : Tree) (status : ℕ) (out cuts rest : List ℕ) (s mid t : State) (later : List HistoryEvent) → FoldsCall l tree status out cuts rest s mid → Folds later rest mid t → Folds (crashed l ∷ later) cuts s t
crash_folds l tree status out cuts rest s mid t later h folds = subst (λ (c : List ℕ). Folds (crashed l ∷ later) c s t) (sym h.1) (mid, h.3, folds)

one_folds : (e : Event) (end : EventEnd) (events : List Event) (ends : List EventEnd) (cuts rest : List ℕ) (s mid t : State) → FoldsOne e end cuts rest s mid → IsMachineFold events ends rest mid t
    → IsMachineFold (e ∷ events) (end ∷ ends) cuts s t
one_folds (event.Call l) (answered tree status out) events ends cuts rest s mid t h later = (called l ∷ later.0, (later.0, refl, later.1), call_folds l tree status out cuts rest s mid t later.0 h later.2)
one_folds (event.Call l) (stopped tree status out) events ends cuts rest s mid t h later = absurd h
one_folds (event.Call l) (met tree) events ends cuts rest s mid t h later = absurd h
one_folds (event.Stopped l repo_calls root_calls pick) (answered tree status out) events ends cuts rest s mid t h later = absurd h
one_folds (event.Stopped l repo_calls root_calls pick) (stopped tree status out) events ends cuts rest s mid t h later =
    (crashed l ∷ later.0, (later.0, refl, later.1), crash_folds l tree status out cuts rest s mid t later.0 h later.2)
one_folds (event.Stopped l repo_calls root_calls pick) (met tree) events ends cuts rest s mid t h later = absurd h
one_folds (event.Edit path _) (answered tree status out) events ends cuts rest s mid t h later = absurd h
one_folds (event.Edit path _) (stopped tree status out) events ends cuts rest s mid t h later = absurd h
one_folds (event.Edit path node) (met tree) events ends cuts rest s mid t h later = ⊎_elim
    (λ own. (
      altered (edit_of path node) ∷ later.0,
      (later.0, inl (own.0, refl), later.1),
      subst (λ (c : List ℕ). Folds (altered (edit_of path node) ∷ later.0) c s t) (sym h.0) (mid, own.1, later.2),
    ))
    (λ lost. (
      later.0,
      (later.0, inr (lost.0, refl), later.1),
      subst (λ (c : List ℕ). Folds later.0 c s t) (sym h.0) (subst (λ (x : State). Folds later.0 rest x t) lost.1 later.2),
    ))
    h.1.1

pub told_folds : (events : List Event) (ends : List EventEnd) (cuts : List ℕ) (s t : State) → FoldsTold events ends cuts s t → IsMachineFold events ends cuts s t
told_folds [] [] cuts s t h = ([], refl, subst (λ (c : List ℕ). Folds [] c s t) (sym h.0) h.1)
told_folds [] (end ∷ ends) cuts s t h = absurd h
told_folds (e ∷ events) [] cuts s t h = ([], refl, subst (λ (c : List ℕ). Folds [] c s t) (sym h.0) h.1)
told_folds (e ∷ events) (end ∷ ends) cuts s t h = one_folds e end events ends cuts h.0 s h.1 t h.2 (told_folds events ends h.0 h.1 t h.3)

-- ---- without crashes and faults

-- what the machine answers to the events that were made
abbrev pub MachineAnswers : List Event → List EventEnd → State → State → Type 0
MachineAnswers events ends s t = (history : List HistoryEvent) × IsHistory events ends history × (said : List Answers) × Answered history said s t × AreSaid ends said

-- an event before those of a history
call_answered : (l : Line) (tree : Tree) (status : ℕ) (out : List ℕ) (events : List Event) (ends : List EventEnd) (s mid t : State) (cut : ℕ) → IsUncut (answered tree status out) → Counts tree status out l s mid cut → MachineAnswers events ends mid t
    → MachineAnswers (event.Call l ∷ events) (answered tree status out ∷ ends) s t
call_answered l tree status out events ends s mid t cut uncut (inl none) later = absurd (uncut.1 none.cannot)
call_answered l tree status out events ends s mid t cut uncut (inr (inl a)) later = (
  called l ∷ later.0,
  (later.0, refl, later.1),
  a.all ∷ later.2,
  (a.answers, subst (λ (x : State). Answered later.0 later.2 x t) a.leads later.3),
  record {
    statuses = λ i. a.status_is i ∷ later.4.statuses i;
    outputs = λ i. a.out_is i ∷ later.4.outputs i;
  },
)
call_answered l tree status out events ends s mid t cut uncut (inr (inr off)) later = let least = off.least in let most = uncut.0 in absurd (omega (arith, least, most))

one_answered : (e : Event) (end : EventEnd) (events : List Event) (ends : List EventEnd) (cuts rest : List ℕ) (s mid t : State) → IsUncut end → FoldsOne e end cuts rest s mid → MachineAnswers events ends mid t
    → MachineAnswers (e ∷ events) (end ∷ ends) s t
one_answered (event.Call l) (answered tree status out) events ends cuts rest s mid t uncut h later = call_answered l tree status out events ends s mid t h.0 uncut h.2 later
one_answered (event.Call l) (stopped tree status out) events ends cuts rest s mid t uncut h later = absurd h
one_answered (event.Call l) (met tree) events ends cuts rest s mid t uncut h later = absurd h
one_answered (event.Stopped l repo_calls root_calls pick) (answered tree status out) events ends cuts rest s mid t uncut h later = absurd h
one_answered (event.Stopped l repo_calls root_calls pick) (stopped tree status out) events ends cuts rest s mid t uncut h later = absurd uncut
one_answered (event.Stopped l repo_calls root_calls pick) (met tree) events ends cuts rest s mid t uncut h later = absurd h
one_answered (event.Edit path _) (answered tree status out) events ends cuts rest s mid t uncut h later = absurd h
one_answered (event.Edit path _) (stopped tree status out) events ends cuts rest s mid t uncut h later = absurd h
one_answered (event.Edit path node) (met tree) events ends cuts rest s mid t uncut h later = ⊎_elim
    (λ own. (
      altered (edit_of path node) ∷ later.0,
      (later.0, inl (own.0, refl), later.1),
      later.2,
      (mid, own.1, later.3),
      record { statuses = later.4.statuses; outputs = later.4.outputs },
    ))
    (λ lost. (
      later.0,
      (later.0, inr (lost.0, refl), later.1),
      later.2,
      subst (λ (x : State). Answered later.0 later.2 x t) lost.1 later.3,
      record { statuses = later.4.statuses; outputs = later.4.outputs },
    ))
    h.1.1

pub uncut_answered : (events : List Event) (ends : List EventEnd) (cuts : List ℕ) (s t : State) → AreUncut ends → FoldsTold events ends cuts s t → MachineAnswers events ends s t
uncut_answered [] [] cuts s t uncut h = ([], refl, [], h.1, record { statuses = refl; outputs = refl })
uncut_answered [] (end ∷ ends) cuts s t uncut h = absurd h
uncut_answered (e ∷ events) [] cuts s t uncut h = ([], refl, [], h.1, record { statuses = refl; outputs = refl })
uncut_answered (e ∷ events) (end ∷ ends) cuts s t uncut h = one_answered e end events ends cuts h.0 s h.1 t uncut.0 h.2 (uncut_answered events ends h.0 h.1 t uncut.1 h.3)
