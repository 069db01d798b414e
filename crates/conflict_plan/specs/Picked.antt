-- What is planned of entries, whatever a disk tells.
use Rattle.std.specs.Prelude.{◌≡◌, ◌⊎◌, false, List, [], ◌∷◌, Option, Some, None}
use Rattle.conflict_plan.specs.declared.drafting.Draft.{Draft}
use Rattle.conflict_plan.specs.declared.entries.Entry.{Entry}
use Rattle.conflict_plan.specs.declared.planned.Planned.{Planned}
use Rattle.conflict_plan.specs.Drafts.{is_settled}

-- It is planned of this entry, of which something was left to decide: at its path, with nothing or the new record as its target.
pub record IsPickedOf (e : Entry) (x : Planned) : Type 0 where
  pub path : x.path ≡ e.path
  pub loose : is_settled e ≡ false
  pub target : (x.want ≡ None) ⊎ (x.want ≡ e.fresh)

-- the first is so of this element, and of the others P holds
pub record BeginsWith {A : Type 0} (Is : A → Planned → Type 0) (x : A) (P : List Planned → Type 0) (plan : List Planned) : Type 0 where
  pub first : Planned
  pub rest : List Planned
  pub split : plan ≡ first ∷ rest
  pub one : Is x first
  pub others : P rest

-- each is so of one of these elements, in their order
abbrev pub AreOfSome : {A : Type 0} → (A → Planned → Type 0) → List A → List Planned → Type 0
AreOfSome Is [] plan = plan ≡ []
AreOfSome Is (x ∷ xs) plan = AreOfSome Is xs plan ⊎ BeginsWith Is x (AreOfSome Is xs) plan

-- planned of some of the entries, in their order
abbrev pub ArePicked : List Entry → List Planned → Type 0
ArePicked es plan = AreOfSome IsPickedOf es plan

-- some of the drafts, in their order
abbrev pub AreKept : List Draft → List Planned → Type 0
AreKept ds plan = AreOfSome (λ (d : Draft) x. x ≡ d.planned) ds plan

-- of the draft, where there is one
abbrev pub IsPickedDraft : Entry → Option Draft → Type 0
IsPickedDraft e None = Unit {0}
IsPickedDraft e (Some draft) = IsPickedOf e draft.planned

abbrev pub planned_of : Draft → Planned
planned_of draft = draft.planned
