-- Contents that are found by their names.
use Rattle.std.specs.Prelude.{Bool, IsTrue, List, None, Option, true, ℕ, ◌≡◌, ◌≤◌}
use Rattle.std.proofs.Common.{sym, ◌∙◌}
use Rattle.tree_disk.specs.cny-base.Count.{Rose}
use Rattle.tree_disk.specs.cny-base.declared.stop.Stop.{Stop}
use Rattle.tree_disk.specs.cny-base.declared.stop.Stop.TheVariants as stop
use Rattle.tree_disk.specs.Tree.{Name}
use Rattle.content_store.specs.declared.contents.FarStop.{FarStop}
use Rattle.content_store.specs.declared.contents.FarStop.TheVariants.{Failed, Damaged, Memory}

-- a map from names to bytes
abbrev pub ContentMap : Type 0
ContentMap = List ℕ → Option (List ℕ)

-- which answers a name may have
abbrev pub Answers : Type 1
Answers = List ℕ → Option (List ℕ) → Type 0

-- the meanings of a source of contents
pub record ContentsModel (C : Type 0) : Type 1 where
  -- that this map is what it holds; where it tells no map, it is none
  pub holds : C → ContentMap → Type 0
  -- That a search of this name may answer this, whether or not it tells a map. A name whose content is damaged has no answer.
  pub answers : C → Answers
  -- whether it tells which paths fail a cross-check
  pub tells : Bool
  -- that what stands at a path fails a cross-check, where it tells that
  pub is_damaged : C → Name → Type 0
  -- how often it has failed; a count that stays at its greatest value
  pub faults : C → ℕ
  -- that nothing but searches leads from the one to the other, so that of what is behind nothing was changed
  pub searched : C → C → Type 0

-- What holds of each source: no search leads on from each, and searches follow one another; where a map is told, the answers
-- are the map's; and where it tells what is damaged, a name has one answer at most.
pub record IsSource {C : Type 0} (contents : ContentsModel C) : Type 0 where
  pub none : (c : C) → contents.searched c c
  pub next : (a b c : C) → contents.searched a b → contents.searched b c → contents.searched a c
  pub mapped : (c : C) (map : ContentMap) (name : List ℕ) (found : Option (List ℕ)) → contents.holds c map → contents.answers c name found → found ≡ map name
  pub one : IsTrue contents.tells → (c : C) (name : List ℕ) (a b : Option (List ℕ)) → contents.answers c name a → contents.answers c name b → a ≡ b

-- no contents at all: its map has none, each name has the answer that there is none, and no path fails a cross-check
abbrev pub empty_contents : {C : Type 0} → ContentsModel C
empty_contents = record {
  holds = λ c map. (name : List ℕ) → map name ≡ None;
  answers = λ c name found. found ≡ None;
  tells = true;
  is_damaged = λ c path. ⊥;
  faults = λ c. 0;
  searched = λ old new. Unit {0};
}

pub empty_source : {C : Type 0} → IsSource (empty_contents {C = C})
empty_source = record {
  none = λ c. tt;
  next = λ a b c first second. tt;
  mapped = λ c map name found none is. is ∙ sym (none name);
  one = λ tells c name a b first second. first ∙ sym second;
}

-- nothing may be answered to this name
abbrev pub LacksAnswer : Answers → List ℕ → Type 0
LacksAnswer answers name = (found : Option (List ℕ)) → answers name found → ⊥

-- what stands at a path fails a cross-check, so that this name has no answer
pub record IsDamagedSearch {C : Type 0} (contents : ContentsModel C) (c : C) (name : List ℕ) (path : Name) : Type 0 where
  pub damaged : contents.is_damaged c path
  pub lacking : LacksAnswer (contents.answers c) name

-- what a stop of a search of a name says
abbrev pub StopsFor : {C : Type 0} → ContentsModel C → C → C → List ℕ → FarStop → Type 0
StopsFor contents old new name Failed = Rose (contents.faults old) (contents.faults new)
StopsFor contents old new name (Damaged path) = IsTrue contents.tells → IsDamagedSearch contents old name path
StopsFor contents old new name Memory = Unit

-- why a call stops that searches the contents: their faults and their damage are told apart from those of its own disk
abbrev pub stop_of_far : FarStop → Stop
stop_of_far Failed = stop.FarFailed
stop_of_far (Damaged path) = stop.FarDamaged path
stop_of_far Memory = stop.Memory

-- A search changes nothing that is told: the map, the answers, and which paths fail a cross-check. The count of faults never
-- falls.
pub record KeepsContents {C : Type 0} (contents : ContentsModel C) (old new : C) : Type 0 where
  pub map : (map : ContentMap) → contents.holds old map → contents.holds new map
  pub answers : (name : List ℕ) (found : Option (List ℕ)) → contents.answers new name found → contents.answers old name found
  pub answers_stay : (name : List ℕ) (found : Option (List ℕ)) → contents.answers old name found → contents.answers new name found
  pub damage : IsTrue contents.tells → (path : Name) → contents.is_damaged new path → contents.is_damaged old path
  pub damage_stays : IsTrue contents.tells → (path : Name) → contents.is_damaged old path → contents.is_damaged new path
  pub later : contents.faults old ≤ contents.faults new
  pub searched : contents.searched old new
