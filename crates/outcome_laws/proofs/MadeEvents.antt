-- Events that are made one after the other.
use Rattle.std.proofs.Common.{◌≡◌, inl, inr, ℕ, ◌+◌, ◌<◌, ◌≤◌, List, [], ◌∷◌, ◌++◌, length, take, drop, Option, Result, Ok, Err, OnOk, OnErr, refl, sym, ap, ◌∙◌, subst, append_assoc, append-nil, length-append, drop_of_length-le, arith}
use Rattle.std.proofs.Math.Seq.{take-append_seam}
use Rattle.conary_cli.specs.cli-call.cny-base.declared.node.Node.{Node}
use Rattle.conary_cli.specs.cli-call.cny-base.declared.text.OutOfMemory.{OutOfMemory}
use Rattle.conary_cli.specs.cli-call.tree-disk.Tree.{Name}
use Rattle.cny_batch.specs.declared.line.Line.{Line}
use Rattle.tree_memory.specs.declared.memory.MemoryTree.{MemoryTree}
use Rattle.tree_memory.specs.Memory.{state}
use Rattle.outcome_laws.specs.declared.playing.Event.{Event}
use Rattle.outcome_laws.specs.declared.playing.Event.TheVariants as event
use Rattle.outcome_laws.specs.Play.{answered, edit_of, met, stopped, statuses_of, AreLeft, EventEnd, HasPlayed, IsMade, IsMissed, Makes, MakesBy, MakesSome, MeetsEdit, RanStopped}

-- ---- statuses

pub both_statuses : (ends more : List EventEnd) → statuses_of (ends ++ more) ≡ statuses_of ends ++ statuses_of more
both_statuses [] more = refl
both_statuses (answered tree status out ∷ ends) more = ap (λ (l : List ℕ). status ∷ l) (both_statuses ends more)
both_statuses (stopped tree status out ∷ ends) more = ap (λ (l : List ℕ). 255 ∷ l) (both_statuses ends more)
both_statuses (met tree ∷ ends) more = both_statuses ends more

all_gained : (first mid last : List ℕ) (ends more : List EventEnd) → mid ≡ first ++ statuses_of ends → last ≡ mid ++ statuses_of more → last ≡ first ++ statuses_of (ends ++ more)
all_gained first mid last ends more a b =
    b ∙ ap (λ (l : List ℕ). l ++ statuses_of more) a ∙ append_assoc first (statuses_of ends) (statuses_of more) ∙ ap (λ (l : List ℕ). first ++ l) (sym (both_statuses ends more))

-- ---- one event, and those behind it

then_more : (r : Result (Unit {0}) OutOfMemory) (e : Event) (events : List Event) (end : EventEnd) (ends : List EventEnd) (root mid root' repo far repo' : MemoryTree) → Makes e end root mid repo far
    → MakesBy r events ends mid root' far repo' → MakesBy r (e ∷ events) (end ∷ ends) root root' repo repo'
then_more (Ok x) e events end ends root mid root' repo far repo' makes h = (mid, far, makes, h)
then_more (Err x) e events end ends root mid root' repo far repo' makes h = inr (mid, far, makes, h)

-- what memory ran out at has others behind it
some_behind : (e : Event) (rest : List Event) (ends : List EventEnd) (root root' repo repo' : MemoryTree) → MakesSome (e ∷ []) ends root root' repo repo' → MakesSome (e ∷ rest) ends root root' repo repo'
some_behind e rest [] root root' repo repo' h = h
some_behind e rest (end ∷ ends) root root' repo repo' (inl stays) = inl stays
some_behind e rest (end ∷ ends) root root' repo repo' (inr h) = absurd h.3

-- ---- so far

-- Some events ended so, and whatever the rest come to comes behind them.
pub record ComesTo (events rest : List Event) (statuses statuses' : List ℕ) (root root' repo repo' : MemoryTree) : Type 0 where
  pub ends : List EventEnd
  pub gained : statuses' ≡ statuses ++ statuses_of ends
  pub more : (r : Result (Unit {0}) OutOfMemory) (later : List EventEnd) (new far : MemoryTree) → MakesBy r rest later root' new repo' far → MakesBy r events (ends ++ later) root new repo far

pub one_more : (events : List Event) (e : Event) (rest : List Event) (statuses mid statuses' : List ℕ) (root here root' repo far repo' : MemoryTree) → ComesTo events (e ∷ rest) statuses mid root here repo far
    → IsMade e mid statuses' here root' far repo' → ComesTo events rest statuses statuses' root root' repo repo'
one_more events e rest statuses mid statuses' root here root' repo far repo' so made = record {
  ends = so.ends ++ made.end ∷ [];
  gained = all_gained statuses mid statuses' so.ends (made.end ∷ []) so.gained made.gained;
  more = λ r later new last h. subst (λ (l : List EventEnd). MakesBy r events l root new repo last) (sym (append_assoc so.ends (made.end ∷ []) later))
      (so.more r (made.end ∷ later) new last (then_more r e rest made.end later here root' new far repo' last made.makes h));
}

-- all were made
pub to_end : (x : Unit {0}) (events : List Event) (statuses statuses' : List ℕ) (root root' repo repo' : MemoryTree) → ComesTo events [] statuses statuses' root root' repo repo' → HasPlayed events (Ok x) statuses statuses' root root' repo repo'
to_end x events statuses statuses' root root' repo repo' so = record {
  ends = so.ends;
  gained = so.gained;
  makes = subst (λ (l : List EventEnd). MakesBy (Ok x) events l root root' repo repo') (append-nil so.ends) (so.more (Ok x) [] root' repo' (refl, refl));
}

-- or memory ran out at one
pub to_missed : (x : OutOfMemory) (events : List Event) (e : Event) (rest : List Event) (statuses mid statuses' : List ℕ) (root here root' repo far repo' : MemoryTree) → ComesTo events (e ∷ rest) statuses mid root here repo far
    → IsMissed e mid statuses' here root' far repo' → HasPlayed events (Err x) statuses statuses' root root' repo repo'
to_missed x events e rest statuses mid statuses' root here root' repo far repo' so missed = record {
  ends = so.ends ++ missed.ends;
  gained = all_gained statuses mid statuses' so.ends missed.ends so.gained missed.gained;
  makes = so.more (Err x) missed.ends root' repo' (some_behind e rest missed.ends here root' far repo' missed.makes);
}

-- ---- what the functions answer

-- a status is written over the last byte
pub over_last : (old pushed new : List ℕ) (at b status : ℕ) → at ≡ length old → pushed ≡ old ++ b ∷ [] → new ≡ take at pushed ++ status ∷ [] ++ drop (at + 1) pushed → new ≡ old ++ status ∷ []
over_last old pushed new at b status is is_pushed wrote =
    let front : take at pushed ≡ old = ap (take at) is_pushed ∙ ap (λ (n : ℕ). take n (old ++ b ∷ [])) is ∙ take-append_seam old (b ∷ []) in
    let long : length pushed ≤ at + 1 = let all : length pushed ≡ length old + 1 = ap (λ (l : List ℕ). length l) is_pushed ∙ length-append old (b ∷ []) in omega (arith, all, is) in
    let behind : drop (at + 1) pushed ≡ [] = drop_of_length-le pushed long in
    wrote ∙ ap (λ (l : List ℕ). l ++ status ∷ [] ++ drop (at + 1) pushed) front ∙ ap (λ (l : List ℕ). old ++ status ∷ [] ++ l) behind ∙ append-nil (old ++ status ∷ [])

pub on_ok : {X E : Type 0} {P Q : Type 0} (r : Result X E) → (P → Q) → OnOk r P → OnOk r Q
on_ok (Ok x) f h = f h
on_ok (Err e) f h = h

pub on_err_both : {X E : Type 0} {P Q R : Type 0} (r : Result X E) → (P → Q → R) → OnErr r P → OnErr r Q → OnErr r R
on_err_both (Ok x) f h g = h
on_err_both (Err e) f h g = f h g

pub stopped_made : (e : Event) (l : Line) (repo_calls root_calls pick : ℕ) (statuses statuses' : List ℕ) (root mid root' repo far repo' : MemoryTree) → e ≡ event.Stopped l repo_calls root_calls pick → statuses' ≡ statuses ++ 255 ∷ []
    → (status : ℕ) × (out : List ℕ) × RanStopped l repo_calls root_calls status out root mid repo far → AreLeft pick mid root' far repo' → IsMade e statuses statuses' root root' repo repo'
stopped_made e l repo_calls root_calls pick statuses statuses' root mid root' repo far repo' is gained ran left =
    subst (λ (x : Event). IsMade x statuses statuses' root root' repo repo') (sym is) (record { end = stopped (state root).reads ran.0 ran.1; gained = gained; makes = (refl, mid, far, ran.2, left) })

pub stopped_missed : (e : Event) (l : Line) (repo_calls root_calls pick : ℕ) (statuses statuses' : List ℕ) (root mid root' repo far repo' : MemoryTree) → e ≡ event.Stopped l repo_calls root_calls pick → statuses' ≡ statuses ++ 255 ∷ []
    → (status : ℕ) × (out : List ℕ) × RanStopped l repo_calls root_calls status out root mid repo far → root' ≡ mid → repo' ≡ far → IsMissed e statuses statuses' root root' repo repo'
stopped_missed e l repo_calls root_calls pick statuses statuses' root mid root' repo far repo' is gained ran same same_far =
    subst (λ (x : Event). IsMissed x statuses statuses' root root' repo repo') (sym is) (record {
      ends = stopped (state root).reads ran.0 ran.1 ∷ [];
      gained = gained;
      makes = inl (refl, (refl, subst (λ (d : MemoryTree). RanStopped l repo_calls root_calls ran.0 ran.1 root d repo repo') (sym same) (subst (λ (d : MemoryTree). RanStopped l repo_calls root_calls ran.0 ran.1 root mid repo d) (sym same_far) ran.2)));
    })

pub edit_made : (e : Event) (path : Name) (node : Option Node) (statuses : List ℕ) (root root' repo : MemoryTree) → e ≡ event.Edit path node → MeetsEdit (edit_of path node) root root' → IsMade e statuses statuses root root' repo repo
edit_made e path _ statuses root root' repo is meets =
    subst (λ (x : Event). IsMade x statuses statuses root root' repo repo) (sym is) (record { end = met (state root).reads; gained = sym (append-nil statuses); makes = (refl, meets, refl) })

-- a list that is shorter than one
pub none_left : {X : Type 0} (xs : List X) → length xs < 1 → xs ≡ []
none_left [] short = refl
none_left (x ∷ xs) short = absurd (omega (arith, short))
