-- What a reading has taken: from the bytes before to what they gave.
use Rattle.std.proofs.Common.{◌≡◌, inl, inr, ℕ, ◌+◌, ◌-◌, ◌<◌, ◌≤◌, Bool, true, false, IsTrue, All, List, [], ◌∷◌, ◌++◌, length, take, drop, get_or, Result, Ok, Err, IfErr, IfOk, IsErrAnd, refl, sym, ap, ◌∙◌, subst, arith, append_assoc, length-append, length-take, take-add}
use Rattle.std.specs.Prelude.{slice_range}
use Rattle.std.proofs.lemmas.List.{take-append-drop, take-take, get_or_default}
use Rattle.std.proofs.lemmas.List.Elements.{All-drop, All-append}
use Rattle.cny_stream.specs.Cut.{Position, InMagic, InHead, InValue, Stands, Pushed, PushedMagic, PushedHead, open_bytes}
use Rattle.cny_stream.specs.Decided.{Decided}
use Rattle.cny_stream.specs.declared.cutter.Cutter.{Cutter}
use Rattle.cny_stream.specs.declared.cutter.Event.{Event}
use Rattle.cny_stream.specs.declared.cutter.Event.TheVariants.{More, Begun, Head, Value, NoMagic, Unexpected}
use Rattle.journal_log.specs.tree-disk.Disk.{DiskModel}
use Rattle.journal_log.specs.tree-disk.Tree.{Name, Tree}
use Rattle.change_set.specs.declared.change.ChangeSet.{ChangeSet}
use Rattle.change_set.specs.ChangeSet.{magic, change_bytes}
use Rattle.change_set.specs.FirstFault.{IsFirstFault}
use Rattle.change_set.specs.Index.{IsIndexOf}
use Rattle.change_set.specs.cny-base.declared.refusal.Refusal.{Refusal}
use Rattle.change_set.specs.cny-base.declared.refusal.Refusal.TheVariants.{Malformed, TooLarge}
use Rattle.change_set.specs.cny-base.declared.refusal.What.TheVariants.{Content}
use Rattle.change_pull.specs.declared.halt.Halt.{Halt}
use Rattle.change_pull.specs.declared.halt.Halt.TheVariants as halts
use Rattle.change_pull.specs.Halts.{IfRefusal, IsNoFault, IsNoRefusal}
use Rattle.change_pull.specs.Writes.{HasCause}
use Rattle.change_pull.specs.declared.reading.Reading.{Reading}
use Rattle.change_pull.specs.Files.{HoldsFiles, files_of, staged_from}
use Rattle.change_pull.specs.Front.{front_bytes, tags_behind_set}
use Rattle.change_pull.specs.Gathered.{IsGathered}
use Rattle.change_pull.specs.Open.{HasKept, BehindItems, IsOpen, IsOpenAt, IsNextOpen, IsPushed, IsPushedAt, IfWhole, IsWritten, Gathers, files}
use Rattle.change_set.specs.declared.change.Carried.{Carried}

-- ---- continuations

pub decided_more : {Fault : Type 0} (IsFirst : List ℕ → Fault → Type 0) (given more : List ℕ) (fault : Fault) → All (λ (b : ℕ). b < 256) more → Decided IsFirst given fault → Decided IsFirst (given ++ more) fault
decided_more IsFirst given more fault bytes decided behind small =
    subst (λ (l : List ℕ). IsFirst l fault) (sym (append_assoc given more behind)) (decided (more ++ behind) (All-append (λ (b : ℕ). b < 256) more behind bytes small))

pub all_bytes : (bytes : List ℕ) → ((i : ℕ) → get_or bytes i 0 < 256) → All (λ (b : ℕ). b < 256) bytes
all_bytes bytes fits k d low = subst (λ (n : ℕ). n < 256) (get_or_default bytes k 0 d low) (fits k)

pub rest_of : (given piece : List ℕ) (used : ℕ) → (given ++ take used piece) ++ drop used piece ≡ given ++ piece
rest_of given piece used = append_assoc given (take used piece) (drop used piece) ∙ ap (λ (l : List ℕ). given ++ l) (take-append-drop used piece)

-- ---- events that keep nothing

abbrev IsPlain : Event → Type 0
IsPlain (Value whole) = ⊥
IsPlain _ = Unit {0}

plain_magic : (cutter : Cutter) (whole front taken : List ℕ) (event : Event) → PushedMagic magic cutter whole front taken event → IsPlain event
plain_magic cutter whole front taken More p = tt
plain_magic cutter whole front taken Begun p = tt
plain_magic cutter whole front taken NoMagic p = tt
plain_magic cutter whole front taken (Head tag len) p = absurd p
plain_magic cutter whole front taken (Value all) p = absurd p
plain_magic cutter whole front taken Unexpected p = absurd p

plain_head : (tags : List ℕ) (cutter : Cutter) (whole front taken : List ℕ) (event : Event) → PushedHead magic tags cutter whole front taken event → IsPlain event
plain_head tags cutter whole front taken More p = tt
plain_head tags cutter whole front taken Unexpected p = tt
plain_head tags cutter whole front taken (Head tag len) p = tt
plain_head tags cutter whole front taken Begun p = absurd p
plain_head tags cutter whole front taken NoMagic p = absurd p
plain_head tags cutter whole front taken (Value all) p = absurd p

pub staged_count : (dir : Name) (contents : List Carried) (number : ℕ) → length (staged_from dir number contents) ≡ length contents
staged_count dir [] number = refl
staged_count dir (x ∷ contents) number = omega (arith, staged_count dir contents (number + 1))

module _ {D : Type 0} (disk : DiskModel D) (dir : Name) (old new : D) where
  nothing_kept : (before after : Reading) (bytes : List ℕ) (event : Event) → IsPlain event → Gathers disk dir old new before after bytes event → (after ≡ before) × (IsTrue disk.tells → disk.reads new ≡ disk.reads old)
  nothing_kept before after bytes More plain is = is
  nothing_kept before after bytes Begun plain is = is
  nothing_kept before after bytes NoMagic plain is = is
  nothing_kept before after bytes Unexpected plain is = is
  nothing_kept before after bytes (Head tag len) plain is = is
  nothing_kept before after bytes (Value whole) plain is = absurd plain

  -- what the bytes gave, and the files that are to stand with it
  pub record IsTaken (r : Reading) (given : List ℕ) (event : Event) (before : List (List ℕ)) : Type 0 where
    pub wanted : List (List ℕ)
    pub pushed : IsPushed r dir given event wanted
    pub grows : IsTrue disk.tells → HoldsFiles (disk.reads old) dir before → HoldsFiles (disk.reads new) dir wanted

  -- `mid` has pushed the bytes, and `r` has gathered them
  module _ (start mid r : Reading) (given taken tags : List ℕ) (event : Event)
      (tags_open : (set : ChangeSet) → HasKept start dir set → start.ended ≡ false → tags ≡ tags_behind_set set) (tags_ended : start.ended ≡ true → tags ≡ [])
      (cut : (whole : List ℕ) (position : Position) → Stands magic start.cutter whole position → Pushed magic tags mid.cutter whole position taken event)
      (count : mid.given ≡ start.given + length taken) (starts : mid.start ≡ start.start) (parts : mid.parts ≡ start.parts) (index : mid.index ≡ start.index) (staged : mid.staged ≡ start.staged) (item : mid.item ≡ start.item) (ended : mid.ended ≡ start.ended)
      (cutter' : r.cutter ≡ mid.cutter) (count' : r.given ≡ mid.given) (starts' : r.start ≡ mid.start) (parts' : r.parts ≡ mid.parts) (index' : r.index ≡ mid.index) (staged' : r.staged ≡ mid.staged) (ended' : r.ended ≡ mid.ended)
      (gathers : Gathers disk dir old new mid r taken event) where
    kept : (set : ChangeSet) → HasKept start dir set → HasKept r dir set
    kept set is = record {
      parts = ap (λ v. v.items) (parts' ∙ parts) ∙ is.parts;
      staged = ap (λ v. v.items) (staged' ∙ staged) ∙ is.staged;
      index = subst (IsIndexOf set.parts) (sym (index' ∙ index)) is.index;
    }

    items : (set : ChangeSet) (n : ℕ) → BehindItems start set n → BehindItems r set (n + length taken)
    items set n is = record { set_is = is.set_is; start = starts' ∙ starts ∙ is.start; count = omega (arith, count', count, is.count); goes_on = ended' ∙ ended ∙ is.goes_on }

    pushed_on : (whole : List ℕ) (position : Position) → Stands magic start.cutter whole position → Pushed magic tags r.cutter whole position taken event
    pushed_on whole position stands = subst (λ c. Pushed magic tags c whole position taken event) (sym cutter') (cut whole position stands)

    same_files : IsTrue disk.tells → disk.reads new ≡ disk.reads old → (wanted : List (List ℕ)) → HoldsFiles (disk.reads old) dir wanted → HoldsFiles (disk.reads new) dir wanted
    same_files tells same wanted holds = subst (λ (t : Tree). HoldsFiles t dir wanted) (sym same) holds

    pub taken_from : (it : IsOpen start dir given) → IsTaken r (given ++ taken) event (files it)
    taken_from it = by it.is_at
      where
        plain : IsPushedAt r (given ++ taken) event it.set it.written → IsPlain event → IsTaken r (given ++ taken) event (files it)
        plain at none = record {
          wanted = files it;
          pushed = record { set = it.set; written = it.written; kept = kept it.set it.kept; is_at = at; files = refl };
          grows = λ tells holds. same_files tells ((nothing_kept mid r taken event none gathers).1 tells) (files it) holds;
        }

        in_value : (event : Event) (tag len : ℕ) (value : List ℕ) → Gathers disk dir old new mid r taken event → Pushed magic (tags_behind_set it.set) r.cutter (front_bytes it.set) (InValue tag len value) taken event → BehindItems start it.set (length (open_bytes (InValue tag len value)))
            → IsNextOpen it.set start.item (InValue tag len value) it.written → given ≡ front_bytes it.set ++ open_bytes (InValue tag len value) → IsTaken r (given ++ taken) event (files it)
        in_value More tag len value gained pushed behind next e = absurd pushed
        in_value Begun tag len value gained pushed behind next e = absurd pushed
        in_value NoMagic tag len value gained pushed behind next e = absurd pushed
        in_value Unexpected tag len value gained pushed behind next e = absurd pushed
        in_value (Head t l) tag len value gained pushed behind next e = absurd pushed
        in_value (Value whole) tag len value gained pushed behind next e =
            let got = gained tag len value it.written (subst (λ i. IsGathered i tag len value it.written) (sym item) next.gathered) in
            record {
              wanted = files_of it.set.contents got.0;
              pushed = record {
                set = it.set;
                written = got.0;
                kept = kept it.set it.kept;
                is_at = inr (inl (
                  InValue tag len value,
                  taken,
                  pushed,
                  items it.set (length (open_bytes (InValue tag len value))) behind,
                  (record { expected = next.expected; small = next.small; fits = next.fits; gathered = got.1 }, if_whole whole (IsWritten tag (value ++ taken) got.0) got.2),
                  ap (λ (l : List ℕ). l ++ taken) e ∙ append_assoc (front_bytes it.set) (open_bytes (InValue tag len value)) taken,
                ));
                files = refl;
              };
              grows = λ tells holds. got.3 tells it.set.contents (sym (staged_count dir it.set.contents 0) ∙ sym (ap length it.kept.staged) ∙ sym (ap (λ v. length v.items) staged)) holds;
            }
          where
            if_whole : (whole : Bool) (P : Type 0) → (whole ≡ true → P) → IfWhole (Value whole) P
            if_whole true P p = p refl
            if_whole false P p = tt

        behind : (position : Position) → Stands magic start.cutter (front_bytes it.set) position → BehindItems start it.set (length (open_bytes position)) → IsNextOpen it.set start.item position it.written → given ≡ front_bytes it.set ++ open_bytes position
            → IsTaken r (given ++ taken) event (files it)
        behind (InMagic front) stands b next e = absurd next
        behind (InHead front) stands b next e =
            let pushed = subst (λ (t : List ℕ). Pushed magic t r.cutter (front_bytes it.set) (InHead front) taken event) (tags_open it.set it.kept b.goes_on) (pushed_on (front_bytes it.set) (InHead front) stands) in
            plain (inr (inl (InHead front, taken, pushed, items it.set (length front) b, next.1, ap (λ (l : List ℕ). l ++ taken) e ∙ append_assoc (front_bytes it.set) front taken)))
            (plain_head (tags_behind_set it.set) r.cutter (front_bytes it.set) front taken event pushed)
        behind (InValue tag len value) stands b next e =
            in_value event tag len value gathers (subst (λ (t : List ℕ). Pushed magic t r.cutter (front_bytes it.set) (InValue tag len value) taken event) (tags_open it.set it.kept b.goes_on) (pushed_on (front_bytes it.set) (InValue tag len value) stands)) b next e

        by : IsOpenAt start given it.set it.written → IsTaken r (given ++ taken) event (files it)
        by (inl x) =
            let pushed = pushed_on [] (InMagic given) x.2 in
            plain (inl (x.0, x.1, (given, taken, pushed, refl), record { count = omega (arith, count', count, x.3.count, length-append given taken); start = starts' ∙ starts ∙ x.3.start; goes_on = ended' ∙ ended ∙ x.3.goes_on }))
            (plain_magic r.cutter [] given taken event pushed)
        by (inr (inl x)) = behind x.0 x.1 x.2 x.3 x.4
        by (inr (inr x)) =
            let pushed = subst (λ (t : List ℕ). Pushed magic t r.cutter (change_bytes it.set) (InHead []) taken event) (tags_ended x.2.ended) (pushed_on (change_bytes it.set) (InHead []) x.1) in
            plain (inr (inr (taken, x.0, pushed, record { set_is = x.2.set_is; start = starts' ∙ starts ∙ x.2.start; count = omega (arith, count', count, x.2.count); ended = ended' ∙ ended ∙ x.2.ended }, ap (λ (l : List ℕ). l ++ taken) x.3)))
            (plain_head [] r.cutter (change_bytes it.set) [] taken event pushed)

-- ---- stops that are handed on

pub refusal_more : (given piece : List ℕ) (used : ℕ) (halt : Halt) → All (λ (b : ℕ). b < 256) piece → IfRefusal (Decided IsFirstFault (given ++ take used piece)) halt → IfRefusal (Decided IsFirstFault (given ++ piece)) halt
refusal_more given piece used (halts.Malformed at) bytes decided = subst (λ (l : List ℕ). Decided IsFirstFault l (Malformed at)) (rest_of given piece used) (decided_more IsFirstFault (given ++ take used piece) (drop used piece) (Malformed at) (All-drop (λ (b : ℕ). b < 256) used piece bytes) decided)
refusal_more given piece used (halts.TooLarge size) bytes decided = subst (λ (l : List ℕ). Decided IsFirstFault l (TooLarge Content size)) (rest_of given piece used) (decided_more IsFirstFault (given ++ take used piece) (drop used piece) (TooLarge Content size) (All-drop (λ (b : ℕ). b < 256) used piece bytes) decided)
refusal_more given piece used halts.Failed bytes decided = tt
refusal_more given piece used halts.Memory bytes decided = tt

pub handed_refusal : {T : Type 0} (P : Refusal → Type 0) (r : Result T Halt) (halt : Halt) → IsErrAnd r (λ e. e ≡ halt) → IfRefusal P halt → IfErr r (IfRefusal P)
handed_refusal P (Ok x) halt is holds = tt
handed_refusal P (Err e) halt is holds = subst (IfRefusal P) (sym is) holds

pub no_refusal : (P : Refusal → Type 0) (halt : Halt) → IsNoRefusal halt → IfRefusal P halt
no_refusal P (halts.Malformed at) is = absurd is
no_refusal P (halts.TooLarge size) is = absurd is
no_refusal P halts.Failed is = tt
no_refusal P halts.Memory is = tt

pub err_no_ok : {T E : Type 0} (P : T → Type 0) (r : Result T E) (e : E) → IsErrAnd r (λ s. s ≡ e) → IfOk r P
err_no_ok P (Ok x) e is = absurd is
err_no_ok P (Err s) e is = tt

pub calm_cause : {T : Type 0} (r : Result T Halt) (halt : Halt) (before now : ℕ) → IsErrAnd r (λ e. e ≡ halt) → IsNoFault halt → HasCause before now r
calm_cause (Ok x) halt before now is calm = tt
calm_cause (Err (halts.Malformed at)) halt before now is calm = tt
calm_cause (Err (halts.TooLarge size)) halt before now is calm = tt
calm_cause (Err halts.Failed) halt before now is calm = absurd (subst IsNoFault (sym is) calm)
calm_cause (Err halts.Memory) halt before now is calm = tt

-- ---- the pieces of a piece

pub reopen : (r : Reading) (dir : Name) (given same : List ℕ) → given ≡ same → (it : IsOpen r dir given) → (now : IsOpen r dir same) × (files now ≡ files it)
reopen r dir given same e it = (record { set = it.set; written = it.written; kept = it.kept; is_at = subst (λ (l : List ℕ). IsOpenAt r l it.set it.written) e it.is_at }, refl)

pub range_more : (piece : List ℕ) (at count : ℕ) → take at piece ++ slice_range piece at (at + count) ≡ take (at + count) piece
range_more piece at count =
    let here : at + count - at ≡ count = omega arith in
    ap (λ (n : ℕ). take at piece ++ take n (drop at piece)) here ∙ sym (take-add at count piece)

pub used_more : (piece : List ℕ) (at count used : ℕ) → used ≤ length (slice_range piece at (at + count)) → take at piece ++ take used (slice_range piece at (at + count)) ≡ take (at + used) piece
used_more piece at count used within =
    let here : at + count - at ≡ count = omega arith in
    let few : used ≤ count = omega (arith, within, ap (λ (n : ℕ). length (take n (drop at piece))) here, length-take count (drop at piece)) in
    ap (λ (n : ℕ). take at piece ++ take used (take n (drop at piece))) here ∙ ap (λ (l : List ℕ). take at piece ++ l) (take-take used count (drop at piece) few) ∙ sym (take-add at used piece)
