-- Contents that are saved one after another.
use Rattle.std.proofs.Common.{◌≡◌, ◌⊎◌, inl, inr, ⊎_elim, ℕ, ◌+◌, ◌<◌, true, false, List, [], ◌∷◌, ◌++◌, length, take, drop, get_or, All, Contains, Option, Some, None, Result, Ok, Err, IsErrAnd, refl, sym, ◌∙◌, ap, subst, arith, take-append-drop}
use Rattle.std.proofs.lemmas.Bool.{cases_Bool}
use Rattle.std.proofs.lemmas.List.{take_more}
use Rattle.std.proofs.lemmas.List.Elements.{All-nil, All-push, Contains-append_left, Contains-get_or, Contains-push}
use Rattle.std.specs.FinMap.{get}
use Rattle.sha1.specs.Sha1.{sha1}
use Rattle.job_targets.specs.cny-base.Below.{is_below}
use Rattle.job_targets.specs.cny-base.declared.stop.Stop.{Stop}
use Rattle.job_targets.specs.tree-disk.Tree.{Name, Tree, same_name}
use Rattle.job_targets.specs.tree-disk.Laws.{same_means}
use Rattle.job_targets.specs.tree-disk.Disk.{DiskModel, IsDisk}
use Rattle.job_targets.specs.tree-disk.Clear.{is_within, IsBare}
use Rattle.job_targets.proofs.tree-disk.ClearLaws.{below_within, itself_within, or_cases}
use Rattle.job_targets.specs.tree-disk.Confined.{AgreesExcept, Among}
use Rattle.job_targets.proofs.tree-disk.ConfinedLaws.{confined_start, confined_wider}
use Rattle.job_targets.specs.content-store.Store.{content_path, file_bytes, stored}
use Rattle.job_targets.specs.tree-journal.Preparing.{Prepares}
use Rattle.job_targets.proofs.content-store.Paths.{same_content_path}
use Rattle.job_targets.specs.journal-log.declared.put.Want.{Want}
use Rattle.job_targets.specs.journal-log.declared.put.Want.TheVariants as want
use Rattle.local_db.specs.Names.{saved}
use Rattle.job_targets.specs.declared.entry.Entry.{Entry}
use Rattle.job_targets.specs.Agree.{AllAgree, bytes_of, IsOld}
use Rattle.job_targets.specs.Old.{is_staged, IsSaved}
use Rattle.rollback_stack.specs.Saving.{is_save_name, AreSaved, HoldsOld, HoldsOnly, IsOldContent, IsSavedIn, IsSaveName, IsUntoldCollision, MayHold}
use Rattle.job_targets.proofs.content-store.Digests.{sha1_bytes}
use Rattle.rollback_stack.proofs.Places.{below_not_itself, content_below}
use Rattle.job_targets.proofs.tree-journal.Preparing.{stopped_ends}
use Rattle.local_db.proofs.Apart.{none_some}
use Rattle.change_rel.proofs.cny-base.OptionValues.{same_some as some_same}

-- ---- one entry

-- what is no file isn't saved
pub nothing_saved : {D : Type 0} {disk : DiskModel D} (laws : IsDisk disk) (dir : Name) (want_ : Want) (d : D) → bytes_of want_ ≡ None → Prepares disk (IsUntoldCollision disk.tells) (IsSaveName dir want_) (IsSavedIn dir want_) d d (Ok tt)
nothing_saved laws dir want_ d none = record {
  later = omega arith;
  ends = λ tells bytes is. absurd (none_some (bytes_of want_) bytes none is);
  confined = λ tells. confined_start laws (IsSaveName dir want_) d;
}

pub own_name : (dir own : Name) (want_ : Want) → bytes_of want_ ≡ Some own → (q : Name) → Among (is_save_name dir own) q → IsSaveName dir want_ q
own_name dir own want_ was q h = record { bytes = own; was = was; name = h }

pub own_saved : (dir own : Name) (want_ : Want) → bytes_of want_ ≡ Some own → (t : Tree) → stored t dir (sha1 own) ≡ Some own → IsSavedIn dir want_ t
own_saved dir own want_ was t is bytes other =
    subst (λ (l : List ℕ). stored t dir (sha1 l) ≡ Some l) (some_same own bytes (sym was ∙ other)) is

-- a run that stopped, passed on by `?`
pub run_stopped : {D : Type 0} {disk : DiskModel D} {few many : Name → Type 0} {P Q : Tree → Type 0} {old new : D} (e : Stop) {r : Result (Unit {0}) Stop} → ((q : Name) → few q → many q)
    → Prepares disk (IsUntoldCollision disk.tells) few P old new (Err e) → IsErrAnd r (λ s. s ≡ e) → Prepares disk (IsUntoldCollision disk.tells) many Q old new r
run_stopped {disk = disk} {Q = Q} {old = old} {new = new} e {r = r} within run is = record {
  later = run.later;
  ends = stopped_ends (IsUntoldCollision disk.tells) disk.tells (Q (disk.reads new)) (disk.faults old) (disk.faults new) e r is run.ends;
  confined = λ tells. confined_wider within (run.confined tells);
}

-- the names of an entry are within the directory
pub entry_within : (n : ℕ) (dir : Name) (want_ : Want) → dir ≡ saved n → (q : Name) → IsSaveName dir want_ q → Among (is_within (saved n)) q
entry_within n dir want_ is q names = ⊎_elim
    (λ same. itself_within (saved n) q (ap (same_name q) (sym is) ∙ same))
    (λ content. below_within (saved n) q (ap (is_below (saved n)) (same_means q (content_path dir (sha1 names.bytes)) content ∙ ap (λ (d : Name). content_path d (sha1 names.bytes)) is) ∙ content_below n (sha1 names.bytes)))
    (or_cases (same_name q dir) (same_name q (content_path dir (sha1 names.bytes))) names.name)

-- ---- the content of an entry among those that are saved

same_digest : (dir a b : List ℕ) → content_path dir (sha1 a) ≡ content_path dir (sha1 b) → sha1 a ≡ sha1 b
same_digest dir a b is = same_content_path dir (sha1 a) (sha1 b) (sha1_bytes a) (sha1_bytes b) is

front_of : (es : List Entry) (i : ℕ) (bytes : List ℕ) → IsOld (take i es) bytes → IsOld es bytes
front_of es i bytes is = record {
  entry = is.entry;
  there = subst (λ (l : List Entry). Contains l is.entry) (take-append-drop i es) (Contains-append_left (take i es) (drop i es) is.entry is.there);
  was = is.was;
}

old_at : (es : List Entry) (i : ℕ) (entry : Entry) (bytes : List ℕ) → i < length es → entry ≡ get_or es i entry → bytes_of entry.was ≡ Some bytes → IsOld es bytes
old_at es i entry bytes lt is was = record { entry = entry; there = subst (Contains es) (sym is) (Contains-get_or es i entry lt); was = was }

pub may_hold : (n : ℕ) (es : List Entry) (i : ℕ) (entry : Entry) (x : Tree) → AllAgree es → i < length es → entry ≡ get_or es i entry → HoldsOld (take i es) (saved n) x
    → (bytes : List ℕ) → bytes_of entry.was ≡ Some bytes → MayHold x (content_path (saved n) (sha1 bytes)) bytes
may_hold n es i entry x agree lt is holds bytes was = ⊎_elim
    (λ none. inl none)
    (λ (one : IsOldContent (take i es) x (saved n) (content_path (saved n) (sha1 bytes))).
    let same : one.bytes ≡ bytes = agree one.bytes bytes (front_of es i one.bytes one.old) (old_at es i entry bytes lt is was) (same_digest (saved n) one.bytes bytes (sym one.path_is)) in
    inr (one.stands ∙ ap Some same))
    (holds.only (content_path (saved n) (sha1 bytes)) (content_below n (sha1 bytes)))

-- ---- one entry more

module _ (n : ℕ) (es : List Entry) (entry : Entry) (old new : Tree) (agree : AllAgree (es ++ entry ∷ [])) (agrees : AgreesExcept (IsSaveName (saved n) entry.was) new old)
    (holds : HoldsOld es (saved n) old) (now : IsSavedIn (saved n) entry.was new) where
  more : (bytes : List ℕ) → IsOld es bytes → IsOld (es ++ entry ∷ []) bytes
  more bytes is = record { entry = is.entry; there = Contains-append_left es (entry ∷ []) is.entry is.there; was = is.was }

  here : (bytes : List ℕ) → bytes_of entry.was ≡ Some bytes → IsOld (es ++ entry ∷ []) bytes
  here bytes is = record { entry = entry; there = Contains-push es entry; was = is }

  -- a name below the directory that isn't that of the content stays
  stays : (o : Option (List ℕ)) → bytes_of entry.was ≡ o → (q : Name) → is_below (saved n) q ≡ true
      → ((own : List ℕ) → o ≡ Some own → same_name q (content_path (saved n) (sha1 own)) ≡ false) → get new q ≡ get old q
  stays o is q low apart = agrees q (λ names. ⊎_elim
      (λ dir. absurd (cc (dir, below_not_itself (saved n) q low)))
      (λ content. absurd (cc (content, apart names.bytes (sym is ∙ names.was))))
      (or_cases (same_name q (saved n)) (same_name q (content_path (saved n) (sha1 names.bytes))) names.name))

  -- an old content that was saved is saved still
  kept : (e : Entry) → Contains es e → IsSavedIn (saved n) e.was old → IsSavedIn (saved n) e.was new
  kept e there was bytes is = by (bytes_of entry.was) refl
    where
      path : Name
      path = content_path (saved n) (sha1 bytes)

      old_is : IsOld (es ++ entry ∷ []) bytes
      old_is = more bytes (record { entry = e; there = there; was = is })

      by : (o : Option (List ℕ)) → bytes_of entry.was ≡ o → stored new (saved n) (sha1 bytes) ≡ Some bytes
      by None none = ap file_bytes (stays None none (content_path (saved n) (sha1 bytes)) (content_below n (sha1 bytes)) (λ own some. absurd (cc some))) ∙ was bytes is
      by (Some own) some = ⊎_elim
          (λ same.
          let one : bytes ≡ own = agree bytes own old_is (here own some)
          (same_digest (saved n) bytes own (same_means (content_path (saved n) (sha1 bytes)) (content_path (saved n) (sha1 own)) same)) in
          subst (λ (l : List ℕ). stored new (saved n) (sha1 l) ≡ Some l) (sym one) (now own some))
          (λ other. ap file_bytes (stays (Some own) some (content_path (saved n) (sha1 bytes)) (content_below n (sha1 bytes))
          (λ its its_is. ap (λ (l : List ℕ). same_name (content_path (saved n) (sha1 bytes)) (content_path (saved n) (sha1 l))) (sym (some_same own its its_is)) ∙ other)) ∙ was bytes is)
          (cases_Bool (same_name (content_path (saved n) (sha1 bytes)) (content_path (saved n) (sha1 own))))

  still : (q : Name) → get new q ≡ get old q → (get old q ≡ None) ⊎ IsOldContent es old (saved n) q → (get new q ≡ None) ⊎ IsOldContent (es ++ entry ∷ []) new (saved n) q
  still q same was = ⊎_elim
      (λ none. inl (same ∙ none))
      (λ (one : IsOldContent es old (saved n) q). inr (record { bytes = one.bytes; old = more one.bytes one.old; path_is = one.path_is; stands = ap file_bytes same ∙ one.stands }))
      was

  only : HoldsOnly (es ++ entry ∷ []) (saved n) new
  only q low = by (bytes_of entry.was) refl
    where
      by : (o : Option (List ℕ)) → bytes_of entry.was ≡ o → (get new q ≡ None) ⊎ IsOldContent (es ++ entry ∷ []) new (saved n) q
      by None none = still q (stays None none q low (λ own some. absurd (cc some))) (holds.only q low)
      by (Some own) some = ⊎_elim
          (λ same.
          let is = same_means q (content_path (saved n) (sha1 own)) same in
          inr (record { bytes = own; old = here own some; path_is = is; stands = ap (λ (p : Name). file_bytes (get new p)) is ∙ now own some }))
          (λ other. still q (stays (Some own) some q low (λ its its_is. ap (λ (l : List ℕ). same_name q (content_path (saved n) (sha1 l))) (sym (some_same own its its_is)) ∙ other)) (holds.only q low))
          (cases_Bool (same_name q (content_path (saved n) (sha1 own))))

  pub holds_push : HoldsOld (es ++ entry ∷ []) (saved n) new
  holds_push = record {
    each = All-push (λ (e : Entry). IsSavedIn (saved n) e.was new) es entry (λ k d lt. kept (get_or es k d) (Contains-get_or es k d lt) (holds.each k d lt)) now;
    only = only;
  }

pub holds_more : (n : ℕ) (es : List Entry) (i : ℕ) (entry : Entry) (old new : Tree) → AllAgree es → i < length es → entry ≡ get_or es i entry → AgreesExcept (IsSaveName (saved n) entry.was) new old
    → HoldsOld (take i es) (saved n) old → IsSavedIn (saved n) entry.was new → HoldsOld (take (i + 1) es) (saved n) new
holds_more n es i entry old new agree lt is agrees holds now =
    subst (λ (l : List Entry). HoldsOld l (saved n) new) (sym front) (holds_push n (take i es) entry old new agree_front agrees holds now)
  where
    front : take (i + 1) es ≡ take i es ++ entry ∷ []
    front = take_more es i entry lt ∙ ap (λ (e : Entry). take i es ++ e ∷ []) (sym is)

    agree_front : AllAgree (take i es ++ entry ∷ [])
    agree_front a b a_is b_is = agree a b (whole a a_is) (whole b b_is)
      where
        whole : (bytes : List ℕ) → IsOld (take i es ++ entry ∷ []) bytes → IsOld es bytes
        whole bytes old = front_of es (i + 1) bytes (subst (λ (l : List Entry). IsOld l bytes) (sym front) old)

-- ---- before the first and behind the last

pub holds_none : (dir : Name) (x : Tree) → IsBare x dir → HoldsOld [] dir x
holds_none dir x bare = record {
  each = All-nil (λ (e : Entry). IsSavedIn dir e.was x);
  only = λ q low. inl (bare q (below_within dir q low));
}

saved_of : (n : ℕ) (want_ : Want) (x : Tree) → is_staged want_ ≡ false → IsSavedIn (saved n) want_ x → IsSaved x n want_
saved_of n want.Nothing x given is = tt
saved_of n (want.Dir mode) x given is = tt
saved_of n (want.File mode bytes) x given is = is bytes refl
saved_of n (want.Link target) x given is = tt
saved_of n (want.Staged mode id size name) x given is = absurd (cc given)

pub are_saved : (n : ℕ) (es : List Entry) (x : Tree) → All (λ (e : Entry). is_staged e.was ≡ false) es → HoldsOld es (saved n) x → AreSaved n es x
are_saved n es x given holds = record {
  each = λ k d lt. saved_of n (get_or es k d).was x (given k d lt) (holds.each k d lt);
  only = holds.only;
}

-- ---- the same of the directory by another name

pub may_hold_in : (n : ℕ) (dir : Name) (es : List Entry) (i : ℕ) (entry : Entry) (x : Tree) → dir ≡ saved n → AllAgree es → i < length es → entry ≡ get_or es i entry → HoldsOld (take i es) (saved n) x
    → (bytes : List ℕ) → bytes_of entry.was ≡ Some bytes → MayHold x (content_path dir (sha1 bytes)) bytes
may_hold_in n dir es i entry x is agree lt at holds bytes was =
    subst (λ (d : Name). MayHold x (content_path d (sha1 bytes)) bytes) (sym is) (may_hold n es i entry x agree lt at holds bytes was)

pub holds_more_in : (n : ℕ) (dir : Name) (es : List Entry) (i : ℕ) (entry : Entry) (old new : Tree) → dir ≡ saved n → AllAgree es → i < length es → entry ≡ get_or es i entry
    → AgreesExcept (IsSaveName dir entry.was) new old → HoldsOld (take i es) (saved n) old → IsSavedIn dir entry.was new → HoldsOld (take (i + 1) es) (saved n) new
holds_more_in n dir es i entry old new is agree lt at agrees holds now =
    holds_more n es i entry old new agree lt at (subst (λ (d : Name). AgreesExcept (IsSaveName d entry.was) new old) is agrees) holds (subst (λ (d : Name). IsSavedIn d entry.was new) is now)
