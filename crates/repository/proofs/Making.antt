-- Parts that make troves, one after another.
use Rattle.std.proofs.Common.{◌≡◌, inr, ⊎_elim, ℕ, zero, suc, ◌+◌, ◌<◌, Bool, true, false, List, [], ◌∷◌, ◌++◌, length, take, drop, get_or, All, Option, Some, None, is_some, Result, Ok, Err, IsErrAnd, IfErr, refl, sym, ◌∙◌, ap, subst, append-nil, append_assoc, arith}
use Rattle.std.specs.List.{list_any, Contains}
use Rattle.std.specs.Prelude.{IsOk, MatchOption}
use Rattle.std.proofs.lemmas.List.{take_more}
use Rattle.repo_load.specs.cny-base.declared.refusal.Fault.{Fault}
use Rattle.repo_load.specs.cny-base.declared.refusal.Fault.TheVariants as fault
use Rattle.repo_load.specs.trove-stream.Forbidden.{first_forbidden, IsReservedOrMemory}
use Rattle.change_set.specs.Contents.{IfRefused}
use Rattle.change_set.specs.Makes.{MakesTrove}
use Rattle.change_set.proofs.Making.{make_push}
use Rattle.std.proofs.lemmas.List.Elements.{All-cons, All-head, All-nil, All-push, All-tail}
use Rattle.std.proofs.lemmas.List.Folds.{list_any_at}
use Rattle.repo_load.specs.cny-base.declared.refusal.Refusal.{Refusal}
use Rattle.repo_load.specs.trove-parts.declared.files.FileAt.{FileAt}
use Rattle.repo_load.specs.trove-stream.declared.parts.TroveParts.{TroveParts}
use Rattle.repo_load.specs.trove-stream.Trove.{IsTrove}
use Rattle.repo_load.specs.cny-stream.Record.{has_name_and_size}
use Rattle.change_set.specs.declared.change.Part.{Part}
use Rattle.change_set.specs.declared.change.Part.TheVariants.{Whole, Relative}
use Rattle.change_set.specs.ChangeSet.{has_record, IsPart}
use Rattle.repo_index.specs.Catalogue.{CatalogueParts, found, IsExistsOrMemory}
use Rattle.repo_load.specs.State.{AreNew, records_content, trove_records}
use Rattle.repository.specs.Parts.{AreMade, base_among, HasPart, IsFirstRefused, IsPartRefused, IsTroveRefused, MakeTroves, exists_already, path_reserved}
use Rattle.repository.proofs.Lists.{some_append}
use Rattle.repo_load.proofs.Joined.{new_push}
use Rattle.change_rel.proofs.cny-base.Faults.{stopped}
use Rattle.change_rel.specs.trove-stream.Forbidden.{IsAllowed}
use Rattle.change_rel.proofs.cny-base.Lists.{one_passes as any_found, not_some as none_some, split_at}
use Rattle.tree_journal.proofs.tree-disk.ClearLaws.{or_cases as or_either}
use Rattle.change_rel.proofs.cny-base.Bools.{or_left as or_first, or_right as or_second}

-- ---- one more part

pub none_made : (committed : List TroveParts) → AreMade committed [] []
none_made committed = record { make = tt; new_ids = tt; allowed = All-nil IsAllowed }

pub one_made : (committed : List TroveParts) (parts : List Part) (part : Part) (old new : CatalogueParts) → AreMade committed parts old.troves → HasPart committed part old new → AreMade committed (parts ++ part ∷ []) new.troves
one_made committed parts part old new made has =
    subst (AreMade committed (parts ++ part ∷ [])) (ap (λ (c : CatalogueParts). c.troves) (sym has.is_added.added)) (record {
      make = make_push (base_among committed) parts old.troves part has.trove made.make has.makes;
      new_ids = new_push committed old.troves has.trove made.new_ids has.is_added.fresh;
      allowed = All-push IsAllowed old.troves has.trove made.allowed has.is_added.allowed;
    })

pub one_refused : (committed : List TroveParts) (parts front : List Part) (part : Part) (behind : List Part) (troves : List TroveParts) (refusal : Refusal) → parts ≡ front ++ part ∷ behind
    → AreMade committed front troves → IsPartRefused committed (committed ++ troves) part refusal → IsFirstRefused committed parts refusal
one_refused committed parts front part behind troves refusal is made refused =
    record { front = front; troves = troves; part = part; behind = behind; is = is; made = made; refused = refused }

-- ---- what is made is a trove

part_trove : (committed : List TroveParts) (part : Part) (trove : TroveParts) → IsPart part → MakesTrove (base_among committed) part trove → IsTrove trove
part_trove committed (Whole t) trove is makes = subst IsTrove (sym makes) is
part_trove committed (Relative rel) trove is makes = makes.leads.trove

pub made_troves_are : (committed : List TroveParts) (parts : List Part) (troves : List TroveParts) → All IsPart parts → MakeTroves committed parts troves → All IsTrove troves
made_troves_are committed [] [] are make = All-nil IsTrove
made_troves_are committed [] (t ∷ troves) are make = absurd make
made_troves_are committed (p ∷ parts) [] are make = absurd make
made_troves_are committed (p ∷ parts) (t ∷ troves) are make =
    All-cons IsTrove t troves (part_trove committed p t (All-head IsPart p parts are) make.0) (made_troves_are committed parts troves (All-tail IsPart p parts are) make.1)

-- ---- what a part records, its trove records

found_any : {A : Type 0} (P : A → Bool) (xs : List A) (x : A) → Contains xs x → P x ≡ true → list_any P xs ≡ true
found_any P xs x c is = list_any_at P xs c.0 x c.1 (ap P c.2 ∙ is)

part_records : (committed : List TroveParts) (part : Part) (trove : TroveParts) (name : List ℕ) (size : ℕ) → MakesTrove (base_among committed) part trove → has_record name size part ≡ true → trove_records name size trove ≡ true
part_records committed (Whole t) trove name size makes h = ap (trove_records name size) makes ∙ h
part_records committed (Relative rel) trove name size makes h =
    let file = any_found (λ (file : FileAt). has_name_and_size name size file.rec) rel.files_set h in
    found_any (λ (file : FileAt). has_name_and_size name size file.rec) trove.files file.0 ((makes.leads.files.result file.0).1 (inr file.1)) file.2

pub parts_record : (committed : List TroveParts) (parts : List Part) (troves : List TroveParts) (name : List ℕ) (size : ℕ) → MakeTroves committed parts troves
    → list_any (has_record name size) parts ≡ true → records_content name size troves ≡ true
parts_record committed [] [] name size make h = h
parts_record committed [] (t ∷ troves) name size make h = absurd make
parts_record committed (p ∷ parts) [] name size make h = absurd make
parts_record committed (p ∷ parts) (t ∷ troves) name size make h = ⊎_elim
    (λ here. or_first (trove_records name size t) (records_content name size troves) (part_records committed p t name size make.0 here))
    (λ there. or_second (trove_records name size t) (records_content name size troves) (parts_record committed parts troves name size make.1 there))
    (or_either (has_record name size p) (list_any (has_record name size) parts) h)

-- ---- refusals

pub check_refused : (before : List TroveParts) (t : TroveParts) (e : Fault) → is_some (found t.id before) ≡ false
    → MatchOption (first_forbidden t.files) (IsOk (stopped e)) (λ path. IsErrAnd (stopped e) (IsReservedOrMemory path)) → IfRefused (IsTroveRefused before t) e
check_refused before t e none checked = by (first_forbidden t.files) refl e checked
  where
    by : (o : Option (List ℕ)) → first_forbidden t.files ≡ o → (e : Fault) → MatchOption o (IsOk (stopped e)) (λ path. IsErrAnd (stopped e) (IsReservedOrMemory path)) → IfRefused (IsTroveRefused before t) e
    by None is e checked = absurd (cc checked)
    by (Some path) is (fault.Refused refusal) checked = path_reserved path (none_some (found t.id before) none) is checked
    by (Some path) is fault.Memory checked = tt

pub add_refused : (a b : List TroveParts) (t : TroveParts) (r : Result (Unit {0}) Fault) → IfErr r (IsExistsOrMemory b t.id) → IfErr r (IfRefused (IsTroveRefused (a ++ b) t))
add_refused a b t (Ok x) given = tt
add_refused a b t (Err (fault.Refused refusal)) given = exists_already (some_append t.id a b ∙ or_second (is_some (found t.id a)) (is_some (found t.id b)) given.1) given.0
add_refused a b t (Err fault.Memory) given = tt

pub part_refused : (committed before : List TroveParts) (part : Part) (t : TroveParts) (r : Result (Unit {0}) Fault) → MakesTrove (base_among committed) part t → IfErr r (IfRefused (IsTroveRefused before t))
    → IfErr r (IfRefused (IsPartRefused committed before part))
part_refused committed before part t (Ok x) makes given = tt
part_refused committed before part t (Err (fault.Refused refusal)) makes given = inr (record { trove = t; makes = makes; refused = given })
part_refused committed before part t (Err fault.Memory) makes given = tt

pub first_refused : (committed : List TroveParts) (parts : List Part) (i : ℕ) (part : Part) (troves : List TroveParts) (e : Fault) → i < length parts → part ≡ get_or parts i part → AreMade committed (take i parts) troves
    → IfRefused (IsPartRefused committed (committed ++ troves) part) e → IfRefused (IsFirstRefused committed parts) e
first_refused committed parts i part troves (fault.Refused refusal) lt is made given =
    one_refused committed parts (take i parts) part (drop (i + 1) parts) troves refusal (split_at i parts part lt is) made given
first_refused committed parts i part troves fault.Memory lt is made given = tt

pub made_more : (committed : List TroveParts) (parts : List Part) (i : ℕ) (part : Part) (old new : CatalogueParts) → i < length parts → part ≡ get_or parts i part → AreMade committed (take i parts) old.troves
    → HasPart committed part old new → AreMade committed (take (i + 1) parts) new.troves
made_more committed parts i part old new lt is made has =
    subst (λ (l : List Part). AreMade committed l new.troves) (sym (take_more parts i part lt ∙ ap (λ (p : Part). take i parts ++ p ∷ []) (sym is)))
    (one_made committed (take i parts) part old new made has)

-- an id of new troves isn't there before its place
pub new_at : (before troves : List TroveParts) (i : ℕ) (t : TroveParts) → AreNew before troves → i < length troves → t ≡ get_or troves i t → found t.id (before ++ take i troves) ≡ None
new_at before [] i t new lt is = absurd (omega arith)
new_at before (u ∷ troves) zero t new lt is = subst (λ (l : List TroveParts). found t.id l ≡ None) (sym (append-nil before)) (subst (λ (v : TroveParts). found v.id before ≡ None) (sym is) new.0)
new_at before (u ∷ troves) (suc i) t new lt is =
    subst (λ (l : List TroveParts). found t.id l ≡ None) (append_assoc before (u ∷ []) (take i troves)) (new_at (before ++ u ∷ []) troves i t new.1 (omega arith) is)

pub never_there : (o : Option TroveParts) → is_some o ≡ true → o ≡ None → ⊥
never_there None some none = absurd (cc some)
never_there (Some t) some none = absurd (cc none)
