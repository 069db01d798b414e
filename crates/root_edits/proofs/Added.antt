-- Findings appended one after the other.
use Rattle.std.proofs.Common.{◌≡◌, ◌∙◌, sym, ap, subst, refl, ◌-◌, ◌≤◌, Bool, true, false, cond, List, [], ◌∷◌, ◌++◌, length, take, drop, get_or, Option, Some, None, Contains, arith, append-nil}
use Rattle.std.specs.List.{cons_option}
use Rattle.std.specs.Option.{option_map}
use Rattle.std.proofs.lemmas.List.{append_assoc, take_all}
use Rattle.std.proofs.lemmas.List.Elements.{Contains-append_left, Contains-append_right}
use Rattle.update_job.specs.trove-parts.declared.files.FileAt.{FileAt}
use Rattle.update_job.specs.trove-stream.declared.parts.TroveParts.{TroveParts}
use Rattle.tree_scan.specs.tree-disk.Tree.{Name, Tree}
use Rattle.content_store.specs.Contents.{Answers}
use Rattle.tree_scan.specs.declared.verification.Finding.{Finding}
use Rattle.root_edits.specs.Verify.{asked, finding_of, is_asked, AreAdded, AreFindings, LacksOne}
use Rattle.root_edits.proofs.Answered.{added_of, lacks_of}
use Rattle.root_edits.proofs.Listed.{records_next}
use Rattle.root_edits.proofs.SearchLaws.{SameAnswers}
use Rattle.root_edits.specs.Local.{records}

cons_append : (o : Option Finding) (a b : List Finding) → cons_option o (a ++ b) ≡ cons_option o a ++ b
cons_append None a b = refl
cons_append (Some x) a b = refl

findings_append : (answers : Answers) (tree : Tree) (xs ys : List FileAt) (l m : List Finding) → AreFindings answers tree xs l → AreFindings answers tree ys m → AreFindings answers tree (xs ++ ys) (l ++ m)
findings_append answers tree [] ys l m first second = subst (λ (k : List Finding). AreFindings answers tree ys (k ++ m)) (sym first) second
findings_append answers tree (x ∷ xs) ys l m first second = (
  first.0,
  first.1 ++ m,
  first.2,
  findings_append answers tree xs ys first.1 m first.3 second,
  ap (λ (k : List Finding). k ++ m) first.4 ∙ sym (cons_append (option_map (finding_of x.path) first.0) first.1 m),
)

pub added_none : (answers : Answers) (tree : Tree) (old : List Finding) → AreAdded answers tree [] old old
added_none answers tree old = record { more = []; are = refl; is = sym (append-nil old) }

added_append : (answers : Answers) (tree : Tree) (xs ys : List FileAt) (a b c : List Finding) → AreAdded answers tree xs a b → AreAdded answers tree ys b c → AreAdded answers tree (xs ++ ys) a c
added_append answers tree xs ys a b c first second = record {
  more = first.more ++ second.more;
  are = findings_append answers tree xs ys first.more second.more first.are second.are;
  is = second.is ∙ (ap (λ (k : List Finding). k ++ second.more) first.is ∙ append_assoc a first.more second.more);
}

-- ---- paths

-- the paths that are left, behind the first
behind : {A : Type 0} (x : A) (xs : List A) → take (length (x ∷ xs) - 1) xs ≡ xs
behind x xs = take_all (length (x ∷ xs) - 1) xs (omega arith)

-- one path more, by a source that answers the same
pub added_next : (one other : Answers) → SameAnswers one other → (tree : Tree) (rest : List FileAt) (file : FileAt) (old new end : List Finding) → 1 ≤ length rest → file ≡ get_or rest 0 file
    → AreAdded other tree (file ∷ []) old new → AreAdded one tree (take (length rest - 1) (drop 1 rest)) new end → AreAdded one tree rest old end
added_next one other same tree [] file old new end some is first second = absurd (omega (arith, some))
added_next one other same tree (u ∷ us) file old new end some is first second =
    added_append one tree (u ∷ []) us old new end
    (subst (λ (f : FileAt). AreAdded one tree (f ∷ []) old new) is (added_of one other same tree (file ∷ []) old new first))
    (subst (λ (l : List FileAt). AreAdded one tree l new end) (behind u us) second)

-- the paths that are left are among all
pub among_next : (rest files : List FileAt) → 1 ≤ length rest → ((f : FileAt) → Contains rest f → Contains files f) → (f : FileAt) → Contains (take (length rest - 1) (drop 1 rest)) f → Contains files f
among_next [] files some among f h = absurd (omega (arith, some))
among_next (u ∷ us) files some among f h = among f (Contains-append_right (u ∷ []) us f (subst (λ (l : List FileAt). Contains l f) (behind u us) h))

pub lacks_next : (one other : Answers) → SameAnswers one other → (tree : Tree) (rest files : List FileAt) (file : FileAt) → 1 ≤ length rest → file ≡ get_or rest 0 file
    → ((f : FileAt) → Contains rest f → Contains files f) → LacksOne other tree (file ∷ []) → LacksOne one tree files
lacks_next one other same tree [] files file some is among lacks = absurd (omega (arith, some))
lacks_next one other same tree (u ∷ us) files file some is among lacks =
    let own = lacks_of one other same tree (file ∷ []) lacks in
    record {
      file = own.file;
      among = among own.file (Contains-append_left (u ∷ []) us own.file (subst (λ (f : FileAt). Contains (f ∷ []) own.file) is own.among));
      lacks = own.lacks;
    }

-- ---- troves

-- one trove more
pub troves_next : (one other : Answers) → SameAnswers one other → (tree : Tree) (names : List Name) (rest : List TroveParts) (t : TroveParts) (old new end : List Finding) → 1 ≤ length rest → t ≡ get_or rest 0 t
    → AreAdded other tree (records (asked names (t ∷ []))) old new → AreAdded one tree (records (asked names (take (length rest - 1) (drop 1 rest)))) new end
    → AreAdded one tree (records (asked names rest)) old end
troves_next one other same tree names [] t old new end some is first second = absurd (omega (arith, some))
troves_next one other same tree names (u ∷ us) t old new end some is first second =
    subst (λ (l : List FileAt). AreAdded one tree l old end) (sym (records_next names u us))
    (added_append one tree (records (asked names (u ∷ []))) (records (asked names us)) old new end
    (subst (λ (v : TroveParts). AreAdded one tree (records (asked names (v ∷ []))) old new) is (added_of one other same tree (records (asked names (t ∷ []))) old new first))
    (subst (λ (l : List TroveParts). AreAdded one tree (records (asked names l)) new end) (behind u us) second))

pub troves_among_next : (names : List Name) (rest : List TroveParts) (files : List FileAt) → 1 ≤ length rest → ((f : FileAt) → Contains (records (asked names rest)) f → Contains files f)
    → (f : FileAt) → Contains (records (asked names (take (length rest - 1) (drop 1 rest)))) f → Contains files f
troves_among_next names [] files some among f h = absurd (omega (arith, some))
troves_among_next names (u ∷ us) files some among f h =
    among f (subst (λ (l : List FileAt). Contains l f) (sym (records_next names u us))
    (Contains-append_right (records (asked names (u ∷ []))) (records (asked names us)) f (subst (λ (l : List TroveParts). Contains (records (asked names l)) f) (behind u us) h)))

pub troves_lack_next : (one other : Answers) → SameAnswers one other → (tree : Tree) (names : List Name) (rest : List TroveParts) (files : List FileAt) (t : TroveParts) → 1 ≤ length rest → t ≡ get_or rest 0 t
    → ((f : FileAt) → Contains (records (asked names rest)) f → Contains files f) → LacksOne other tree (records (asked names (t ∷ []))) → LacksOne one tree files
troves_lack_next one other same tree names [] files t some is among lacks = absurd (omega (arith, some))
troves_lack_next one other same tree names (u ∷ us) files t some is among lacks =
    let own = lacks_of one other same tree (records (asked names (t ∷ []))) lacks in
    record {
      file = own.file;
      among = among own.file (subst (λ (l : List FileAt). Contains l own.file) (sym (records_next names u us))
          (Contains-append_left (records (asked names (u ∷ []))) (records (asked names us)) own.file
          (subst (λ (v : TroveParts). Contains (records (asked names (v ∷ []))) own.file) is own.among)));
      lacks = own.lacks;
    }

-- what one trove records, where it is asked for
pub asked_one : (names : List Name) (t : TroveParts) → is_asked names t ≡ true → records (asked names (t ∷ [])) ≡ t.files
asked_one names t is = ap (λ (b : Bool). records (cond b (t ∷ []) [])) is ∙ append-nil t.files

pub asked_none : (names : List Name) (t : TroveParts) → is_asked names t ≡ false → records (asked names (t ∷ [])) ≡ []
asked_none names t is = ap (λ (b : Bool). records (cond b (t ∷ []) [])) is

-- what follows no lines
pub lines_are : (answers : Answers) (tree : Tree) (files : List FileAt) (old new shown : List Finding) → AreAdded answers tree files old new → old ≡ [] → shown ≡ new → AreFindings answers tree files shown
lines_are answers tree files old new shown added none is = subst (AreFindings answers tree files) (sym (is ∙ (added.is ∙ ap (λ (l : List Finding). l ++ added.more) none))) added.are
