-- Steps from item to item.
use Rattle.std.proofs.Common.{◌≡◌, ℕ, Bool, true, false, List, [], ◌∷◌, ◌++◌, flat_map, Option, Some, None, Result, Ok, Err, refl, sym, ap, ◌∙◌, subst, append_assoc, append-nil}
use Rattle.std.specs.Prelude.{IsErrAnd}
use Rattle.std.proofs.lemmas.Bool.{true≢false}
use Rattle.std.proofs.lemmas.List.Concat.{flat_map-append}
use Rattle.manifest_troves.specs.cny-base.declared.text.TextFault.{TextFault}
use Rattle.manifest_troves.specs.cny-base.declared.text.TextFault.TheVariants as text
use Rattle.manifest_troves.proofs.cny-base.Passing.{err_is}
use Rattle.cny_manifest.specs.declared.entries.FileLine.{FileLine}
use Rattle.cny_manifest.specs.declared.fault.Unread.{Unread}
use Rattle.cny_manifest.specs.declared.fault.ReadError.{ReadError}
use Rattle.cny_manifest.specs.declared.fault.ReadError.TheVariants as errors
use Rattle.cny_manifest.specs.Body.{Body, with_file}
use Rattle.cny_manifest.specs.FirstFault.{NoneNext, GoesOn, fault_by_line, fault_by_content, fault_of, line_fault}
use Rattle.cny_manifest.specs.Grammar.{Progress, AtMagic, AtName, AtVersion, InBody, InContent, InTarget, Ended, IsItem, IsLine, FitsItem, IsNext, LineOf}
use Rattle.cny_manifest.specs.Lines.{with_feed, line_at, content_at}
use Rattle.cny_manifest.specs.Reading.{IsOnly, ReadsOnly, ReadsAs, Takes, LeadOnly, Runs, Stops, StopsBy, Fails}
use Rattle.cny_manifest.proofs.CutLines.{ok_is, line_again, content_again, line_cut, content_cut}

-- ---- one value

-- a value that was found by a function is the only one
pub only_found : {X : Type 0} (found : Option X) (x : X) → found ≡ Some x → IsOnly (λ (y : X). found ≡ Some y) x
only_found {X} found x is = (is, λ y other. let e : ◌≡◌ {A = Option X} (Some y) (Some x) = sym other ∙ is in cc)

pub none_found : {X : Type 0} (found : Option X) → found ≡ None → (x : X) → found ≡ Some x → ⊥
none_found {X} found is x other = let e : ◌≡◌ {A = Option X} None (Some x) = sym is ∙ other in absurd cc

-- what a function reads is the only one that is there
pub as_only : {X : Type 0} (found : Option X) (r : Result X TextFault) → ReadsAs found r → ReadsOnly (λ (x : X). found ≡ Some x) r
as_only found (Ok x) is = only_found found x is
as_only found (Err text.Bad) is = none_found found is
as_only found (Err text.Memory) is = tt

-- ---- a line of one value

pub line_taken : {X : Type 0} (Q : X → Type 0) (can : X → Bool) (next : X → Progress) (x : X) → IsOnly Q x → can x ≡ true → IsOnly (LineOf Q can next) (next x)
line_taken Q can next x one is = ((x, one.0, is, refl), λ q other. other.3 ∙ ap next (one.1 other.0 other.1))

-- the same where it leads to a body that is told otherwise
pub line_takes : {X : Type 0} (Q : X → Type 0) (can : X → Bool) (with : X → Body) (x : X) → IsOnly Q x → can x ≡ true → (new : Body) → new ≡ with x → IsOnly (LineOf Q can (λ y. InBody (with y))) (InBody new)
line_takes Q can with x one is new same = subst (λ (d : Body). IsOnly (LineOf Q can (λ y. InBody (with y))) (InBody d)) (sym same) (line_taken Q can (λ y. InBody (with y)) x one is)

pub line_barred : {X : Type 0} (Q : X → Type 0) (can : X → Bool) (next : X → Progress) (x : X) → IsOnly Q x → can x ≡ false → (q : Progress) → LineOf Q can next q → ⊥
line_barred Q can next x one not q other = true≢false (sym other.2 ∙ ap can (one.1 other.0 other.1) ∙ not)

pub line_none : {X : Type 0} (Q : X → Type 0) (can : X → Bool) (next : X → Progress) → ((x : X) → Q x → ⊥) → (q : Progress) → LineOf Q can next q → ⊥
line_none Q can next none q other = none other.0 other.1

not_read : {X : Type 0} (Q : X → Type 0) (can : X → Bool) (next : X → Progress) (q : Progress) (e : TextFault) → ReadsOnly Q (Err e) → Takes (LineOf Q can next) q (Err e)
not_read Q can next q text.Bad none = line_none Q can next none
not_read Q can next q text.Memory none = tt

-- where its value isn't read, that is handed on
pub line_unread : {X : Type 0} (Q : X → Type 0) (can : X → Bool) (next : X → Progress) (q : Progress) (e : TextFault) → ReadsOnly Q (Err e) → (r : Result Unit TextFault) → IsErrAnd r (λ f. f ≡ e) → Takes (LineOf Q can next) q r
line_unread Q can next q e none r handed = err_is (Takes (LineOf Q can next) q) r e handed (not_read Q can next q e none)

-- ---- items

-- where a line is next
abbrev pub TakesLine : Progress → Type 0
TakesLine (InContent b line) = ⊥
TakesLine (Ended b) = ⊥
TakesLine p = Unit {0}

fits_line : (p : Progress) (text : List ℕ) → TakesLine p → IsLine text → FitsItem p text
fits_line AtMagic text t is = is
fits_line (AtName owners) text t is = is
fits_line (AtVersion owners name) text t is = is
fits_line (InBody b) text t is = is
fits_line (InContent b line) text t is = tt
fits_line (InTarget b path) text t is = is
fits_line (Ended b) text t is = is

is_line : (p : Progress) (text : List ℕ) → TakesLine p → FitsItem p text → IsLine text
is_line AtMagic text t is = is
is_line (AtName owners) text t is = is
is_line (AtVersion owners name) text t is = is
is_line (InBody b) text t is = is
is_line (InContent b line) text t is = absurd t
is_line (InTarget b path) text t is = is
is_line (Ended b) text t is = is

goes_on : (p : Progress) (rest : List ℕ) → TakesLine p → GoesOn p rest
goes_on AtMagic rest t = tt
goes_on (AtName owners) rest t = tt
goes_on (AtVersion owners name) rest t = tt
goes_on (InBody b) rest t = tt
goes_on (InContent b line) rest t = tt
goes_on (InTarget b path) rest t = tt
goes_on (Ended b) rest t = absurd t

fault_is : (p : Progress) (rest : List ℕ) → TakesLine p → fault_of p rest ≡ fault_by_line p rest (line_at rest)
unfolding fault_of
fault_is AtMagic rest t = refl
fault_is (AtName owners) rest t = refl
fault_is (AtVersion owners name) rest t = refl
fault_is (InBody b) rest t = refl
fault_is (InContent b line) rest t = absurd t
fault_is (InTarget b path) rest t = refl
fault_is (Ended b) rest t = absurd t

only_next : (p : Progress) (line : List ℕ) (q : Progress) → TakesLine p → IsLine line → IsOnly (IsItem p line) q → IsOnly (IsNext p line) q
only_next p line q takes is one = (record { fits = fits_line p line takes is; item = one.0 }, λ r other. one.1 r other.item)

-- ---- runs

pub runs_here : (p : Progress) (bytes : List ℕ) → Runs p bytes p bytes
runs_here p bytes = record { texts = []; good = refl; spelled = refl }

lead_then : (p : Progress) (xs : List (List ℕ)) (q : Progress) (ys : List (List ℕ)) (r : Progress) → LeadOnly p xs q → LeadOnly q ys r → LeadOnly p (xs ++ ys) r
lead_then p [] q ys r first later = subst (λ (o : Progress). LeadOnly o ys r) (sym first) later
lead_then p (x ∷ xs) q ys r first later = (first.0, first.1, lead_then first.0 xs q ys r first.2 later)

pub runs_then : (p : Progress) (a : List ℕ) (q : Progress) (b : List ℕ) (r : Progress) (c : List ℕ) → Runs p a q b → Runs q b r c → Runs p a r c
runs_then p a q b r c first later =
    record {
      texts = first.texts ++ later.texts;
      good = lead_then p first.texts q later.texts r first.good later.good;
      spelled = first.spelled ∙ ap (λ (l : List ℕ). flat_map with_feed first.texts ++ l) later.spelled
          ∙ sym (append_assoc (flat_map with_feed first.texts) (flat_map with_feed later.texts) c)
          ∙ ap (λ (l : List ℕ). l ++ c) (sym (flat_map-append with_feed first.texts later.texts));
    }

pub stops_then : (p : Progress) (a : List ℕ) (q : Progress) (b : List ℕ) (e : ReadError) → Runs p a q b → StopsBy q b e → StopsBy p a e
stops_then p a q b errors.Memory first later = tt
stops_then p a q b (errors.Unread f) first later =
    record {
      last = later.last;
      rest = later.rest;
      runs = runs_then p a q b later.last later.rest first later.runs;
      stops = later.stops;
      goes_on = later.goes_on;
      refused = later.refused;
    }

pub stops_after : (p : Progress) (a : List ℕ) (q : Progress) (b : List ℕ) (f : Unread) → Runs p a q b → Stops q b f → Stops p a f
stops_after p a q b f first later = stops_then p a q b (errors.Unread f) first later

pub stops_here : (p : Progress) (rest : List ℕ) (f : Unread) → NoneNext p rest → GoesOn p rest → f ≡ fault_of p rest → Stops p rest f
stops_here p rest f none on is = record { last = p; rest = rest; runs = runs_here p rest; stops = none; goes_on = on; refused = is }

one_run : (p : Progress) (line rest behind : List ℕ) (q : Progress) → rest ≡ with_feed line ++ behind → IsOnly (IsNext p line) q → Runs p rest q behind
one_run p line rest behind q spelled one =
    record {
      texts = line ∷ [];
      good = (q, one, refl);
      spelled = spelled ∙ ap (λ (l : List ℕ). l ++ behind) (sym (append-nil (with_feed line)));
    }

-- ---- lines

pub runs_line : (p : Progress) (rest line behind : List ℕ) (q : Progress) → TakesLine p → line_at rest ≡ Ok (line, behind) → IsOnly (IsItem p line) q → Runs p rest q behind
runs_line p rest line behind q takes at one =
    let cut = line_cut rest (line, behind) at in
    one_run p line rest behind q cut.spelled (only_next p line q takes cut.line one)

-- the line at the front is no good one
pub stops_line : (p : Progress) (rest line behind : List ℕ) (f : Unread) → TakesLine p → line_at rest ≡ Ok (line, behind) → ((q : Progress) → IsItem p line q → ⊥) → f ≡ line_fault p line rest → Stops p rest f
stops_line p rest line behind f takes at none is =
    stops_here p rest f
    (λ text more q spelled next.
    let same : (text, more) ≡ (line, behind) = ok_is (text, more) (line, behind) (sym (line_again text more (is_line p text takes next.fits)) ∙ ap line_at (sym spelled) ∙ at) in
    none q (subst (λ (l : List ℕ). IsItem p l q) (ap (λ (x : List ℕ × List ℕ). x.0) same) next.item))
    (goes_on p rest takes)
    (is ∙ sym (fault_is p rest takes ∙ ap (fault_by_line p rest) at))

-- no line is at the front
pub stops_no_line : (p : Progress) (rest : List ℕ) (e : ReadError) → TakesLine p → Fails e (line_at rest) → StopsBy p rest e
stops_no_line p rest errors.Memory takes at = tt
stops_no_line p rest (errors.Unread f) takes at =
    stops_here p rest f
    (λ text more q spelled next.
    let bad : ◌≡◌ {A = Result (List ℕ × List ℕ) Unread} (Ok (text, more)) (Err f) = sym (line_again text more (is_line p text takes next.fits)) ∙ ap line_at (sym spelled) ∙ at in absurd cc)
    (goes_on p rest takes)
    (sym (fault_is p rest takes ∙ ap (fault_by_line p rest) at))

-- ---- contents

pub runs_content : (b : Body) (line : FileLine) (rest content after : List ℕ) → content_at line.size rest ≡ Ok (content, after) → Runs (InContent b line) rest (InBody (with_file b line content)) after
runs_content b line rest content after at =
    let cut = content_cut line.size rest (content, after) at in
    one_run (InContent b line) content rest after (InBody (with_file b line content)) cut.0
    (record { fits = tt; item = (cut.1, refl) }, λ r other. other.item.1)

content_fault : (b : Body) (line : FileLine) (rest : List ℕ) → fault_of (InContent b line) rest ≡ fault_by_content rest (content_at line.size rest)
unfolding fault_of
content_fault b line rest = refl

pub stops_content : (b : Body) (line : FileLine) (rest : List ℕ) (e : ReadError) → Fails e (content_at line.size rest) → StopsBy (InContent b line) rest e
stops_content b line rest errors.Memory at = tt
stops_content b line rest (errors.Unread f) at =
    stops_here (InContent b line) rest f
    (λ text more q spelled next.
    let bad : ◌≡◌ {A = Result (List ℕ × List ℕ) Unread} (Ok (text, more)) (Err f) =
    sym (content_again text more) ∙ ap (λ (n : ℕ). content_at n (with_feed text ++ more)) next.item.0 ∙ ap (content_at line.size) (sym spelled) ∙ at in
    absurd cc)
    tt
    (sym (content_fault b line rest ∙ ap (fault_by_content rest) at))
