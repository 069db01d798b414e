-- Lines behind the version, by their words.
use Rattle.std.proofs.Common.{◌≡◌, ℕ, ◌<◌, true, false, List, [], ◌∷◌, ◌++◌, length, Option, Some, None, Result, Ok, Err, refl, sym, ap, ◌∙◌, subst, inl, inr, ⊎_elim, arith, length-append, codes, nat_le, Bor}
use Rattle.std.specs.Prelude.{IfErr, IfOk}
use Rattle.std.specs.Str.{bytes_eq}
use Rattle.std.proofs.lemmas.Bool.{true≢false, leb-true, le-leb}
use Rattle.std.proofs.lemmas.Result.{IfOk-weaker}
use Rattle.manifest_troves.specs.cny-base.declared.limits.TheConstants.{CONTENT_LIMIT}
use Rattle.manifest_troves.specs.cny-base.declared.text.TextFault.{TextFault}
use Rattle.cny_manifest.specs.declared.entries.FileLine.{FileLine}
use Rattle.cny_manifest.specs.declared.fault.Unread.{Unread}
use Rattle.cny_manifest.specs.declared.fault.Unread.TheVariants.{At}
use Rattle.cny_manifest.specs.declared.fault.ReadError.{ReadError}
use Rattle.cny_manifest.specs.declared.fault.ReadError.TheVariants as errors
use Rattle.cny_manifest.specs.declared.words.Word.{Word}
use Rattle.cny_manifest.specs.declared.words.Word.TheVariants as word
use Rattle.cny_manifest.specs.declared.words.WholeLine.{WholeLine}
use Rattle.cny_manifest.specs.Body.{Body, path_next, file_next}
use Rattle.cny_manifest.specs.FirstFault.{fault_by_size, too_large}
use Rattle.cny_manifest.specs.Grammar.{Progress, InBody, InContent, InTarget, IsWordLine, IsBodyLine}
use Rattle.cny_manifest.specs.Lines.{with_feed, line_at, content_at, word_at}
use Rattle.cny_manifest.specs.Reading.{IsOnly, Takes, Runs, Stops, StopsBy, IsWordAt, IsFaultAt, IsFile, NoFile}
use Rattle.cny_manifest.proofs.CutLines.{line_cut, content_cut}
use Rattle.cny_manifest.proofs.Steps.{only_found, none_found, line_taken, line_none, runs_line, stops_line}

-- ---- one line

-- a line that isn't `end`
not_end : (line : List ℕ) → bytes_eq line (codes "end") ≡ false → line ≡ codes "end" → ⊥
not_end line differs is = true≢false (sym (ap (λ l. bytes_eq l (codes "end")) is) ∙ differs)

of_word : {b : Body} (w : Word) (rest line fields behind : List ℕ) (q : Progress) → IsWordAt w rest line fields behind → IsBodyLine b line q → IsWordLine b w fields q
of_word w rest line fields behind q at (inl end) = absurd (not_end line at.goes_on end.0)
of_word {b} w rest line fields behind q at (inr other) =
    let both : ◌≡◌ {A = Option (Word × List ℕ)} (Some (other.0, other.1)) (Some (w, fields)) = sym other.2 ∙ at.word_is in
    let same : (other.0, other.1) ≡ (w, fields) = cc in
    subst (λ (x : Word × List ℕ). IsWordLine b x.0 x.1 q) same other.3

only_word : (b : Body) (w : Word) (rest line fields behind : List ℕ) (q : Progress) → IsWordAt w rest line fields behind → IsOnly (IsWordLine b w fields) q → IsOnly (IsBodyLine b line) q
only_word b w rest line fields behind q at one =
    (inr (w, fields, at.word_is, one.0), λ r other. one.1 r (of_word {b = b} w rest line fields behind r at other))

pub word_runs : (b : Body) (w : Word) (rest line fields behind : List ℕ) (q : Progress) → IsWordAt w rest line fields behind → IsOnly (IsWordLine b w fields) q → Runs (InBody b) rest q behind
word_runs b w rest line fields behind q at one = runs_line (InBody b) rest line behind q tt at.line_is (only_word b w rest line fields behind q at one)

pub word_stops : (b : Body) (w : Word) (rest line fields behind : List ℕ) (f : Unread) → IsWordAt w rest line fields behind → ((q : Progress) → IsWordLine b w fields q → ⊥)
    → f ≡ fault_by_size rest (too_large b (Some (w, fields))) → Stops (InBody b) rest f
word_stops b w rest line fields behind f at none is =
    stops_line (InBody b) rest line behind f tt at.line_is (λ q other. none q (of_word {b = b} w rest line fields behind q at other))
    (is ∙ ap (λ o. fault_by_size rest (too_large b o)) (sym at.word_is))

-- what is behind a line is shorter
pub line_shorter : (rest line behind : List ℕ) → line_at rest ≡ Ok (line, behind) → length behind < length rest
line_shorter rest line behind at =
    let cut = line_cut rest (line, behind) at in
    let long : length rest ≡ length (with_feed line ++ behind) = ap length cut.spelled in
    omega (arith, long, length-append (with_feed line) behind, length-append line (10 ∷ []))

-- and so is what is left of it
pub behind_shorter : (rest line behind : List ℕ) → line_at rest ≡ Ok (line, behind) → {E : Type 0} (r : Result (Bor (List ℕ)) E) → IfOk r (λ after. length after.now < length behind) → IfOk r (λ after. length after.now < length rest)
behind_shorter rest line behind at r shorter =
    let longer = line_shorter rest line behind at in
    IfOk-weaker r (λ after. length after.now < length behind) (λ after. length after.now < length rest) (λ after lt. omega (arith, lt, longer)) shorter

-- and so is what is behind a content
pub content_shorter : (size : ℕ) (rest content after : List ℕ) → content_at size rest ≡ Ok (content, after) → length after < length rest
content_shorter size rest content after at =
    let cut = content_cut size rest (content, after) at in
    let long : length rest ≡ length (with_feed content ++ after) = ap length cut.0 in
    omega (arith, long, length-append (with_feed content) after, length-append content (10 ∷ []))

-- a line with no word
pub no_word : (b : Body) (rest line behind : List ℕ) → line_at rest ≡ Ok (line, behind) → bytes_eq line (codes "end") ≡ false → word_at line ≡ None → Stops (InBody b) rest (At (length rest))
no_word b rest line behind at goes_on none =
    stops_line (InBody b) rest line behind (At (length rest)) tt at
    (λ q other. ⊎_elim (λ end. not_end line goes_on end.0) (λ more. none_found (word_at line) none (more.0, more.1) more.2) other)
    (ap (λ o. fault_by_size rest (too_large b o)) (sym none))

-- ---- lines that are whole by themselves

whole_fault : (b : Body) (w : WholeLine) (fields rest : List ℕ) → fault_by_size rest (too_large b (Some (word.Whole w, fields))) ≡ At (length rest)
whole_fault b w fields rest = refl

pub whole_runs : (b : Body) (w : WholeLine) (rest line fields behind : List ℕ) (q : Progress) (taken : Result Unit TextFault) → IsWordAt (word.Whole w) rest line fields behind
    → Takes (IsWordLine b (word.Whole w) fields) q taken → IfErr taken (λ fault. ⊥) → Runs (InBody b) rest q behind
whole_runs b w rest line fields behind q (Ok u) at one good = word_runs b (word.Whole w) rest line fields behind q at one
whole_runs b w rest line fields behind q (Err e) at one good = absurd good

pub whole_stops : (b : Body) (w : WholeLine) (rest line fields behind : List ℕ) (q : Progress) (taken : Result Unit TextFault) (e : ReadError) → IsWordAt (word.Whole w) rest line fields behind
    → Takes (IsWordLine b (word.Whole w) fields) q taken → IsFaultAt rest taken e → StopsBy (InBody b) rest e
whole_stops b w rest line fields behind q taken errors.Memory at one bad = tt
whole_stops b w rest line fields behind q taken (errors.Unread f) at one bad =
    word_stops b (word.Whole w) rest line fields behind f at
    (subst (λ r. Takes (IsWordLine b (word.Whole w) fields) q r) bad.0 one)
    (bad.1 ∙ sym (whole_fault b w fields rest))

-- ---- files and links

pub file_runs : (b : Body) (rest line fields behind : List ℕ) (file : FileLine) → IsWordAt word.File rest line fields behind → IsFile b fields file → Runs (InBody b) rest (InContent b file) behind
file_runs b rest line fields behind file at is =
    word_runs b word.File rest line fields behind (InContent b file) at
    (line_taken (λ (l : FileLine). file_next b fields ≡ Some l) (λ (l : FileLine). nat_le l.size CONTENT_LIMIT) (λ l. InContent b l) file
    (only_found (file_next b fields) file is.found) (le-leb file.size CONTENT_LIMIT is.small))

pub file_stops : (b : Body) (rest line fields behind : List ℕ) (e : ReadError) → IsWordAt word.File rest line fields behind → NoFile b fields rest e → StopsBy (InBody b) rest e
file_stops b rest line fields behind errors.Memory at none = tt
file_stops b rest line fields behind (errors.Unread f) at none =
    word_stops b word.File rest line fields behind f at
    (λ q other. none.0 other.0 (record { found = other.1; small = leb-true other.0.size CONTENT_LIMIT other.2 })) none.1

pub link_runs : (b : Body) (rest line fields behind path : List ℕ) → IsWordAt word.Link rest line fields behind → path_next b fields ≡ Some path → Runs (InBody b) rest (InTarget b path) behind
link_runs b rest line fields behind path at is =
    word_runs b word.Link rest line fields behind (InTarget b path) at
    (line_taken (λ (p : List ℕ). path_next b fields ≡ Some p) (λ p. true) (λ p. InTarget b p) path (only_found (path_next b fields) path is) refl)

pub link_stops : (b : Body) (rest line fields behind : List ℕ) → IsWordAt word.Link rest line fields behind → path_next b fields ≡ None → Stops (InBody b) rest (At (length rest))
link_stops b rest line fields behind at none =
    word_stops b word.Link rest line fields behind (At (length rest)) at
    (line_none (λ (p : List ℕ). path_next b fields ≡ Some p) (λ p. true) (λ p. InTarget b p) (none_found (path_next b fields) none)) refl
