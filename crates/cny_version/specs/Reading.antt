-- What the readers find, on bytes: none where the text is no label, number, revision or version.
use Rattle.std.specs.Prelude.{◌≡◌, Result, Ok, Err, IsSome, ℕ, ◌+◌, Bool, suc, zero, List, [], ◌∷◌, length, ◌==◌, nat_le, Option, Some, None, is_some, if◌then◌else◌}
use Rattle.std.specs.List.{slice_split}
use Rattle.std.specs.Option.{option_map, option_and_then}
use Rattle.cny_base.specs.declared.limits.TheConstants.{VERSION_LIMIT}
use Rattle.cny_base.specs.declared.text.TextFault.{TextFault}
use Rattle.cny_base.specs.declared.text.TextFault.TheVariants as fault
use Rattle.cny_base.specs.Number.{is_decimal, decimal_value}
use Rattle.cny_version.specs.declared.revision.Revision.{Revision}
use Rattle.cny_version.specs.Label.{LabelParts, label_text, is_label}
use Rattle.cny_version.specs.Revision.{is_upstream, fits_32_bits}
use Rattle.cny_version.specs.Version.{WholeBranch, WholeVersion, branch_text, version_text, last_label, depth}
use Rattle.cny_version.specs.Filled.{no_label}
use Rattle.cny_version.specs.Made.{shadowed, branched}

-- What a reader answered is what was found. It wants memory only for a text in the grammar.
abbrev pub Reads : {T : Type 0} → Result T TextFault → Option T → Type 0
Reads (Ok x) found = found ≡ Some x
Reads (Err fault.Bad) found = found ≡ None
Reads (Err fault.Memory) found = IsSome found

-- The same, where nothing is said of want of memory.
abbrev pub Gives : {T : Type 0} → Result T TextFault → Option T → Type 0
Gives (Ok x) found = found ≡ Some x
Gives (Err fault.Bad) found = found ≡ None
Gives (Err fault.Memory) found = Unit {0}

-- ---- a text cut at a byte

-- what stands before and after the first such byte
abbrev pub cut : ℕ → List ℕ → Option (List ℕ × List ℕ)
cut c [] = None
cut c (b ∷ bs) = if b == c then Some ([], bs) else option_map (λ p. (b ∷ p.0, p.1)) (cut c bs)

-- the pieces between such bytes
abbrev pub pieces : ℕ → List ℕ → List (List ℕ)
pieces c text = slice_split (λ b. b == c) text

-- ---- labels

abbrev pub checked_label : List ℕ → List ℕ → List ℕ → Option LabelParts
checked_label host namespace tag =
    let label : LabelParts = record { host = host; namespace = namespace; tag = tag } in
    if is_label label then Some label else None

-- a label that has its host: the host, and what stands after `@`
abbrev pub label_from : List ℕ → Option (List ℕ × List ℕ) → Option LabelParts
label_from host None = None
label_from host (Some rest) = checked_label host rest.0 rest.1

-- a label without a host, cut at its `:`
abbrev pub label_near : LabelParts → List ℕ → Option (List ℕ × List ℕ) → Option LabelParts
label_near previous text None = checked_label previous.host previous.namespace text
label_near previous text (Some rest) = checked_label previous.host rest.0 rest.1

-- a label, cut at its `@`
abbrev pub label_cut : Bool → LabelParts → List ℕ → Option (List ℕ × List ℕ) → Option LabelParts
label_cut whole previous text (Some parts) = label_from parts.0 (cut 58 parts.1)
label_cut whole previous text None = if whole then None else label_near previous text (cut 58 text)

-- the label with this text, whole, or filled up from the one before
abbrev pub label_found : Bool → LabelParts → List ℕ → Option LabelParts
label_found whole previous text = label_cut whole previous text (cut 64 text)

-- ---- revisions

abbrev pub number_found : List ℕ → Option ℕ
number_found piece = if is_decimal piece then (if fits_32_bits (decimal_value piece) then Some (decimal_value piece) else None) else None

-- the numbers of a count, of which so many may come before the last one
abbrev pub count_found : ℕ → List (List ℕ) → Option (List ℕ)
count_found room [] = None
count_found room (p ∷ []) = option_and_then (λ n. if n == 0 then None else Some (n ∷ [])) (number_found p)
count_found zero (p ∷ q ∷ ps) = None
count_found (suc room) (p ∷ q ∷ ps) = option_and_then (λ n. option_map (λ numbers. n ∷ numbers) (count_found room (q ∷ ps))) (number_found p)

-- the source count and the build count of the text after the upstream, cut at its `-`
abbrev pub counts_found : ℕ → List ℕ → List ℕ → Option (List ℕ × List ℕ) → Option Revision
counts_found depth upstream rest None =
    option_map (λ source. record { upstream = upstream; source = source; build = None }) (count_found depth (pieces 46 rest))
counts_found depth upstream rest (Some parts) =
    option_and_then
    (λ source. option_map (λ build. record { upstream = upstream; source = source; build = Some build }) (count_found depth (pieces 46 parts.1)))
    (count_found depth (pieces 46 parts.0))

abbrev pub revision_cut : ℕ → Option (List ℕ × List ℕ) → Option Revision
revision_cut depth None = None
revision_cut depth (Some parts) = if is_upstream parts.0 then counts_found depth parts.0 parts.1 (cut 45 parts.1) else None

unfoldable pub revision_found : ℕ → List ℕ → Option Revision
revision_found depth text = revision_cut depth (cut 45 text)

-- ---- versions

-- the same branch, where its text may be that of a version
abbrev pub short_branch : WholeBranch → Option WholeBranch
short_branch b = if nat_le (length (branch_text b)) VERSION_LIMIT then Some b else None

abbrev pub short_version : WholeVersion → Option WholeVersion
short_version v = if nat_le (length (version_text v)) VERSION_LIMIT then Some v else None

-- the branch after a further label: nothing before it is the sign of a shadow, else a revision
abbrev pub step_to : WholeBranch → List ℕ → LabelParts → Option WholeBranch
step_to b [] label = short_branch (shadowed b label)
step_to b (x ∷ xs) label = option_and_then (λ r. short_branch (branched b r label)) (revision_found (depth b) (x ∷ xs))

unfoldable pub step_found : Bool → WholeBranch → List ℕ → List ℕ → Option WholeBranch
step_found whole b between piece = option_and_then (λ label. step_to b between label) (label_found whole (last_label b) piece)

-- the version that goes on from a branch with these pieces
abbrev pub version_on : Bool → WholeBranch → List (List ℕ) → Option WholeVersion
version_on whole b [] = None
version_on whole b (p ∷ []) = option_and_then (λ r. short_version (record { branch = b; revision = r })) (revision_found (depth b) p)
version_on whole b (p ∷ q ∷ ps) = option_and_then (λ c. version_on whole c ps) (step_found whole b p q)

abbrev pub branch_at : LabelParts → WholeBranch
branch_at label = record { before = []; first = label; shadows = [] }

-- nothing stands before the first slash
abbrev pub version_in : Bool → List (List ℕ) → Option WholeVersion
version_in whole ([] ∷ p ∷ ps) = option_and_then (λ label. version_on whole (branch_at label) ps) (label_found whole no_label p)
version_in whole _ = None

unfoldable pub version_found : Bool → List ℕ → Option WholeVersion
version_found whole text = version_in whole (pieces 47 text)

-- ---- whether a version is found, without its parts

-- the depth behind a further label: nothing before it is the sign of a shadow, else a revision
abbrev pub depth_found : ℕ → List ℕ → Option ℕ
depth_found depth [] = Some (depth + 1)
depth_found depth (x ∷ xs) = if is_some (revision_found depth (x ∷ xs)) then Some depth else None

-- the length of a branch's text behind a further label, with the two slashes
abbrev pub size_found : ℕ → List ℕ → LabelParts → Option ℕ
size_found size between label =
    let longer = size + (2 + length between + length (label_text label)) in
    if nat_le longer VERSION_LIMIT then Some longer else None
