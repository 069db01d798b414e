-- Bytes make one value at most, or have one first fault at most, and never both.
use Rattle.std.proofs.Common.{◌≡◌, ℕ, Bool, true, false, nat_le, List, [], ◌∷◌, flat_map, Option, Some, sym, ap, ◌∙◌, subst, inl, inr, append-nil, codes}
use Rattle.std.proofs.lemmas.Option.{same_Some}
use Rattle.manifest_troves.specs.cny-base.declared.refusal.Refusal.{Refusal}
use Rattle.manifest_troves.specs.cny-base.declared.refusal.Refusal.TheVariants.{Collision}
use Rattle.manifest_troves.specs.cny-base.declared.limits.TheConstants.{CONTENT_LIMIT}
use Rattle.cny_version.specs.Version.{WholeVersion, IsVersion}
use Rattle.cny_version.specs.Filled.{filled}
use Rattle.cny_version.specs.Reading.{version_found}
use Rattle.cny_version.proofs.VersionReaders.{abbreviation_back}
use Rattle.cny_dep.proofs.Plain.{relaxed_read}
use Rattle.cny_dep.specs.Dep.{Dependency}
use Rattle.cny_dep.specs.Relaxed.{IsRelaxedText}
use Rattle.cny_dep.proofs.DepParts.{one_dep}
use Rattle.manifest_troves.specs.trove-parts.declared.id.TroveId.{TroveId}
use Rattle.manifest_troves.specs.trove-parts.Id.{IsTroveId, id_text_of}
use Rattle.manifest_troves.specs.trove-stream.declared.parts.TroveParts.{TroveParts}
use Rattle.manifest_troves.specs.declared.lines.DepLine.{DepLine}
use Rattle.manifest_troves.specs.Contents.{first_collision, contents_of}
use Rattle.manifest_troves.specs.Troves.{troves_of}
use Rattle.cny_manifest.specs.declared.entries.DirLine.{DirLine}
use Rattle.cny_manifest.specs.declared.entries.FileLine.{FileLine}
use Rattle.cny_manifest.specs.declared.fault.Unread.{Unread}
use Rattle.cny_manifest.specs.declared.made.Made.{Made}
use Rattle.cny_manifest.specs.declared.words.Word.{Word}
use Rattle.cny_manifest.specs.declared.words.Word.TheVariants as word
use Rattle.cny_manifest.specs.declared.words.WholeLine.TheVariants as whole
use Rattle.cny_manifest.specs.Body.{Body, body_of, with_flavor, with_ref, with_requirement, with_provided, with_dir, with_link, can_have_flavor, can_refer, can_require, can_provide, can_record, path_next, file_next}
use Rattle.cny_manifest.specs.Entries.{dir_of, target_of}
use Rattle.cny_manifest.specs.FirstFault.{StopsBehind, IsFirstFault}
use Rattle.cny_manifest.specs.Grammar.{Progress, AtMagic, AtName, AtVersion, InBody, InContent, InTarget, Ended, magic_of, name_of, IsVersionField, IsVersionLine, IsFlavorField, IsRefField, IsDepFields, LineOf, IsWordLine, IsBodyLine, IsItem, Lead, IsManifest}
use Rattle.cny_manifest.specs.Lines.{with_feed, field_at, word_at}
use Rattle.cny_manifest.specs.Made.{lines_of}
use Rattle.cny_manifest.specs.Makes.{Makes}
use Rattle.cny_manifest.specs.Reading.{LeadOnly, Runs, Stops}
use Rattle.cny_manifest.specs.Spelling.{IsSpelling}
use Rattle.cny_manifest.proofs.Leading.{spelling_manifest}
use Rattle.cny_manifest.proofs.OneReading.{one_spelling, unread_only, unread_exact, made_of}
use Rattle.cny_manifest.proofs.Steps.{none_found}
use Rattle.cny_manifest.proofs.Ending.{end_no_word}

-- ---- the value of a field

-- no two ids have one text
abbrev pub OneId : Type 0
OneId = (a b : TroveId) → IsTroveId a → IsTroveId b → id_text_of a ≡ id_text_of b → a ≡ b

-- this holds of one value at most
abbrev One : {X : Type 0} → (X → Type 0) → Type 0
One {X} Q = (x y : X) → Q x → Q y → x ≡ y

one_found : {X : Type 0} (found : Option X) → One (λ (x : X). found ≡ Some x)
one_found found x y first second = same_Some x y (sym first ∙ second)

one_version : (text : List ℕ) → One (IsVersionField text)
one_version text v w first second =
    let v_found : version_found false text ≡ Some (filled first.spelled.0) = abbreviation_back text first.spelled.0 (subst IsVersion first.spelled.1 first.valid) first.spelled.2 in
    let w_found : version_found false text ≡ Some (filled second.spelled.0) = abbreviation_back text second.spelled.0 (subst IsVersion second.spelled.1 second.valid) second.spelled.2 in
    first.spelled.1 ∙ one_found (version_found false text) (filled first.spelled.0) (filled second.spelled.0) v_found w_found ∙ sym second.spelled.1

one_version_line : (text : List ℕ) → One (IsVersionLine text)
one_version_line text v w first second =
    let same : first.field ≡ second.field = same_Some first.field second.field (sym first.word ∙ second.word) in
    one_version second.field v w (subst (λ (l : List ℕ). IsVersionField l v) same first.is) second.is

one_flavor : (text : List ℕ) → One (IsFlavorField text)
one_flavor text p q first second = same_Some p q (sym (relaxed_read text p first.spelled) ∙ relaxed_read text q second.spelled)

one_ref : OneId → (text : List ℕ) → One (IsRefField text)
one_ref ids text a b first second = ids a b first.valid second.valid (sym first.spelled ∙ second.spelled)

abbrev dep_line : List ℕ → Dependency → DepLine
dep_line name dep = record { name = name; dep = dep }

one_dep_line : (text : List ℕ) → One (IsDepFields text)
one_dep_line text a b first second =
    let same : ◌≡◌ {A = List ℕ × List ℕ} (a.name, first.rest) (b.name, second.rest) = one_found (field_at text) (a.name, first.rest) (b.name, second.rest) first.split second.split in
    let name : a.name ≡ b.name = ap (λ (p : List ℕ × List ℕ). p.0) same in
    let rest : first.rest ≡ second.rest = ap (λ (p : List ℕ × List ℕ). p.1) same in
    let dep : a.dep ≡ b.dep = one_dep second.rest a.dep b.dep first.dep.valid second.dep.valid (subst (λ (l : List ℕ). IsRelaxedText l a.dep) rest first.dep.spelled) second.dep.spelled in
    ap (λ (n : List ℕ). dep_line n a.dep) name ∙ ap (dep_line b.name) dep

-- ---- where an item leads

one_line : {X : Type 0} (Q : X → Type 0) (can : X → Bool) (next : X → Progress) → One Q → One (LineOf Q can next)
one_line Q can next one q r first second = first.3 ∙ ap next (one first.0 second.0 first.1 second.1) ∙ sym second.3

one_word_line : OneId → (b : Body) (w : Word) (fields : List ℕ) → One (IsWordLine b w fields)
one_word_line ids b (word.Whole whole.Flavor) fields = one_line (IsFlavorField fields) (λ parts. can_have_flavor b) (λ parts. InBody (with_flavor b parts)) (one_flavor fields)
one_word_line ids b (word.Whole whole.Ref) fields = one_line (IsRefField fields) (can_refer b) (λ id. InBody (with_ref b id)) (one_ref ids fields)
one_word_line ids b (word.Whole whole.Requires) fields = one_line (IsDepFields fields) (can_require b) (λ line. InBody (with_requirement b line)) (one_dep_line fields)
one_word_line ids b (word.Whole whole.Provides) fields = one_line (IsDepFields fields) (can_provide b) (λ line. InBody (with_provided b line)) (one_dep_line fields)
one_word_line ids b (word.Whole whole.Dir) fields =
    one_line (λ (line : DirLine). dir_of b.owners fields ≡ Some line) (λ (line : DirLine). can_record b line.path) (λ (line : DirLine). InBody (with_dir b line)) (one_found (dir_of b.owners fields))
one_word_line ids b word.File fields =
    one_line (λ (line : FileLine). file_next b fields ≡ Some line) (λ (line : FileLine). nat_le line.size CONTENT_LIMIT) (λ (line : FileLine). InContent b line) (one_found (file_next b fields))
one_word_line ids b word.Link fields =
    one_line (λ (path : List ℕ). path_next b fields ≡ Some path) (λ (path : List ℕ). true) (λ (path : List ℕ). InTarget b path) (one_found (path_next b fields))

-- the line `end` has no word
not_both : (text : List ℕ) (w : Word) (fields : List ℕ) → text ≡ codes "end" → word_at text ≡ Some (w, fields) → ⊥
not_both text w fields end found = none_found (word_at text) (ap word_at end ∙ end_no_word) (w, fields) found

one_body_line : OneId → (b : Body) (text : List ℕ) → One (IsBodyLine b text)
one_body_line ids b text q r (inl first) (inl second) = first.2 ∙ sym second.2
one_body_line ids b text q r (inl first) (inr second) = absurd (not_both text second.0 second.1 first.0 second.2)
one_body_line ids b text q r (inr first) (inl second) = absurd (not_both text first.0 first.1 second.0 first.2)
one_body_line ids b text q r (inr first) (inr second) =
    let same : ◌≡◌ {A = Word × List ℕ} (first.0, first.1) (second.0, second.1) = one_found (word_at text) (first.0, first.1) (second.0, second.1) first.2 second.2 in
    one_word_line ids b second.0 second.1 q r (subst (λ (x : Word × List ℕ). IsWordLine b x.0 x.1 q) same first.3) second.3

one_item : OneId → (p : Progress) (text : List ℕ) → One (IsItem p text)
one_item ids AtMagic text = one_line (λ (owners : Bool). magic_of text ≡ Some owners) (λ (owners : Bool). true) AtName (one_found (magic_of text))
one_item ids (AtName owners) text = one_line (λ (name : List ℕ). name_of text ≡ Some name) (λ (name : List ℕ). true) (AtVersion owners) (one_found (name_of text))
one_item ids (AtVersion owners name) text = one_line (IsVersionLine text) (λ (version : WholeVersion). true) (λ (version : WholeVersion). InBody (body_of owners name version)) (one_version_line text)
one_item ids (InBody b) text = one_body_line ids b text
one_item ids (InContent b line) text = λ q r first second. first.1 ∙ sym second.1
one_item ids (InTarget b path) text = one_line (λ (target : List ℕ). target_of text ≡ Some target) (λ (target : List ℕ). true) (λ (target : List ℕ). InBody (with_link b path target)) (one_found (target_of text))
one_item ids (Ended b) text = λ q r first second. absurd first

lead_only : OneId → (p : Progress) (xs : List (List ℕ)) (q : Progress) → Lead p xs q → LeadOnly p xs q
lead_only ids p [] q lead = lead
lead_only ids p (x ∷ xs) q lead = (lead.0, (lead.1, λ r other. one_item ids p x r lead.0 other.item lead.1.item), lead_only ids lead.0 xs q lead.2)

-- ---- as a reader says it

runs_of : OneId → (bytes : List ℕ) (b : Body) → IsManifest bytes b → Runs AtMagic bytes (Ended b) []
runs_of ids bytes b is =
    record { texts = is.texts; good = lead_only ids AtMagic is.texts (Ended b) is.good; spelled = is.spelled ∙ sym (append-nil (flat_map with_feed is.texts)) }

stops_of : OneId → (bytes : List ℕ) (fault : Unread) → StopsBehind bytes fault → Stops AtMagic bytes fault
stops_of ids bytes fault stop =
    record {
      last = stop.last;
      rest = stop.rest;
      runs = record { texts = stop.texts; good = lead_only ids AtMagic stop.texts stop.last stop.good; spelled = stop.spelled };
      stops = stop.stops;
      goes_on = stop.goes_on;
      refused = stop.refused;
    }

-- ---- the laws

one_body : OneId → (bytes : List ℕ) → One (IsSpelling bytes)
one_body ids bytes b c first second = sym (one_spelling bytes b c (runs_of ids bytes b (spelling_manifest bytes b first)) second)

pub one_made : OneId → (bytes : List ℕ) (a b : Made) → Makes bytes a → Makes bytes b → a ≡ b
one_made ids bytes a b first second =
    let same : first.body ≡ second.body = one_body ids bytes first.body second.body first.spelled second.spelled in
    let troves : a.troves ≡ b.troves = first.troves_are ∙ ap (λ (c : Body). troves_of (lines_of c)) same ∙ sym second.troves_are in
    let contents : a.contents ≡ b.contents = first.contents_are ∙ ap (λ (c : Body). contents_of c.contents) same ∙ sym second.contents_are in
    ap (λ (l : List TroveParts). made_of l a.contents) troves ∙ ap (made_of b.troves) contents

pub no_fault : OneId → (bytes : List ℕ) (a : Made) (f : Refusal) → Makes bytes a → IsFirstFault bytes f → ⊥
no_fault ids bytes a f makes (inl unread) = unread_only bytes unread.fault (stops_of ids bytes unread.fault unread.stops) a makes
no_fault ids bytes a f makes (inr collides) =
    let same : makes.body ≡ collides.body = one_body ids bytes makes.body collides.body makes.spelled collides.spelled in
    none_found (first_collision collides.body.contents) (ap (λ (c : Body). first_collision c.contents) (sym same) ∙ makes.apart) (collides.name, collides.at) collides.first

pub one_fault : OneId → (bytes : List ℕ) (f g : Refusal) → IsFirstFault bytes f → IsFirstFault bytes g → f ≡ g
one_fault ids bytes f g (inl unread) second = unread_exact bytes unread.fault f (stops_of ids bytes unread.fault unread.stops) unread.refused g second
one_fault ids bytes f g (inr collides) (inl unread) =
    sym (unread_exact bytes unread.fault g (stops_of ids bytes unread.fault unread.stops) unread.refused f (inr collides))
one_fault ids bytes f g (inr first) (inr second) =
    let same : first.body ≡ second.body = one_body ids bytes first.body second.body first.spelled second.spelled in
    let pair : ◌≡◌ {A = List ℕ × ℕ} (first.name, first.at) (second.name, second.at) =
    one_found (first_collision second.body.contents) (first.name, first.at) (second.name, second.at)
    (ap (λ (c : Body). first_collision c.contents) (sym same) ∙ first.first) second.first in
    first.refusal_is ∙ ap (λ (p : List ℕ × ℕ). Collision p.0 p.1) pair ∙ sym second.refusal_is
