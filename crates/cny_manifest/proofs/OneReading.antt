-- Bytes are one manifest at most, or have one first fault.
use Rattle.std.proofs.Common.{◌≡◌, ℕ, List, [], ◌∷◌, ◌++◌, length, flat_map, Option, Some, None, refl, sym, ap, ◌∙◌, subst, inl, inr, append_assoc, append-nil}
use Rattle.manifest_troves.specs.cny-base.declared.refusal.Refusal.{Refusal}
use Rattle.manifest_troves.specs.cny-base.declared.refusal.Refusal.TheVariants.{Collision}
use Rattle.manifest_troves.specs.cny-base.declared.refusal.Fault.{Fault}
use Rattle.manifest_troves.specs.cny-base.declared.refusal.Fault.TheVariants as fault
use Rattle.manifest_troves.specs.trove-stream.declared.parts.TroveParts.{TroveParts}
use Rattle.manifest_troves.specs.change-set.declared.change.Carried.{Carried}
use Rattle.cny_manifest.specs.declared.fault.Unread.{Unread}
use Rattle.cny_manifest.specs.declared.fault.ReadError.{ReadError}
use Rattle.cny_manifest.specs.declared.fault.ReadError.TheVariants as errors
use Rattle.cny_manifest.specs.declared.made.Made.{Made}
use Rattle.cny_manifest.specs.Body.{Body}
use Rattle.cny_manifest.specs.FirstFault.{NoneNext, GoesOn, fault_of, StopsBehind, refusal_of, IsFirstFault, IsFaultOf, fault_from}
use Rattle.cny_manifest.specs.Grammar.{Progress, AtMagic, AtName, AtVersion, InBody, InContent, InTarget, Ended, IsLine, IsNext, Lead, IsManifest}
use Rattle.cny_manifest.specs.Lines.{with_feed, line_at, content_at}
use Rattle.cny_manifest.specs.Made.{lines_of}
use Rattle.cny_manifest.specs.Spelling.{IsSpelling}
use Rattle.manifest_troves.specs.Contents.{first_collision, contents_of, IsCollisionOf}
use Rattle.manifest_troves.specs.Troves.{troves_of}
use Rattle.cny_manifest.specs.Makes.{Makes}
use Rattle.cny_manifest.specs.Reading.{LeadOnly, Runs, Stops, StopsBy, IsReadOf}
use Rattle.cny_manifest.proofs.Adding.{manifest_spelled}
use Rattle.cny_manifest.proofs.CutLines.{ok_is, line_again, content_again}
use Rattle.cny_manifest.proofs.Leading.{spelling_manifest}
use Rattle.manifest_troves.specs.change-set.FirstFault.{IsRefusalOrMemory}

-- ---- one list of items

abbrev Same : List ℕ → List ℕ → List ℕ → List ℕ → Type 0
Same x y m n = (x ≡ y) × (m ≡ n)

pair_is : (x y m n : List ℕ) → ◌≡◌ {A = List ℕ × List ℕ} (x, m) (y, n) → Same x y m n
pair_is x y m n e = (ap (λ (p : List ℕ × List ℕ). p.0) e, ap (λ (p : List ℕ × List ℕ). p.1) e)

same_line : (x y m n : List ℕ) → IsLine x → IsLine y → with_feed x ++ m ≡ with_feed y ++ n → Same x y m n
same_line x y m n x_is y_is e = pair_is x y m n (ok_is (x, m) (y, n) (sym (line_again x m x_is) ∙ ap line_at e ∙ line_again y n y_is))

same_content : (size : ℕ) (x y m n : List ℕ) → length x ≡ size → length y ≡ size → with_feed x ++ m ≡ with_feed y ++ n → Same x y m n
same_content size x y m n x_long y_long e =
    pair_is x y m n (ok_is (x, m) (y, n)
    (sym (content_again x m) ∙ ap (λ (k : ℕ). content_at k (with_feed x ++ m)) (x_long ∙ sym y_long) ∙ ap (content_at (length y)) e ∙ content_again y n))

same_text : (p : Progress) (x y m n : List ℕ) (a b : Progress) → IsNext p x a → IsNext p y b → with_feed x ++ m ≡ with_feed y ++ n → Same x y m n
same_text AtMagic x y m n a b first second e = same_line x y m n first.fits second.fits e
same_text (AtName owners) x y m n a b first second e = same_line x y m n first.fits second.fits e
same_text (AtVersion owners name) x y m n a b first second e = same_line x y m n first.fits second.fits e
same_text (InBody body) x y m n a b first second e = same_line x y m n first.fits second.fits e
same_text (InContent body line) x y m n a b first second e = same_content line.size x y m n first.item.0 second.item.0 e
same_text (InTarget body path) x y m n a b first second e = same_line x y m n first.fits second.fits e
same_text (Ended body) x y m n a b first second e = absurd first.item

-- good items behind which no good one follows are the only ones
same_items : (p : Progress) (xs : List (List ℕ)) (q : Progress) (r : List ℕ) (ys : List (List ℕ)) (q' : Progress) (r' : List ℕ) → LeadOnly p xs q → NoneNext q r → Lead p ys q' → NoneNext q' r'
    → flat_map with_feed xs ++ r ≡ flat_map with_feed ys ++ r' → (r ≡ r') × (q ≡ q')
same_items p [] q r [] q' r' one none other none' e = (e, sym one ∙ other)
same_items p [] q r (y ∷ ys) q' r' one none other none' e =
    absurd (none y (flat_map with_feed ys ++ r') other.0 (e ∙ append_assoc (with_feed y) (flat_map with_feed ys) r') (subst (λ (o : Progress). IsNext o y other.0) one other.1))
same_items p (x ∷ xs) q r [] q' r' one none other none' e =
    absurd (none' x (flat_map with_feed xs ++ r) one.0 (sym e ∙ append_assoc (with_feed x) (flat_map with_feed xs) r) (subst (λ (o : Progress). IsNext o x one.0) other one.1.0))
same_items p (x ∷ xs) q r (y ∷ ys) q' r' one none other none' e =
    let heads = same_text p x y (flat_map with_feed xs ++ r) (flat_map with_feed ys ++ r') one.0 other.0 one.1.0 other.1
    (sym (append_assoc (with_feed x) (flat_map with_feed xs) r) ∙ e ∙ append_assoc (with_feed y) (flat_map with_feed ys) r') in
    let same : other.0 ≡ one.0 = one.1.1 other.0 (subst (λ (t : List ℕ). IsNext p t other.0) (sym heads.0) other.1) in
    same_items one.0 xs q r ys q' r' one.2 none (subst (λ (o : Progress). Lead o ys q') same other.2) none' heads.1

none_ended : (b : Body) (rest : List ℕ) → NoneNext (Ended b) rest
none_ended b rest text more q spelled next = next.item

lead_plain : (p : Progress) (xs : List (List ℕ)) (q : Progress) → LeadOnly p xs q → Lead p xs q
lead_plain p [] q one = one
lead_plain p (x ∷ xs) q one = (one.0, one.1.0, lead_plain one.0 xs q one.2)

-- ---- a manifest that was read

ended_is : (b c : Body) → ◌≡◌ {A = Progress} (Ended b) (Ended c) → c ≡ b
ended_is b c e = cc

manifest_of : (bytes : List ℕ) (b : Body) → Runs AtMagic bytes (Ended b) [] → IsManifest bytes b
manifest_of bytes b run =
    record { texts = run.texts; good = lead_plain AtMagic run.texts (Ended b) run.good; spelled = run.spelled ∙ append-nil (flat_map with_feed run.texts) }

pub spelling_of : (bytes : List ℕ) (b : Body) → Runs AtMagic bytes (Ended b) [] → IsSpelling bytes b
spelling_of bytes b run = manifest_spelled bytes b (manifest_of bytes b run)

one_manifest : (bytes : List ℕ) (b other : Body) → Runs AtMagic bytes (Ended b) [] → IsManifest bytes other → other ≡ b
one_manifest bytes b other run is =
    let same = same_items AtMagic run.texts (Ended b) [] is.texts (Ended other) [] run.good (none_ended b []) is.good (none_ended other [])
    (sym run.spelled ∙ is.spelled ∙ sym (append-nil (flat_map with_feed is.texts))) in
    ended_is b other same.1

pub one_spelling : (bytes : List ℕ) (b other : Body) → Runs AtMagic bytes (Ended b) [] → IsSpelling bytes other → other ≡ b
one_spelling bytes b other run is = one_manifest bytes b other run (spelling_manifest bytes other is)

no_stop : (bytes : List ℕ) (b : Body) (f : Unread) → Runs AtMagic bytes (Ended b) [] → StopsBehind bytes f → ⊥
no_stop bytes b f run stop =
    let same = same_items AtMagic run.texts (Ended b) [] stop.texts stop.last stop.rest run.good (none_ended b []) stop.good stop.stops (sym run.spelled ∙ stop.spelled) in
    let on : GoesOn (Ended b) stop.rest = subst (λ (p : Progress). GoesOn p stop.rest) (sym same.1) stop.goes_on in
    on (sym same.0)

-- ---- bytes at which reading stopped

pub stops_plain : (bytes : List ℕ) (f : Unread) → Stops AtMagic bytes f → StopsBehind bytes f
stops_plain bytes f stop =
    record {
      texts = stop.runs.texts;
      rest = stop.rest;
      last = stop.last;
      spelled = stop.runs.spelled;
      good = lead_plain AtMagic stop.runs.texts stop.last stop.runs.good;
      stops = stop.stops;
      goes_on = stop.goes_on;
      refused = stop.refused;
    }

one_stop : (bytes : List ℕ) (f other : Unread) → Stops AtMagic bytes f → StopsBehind bytes other → f ≡ other
one_stop bytes f other stop is =
    let same = same_items AtMagic stop.runs.texts stop.last stop.rest is.texts is.last is.rest stop.runs.good stop.stops is.good is.stops (sym stop.runs.spelled ∙ is.spelled) in
    stop.refused ∙ ap (λ (p : Progress). fault_of p stop.rest) same.1 ∙ ap (fault_of is.last) same.0 ∙ sym is.refused

no_manifest : (bytes : List ℕ) (f : Unread) (other : Body) → Stops AtMagic bytes f → IsManifest bytes other → ⊥
no_manifest bytes f other stop is =
    let same = same_items AtMagic stop.runs.texts stop.last stop.rest is.texts (Ended other) [] stop.runs.good stop.stops is.good (none_ended other [])
    (sym stop.runs.spelled ∙ is.spelled ∙ sym (append-nil (flat_map with_feed is.texts))) in
    let on : GoesOn (Ended other) stop.rest = subst (λ (p : Progress). GoesOn p stop.rest) same.1 stop.goes_on in
    on same.0

no_spelling : (bytes : List ℕ) (f : Unread) (other : Body) → Stops AtMagic bytes f → IsSpelling bytes other → ⊥
no_spelling bytes f other stop is = no_manifest bytes f other stop (spelling_manifest bytes other is)

-- ---- what is made

abbrev pub made_of : List TroveParts → List Carried → Made
made_of troves contents = record { troves = troves; contents = contents }

pub made_value : (bytes : List ℕ) (troves : List TroveParts) (contents kept : List Carried) → IsReadOf bytes troves contents → first_collision contents ≡ None → kept ≡ contents_of contents
    → Makes bytes (made_of troves kept)
made_value bytes troves contents kept read none kept_is =
    record {
      body = read.body;
      spelled = spelling_of bytes read.body read.runs;
      troves_are = read.troves_are;
      apart = ap first_collision (sym read.contents_are) ∙ none;
      contents_are = kept_is ∙ ap contents_of read.contents_are;
    }

pub made_only : (bytes : List ℕ) (troves : List TroveParts) (contents kept : List Carried) → IsReadOf bytes troves contents → kept ≡ contents_of contents → (other : Made) → Makes bytes other
    → made_of troves kept ≡ other
made_only bytes troves contents kept read kept_is other is =
    let same : is.body ≡ read.body = one_spelling bytes read.body is.body read.runs is.spelled in
    let first : troves ≡ other.troves = read.troves_are ∙ sym (is.troves_are ∙ ap (λ (b : Body). troves_of (lines_of b)) same) in
    let second : kept ≡ other.contents = kept_is ∙ ap contents_of (read.contents_are ∙ ap (λ (b : Body). b.contents) (sym same)) ∙ sym is.contents_are in
    ap (λ (l : List TroveParts). made_of l kept) first ∙ ap (made_of other.troves) second

pub made_exact : (bytes : List ℕ) (troves : List TroveParts) (contents : List Carried) → IsReadOf bytes troves contents → first_collision contents ≡ None → (refusal : Refusal)
    → IsFirstFault bytes refusal → ⊥
made_exact bytes troves contents read none refusal (inl unread) = no_stop bytes read.body unread.fault read.runs unread.stops
made_exact bytes troves contents read none refusal (inr collides) =
    let same : collides.body ≡ read.body = one_spelling bytes read.body collides.body read.runs collides.spelled in
    let both : ◌≡◌ {A = Option (List ℕ × ℕ)} (Some (collides.name, collides.at)) None =
    sym collides.first ∙ ap (λ (b : Body). first_collision b.contents) same ∙ ap first_collision (sym read.contents_are) ∙ none in
    absurd cc

-- ---- contents that collide

pub collision_is : (bytes : List ℕ) (troves : List TroveParts) (contents : List Carried) (name : List ℕ) (at : ℕ) (refusal : Refusal) → IsReadOf bytes troves contents
    → first_collision contents ≡ Some (name, at) → refusal ≡ Collision name at → IsFirstFault bytes refusal
collision_is bytes troves contents name at refusal read first is =
    inr (record {
      body = read.body;
      spelled = spelling_of bytes read.body read.runs;
      name = name;
      at = at;
      first = ap first_collision (sym read.contents_are) ∙ first;
      refusal_is = is;
    })

pub collision_only : (bytes : List ℕ) (troves : List TroveParts) (contents : List Carried) (name : List ℕ) (at : ℕ) → IsReadOf bytes troves contents
    → first_collision contents ≡ Some (name, at) → (other : Made) → Makes bytes other → ⊥
collision_only bytes troves contents name at read first other is =
    let same : is.body ≡ read.body = one_spelling bytes read.body is.body read.runs is.spelled in
    let both : ◌≡◌ {A = Option (List ℕ × ℕ)} None (Some (name, at)) =
    sym is.apart ∙ ap (λ (b : Body). first_collision b.contents) same ∙ ap first_collision (sym read.contents_are) ∙ first in
    absurd cc

pub collision_exact : (bytes : List ℕ) (troves : List TroveParts) (contents : List Carried) (name : List ℕ) (at : ℕ) (refusal : Refusal) → IsReadOf bytes troves contents
    → first_collision contents ≡ Some (name, at) → refusal ≡ Collision name at → (other : Refusal) → IsFirstFault bytes other → refusal ≡ other
collision_exact bytes troves contents name at refusal read first is other (inl unread) = absurd (no_stop bytes read.body unread.fault read.runs unread.stops)
collision_exact bytes troves contents name at refusal read first is other (inr collides) =
    let same : collides.body ≡ read.body = one_spelling bytes read.body collides.body read.runs collides.spelled in
    let both : ◌≡◌ {A = Option (List ℕ × ℕ)} (Some (collides.name, collides.at)) (Some (name, at)) =
    sym collides.first ∙ ap (λ (b : Body). first_collision b.contents) same ∙ ap first_collision (sym read.contents_are) ∙ first in
    let pair : ◌≡◌ {A = List ℕ × ℕ} (collides.name, collides.at) (name, at) = cc in
    is ∙ ap (λ (p : List ℕ × ℕ). Collision p.0 p.1) (sym pair) ∙ sym collides.refusal_is

-- ---- bytes that are no manifest

pub unread_is : (bytes : List ℕ) (f : Unread) (refusal : Refusal) → Stops AtMagic bytes f → refusal ≡ refusal_of (length bytes) f → IsFirstFault bytes refusal
unread_is bytes f refusal stop is = inl (record { fault = f; stops = stops_plain bytes f stop; refused = is })

pub unread_only : (bytes : List ℕ) (f : Unread) → Stops AtMagic bytes f → (other : Made) → Makes bytes other → ⊥
unread_only bytes f stop other is = no_spelling bytes f is.body stop is.spelled

pub unread_exact : (bytes : List ℕ) (f : Unread) (refusal : Refusal) → Stops AtMagic bytes f → refusal ≡ refusal_of (length bytes) f → (other : Refusal) → IsFirstFault bytes other
    → refusal ≡ other
unread_exact bytes f refusal stop is other (inl unread) = is ∙ ap (refusal_of (length bytes)) (one_stop bytes f unread.fault stop unread.stops) ∙ sym unread.refused
unread_exact bytes f refusal stop is other (inr collides) = absurd (no_spelling bytes f collides.body stop collides.spelled)

-- ---- the faults of contents

pub collision_fault : (bytes : List ℕ) (troves : List TroveParts) (contents : List Carried) (e : Fault) → IsReadOf bytes troves contents → IsCollisionOf contents e → IsFaultOf bytes e
collision_fault bytes troves contents (fault.Refused refusal) read is = collision_is bytes troves contents is.0 is.1 refusal read is.2 is.3
collision_fault bytes troves contents fault.Memory read is = tt

pub collision_memory : (bytes : List ℕ) (troves : List TroveParts) (contents : List Carried) (e : Fault) → IsReadOf bytes troves contents → IsCollisionOf contents e → (other : Made)
    → Makes bytes other → e ≡ fault.Memory
collision_memory bytes troves contents (fault.Refused refusal) read is other made = absurd (collision_only bytes troves contents is.0 is.1 read is.2 other made)
collision_memory bytes troves contents fault.Memory read is other made = refl

pub collision_same : (bytes : List ℕ) (troves : List TroveParts) (contents : List Carried) (e : Fault) → IsReadOf bytes troves contents → IsCollisionOf contents e → (other : Refusal)
    → IsFirstFault bytes other → IsRefusalOrMemory other e
collision_same bytes troves contents (fault.Refused refusal) read is other first = collision_exact bytes troves contents is.0 is.1 refusal read is.2 is.3 other first
collision_same bytes troves contents fault.Memory read is other first = tt

-- ---- the faults of bytes

pub unread_fault : (bytes : List ℕ) (e : ReadError) (f : Fault) → StopsBy AtMagic bytes e → f ≡ fault_from (length bytes) e → IsFaultOf bytes f
unread_fault bytes (errors.Unread u) f stop is = subst (IsFaultOf bytes) (sym is) (unread_is bytes u (refusal_of (length bytes) u) stop refl)
unread_fault bytes errors.Memory f stop is = subst (IsFaultOf bytes) (sym is) tt

pub unread_memory : (bytes : List ℕ) (e : ReadError) (f : Fault) → StopsBy AtMagic bytes e → f ≡ fault_from (length bytes) e → (other : Made) → Makes bytes other → f ≡ fault.Memory
unread_memory bytes (errors.Unread u) f stop is other made = absurd (unread_only bytes u stop other made)
unread_memory bytes errors.Memory f stop is other made = is

pub unread_same : (bytes : List ℕ) (e : ReadError) (f : Fault) → StopsBy AtMagic bytes e → f ≡ fault_from (length bytes) e → (other : Refusal) → IsFirstFault bytes other → IsRefusalOrMemory other f
unread_same bytes (errors.Unread u) f stop is other first =
    subst (IsRefusalOrMemory other) (sym is) (unread_exact bytes u (refusal_of (length bytes) u) stop refl other first)
unread_same bytes errors.Memory f stop is other first = subst (IsRefusalOrMemory other) (sym is) tt
