-- Revision texts, and the revisions that they write.
use Rattle.std.proofs.Common.{◌≡◌, ℕ, true, false, cond, not, ◌&&◌, eqb, List, [], ◌∷◌, ◌++◌, Option, Some, None, refl, sym, ap, ◌∙◌, subst, arith}
use Rattle.std.proofs.lemmas.List.{append-nil}
use Rattle.std.specs.Char.{is_ascii_alphanumeric}
use Rattle.std.specs.List.{list_all, join_with_byte}
use Rattle.std.specs.Option.{option_map, option_and_then}
use Rattle.std.specs.Cmp.{first_so, second_so}
use Rattle.std.proofs.lemmas.Bool.{and_from}
use Rattle.std.proofs.lemmas.Bool.Decides.{nat_tests}
use Rattle.std.proofs.lemmas.List.Splits.{join_with_byte-slice_split}
use Rattle.cny_base.specs.Number.{is_digit}
use Rattle.cny_version.specs.declared.revision.Revision.{Revision}
use Rattle.cny_version.specs.Revision.{count_text, build_text, revision_text, is_upstream_byte, is_upstream, is_count, is_build, is_revision}
use Rattle.cny_version.specs.Reading.{cut, pieces, count_found, counts_found, revision_cut, revision_found}
use Rattle.cny_version.proofs.TextPieces.{is_free, cut_at, cut_free, cut_some}
use Rattle.cny_version.proofs.LabelTexts.{free_by_test, is_free-append}
use Rattle.cny_version.proofs.CountTexts.{count_parts, count_is, count_sound, count_free, count_text_back}
use Rattle.cny_version.proofs.Options.{bind_some, map_some, test_some}

-- ---- upstreams

alphanumeric_upstream : (b : ℕ) → is_ascii_alphanumeric b ≡ true → is_upstream_byte b ≡ true
alphanumeric_upstream b is = grind (arith, nat_tests)

upstream_bytes : (upstream : List ℕ) → is_upstream upstream ≡ true → list_all is_upstream_byte upstream ≡ true
upstream_bytes [] is = refl
upstream_bytes (b ∷ bs) is =
    and_from (is_upstream_byte b) (list_all is_upstream_byte bs) (alphanumeric_upstream b (first_so (is_ascii_alphanumeric b) (list_all is_upstream_byte bs) is))
    (second_so (is_ascii_alphanumeric b) (list_all is_upstream_byte bs) is)

upstream_free : (c : ℕ) → is_upstream_byte c ≡ false → (upstream : List ℕ) → is_upstream upstream ≡ true → is_free c upstream ≡ true
upstream_free c absent upstream is = free_by_test c is_upstream_byte upstream absent (upstream_bytes upstream is)

-- ---- the parts of a revision

pub record HasRevisionParts (depth : ℕ) (r : Revision) : Type 0 where
  pub upstream_is : is_upstream r.upstream ≡ true
  pub source_is : is_count depth r.source ≡ true
  pub build_is : is_build depth r.build ≡ true

pub revision_parts : (depth : ℕ) (r : Revision) → is_revision depth r ≡ true → HasRevisionParts depth r
revision_parts depth r is =
    let more : (is_count depth r.source && is_build depth r.build) ≡ true = second_so (is_upstream r.upstream) (is_count depth r.source && is_build depth r.build) is in
    record {
      upstream_is = first_so (is_upstream r.upstream) (is_count depth r.source && is_build depth r.build) is;
      source_is = first_so (is_count depth r.source) (is_build depth r.build) more;
      build_is = second_so (is_count depth r.source) (is_build depth r.build) more;
    }

pub revision_is : (depth : ℕ) (upstream source : List ℕ) (build : Option (List ℕ)) → is_upstream upstream ≡ true → is_count depth source ≡ true → is_build depth build ≡ true
    → is_revision depth (record { upstream = upstream; source = source; build = build }) ≡ true
revision_is depth upstream source build u s b =
    and_from (is_upstream upstream) (is_count depth source && is_build depth build) u (and_from (is_count depth source) (is_build depth build) s b)

is_count_free : (c depth : ℕ) (numbers : List ℕ) → is_digit c ≡ false → eqb 46 c ≡ false → is_count depth numbers ≡ true → is_free c (count_text numbers) ≡ true
is_count_free c depth numbers absent other is = count_free c numbers absent other (count_parts depth numbers is).fit

build_free : (c depth : ℕ) (build : Option (List ℕ)) → is_digit c ≡ false → eqb 46 c ≡ false → eqb 45 c ≡ false → is_build depth build ≡ true → is_free c (build_text build) ≡ true
build_free c depth None absent dot dash is = refl
build_free c depth (Some numbers) absent dot dash is =
    and_from (not (eqb 45 c)) (is_free c (count_text numbers)) (ap not dash) (is_count_free c depth numbers absent dot is)

-- a revision's text has no slash
pub revision_no_slash : (depth : ℕ) (r : Revision) → is_revision depth r ≡ true → is_free 47 (revision_text r) ≡ true
revision_no_slash depth r is =
    let p = revision_parts depth r is in
    is_free-append 47 r.upstream (45 ∷ (count_text r.source ++ build_text r.build)) (upstream_free 47 refl r.upstream p.upstream_is)
    (is_free-append 47 (count_text r.source) (build_text r.build) (is_count_free 47 depth r.source refl refl p.source_is) (build_free 47 depth r.build refl refl refl p.build_is))

-- ---- a revision's text is read as the revision

counts_back : (depth : ℕ) (r : Revision) → HasRevisionParts depth r → (build : Option (List ℕ)) → r.build ≡ build
    → counts_found depth r.upstream (count_text r.source ++ build_text r.build) (cut 45 (count_text r.source ++ build_text r.build)) ≡ Some r
counts_back depth r p None same =
    let text : List ℕ = count_text r.source in
    let rest : count_text r.source ++ build_text r.build ≡ text ++ [] = ap (λ o. text ++ build_text o) same in
    let plain : count_text r.source ++ build_text r.build ≡ text = rest ∙ append-nil text in
    let found : count_found depth (pieces 46 text) ≡ Some r.source = count_text_back depth r.source p.source_is in
    ap (λ t. counts_found depth r.upstream t (cut 45 t)) plain
    ∙ ap (counts_found depth r.upstream text) (cut_free 45 text (is_count_free 45 depth r.source refl refl p.source_is))
    ∙ ap (λ o. option_map (λ (source : List ℕ). made source None) o) found
    ∙ ap (λ o. Some (made r.source o)) (sym same)
  where
    made : List ℕ → Option (List ℕ) → Revision
    made source build = record { upstream = r.upstream; source = source; build = build }
counts_back depth r p (Some numbers) same =
    let text : List ℕ = count_text r.source in
    let rest : count_text r.source ++ build_text r.build ≡ text ++ 45 ∷ count_text numbers = ap (λ o. text ++ build_text o) same in
    let is : is_count depth numbers ≡ true = ap (is_build depth) (sym same) ∙ p.build_is in
    ap (λ t. counts_found depth r.upstream t (cut 45 t)) rest
    ∙ ap (counts_found depth r.upstream (text ++ 45 ∷ count_text numbers)) (cut_at 45 text (count_text numbers) (is_count_free 45 depth r.source refl refl p.source_is))
    ∙ ap (λ o. option_and_then (λ source. option_map (λ (build : List ℕ). made source (Some build)) (count_found depth (pieces 46 (count_text numbers)))) o) (count_text_back depth r.source p.source_is)
    ∙ ap (λ o. option_map (λ (build : List ℕ). made r.source (Some build)) o) (count_text_back depth numbers is)
    ∙ ap (λ o. Some (made r.source o)) (sym same)
  where
    made : List ℕ → Option (List ℕ) → Revision
    made source build = record { upstream = r.upstream; source = source; build = build }

pub revision_back : (depth : ℕ) (r : Revision) → is_revision depth r ≡ true → revision_found depth (revision_text r) ≡ Some r
unfolding revision_found
revision_back depth r is =
    let p = revision_parts depth r is in
    let rest : List ℕ = count_text r.source ++ build_text r.build in
    ap (revision_cut depth) (cut_at 45 r.upstream rest (upstream_free 45 refl r.upstream p.upstream_is))
    ∙ ap (λ t. cond t (counts_found depth r.upstream rest (cut 45 rest)) None) p.upstream_is
    ∙ counts_back depth r p r.build refl

-- ---- what is read is the text of the revision

pub record IsRevisionFound (depth : ℕ) (text : List ℕ) (r : Revision) : Type 0 where
  pub text_is : revision_text r ≡ text
  pub is : is_revision depth r ≡ true

count_text_of : (depth : ℕ) (text numbers : List ℕ) → count_found depth (pieces 46 text) ≡ Some numbers → (count_text numbers ≡ text) × (is_count depth numbers ≡ true)
count_text_of depth text numbers found =
    let k = count_sound depth (pieces 46 text) numbers found in
    (ap (join_with_byte 46) k.texts_are ∙ join_with_byte-slice_split 46 text, count_is depth (pieces 46 text) numbers k)

counts_sound : (depth : ℕ) (upstream text rest : List ℕ) (r : Revision) → text ≡ upstream ++ 45 ∷ rest → is_upstream upstream ≡ true → (o : Option (List ℕ × List ℕ)) → cut 45 rest ≡ o
    → counts_found depth upstream rest o ≡ Some r → IsRevisionFound depth text r
counts_sound depth upstream text rest r whole u None is found =
    let source = map_some (λ (source : List ℕ). made source) (count_found depth (pieces 46 rest)) r found in
    let k = count_text_of depth rest source.0 source.1 in
    let P : Revision → Type 0 = IsRevisionFound depth text in
    subst P source.2 (record {
      text_is = ap (λ t. upstream ++ 45 ∷ t) (append-nil (count_text source.0) ∙ k.0) ∙ sym whole;
      is = revision_is depth upstream source.0 None u k.1 refl;
    })
  where
    made : List ℕ → Revision
    made source = record { upstream = upstream; source = source; build = None }
counts_sound depth upstream text rest r whole u (Some p) is found =
    let source = bind_some (λ source. option_map (λ (build : List ℕ). made source build) (count_found depth (pieces 46 p.1))) (count_found depth (pieces 46 p.0)) r found in
    let build = map_some (λ (build : List ℕ). made source.0 build) (count_found depth (pieces 46 p.1)) r source.2 in
    let front = count_text_of depth p.0 source.0 source.1 in
    let back = count_text_of depth p.1 build.0 build.1 in
    let halves : rest ≡ p.0 ++ 45 ∷ p.1 = (cut_some 45 rest p.0 p.1 is).whole in
    let P : Revision → Type 0 = IsRevisionFound depth text in
    subst P build.2 (record {
      text_is = ap (λ t. upstream ++ 45 ∷ (t ++ 45 ∷ count_text build.0)) front.0
          ∙ ap (λ t. upstream ++ 45 ∷ (p.0 ++ 45 ∷ t)) back.0
          ∙ ap (λ (t : List ℕ). upstream ++ 45 ∷ t) (sym halves) ∙ sym whole;
      is = revision_is depth upstream source.0 (Some build.0) u front.1 back.1;
    })
  where
    made : List ℕ → List ℕ → Revision
    made source build = record { upstream = upstream; source = source; build = Some build }

revision_cut_sound : (depth : ℕ) (text : List ℕ) (r : Revision) (o : Option (List ℕ × List ℕ)) → cut 45 text ≡ o → revision_cut depth o ≡ Some r → IsRevisionFound depth text r
revision_cut_sound depth text r None is found = absurd (cc found)
revision_cut_sound depth text r (Some p) is found =
    let k = test_some (is_upstream p.0) (counts_found depth p.0 p.1 (cut 45 p.1)) r found in
    counts_sound depth p.0 text p.1 r (cut_some 45 text p.0 p.1 is).whole k.0 (cut 45 p.1) refl k.1

pub revision_sound : (depth : ℕ) (text : List ℕ) (r : Revision) → revision_found depth text ≡ Some r → IsRevisionFound depth text r
unfolding revision_found
revision_sound depth text r found = revision_cut_sound depth text r (cut 45 text) refl found
