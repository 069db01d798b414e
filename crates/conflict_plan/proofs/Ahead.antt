-- Lists that are made from the front.
use Rattle.std.proofs.Common.{◌≡◌, ℕ, ◌+◌, ◌<◌, Bool, true, false, cond, List, [], ◌∷◌, ◌++◌, length, take, drop, get_or, Option, Some, None, Result, Ok, Err, refl, sym, ◌∙◌, ap, append_assoc}
use Rattle.std.proofs.lemmas.List.{append-nil, drop_more, take_more}
use Rattle.trove_stream.specs.cny-base.declared.options.Options.{Options}
use Rattle.trove_stream.specs.cny-base.declared.refusal.Refusal.{Refusal}
use Rattle.trove_stream.specs.trove-parts.declared.files.FileAt.{FileAt}
use Rattle.trove_stream.specs.declared.parts.TroveParts.{TroveParts}
use Rattle.tree_scan.specs.tree-disk.Tree.{Name, Tree, same_name}
use Rattle.conflict_plan.specs.declared.drafting.Draft.{Draft}
use Rattle.conflict_plan.specs.declared.entries.Entry.{Entry}
use Rattle.conflict_plan.specs.declared.records.Recorded.{Recorded}
use Rattle.conflict_plan.specs.declared.records.Side.{Side}
use Rattle.conflict_plan.specs.Claims.{claims, claims_in}
use Rattle.conflict_plan.specs.Drafts.{draft_of, drafts_of, then_drafts}
use Rattle.conflict_plan.specs.Records.{noted, noted_all, or_nothing}
use Rattle.conflict_plan.proofs.Noting.{claims_in-append, claims-append, noted_append}

-- ---- drafts

-- these in front
abbrev pub ahead_of : List Draft → Result (List Draft) Refusal → Result (List Draft) Refusal
ahead_of made (Ok drafts) = Ok (made ++ drafts)
ahead_of made (Err why) = Err why

ahead_with : (made : List Draft) (draft : Draft) (rest : Result (List Draft) Refusal) → ahead_of made (then_drafts (Ok (Some draft)) rest) ≡ ahead_of (made ++ draft ∷ []) rest
ahead_with made draft (Ok drafts) = ap Ok (sym (append_assoc made (draft ∷ []) drafts))
ahead_with made draft (Err why) = refl

ahead_without : (made : List Draft) (rest : Result (List Draft) Refusal) → ahead_of made (then_drafts (Ok None) rest) ≡ ahead_of made rest
ahead_without made (Ok drafts) = refl
ahead_without made (Err why) = refl

module _ (options : Options) (tree : Tree) (all : List Entry) (n : ℕ) (e : Entry) (within : n < length all) (is_e : e ≡ get_or all n e) (made : List Draft) where
  split : drafts_of options tree (drop n all) ≡ then_drafts (draft_of options tree e) (drafts_of options tree (drop (n + 1) all))
  split = ap (drafts_of options tree) (drop_more all n e within) ∙ ap (λ x. then_drafts (draft_of options tree x) (drafts_of options tree (drop (n + 1) all))) (sym is_e)

  pub one_ahead : (draft : Draft) → draft_of options tree e ≡ Ok (Some draft) → ahead_of made (drafts_of options tree (drop n all)) ≡ ahead_of (made ++ draft ∷ []) (drafts_of options tree (drop (n + 1) all))
  one_ahead draft is = ap (ahead_of made) (split ∙ ap (λ o. then_drafts o (drafts_of options tree (drop (n + 1) all))) is) ∙ ahead_with made draft (drafts_of options tree (drop (n + 1) all))

  pub other_ahead : draft_of options tree e ≡ Ok None → ahead_of made (drafts_of options tree (drop n all)) ≡ ahead_of made (drafts_of options tree (drop (n + 1) all))
  other_ahead is = ap (ahead_of made) (split ∙ ap (λ o. then_drafts o (drafts_of options tree (drop (n + 1) all))) is) ∙ ahead_without made (drafts_of options tree (drop (n + 1) all))

  pub refused_ahead : (why : Refusal) → draft_of options tree e ≡ Err why → ahead_of made (drafts_of options tree (drop n all)) ≡ Err why
  refused_ahead why is = ap (ahead_of made) (split ∙ ap (λ o. then_drafts o (drafts_of options tree (drop (n + 1) all))) is)

-- ---- claims

-- one more claim
pub one_noted : (side : Side) (name : List ℕ) (file : FileAt) (path : Name) (was removed mid new : Option Recorded) (now : Recorded)
    → (same_name file.path path ≡ true → removed ≡ was) → (same_name file.path path ≡ false → mid ≡ was)
    → (same_name file.path path ≡ true → new ≡ Some now) → (same_name file.path path ≡ false → new ≡ mid)
    → now ≡ noted side (or_nothing removed) (name, file.rec) → new ≡ noted_all side (claims_in name (file ∷ []) path) was
one_noted side name file path was removed mid new now is_removed is_mid is_new is_other is_now = at (same_name file.path path) refl
  where
    at : (b : Bool) → same_name file.path path ≡ b → new ≡ noted_all side (cond b ((name, file.rec) ∷ []) []) was
    at true same = is_new same ∙ ap Some (is_now ∙ ap (λ o. noted side (or_nothing o) (name, file.rec)) (is_removed same))
    at false other = is_other other ∙ is_mid other

pub file_noted : (side : Side) (name : List ℕ) (files : List FileAt) (n : ℕ) (file : FileAt) (path : Name) (was mid new : Option Recorded) → n < length files → file ≡ get_or files n file
    → mid ≡ noted_all side (claims_in name (take n files) path) was → new ≡ noted_all side (claims_in name (file ∷ []) path) mid
    → new ≡ noted_all side (claims_in name (take (n + 1) files) path) was
file_noted side name files n file path was mid new within is_file is_mid is_new =
    is_new ∙ ap (noted_all side (claims_in name (file ∷ []) path)) is_mid
    ∙ sym (noted_append side (claims_in name (take n files) path) (claims_in name (file ∷ []) path) was)
    ∙ ap (λ l. noted_all side l was) (sym (claims_in-append name (take n files) (file ∷ []) path))
    ∙ ap (λ l. noted_all side (claims_in name l path) was) (ap (λ x. take n files ++ x ∷ []) is_file ∙ sym (take_more files n file within))

pub trove_noted : (side : Side) (list : List TroveParts) (n : ℕ) (t : TroveParts) (path : Name) (was mid new : Option Recorded) → n < length list → t ≡ get_or list n t
    → mid ≡ noted_all side (claims (take n list) path) was → new ≡ noted_all side (claims_in t.id.name t.files path) mid
    → new ≡ noted_all side (claims (take (n + 1) list) path) was
trove_noted side list n t path was mid new within is_t is_mid is_new =
    is_new ∙ ap (noted_all side (claims_in t.id.name t.files path)) is_mid
    ∙ ap (λ l. noted_all side l (noted_all side (claims (take n list) path) was)) (sym (append-nil (claims_in t.id.name t.files path)))
    ∙ sym (noted_append side (claims (take n list) path) (claims (t ∷ []) path) was)
    ∙ ap (λ l. noted_all side l was) (sym (claims-append (take n list) (t ∷ []) path))
    ∙ ap (λ l. noted_all side (claims l path) was) (ap (λ x. take n list ++ x ∷ []) is_t ∙ sym (take_more list n t within))
