-- The names of the contents that are sent, gathered from trove to trove.
use Rattle.std.proofs.Common.{◌≡◌, ℕ, ◌+◌, ◌<◌, ◌⊎◌, ⊎_elim, inl, inr, List, [], ◌∷◌, ◌++◌, length, get_or, take, Contains, sym, ap, ◌∙◌, subst}
use Rattle.std.specs.Prelude.{◌↔◌}
use Rattle.std.specs.Cmp.Lexicographic.{slice_cmp, nat_list_cmp_total, nat_list_eq_equiv, texts_ties}
use Rattle.std.specs.List.{dedup}
use Rattle.std.specs.List.Retain.{IsFiltered, DiffersFromLast}
use Rattle.std.specs.List.Sorted.{IsPermutation, IsSorted}
use Rattle.std.specs.Ordering.{nat_cmp}
use Rattle.std.specs.Str.{bytes_eq}
use Rattle.std.proofs.lemmas.List.{take_more}
use Rattle.std.proofs.lemmas.List.Elements.{Contains-append_left, Contains-append_right, Contains-append_cases, Contains-push, Contains-push_cases}
use Rattle.std.proofs.lemmas.List.Filters.{dedup_is}
use Rattle.std.proofs.lemmas.List.Kept.{Contains-dedup, Contains-from_dedup, IsStrictlySortedBy-dedup}
use Rattle.std.proofs.lemmas.List.Sorted.{Contains-permutation, IsPermutation-sym}
use Rattle.std.proofs.lemmas.Slice.Eq.{bytes_eq-Decides}
use Rattle.repo_load.specs.trove-parts.declared.files.FileAt.{FileAt}
use Rattle.repo_load.specs.trove-stream.declared.parts.TroveParts.{TroveParts}
use Rattle.change_rel.specs.Sending.{AreSent, SendsName}
use Rattle.repository.specs.Between.{old_files, SendsContent}
use Rattle.repository.specs.BetweenSteps.{AreNames}
use Rattle.change_rel.proofs.cny-base.Lists.{nothing_in}

-- the names of one trove behind those that were gathered
pub appended : (names new sent : List (List ℕ)) (old fresh : List FileAt) → new ≡ names ++ sent → AreSent old fresh sent → (name : List ℕ) → Contains new name ↔ (Contains names name ⊎ SendsName old fresh name)
appended names new sent old fresh is are name = (
  (λ h. ⊎_elim (λ there. inl there) (λ more. inr ((are.each name).0 more)) (Contains-append_cases names sent name (subst (λ (l : List (List ℕ)). Contains l name) is h))),
  (λ h. subst (λ (l : List (List ℕ)). Contains l name) (sym is)
      (⊎_elim (λ there. Contains-append_left names sent name there) (λ sends. Contains-append_right names sent name ((are.each name).1 sends)) h)),
)

-- nothing is sent of no troves
pub none_sent : (old : List TroveParts) (names : List (List ℕ)) → names ≡ [] → (name : List ℕ) → Contains names name ↔ SendsContent old [] name
none_sent old names is name = (
  (λ h. absurd (nothing_in name (subst (λ (l : List (List ℕ)). Contains l name) is h))),
  (λ sends. absurd (nothing_in sends.trove sends.there)),
)

-- one trove more
pub sends_more : (old fresh : List TroveParts) (t : TroveParts) (name : List ℕ) → SendsContent old (fresh ++ t ∷ []) name ↔ (SendsContent old fresh name ⊎ SendsName (old_files old t) t.files name)
sends_more old fresh t name = (
  (λ h. ⊎_elim
      (λ there. inl (record { trove = h.trove; there = there; sends = h.sends }))
      (λ e. inr (subst (λ (u : TroveParts). SendsName (old_files old u) u.files name) (sym e) h.sends))
      (Contains-push_cases fresh t h.trove h.there)),
  (λ h. ⊎_elim
      (λ s. record { trove = s.trove; there = Contains-append_left fresh (t ∷ []) s.trove s.there; sends = s.sends })
      (λ s. record { trove = t; there = Contains-push fresh t; sends = s })
      h),
)

pub gathered_more : (old fresh : List TroveParts) (names new : List (List ℕ)) (i : ℕ) (t : TroveParts) → i < length fresh → t ≡ get_or fresh i t
    → ((name : List ℕ) → Contains names name ↔ SendsContent old (take i fresh) name) → ((name : List ℕ) → Contains new name ↔ (Contains names name ⊎ SendsName (old_files old t) t.files name))
    → (name : List ℕ) → Contains new name ↔ SendsContent old (take (i + 1) fresh) name
gathered_more old fresh names new i t within is so_far more name =
    let front : take (i + 1) fresh ≡ take i fresh ++ t ∷ [] = take_more fresh i t within ∙ ap (λ (u : TroveParts). take i fresh ++ u ∷ []) (sym is) in
    let both = sends_more old (take i fresh) t name in
    subst (λ (l : List TroveParts). Contains new name ↔ SendsContent old l name) (sym front) (
      (λ h. both.1 (⊎_elim (λ there. inl ((so_far name).0 there)) (λ s. inr s) ((more name).0 h))),
      (λ h. (more name).1 (⊎_elim (λ there. inl ((so_far name).1 there)) (λ s. inr s) (both.0 h))),
    )

-- the names, sorted and each once
pub gathered_once : (old fresh : List TroveParts) (names sorted kept made : List (List ℕ)) → ((name : List ℕ) → Contains names name ↔ SendsContent old fresh name) → IsPermutation names sorted → IsSorted (slice_cmp nat_cmp) sorted
    → IsFiltered (DiffersFromLast bytes_eq) [] sorted kept → made ≡ kept → AreNames old fresh made
gathered_once old fresh names sorted kept made each moved order filtered made_is =
    let is : kept ≡ dedup bytes_eq sorted = dedup_is bytes_eq sorted kept filtered in
    subst (AreNames old fresh) (sym (made_is ∙ is)) (record {
      rising = IsStrictlySortedBy-dedup nat_list_cmp_total texts_ties sorted order;
      each = λ name. (
        (λ h. (each name).0 (Contains-permutation sorted names name (IsPermutation-sym names sorted moved) (Contains-from_dedup bytes_eq sorted name h))),
        (λ s. Contains-dedup nat_list_eq_equiv (λ x y e. (bytes_eq-Decides x y).0 e) sorted name (Contains-permutation names sorted name moved ((each name).1 s))),
      );
    })
