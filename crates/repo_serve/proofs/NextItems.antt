-- The next item of a stream of requests.
use Rattle.std.proofs.Common.{◌≡◌, ◌≢◌, ◌⊎◌, inl, inr, ⊎_elim, ℕ, ◌-◌, ◌<◌, Bool, true, false, ◌||◌, IsTrue, List, [], ◌∷◌, ◌++◌, length, drop, refl, sym, ap, ◌∙◌, subst, arith, length-drop}
use Rattle.std.specs.Prelude.{nat_lt, if◌then◌else◌, slice_range, ◌==◌}
use Rattle.std.proofs.lemmas.List.{length-take}
use Rattle.std.proofs.lemmas.Bool.Decides.{nat_tests}
use Rattle.cny_stream.specs.Item.{FitsItem, IsItemAt, is_expected, item_bytes}
use Rattle.repo_load.proofs.cny-base.Below.{test_equal}
use Rattle.repo_mirror.specs.Requests.{request_end, request_tag, request_tags, IsItemOf}
use Rattle.repo_mirror.specs.declared.request.Request.{Request}
use Rattle.repo_mirror.specs.declared.request.Request.TheVariants.{Named, Content, Missing}
use Rattle.repo_mirror.specs.declared.request.TheConstants.{REQUESTS_LIMIT}
use Rattle.repo_serve.specs.Steps.{IsFault, IsNext}

-- ---- tags

first_or : (a b : Bool) → IsTrue (a || b) → IsTrue a ⊎ IsTrue b
first_or true b is = inl refl
first_or false b is = inr is

same_tag : (m n : ℕ) → IsTrue (m == n) → n ≡ m
same_tag m n is = sym (test_equal m n is)

abbrev IsRequestTag : ℕ → Type 0
IsRequestTag tag = (tag ≡ 0x70) ⊎ ((tag ≡ 0x71) ⊎ (tag ≡ 0x72))

-- a tag that is expected, and isn't that of the end
pub request_tag_there : (number tag : ℕ) → IsTrue (is_expected (request_tags number) tag) → tag ≢ 0x7F → (number < REQUESTS_LIMIT) × IsRequestTag tag
request_tag_there number tag expected not_end = by (nat_lt number REQUESTS_LIMIT) refl expected
  where
    last : IsTrue (is_expected (0x7F ∷ []) tag) → ⊥
    last is = ⊎_elim (λ same. not_end (same_tag 0x7F tag same)) (λ no. absurd (cc no)) (first_or (0x7F == tag) false is)

    first : IsTrue (is_expected (0x70 ∷ 0x71 ∷ 0x72 ∷ 0x7F ∷ []) tag) → IsRequestTag tag
    first is = ⊎_elim
        (λ same. inl (same_tag 0x70 tag same))
        (λ h. ⊎_elim
        (λ same. inr (inl (same_tag 0x71 tag same)))
        (λ h. ⊎_elim
        (λ same. inr (inr (same_tag 0x72 tag same)))
        (λ h. absurd (last h))
        (first_or (0x72 == tag) (is_expected (0x7F ∷ []) tag) h))
        (first_or (0x71 == tag) (is_expected (0x72 ∷ 0x7F ∷ []) tag) h))
        (first_or (0x70 == tag) (is_expected (0x71 ∷ 0x72 ∷ 0x7F ∷ []) tag) is)

    by : (b : Bool) → nat_lt number REQUESTS_LIMIT ≡ b → IsTrue (is_expected (if b then 0x70 ∷ 0x71 ∷ 0x72 ∷ 0x7F ∷ [] else 0x7F ∷ []) tag) → (number < REQUESTS_LIMIT) × IsRequestTag tag
    by true few is = (grind (arith, nat_tests), first is)
    by false many is = absurd (last is)

-- ---- the end

module _ (bytes : List ℕ) (from to : ℕ) (item : IsItemAt bytes 0 0x7F from to) where
  abbrev value : List ℕ
  value = slice_range bytes from to

  value_long : length value ≡ to - from
  value_long = omega (arith, length-take (to - from) (drop from bytes), length-drop from bytes, item.order, item.within)

  nothing : (l : List ℕ) → length l ≡ 0 → l ≡ []
  nothing [] is = refl
  nothing (x ∷ l) is = absurd (omega arith)

  pub end_there : from ≡ to → bytes ≡ request_end ++ drop 5 bytes
  end_there same =
      let none : value ≡ [] = nothing value (omega (arith, value_long)) in
      let five : to ≡ 5 = omega (arith, item.begins) in
      item.spelled ∙ ap (λ (l : List ℕ). item_bytes 0x7F l ++ drop to bytes) none ∙ ap (λ (n : ℕ). request_end ++ drop n bytes) five

  -- a value that the end hasn't
  pub no_end : (number : ℕ) → IsTrue (is_expected (request_tags number) 0x7F) → from ≢ to → IsFault number bytes
  no_end number expected differ = inr (record {
    tag = 0x7F;
    value = value;
    rest = drop to bytes;
    expected = expected;
    fits = item.fits;
    spelled = item.spelled;
    bad = λ good. ⊎_elim (λ (one : (request : Request) × IsItemOf 0x7F value request). no_request one.0 one.1.tagged) (λ (h : (0x7F ≡ 0x7F) × (value ≡ [])). differ (omega (arith, value_long, ap (λ (l : List ℕ). length l) h.1, item.order))) good;
  })
    where
      no_request : (request : Request) → 0x7F ≡ request_tag request → ⊥
      no_request (Named name) is = omega (arith, is)
      no_request (Content name) is = omega (arith, is)
      no_request (Missing ids) is = omega (arith, is)

-- ---- a request

module _ (bytes : List ℕ) (tag from to number : ℕ) (item : IsItemAt bytes 0 tag from to) (expected : IsTrue (is_expected (request_tags number) tag)) (not_end : tag ≢ 0x7F) where
  pub next_there : (request : Request) → IsItemOf tag (slice_range bytes from to) request → IsNext number bytes request to
  next_there request is = record {
    few = (request_tag_there number tag expected not_end).0;
    valid = is.valid;
    fits = subst FitsItem is.spelled item.fits;
    within = item.within;
    goes_on = omega (arith, item.begins, item.order);
    spelled = item.spelled ∙ ap (λ (t : ℕ). item_bytes t (slice_range bytes from to) ++ drop to bytes) is.tagged
        ∙ ap (λ (l : List ℕ). item_bytes (request_tag request) l ++ drop to bytes) is.spelled;
  }

  pub no_request : ((request : Request) → IsItemOf tag (slice_range bytes from to) request → ⊥) → IsFault number bytes
  no_request none = inr (record {
    tag = tag;
    value = slice_range bytes from to;
    rest = drop to bytes;
    expected = expected;
    fits = item.fits;
    spelled = item.spelled;
    bad = λ good. ⊎_elim (λ (one : (request : Request) × IsItemOf tag (slice_range bytes from to) request). none one.0 one.1) (λ (h : (tag ≡ 0x7F) × (slice_range bytes from to ≡ [])). not_end h.0) good;
  })
