-- The first of a list that passes a test, entry by entry.
use Rattle.std.proofs.Common.{◌≡◌, ℕ, ◌+◌, ◌<◌, Bool, true, false, cond, List, [], ◌∷◌, length, get_or, drop, Some, None, refl, sym, ◌∙◌, ap}
use Rattle.std.specs.List.{AllByRecursion}
use Rattle.std.proofs.lemmas.List.{at_drop_more}
use Rattle.local_db.specs.Record.{Entry}
use Rattle.past_jobs.specs.Seen.{first_path}

module _ (test : Entry → Bool) (list : List Entry) (k : ℕ) (x : Entry) (lt : k < length list) (is : x ≡ get_or list k x) where
  here : first_path test (drop k list) ≡ cond (test x) (Some x.path) (first_path test (drop (k + 1) list))
  here = at_drop_more (first_path test) list k x lt ∙ ap (λ (e : Entry). first_path test (e ∷ drop (k + 1) list)) (sym is)

  pub path_next : test x ≡ false → first_path test (drop k list) ≡ first_path test (drop (k + 1) list)
  path_next fails = here ∙ ap (λ b. cond b (Some x.path) (first_path test (drop (k + 1) list))) fails

  pub path_found : test x ≡ true → first_path test (drop k list) ≡ Some x.path
  path_found holds = here ∙ ap (λ b. cond b (Some x.path) (first_path test (drop (k + 1) list))) holds

-- where none passes, each fails
pub none_first : (test : Entry → Bool) (list : List Entry) → first_path test list ≡ None → AllByRecursion (λ e. test e ≡ false) list
none_first test [] none = tt
none_first test (e ∷ list) none = by (test e) refl (none_first test list) none
  where
    by : (b : Bool) → test e ≡ b → (first_path test list ≡ None → AllByRecursion (λ e. test e ≡ false) list) → cond b (Some e.path) (first_path test list) ≡ None → (test e ≡ false) × AllByRecursion (λ e. test e ≡ false) list
    by true is later none = absurd (cc none)
    by false fails later none = (fails, later none)
