-- The line `end`.
use Rattle.std.proofs.Common.{◌≡◌, ℕ, true, false, arith, List, [], ◌∷◌, length, None, Ok, refl, sym, ap, ◌∙◌, subst, inl, ⊎_elim, codes}
use Rattle.std.specs.Prelude.{◌≢◌, ◌==◌}
use Rattle.std.proofs.lemmas.Bool.{true≢false, eqb-true}
use Rattle.manifest_troves.specs.trove-stream.declared.parts.TroveParts.{TroveParts}
use Rattle.manifest_troves.specs.change-set.declared.change.Carried.{Carried}
use Rattle.cny_manifest.specs.declared.fault.Unread.TheVariants.{At}
use Rattle.cny_manifest.specs.Body.{Body}
use Rattle.cny_manifest.specs.FirstFault.{fault_of, fault_by_size, too_large}
use Rattle.cny_manifest.specs.Grammar.{AtMagic, InBody, Ended, IsBodyLine}
use Rattle.cny_manifest.specs.Lines.{field_at, line_at, word_at}
use Rattle.cny_manifest.specs.Made.{CanEnd}
use Rattle.cny_manifest.specs.Reading.{IsOnly, Runs, Stops, IsEndOf, IsReadOf}
use Rattle.cny_manifest.proofs.Steps.{none_found, runs_line, runs_then, stops_line, stops_here, stops_after}

pub end_no_word : word_at (codes "end") ≡ None
unfolding field_at
end_no_word = refl

end_only : (b : Body) → CanEnd b → IsOnly (IsBodyLine b (codes "end")) (Ended b)
end_only b can =
    (inl (refl, can, refl), λ r other. ⊎_elim (λ end. end.2) (λ more. absurd (none_found (word_at (codes "end")) end_no_word (more.0, more.1) more.2)) other)

pub end_runs : (b : Body) (rest behind : List ℕ) → line_at rest ≡ Ok (codes "end", behind) → CanEnd b → Runs (InBody b) rest (Ended b) behind
end_runs b rest behind at can = runs_line (InBody b) rest (codes "end") behind (Ended b) tt at (end_only b can)

pub end_stops : (b : Body) (rest behind : List ℕ) → line_at rest ≡ Ok (codes "end", behind) → (CanEnd b → ⊥) → Stops (InBody b) rest (At (length rest))
end_stops b rest behind at cannot =
    stops_line (InBody b) rest (codes "end") behind (At (length rest)) tt at
    (λ q other. ⊎_elim (λ end. cannot end.1) (λ more. none_found (word_at (codes "end")) end_no_word (more.0, more.1) more.2) other)
    (ap (λ o. fault_by_size rest (too_large b o)) (sym end_no_word))

ended_fault : (b : Body) (rest : List ℕ) → At (length rest) ≡ fault_of (Ended b) rest
unfolding fault_of
ended_fault b rest = refl

-- further bytes behind it
pub more_stops : (b : Body) (rest behind : List ℕ) → line_at rest ≡ Ok (codes "end", behind) → CanEnd b → behind ≢ [] → Stops (InBody b) rest (At (length behind))
more_stops b rest behind at can more =
    stops_after (InBody b) rest (Ended b) behind (At (length behind)) (end_runs b rest behind at can)
    (stops_here (Ended b) behind (At (length behind)) (λ text left q spelled next. next.item) more (ended_fault b behind))

pub end_is : (b : Body) (rest behind : List ℕ) → line_at rest ≡ Ok (codes "end", behind) → CanEnd b → behind ≡ []
    → Runs (InBody b) rest (Ended b) []
end_is b rest behind at can none = subst (λ (l : List ℕ). Runs (InBody b) rest (Ended b) l) none (end_runs b rest behind at can)

pub read_is : (bytes rest : List ℕ) (b : Body) (troves : List TroveParts) (contents : List Carried) → Runs AtMagic bytes (InBody b) rest → IsEndOf b rest troves contents → IsReadOf bytes troves contents
read_is bytes rest b troves contents run end =
    record {
      body = b;
      runs = runs_then AtMagic bytes (InBody b) rest (Ended b) [] run end.runs;
      troves_are = end.troves_are;
      rising = end.rising;
      entries = end.entries;
      contents_are = end.contents_are;
    }

-- ---- emptiness

pub not_empty : (l : List ℕ) → (length l == 0) ≡ false → l ≢ []
not_empty l some none = true≢false (sym (ap (λ (k : List ℕ). length k == 0) none) ∙ some)

pub empty_list : (l : List ℕ) → (length l == 0) ≡ true → l ≡ []
empty_list [] e = refl
empty_list (x ∷ l) e = let none : length (x ∷ l) ≡ 0 = eqb-true (length (x ∷ l)) 0 e in absurd (omega arith)
