use Rattle.std.proofs.Common.{◌≡◌, ℕ, List, [], length, Contains, eqb, None, is_some, refl, sym, ap, ◌∙◌, subst, true≢false}
use Rattle.std.specs.BTreeMap.{is_at}
use Rattle.std.specs.Cmp.Lexicographic.{slice_cmp}
use Rattle.std.specs.List.{IsDistinct}
use Rattle.std.specs.Map.{lookup}
use Rattle.std.specs.Ordering.{nat_cmp}
use Rattle.repo_index.specs.trove-stream.declared.parts.TroveParts.{TroveParts}
use Rattle.update_job.specs.Lists.{IsErased}
use Rattle.sys_model.specs.Fit.{place_of}
use Rattle.sys_model.specs.Growing.{AreByName, AreGathered, AreReplaced}
use Rattle.sys_model.proofs.Gathering.{none_gathered}
use Rattle.sys_model.proofs.GrownRounds.{none_by_name, none_distinct, none_replaced, served_all}
use Rattle.sys_model.proofs.round.Round.empty.Goals as goal

pub returns : goal.returns
returns c =
    let troves = c.args.known.now.catalogue.now.troves in
    let installed = c.args.known.now.installed.now in
    let fresh = c.new-2.result in
    let kept = c.in_ok-kept.kept in
    let empty : (name : List ℕ) → place_of fresh name ≡ None = λ name. ap (lookup (is_at (slice_cmp nat_cmp name))) c.new-2.ensures.empty in
    let none = c.new.ensures.empty in
    record {
      distinct = subst (IsDistinct eqb) (sym none) none_distinct;
      gathered = subst (λ (l : List ℕ). AreGathered troves [] l (length l)) (sym none) (none_gathered troves [] refl);
      by_name = subst (λ (l : List ℕ). AreByName troves l fresh) (sym none) (none_by_name troves fresh empty);
      replaced = subst (AreReplaced installed fresh) (sym c.new-3.ensures.items) (none_replaced installed fresh empty);
      erased = subst (λ (l : List (List ℕ)). IsErased installed l kept) (sym c.new-3.ensures.items) c.in_ok-kept.ensures;
      served = served_all troves fresh kept c.doubt_troves.new.doubted
          (λ name some. absurd (true≢false (sym some ∙ ap is_some (empty name))))
          (λ t among. c.in_ok-doubt_troves.ensures.all t (subst (λ (l : List TroveParts). Contains l t) (sym c.troves.ensures.value) among));
    }
