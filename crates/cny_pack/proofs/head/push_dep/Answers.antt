use Rattle.std.proofs.Common.{◌≡◌, ℕ, List, ◌∷◌, ◌++◌, sym, ap, ◌∙◌, subst}
use Rattle.cny_dep.specs.Dep.{dep_text}
use Rattle.cny_manifest.specs.Grammar.{IsLine}
use Rattle.cny_pack.proofs.Stopping.{handed, unread_more}
use Rattle.cny_pack.proofs.Heading.{four_parts, dep_field}
use Rattle.cny_pack.proofs.head.push_dep.Goals as goal

pub returns-clause-added : goal.returns-clause-added
returns-clause-added c =
    let dep = c.args.dep.now in
    let spelled : c.push_slice-4.new.self ≡ c.args.front.now ++ 32 ∷ (c.args.name.now ++ 32 ∷ dep_text dep) =
    four_parts c.args.front.now c.args.name.now (dep_text dep) c.in_ok-line.line c.push_slice.new.self c.push_slice-2.new.self c.push_slice-3.new.self c.push_slice-4.new.self c.in_ok-line.ensures c.in_ok-push_slice.ensures.ok
    (c.in_ok-push_slice-2.ensures.ok ∙ ap (λ (l : List ℕ). c.push_slice.new.self ++ l) (c.as_bytes.ensures.value ∙ c.text.ensures.value)) c.in_ok-push_slice-3.ensures.ok
    (c.in_ok-push_slice-4.ensures.ok ∙ ap (λ (l : List ℕ). c.push_slice-3.new.self ++ l) (c.as_bytes-2.ensures.value ∙ c.text-2.ensures.value)) in
    record {
      line = c.push_slice-4.new.self;
      fits = subst IsLine spelled c.in_ok-push_line.ensures.added.fits;
      is = record {
        text = dep_text dep;
        is = dep_field c.text-2.result.now dep c.text-2.utf8 c.text-2.ensures.value c.text-2.ensures.dependency;
        spelled = spelled;
        fits = c.in_ok-push_line.ensures.added.fits;
      };
      added = c.in_ok-push_line.ensures.added.added;
    }

pub returns-in_err-push_line-clause-refused : goal.returns-in_err-push_line-clause-refused
returns-in_err-push_line-clause-refused c =
    let dep = c.args.dep.now in
    let spelled : c.push_slice-4.new.self ≡ c.args.front.now ++ 32 ∷ (c.args.name.now ++ 32 ∷ dep_text dep) =
    four_parts c.args.front.now c.args.name.now (dep_text dep) c.in_ok-line.line c.push_slice.new.self c.push_slice-2.new.self c.push_slice-3.new.self c.push_slice-4.new.self c.in_ok-line.ensures c.in_ok-push_slice.ensures.ok
    (c.in_ok-push_slice-2.ensures.ok ∙ ap (λ (l : List ℕ). c.push_slice.new.self ++ l) (c.as_bytes.ensures.value ∙ c.text.ensures.value)) c.in_ok-push_slice-3.ensures.ok
    (c.in_ok-push_slice-4.ensures.ok ∙ ap (λ (l : List ℕ). c.push_slice-3.new.self ++ l) (c.as_bytes-2.ensures.value ∙ c.text-2.ensures.value)) in
    handed c.from_residual-in_err-push_line.result _ _ c.from_residual-in_err-push_line.ensures.1 (unread_more c.args.word _ (λ long fits. long (subst IsLine (sym spelled) fits)) c.in_err-push_line.ensures.refused)
