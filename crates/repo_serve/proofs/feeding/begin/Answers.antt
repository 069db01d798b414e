use Rattle.std.proofs.Common.{◌≡◌, ◌++◌, ◌∙◌, List, ℕ, true, inr, refl, sym, ap}
use Rattle.repo_load.specs.cny-base.Below.{begins_with}
use Rattle.repo_mirror.specs.Requests.{request_magic}
use Rattle.repo_serve.proofs.WholeStreams.{after_magic}
use Rattle.repo_serve.proofs.feeding.begin.Goals as goal

pub returns-clause-ok : goal.returns-clause-ok
returns-clause-ok c =
    let there : begins_with request_magic c.args.it.now.tail ≡ true = cc (c.has_magic.ensures, c.if-not-has_magic.false, c.get-2.ensures) in
    inr (record {
      before = cc (c.if-it.false);
      spelled = after_magic request_magic c.args.it.now.tail there ∙ ap (λ (l : List ℕ). request_magic ++ l) (sym c.in_ok-cut_front.ensures);
      begun = refl;
      answered = refl;
      put = c.in_ok-push_slice.ensures.ok;
    })
