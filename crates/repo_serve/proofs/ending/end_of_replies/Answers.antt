use Rattle.std.proofs.Common.{List, ℕ, Ok, Err, sym, subst}
use Rattle.repo_load.specs.cny-base.declared.refusal.Refusal.TheVariants.{Malformed}
use Rattle.repo_serve.specs.Replies.{Replies}
use Rattle.repo_serve.specs.Sessions.{HasEnded}
use Rattle.repo_serve.proofs.Halted.{ends_cut, ends_served}
use Rattle.repo_serve.proofs.ending.end_of_replies.Goals as goal

pub returns-then-is_ended : goal.returns-then-is_ended
returns-then-is_ended c = λ r given gained is_open.
    let both = c.is_ended.ensures.0 c.if-is_ended.true in
    subst (λ (l : List ℕ). HasEnded r given gained c.args.out.now l (Ok tt)) (sym c.in_ok-push_slice.ensures.ok) (ends_served r c.args.it.now given gained c.args.out.now both.0 both.1 is_open)

pub returns : goal.returns
returns c = λ r given gained is_open.
    let it = c.args.it.now in
    subst (λ (n : ℕ). Replies r given (Err (Malformed n))) (sym (c.in_ok-at.ensures r given gained is_open))
    (ends_cut it.begun r it given gained is_open (λ begun end. let yes = c.is_ended.ensures.1 (begun, end) in absurd (cc (yes, c.if-is_ended.false))))
