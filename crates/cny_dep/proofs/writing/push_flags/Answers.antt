use Rattle.std.proofs.Common.{◌≡◌, ◌++◌, List, ℕ, get_or, arith, lit<, ap, subst, sym, ◌∙◌, string_bytes}
use Rattle.cny_dep.proofs.Texts.{pushed_flags}
use Rattle.cny_dep.proofs.writing.push_flags.Goals as goal

pub returns : goal.returns
returns c =
    let first : c.text.result.now ≡ get_or c.args.flags.now 0 c.text.result.now =
    subst (λ (x : List ℕ). x ≡ get_or c.args.flags.now 0 x) (sym c.text.ensures.value) c.first-item.is in
    let opened = c.in_ok-push.ensures.bytes ∙ ap (λ l. string_bytes c.args.text.now ++ l) (c.in_ok-push.ensures.ascii (lit< tt)) in
    let closed = c.in_ok-push-2.ensures.bytes ∙ ap (λ l. string_bytes c.push_spaced.new.text ++ l) (c.in_ok-push-2.ensures.ascii (lit< tt)) in
    pushed_flags (string_bytes c.args.text.now) (string_bytes c.push.new.self) (string_bytes c.push_str.new.self) (string_bytes c.push_spaced.new.text) (string_bytes c.push-2.new.self)
    c.text.result.now c.args.flags.now (omega arith) first opened c.in_ok-push_str.ensures.bytes c.in_ok-push_spaced.ensures closed
