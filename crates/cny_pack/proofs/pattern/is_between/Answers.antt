use Rattle.std.proofs.Common.{Bool, ℕ, List, ◌&&◌, length, drop, sym, ap, ◌∙◌}
use Rattle.manifest_troves.specs.Policy.{ends_with}
use Rattle.cny_pack.proofs.pattern.is_between.Goals as goal

pub returns-in-None : goal.returns-in-None
returns-in-None c = sym (ap (λ (b : Bool). b && ends_with c.args.after.now (drop (length c.args.before.now) c.args.text.now)) c.in-None.ensures.cases)

pub returns-in-Some : goal.returns-in-Some
returns-in-Some c =
    c.ends_with.ensures.value
    ∙ ap (λ (l : List ℕ). ends_with c.args.after.now l) c.in-Some.ensures.cases.1
    ∙ sym (ap (λ (b : Bool). b && ends_with c.args.after.now (drop (length c.args.before.now) c.args.text.now)) c.in-Some.ensures.cases.0)
