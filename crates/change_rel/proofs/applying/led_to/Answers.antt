use Rattle.std.proofs.Common.{Option, MatchOption, refl, sym, subst, ◌∙◌}
use Rattle.trove_stream.specs.declared.parts.TroveParts.{TroveParts}
use Rattle.trove_stream.specs.Leads.{LeadsNowhere}
use Rattle.change_rel.specs.Lists.{AreAmended}
use Rattle.change_rel.proofs.Leading.{led}
use Rattle.change_rel.proofs.applying.led_to.Goals as goal

pub returns-in-Some : goal.returns-in-Some
returns-in-Some c =
    led c.args.rel.now c.args.old.now c.in-Some.parts c.made_of.result c.requires (sym c.id.ensures.value ∙ c.if-not-is_same.ensures.0 refl)
    (subst (λ (o : Option TroveParts). MatchOption o (LeadsNowhere c.args.rel.now c.args.old.now) (AreAmended c.args.rel.now c.args.old.now)) c.in-Some.is c.in_ok-amended_parts.ensures) c.made_of.ensures
