use Rattle.std.proofs.Common.{◌∙◌, ap}
use Rattle.std.specs.Str.{bytes_eq}
use Rattle.cny_dep.specs.Canonical.{flavor_text}
use Rattle.cny_dep.proofs.Plain.{tells_equal}
use Rattle.cny_dep.proofs.flavor.FlavorPartialEq.eq.Goals as goal

pub returns-clause-same : goal.returns-clause-same
returns-clause-same c =
    tells_equal c.eq.result c.args.self.now c.args.other.now c.text.ensures.flavor c.text-2.ensures.flavor
    (c.eq.ensures ∙ ap (λ l. bytes_eq l c.text-2.result.now) c.text.ensures.value ∙ ap (bytes_eq (flavor_text c.args.self.now)) c.text-2.ensures.value)
