use Rattle.std.proofs.Common.{sym, ◌∙◌, subst, All, Contains}
use Rattle.std.specs.Cmp.Lexicographic.{bytes_decides}
use Rattle.std.specs.Str.{bytes_eq}
use Rattle.cny_base.proofs.Bools.{not_false}
use Rattle.cny_dep.proofs.satisfying.satisfies.Goals as goal

pub returns : goal.returns
returns c =
    let classes = sym c.class.ensures ∙ c.is_same_class.ensures.0 c.if-not-is_same_class.false ∙ c.class-2.ensures in
    let same = not_false (bytes_eq c.name.result.now c.name-else-not-is_same_class.result.now) (sym c.ne.ensures ∙ c.if-ne.false) in
    let names = sym c.name.ensures ∙ (bytes_decides c.name.result.now c.name-else-not-is_same_class.result.now).0 same ∙ c.name-else-not-is_same_class.ensures in (
      λ h. record {
        class = classes;
        name = names;
        flags = subst (λ l. All (Contains l) c.args.require.now.flags) c.flags.ensures.value (subst (All (Contains c.flags.result.now)) c.flags-2.ensures.value (c.has_flags.ensures.0 h));
      },
      λ holds. c.has_flags.ensures.1 (subst (λ l. All (Contains l) c.flags-2.result.now) (sym c.flags.ensures.value) (subst (All (Contains c.args.provide.now.flags)) (sym c.flags-2.ensures.value) holds.flags)),
    )
