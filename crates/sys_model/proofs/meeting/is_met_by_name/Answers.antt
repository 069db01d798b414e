use Rattle.std.proofs.Common.{◌≡◌, sym, ◌∙◌}
use Rattle.std.specs.Cmp.Lexicographic.{bytes_decides}
use Rattle.std.specs.Str.{bytes_eq}
use Rattle.cny_dep.specs.declared.class.Class.TheVariants.{Trove}
use Rattle.dep_closure.proofs.Provided.{no_flags, flags_of_none}
use Rattle.repo_index.proofs.cny-base.Bools.{not_false}
use Rattle.sys_model.proofs.meeting.is_met_by_name.Goals as goal

pub returns : goal.returns
returns c =
    let class : Trove ≡ c.args.require.now.class = sym (c.is_trove_class.ensures.0 c.if-not-is_trove_class.false) ∙ c.class.ensures in
    let equal = not_false (bytes_eq c.name.result.now c.text.result.now) (sym c.ne.ensures ∙ c.if-ne.false) in
    let same = sym c.text.ensures.value ∙ sym ((bytes_decides c.name.result.now c.text.result.now).0 equal) ∙ c.name.ensures in (
      λ h. record {
        class = class;
        name = same;
        flags = no_flags c.args.require.now.flags (sym c.flags.ensures.value ∙ c.are_none.ensures.0 h);
      },
      λ is. c.are_none.ensures.1 (c.flags.ensures.value ∙ flags_of_none c.args.require.now.flags is.flags),
    )
