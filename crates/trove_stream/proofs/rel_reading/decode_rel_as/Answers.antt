use Rattle.std.proofs.Common.{◌≡◌, Result, Ok, Err, IfOk, IfErr, MatchResult, sym, ◌∙◌, subst}
use Rattle.trove_parts.specs.cny-base.declared.text.TextFault.{TextFault}
use Rattle.trove_parts.specs.cny-base.declared.text.TextFault.TheVariants.{Bad, Memory}
use Rattle.trove_stream.specs.declared.rel.RelParts.{RelParts}
use Rattle.trove_stream.specs.Rel.{IsRel}
use Rattle.trove_stream.proofs.rel_reading.decode_rel_as.Goals as goal

-- the parts that were read are those of the relative trove, which the rules don't refuse
decided : (r : Result RelParts TextFault) (parts rel : RelParts) → IfOk r (λ made. made ≡ parts) → IfErr r (λ fault. (fault ≡ Bad) × (IsRel parts → ⊥)) → parts ≡ rel → IsRel rel
    → MatchResult r (λ read. read ≡ rel) (λ fault. fault ≡ Memory)
decided (Ok made) parts rel value bad same is = value ∙ same
decided (Err fault) parts rel value bad same is = absurd (bad.1 (subst IsRel (sym same) is))

pub returns-clause-only : goal.returns-clause-only
returns-clause-only c rel is =
    decided c.of_parts.result c.in_ok-parts.parts rel c.of_parts.ensures.value c.of_parts.ensures.bad (c.in_ok-parts.ensures.only rel (record { parts = is.rel_is.parts; text = is.text })) is.rel_is
