use Rattle.std.proofs.Common.{◌≡◌, [], drop, length, Err, sym, ap, ◌∙◌, subst, arith}
use Rattle.std.proofs.lemmas.Result.{err_from_is_err_and}
use Rattle.trove_parts.specs.cny-base.declared.text.TextFault.TheVariants.{Bad}
use Rattle.trove_stream.specs.declared.rel.RelParts.{RelParts}
use Rattle.trove_stream.specs.RelBytes.{IsSpelled}
use Rattle.trove_stream.proofs.RelStreamParts.{files_part, refs_part, requires_part, provides_part, begins_files, begins_refs, begins_requires, begins_provides}
use Rattle.trove_stream.proofs.Whole.{whole}
use Rattle.cny_dep.proofs.Faults.{handed_on}
use Rattle.cny_version.proofs.cny-base.Lists.{is_end as not_at_end}
use Rattle.trove_stream.proofs.rel_reading.read_parts.Goals as goal

pub returns-in_err-ids-clause-bad : goal.returns-in_err-ids-clause-bad
returns-in_err-ids-clause-bad c h rel is =
    let met : c.in_err-ids.field-0.0 ≡ Bad = handed_on c.from_residual.result c.in_err-ids.field-0.0 Bad (err_from_is_err_and c.from_residual.result c.from_residual.ensures.1) h in
    c.in_err-ids.ensures.bad (ap Err met) rel.old rel.fresh (files_part c.args.encoding rel) is.parts.old is.parts.fresh is.text

pub returns-in_err-files-clause-bad : goal.returns-in_err-files-clause-bad
returns-in_err-files-clause-bad c h rel is =
    let bytes = c.args.bytes.now in
    let met : c.in_err-files.field-0.0 ≡ Bad = handed_on c.from_residual-in_err-files.result c.in_err-files.field-0.0 Bad (err_from_is_err_and c.from_residual-in_err-files.result c.from_residual-in_err-files.ensures.1) h in
    let ids = c.in_ok-ids.ensures.only rel.old rel.fresh (files_part c.args.encoding rel) is.parts.old is.parts.fresh is.text in
    c.in_err-files.ensures.bad (ap Err met) rel.paths_gone rel.files_set (refs_part rel) is.parts.paths_gone is.parts.files_set (begins_files c.args.encoding (drop c.in_ok-ids.to bytes) rel ids.2)

pub returns-in_err-refs-clause-bad : goal.returns-in_err-refs-clause-bad
returns-in_err-refs-clause-bad c h rel is =
    let bytes = c.args.bytes.now in
    let met : c.in_err-refs.field-0.0 ≡ Bad = handed_on c.from_residual-in_err-refs.result c.in_err-refs.field-0.0 Bad (err_from_is_err_and c.from_residual-in_err-refs.result c.from_residual-in_err-refs.ensures.1) h in
    let ids = c.in_ok-ids.ensures.only rel.old rel.fresh (files_part c.args.encoding rel) is.parts.old is.parts.fresh is.text in
    let files = c.in_ok-files.ensures.only rel.paths_gone rel.files_set (refs_part rel) is.parts.paths_gone is.parts.files_set (begins_files c.args.encoding (drop c.in_ok-ids.to bytes) rel ids.2) in
    c.in_err-refs.ensures.bad (ap Err met) rel.refs_gone rel.refs_added (requires_part rel) is.parts.refs_gone is.parts.refs_added (begins_refs (drop c.in_ok-files.to bytes) rel files.2)

pub returns-in_err-required-clause-bad : goal.returns-in_err-required-clause-bad
returns-in_err-required-clause-bad c h rel is =
    let bytes = c.args.bytes.now in
    let met : c.in_err-required.field-0.0 ≡ Bad = handed_on c.from_residual-in_err-required.result c.in_err-required.field-0.0 Bad (err_from_is_err_and c.from_residual-in_err-required.result c.from_residual-in_err-required.ensures.1) h in
    let ids = c.in_ok-ids.ensures.only rel.old rel.fresh (files_part c.args.encoding rel) is.parts.old is.parts.fresh is.text in
    let files = c.in_ok-files.ensures.only rel.paths_gone rel.files_set (refs_part rel) is.parts.paths_gone is.parts.files_set (begins_files c.args.encoding (drop c.in_ok-ids.to bytes) rel ids.2) in
    let refs = c.in_ok-refs.ensures.only rel.refs_gone rel.refs_added (requires_part rel) is.parts.refs_gone is.parts.refs_added (begins_refs (drop c.in_ok-files.to bytes) rel files.2) in
    c.in_err-required.ensures.bad (ap Err met) rel.requires_gone rel.requires_added (provides_part rel) is.parts.requires_gone is.parts.requires_added (begins_requires (drop c.in_ok-refs.to bytes) rel refs.2)

pub returns-in_err-provided-clause-bad : goal.returns-in_err-provided-clause-bad
returns-in_err-provided-clause-bad c h rel is =
    let bytes = c.args.bytes.now in
    let met : c.in_err-provided.field-0.0 ≡ Bad = handed_on c.from_residual-in_err-provided.result c.in_err-provided.field-0.0 Bad (err_from_is_err_and c.from_residual-in_err-provided.result c.from_residual-in_err-provided.ensures.1) h in
    let ids = c.in_ok-ids.ensures.only rel.old rel.fresh (files_part c.args.encoding rel) is.parts.old is.parts.fresh is.text in
    let files = c.in_ok-files.ensures.only rel.paths_gone rel.files_set (refs_part rel) is.parts.paths_gone is.parts.files_set (begins_files c.args.encoding (drop c.in_ok-ids.to bytes) rel ids.2) in
    let refs = c.in_ok-refs.ensures.only rel.refs_gone rel.refs_added (requires_part rel) is.parts.refs_gone is.parts.refs_added (begins_refs (drop c.in_ok-files.to bytes) rel files.2) in
    let required = c.in_ok-required.ensures.only rel.requires_gone rel.requires_added (provides_part rel) is.parts.requires_gone is.parts.requires_added (begins_requires (drop c.in_ok-refs.to bytes) rel refs.2) in
    c.in_err-provided.ensures.bad (ap Err met) rel.provides_gone rel.provides_added [] is.parts.provides_gone is.parts.provides_added (begins_provides (drop c.in_ok-required.to bytes) rel required.2)

pub returns-then-to-bytes-clause-bad : goal.returns-then-to-bytes-clause-bad
returns-then-to-bytes-clause-bad c h rel is =
    let bytes = c.args.bytes.now in
    let ids = c.in_ok-ids.ensures.only rel.old rel.fresh (files_part c.args.encoding rel) is.parts.old is.parts.fresh is.text in
    let files = c.in_ok-files.ensures.only rel.paths_gone rel.files_set (refs_part rel) is.parts.paths_gone is.parts.files_set (begins_files c.args.encoding (drop c.in_ok-ids.to bytes) rel ids.2) in
    let refs = c.in_ok-refs.ensures.only rel.refs_gone rel.refs_added (requires_part rel) is.parts.refs_gone is.parts.refs_added (begins_refs (drop c.in_ok-files.to bytes) rel files.2) in
    let required = c.in_ok-required.ensures.only rel.requires_gone rel.requires_added (provides_part rel) is.parts.requires_gone is.parts.requires_added (begins_requires (drop c.in_ok-refs.to bytes) rel refs.2) in
    let provided = c.in_ok-provided.ensures.only rel.provides_gone rel.provides_added [] is.parts.provides_gone is.parts.provides_added (begins_provides (drop c.in_ok-required.to bytes) rel required.2) in
    let end : c.in_ok-provided.to ≡ length bytes = not_at_end bytes c.in_ok-provided.to c.in_ok-provided.ensures.found.within provided.2 in
    absurd (omega (arith, c.if-to-bytes.true))

pub returns-clause-found : goal.returns-clause-found
returns-clause-found c =
    let rel : RelParts = record {
      old = c.in_ok-ids.ids.old;
      fresh = c.in_ok-ids.ids.fresh;
      paths_gone = c.in_ok-files.files.old;
      files_set = c.in_ok-files.files.fresh;
      refs_gone = c.in_ok-refs.refs.old;
      refs_added = c.in_ok-refs.refs.fresh;
      requires_gone = c.in_ok-required.required.old;
      requires_added = c.in_ok-required.required.fresh;
      provides_gone = c.in_ok-provided.provided.old;
      provides_added = c.in_ok-provided.provided.fresh;
    } in
    subst (λ (r : RelParts). IsSpelled c.args.encoding r c.args.bytes.now) (sym c.of_pairs.ensures) (record {
      parts = record {
        old = c.in_ok-ids.ensures.old;
        fresh = c.in_ok-ids.ensures.fresh;
        paths_gone = c.in_ok-files.ensures.gone;
        files_set = c.in_ok-files.ensures.set;
        refs_gone = c.in_ok-refs.ensures.gone;
        refs_added = c.in_ok-refs.ensures.added;
        requires_gone = c.in_ok-required.ensures.gone;
        requires_added = c.in_ok-required.ensures.added;
        provides_gone = c.in_ok-provided.ensures.gone;
        provides_added = c.in_ok-provided.ensures.added;
      };
      text = whole c.args.encoding c.args.bytes.now rel c.in_ok-ids.to c.in_ok-files.to c.in_ok-refs.to c.in_ok-required.to c.in_ok-provided.to
          c.in_ok-ids.ensures.found c.in_ok-files.ensures.found c.in_ok-refs.ensures.found c.in_ok-required.ensures.found c.in_ok-provided.ensures.found (omega (arith, c.if-to-bytes.false));
    })

pub returns-clause-only : goal.returns-clause-only
returns-clause-only c rel is =
    let bytes = c.args.bytes.now in
    let ids = c.in_ok-ids.ensures.only rel.old rel.fresh (files_part c.args.encoding rel) is.parts.old is.parts.fresh is.text in
    let files = c.in_ok-files.ensures.only rel.paths_gone rel.files_set (refs_part rel) is.parts.paths_gone is.parts.files_set (begins_files c.args.encoding (drop c.in_ok-ids.to bytes) rel ids.2) in
    let refs = c.in_ok-refs.ensures.only rel.refs_gone rel.refs_added (requires_part rel) is.parts.refs_gone is.parts.refs_added (begins_refs (drop c.in_ok-files.to bytes) rel files.2) in
    let required = c.in_ok-required.ensures.only rel.requires_gone rel.requires_added (provides_part rel) is.parts.requires_gone is.parts.requires_added (begins_requires (drop c.in_ok-refs.to bytes) rel refs.2) in
    let provided = c.in_ok-provided.ensures.only rel.provides_gone rel.provides_added [] is.parts.provides_gone is.parts.provides_added (begins_provides (drop c.in_ok-required.to bytes) rel required.2) in
    let same : record {
      old = c.in_ok-ids.ids.old;
      fresh = c.in_ok-ids.ids.fresh;
      paths_gone = c.in_ok-files.files.old;
      files_set = c.in_ok-files.files.fresh;
      refs_gone = c.in_ok-refs.refs.old;
      refs_added = c.in_ok-refs.refs.fresh;
      requires_gone = c.in_ok-required.required.old;
      requires_added = c.in_ok-required.required.fresh;
      provides_gone = c.in_ok-provided.provided.old;
      provides_added = c.in_ok-provided.provided.fresh;
    } ≡ rel =
    (λ i. record {
      old = ids.0 i;
      fresh = ids.1 i;
      paths_gone = files.0 i;
      files_set = files.1 i;
      refs_gone = refs.0 i;
      refs_added = refs.1 i;
      requires_gone = required.0 i;
      requires_added = required.1 i;
      provides_gone = provided.0 i;
      provides_added = provided.1 i;
    }) in
    c.of_pairs.ensures ∙ same
