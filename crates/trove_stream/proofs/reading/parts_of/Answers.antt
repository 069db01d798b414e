use Rattle.std.proofs.Common.{◌≡◌, [], length, drop, Err, ap, arith}
use Rattle.std.proofs.lemmas.Result.{err_from_is_err_and}
use Rattle.trove_parts.specs.cny-base.declared.text.TextFault.TheVariants.{Bad}
use Rattle.trove_parts.specs.Deps.{deps_bytes}
use Rattle.trove_stream.specs.declared.parts.TroveParts.{TroveParts}
use Rattle.trove_stream.specs.Stream.{lists_bytes}
use Rattle.trove_stream.proofs.Lists.{behind_files, behind_refs, files_begin, refs_begin, requires_begin, provides_begin, whole}
use Rattle.cny_dep.proofs.Faults.{handed_on}
use Rattle.cny_version.proofs.cny-base.Lists.{is_end}
use Rattle.trove_stream.proofs.reading.parts_of.Goals as goal

pub returns-in_err-files-clause-bad : goal.returns-in_err-files-clause-bad
returns-in_err-files-clause-bad c h t lists limits same =
    let bytes = c.args.bytes.now in
    let met = handed_on c.from_residual-in_err-files.result c.in_err-files.field-0.0 Bad (err_from_is_err_and c.from_residual-in_err-files.result c.from_residual-in_err-files.ensures.1) h in
    let head = c.in_ok-head.ensures.only t.id (lists_bytes c.args.encoding t) lists.id same in
    c.in_err-files.ensures.bad (ap Err met) t.files (behind_files t) lists.files limits.files (files_begin c.args.encoding (drop c.in_ok-head.head.to bytes) t head.1)

pub returns-in_err-refs-clause-bad : goal.returns-in_err-refs-clause-bad
returns-in_err-refs-clause-bad c h t lists limits same =
    let bytes = c.args.bytes.now in
    let met = handed_on c.from_residual-in_err-refs.result c.in_err-refs.field-0.0 Bad (err_from_is_err_and c.from_residual-in_err-refs.result c.from_residual-in_err-refs.ensures.1) h in
    let head = c.in_ok-head.ensures.only t.id (lists_bytes c.args.encoding t) lists.id same in
    let files = c.in_ok-files.ensures.only t.files (behind_files t) lists.files (files_begin c.args.encoding (drop c.in_ok-head.head.to bytes) t head.1) in
    c.in_err-refs.ensures.bad (ap Err met) t.refs (behind_refs t) lists.refs limits.refs (refs_begin (drop c.in_ok-files.files.to bytes) t files.1)

pub returns-in_err-required-clause-bad : goal.returns-in_err-required-clause-bad
returns-in_err-required-clause-bad c h t lists limits same =
    let bytes = c.args.bytes.now in
    let met = handed_on c.from_residual-in_err-required.result c.in_err-required.field-0.0 Bad (err_from_is_err_and c.from_residual-in_err-required.result c.from_residual-in_err-required.ensures.1) h in
    let head = c.in_ok-head.ensures.only t.id (lists_bytes c.args.encoding t) lists.id same in
    let files = c.in_ok-files.ensures.only t.files (behind_files t) lists.files (files_begin c.args.encoding (drop c.in_ok-head.head.to bytes) t head.1) in
    let refs = c.in_ok-refs.ensures.only t.refs (behind_refs t) lists.refs (refs_begin (drop c.in_ok-files.files.to bytes) t files.1) in
    c.in_err-required.ensures.bad (ap Err met) t.requires_ (deps_bytes 7 t.provides) lists.requires limits.requires (requires_begin (drop c.in_ok-refs.refs.to bytes) t refs.1)

pub returns-in_err-provided-clause-bad : goal.returns-in_err-provided-clause-bad
returns-in_err-provided-clause-bad c h t lists limits same =
    let bytes = c.args.bytes.now in
    let met = handed_on c.from_residual-in_err-provided.result c.in_err-provided.field-0.0 Bad (err_from_is_err_and c.from_residual-in_err-provided.result c.from_residual-in_err-provided.ensures.1) h in
    let head = c.in_ok-head.ensures.only t.id (lists_bytes c.args.encoding t) lists.id same in
    let files = c.in_ok-files.ensures.only t.files (behind_files t) lists.files (files_begin c.args.encoding (drop c.in_ok-head.head.to bytes) t head.1) in
    let refs = c.in_ok-refs.ensures.only t.refs (behind_refs t) lists.refs (refs_begin (drop c.in_ok-files.files.to bytes) t files.1) in
    let required = c.in_ok-required.ensures.only t.requires_ (deps_bytes 7 t.provides) lists.requires (requires_begin (drop c.in_ok-refs.refs.to bytes) t refs.1) in
    c.in_err-provided.ensures.bad (ap Err met) t.provides [] lists.provides limits.provides (provides_begin (drop c.in_ok-required.required.to bytes) t required.1)

pub returns-then-provided-bytes-clause-bad : goal.returns-then-provided-bytes-clause-bad
returns-then-provided-bytes-clause-bad c _ t lists limits same =
    let bytes = c.args.bytes.now in
    let head = c.in_ok-head.ensures.only t.id (lists_bytes c.args.encoding t) lists.id same in
    let files = c.in_ok-files.ensures.only t.files (behind_files t) lists.files (files_begin c.args.encoding (drop c.in_ok-head.head.to bytes) t head.1) in
    let refs = c.in_ok-refs.ensures.only t.refs (behind_refs t) lists.refs (refs_begin (drop c.in_ok-files.files.to bytes) t files.1) in
    let required = c.in_ok-required.ensures.only t.requires_ (deps_bytes 7 t.provides) lists.requires (requires_begin (drop c.in_ok-refs.refs.to bytes) t refs.1) in
    let provided = c.in_ok-provided.ensures.only t.provides [] lists.provides (provides_begin (drop c.in_ok-required.required.to bytes) t required.1) in
    c.if-provided-bytes.true (is_end bytes c.in_ok-provided.provided.to c.in_ok-provided.ensures.found.within provided.1)

pub returns-clause-value : goal.returns-clause-value
returns-clause-value c =
    let bytes = c.args.bytes.now in
    let t : TroveParts = record { id = c.in_ok-head.head.id; files = c.in_ok-files.files.files; refs = c.in_ok-refs.refs.refs; requires_ = c.in_ok-required.required.deps; provides = c.in_ok-provided.provided.deps } in
    let end : c.in_ok-provided.provided.to ≡ length bytes = omega arith in
    whole c.args.encoding bytes t c.in_ok-head.head.to c.in_ok-files.files.to c.in_ok-refs.refs.to c.in_ok-required.required.to c.in_ok-provided.provided.to c.in_ok-head.ensures.found c.in_ok-files.ensures.found
    c.in_ok-refs.ensures.found c.in_ok-required.ensures.found c.in_ok-provided.ensures.found end

pub returns-clause-only : goal.returns-clause-only
returns-clause-only c t lists same =
    let bytes = c.args.bytes.now in
    let head = c.in_ok-head.ensures.only t.id (lists_bytes c.args.encoding t) lists.id same in
    let files = c.in_ok-files.ensures.only t.files (behind_files t) lists.files (files_begin c.args.encoding (drop c.in_ok-head.head.to bytes) t head.1) in
    let refs = c.in_ok-refs.ensures.only t.refs (behind_refs t) lists.refs (refs_begin (drop c.in_ok-files.files.to bytes) t files.1) in
    let required = c.in_ok-required.ensures.only t.requires_ (deps_bytes 7 t.provides) lists.requires (requires_begin (drop c.in_ok-refs.refs.to bytes) t refs.1) in
    let provided = c.in_ok-provided.ensures.only t.provides [] lists.provides (provides_begin (drop c.in_ok-required.required.to bytes) t required.1) in
    let ids = head.0 in
    let files_are = files.0 in
    let refs_are = refs.0 in
    let requires_are = required.0 in
    let provides_are = provided.0 in
    λ i. record { id = ids i; files = files_are i; refs = refs_are i; requires_ = requires_are i; provides = provides_are i }
