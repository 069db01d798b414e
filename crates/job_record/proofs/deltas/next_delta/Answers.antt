use Rattle.std.proofs.Common.{[], ◌∷◌, Err, ap, refl, sym, ◌∙◌, arith, append-nil, append_assoc}
use Rattle.std.specs.List.{flat_map}
use Rattle.std.proofs.lemmas.Result.{err_from_is_err_and}
use Rattle.std.proofs.lemmas.List.Elements.{All-head}
use Rattle.local_db.specs.cny-base.declared.text.TextFault.TheVariants.{Bad}
use Rattle.cny_stream.specs.Item.{item_bytes}
use Rattle.local_db.specs.RecordText.{IsToldEntry, delta_value, entries_text, entry_text}
use Rattle.local_db.specs.declared.record.Delta.TheVariants.{Came, Was, Turned}
use Rattle.local_db.specs.declared.record.ToldEntry.{ToldEntry}
use Rattle.job_record.proofs.DeltaItems.{below_entries, delta_not_entries, no_delta_here}
use Rattle.job_record.proofs.EntryItems.{entry_fits}
use Rattle.change_rel.proofs.cny-dep.Faults.{handed_on}
use Rattle.job_record.proofs.deltas.next_delta.Goals as goal

pub returns-in_default-clause-no_delta : goal.returns-in_default-clause-no_delta
returns-in_default-clause-no_delta c bad (Came id) rest is fits same = c.in_default.ensures.only 0x64 (delta_value c.args.format (Came id)) rest refl fits same
returns-in_default-clause-no_delta c bad (Was trove) rest is fits same = c.in_default.ensures.only 0x65 (delta_value c.args.format (Was trove)) rest refl fits same
returns-in_default-clause-no_delta c bad (Turned rel) rest is fits same = c.in_default.ensures.only 0x66 (delta_value c.args.format (Turned rel)) rest refl fits same

pub returns-in_default-clause-no_entries : goal.returns-in_default-clause-no_entries
returns-in_default-clause-no_entries c bad [] es_are e = c.in_default.ensures.only 0x6F [] [] refl (omega arith) (e ∙ sym (append-nil (item_bytes 0x6F [])))
returns-in_default-clause-no_entries c bad (x ∷ es) es_are e =
    c.in_default.ensures.only 0x67 (entry_text x) (entries_text es) refl (entry_fits x (All-head IsToldEntry x es es_are))
    (e ∙ append_assoc (item_bytes 0x67 (entry_text x)) (flat_map (λ (d : ToldEntry). item_bytes 0x67 (entry_text d)) es) (item_bytes 0x6F []))

pub returns-in_err-delta-clause-no_delta : goal.returns-in_err-delta-clause-no_delta
returns-in_err-delta-clause-no_delta c h =
    let met = handed_on c.from_residual.result c.in_err-delta.field-0.0 Bad (err_from_is_err_and c.from_residual.result c.from_residual.ensures.1) h in
    let item = c.in-Ok.item in
    no_delta_here c.args.format c.args.bytes.now c.args.at item.tag item.from item.to c.in-Ok.ensures.found (λ u is. c.in_err-delta.ensures.bad (ap Err met) u is)

pub returns-in_err-delta-clause-no_entries : goal.returns-in_err-delta-clause-no_entries
returns-in_err-delta-clause-no_entries c _ es es_are e =
    let item = c.in-Ok.item in
    delta_not_entries c.args.format c.args.bytes.now c.args.at item.tag item.from item.to c.in-Ok.ensures.found
    (below_entries item.tag c.in-Ok.ensures.expected c.if-item-eq-ENTRY.false c.if-item-eq-END.false) es es_are e
