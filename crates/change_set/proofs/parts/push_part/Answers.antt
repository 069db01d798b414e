use Rattle.std.proofs.Common.{List, Err, length, sym, ap, subst}
use Rattle.std.specs.Prelude.{slice_range}
use Rattle.trove_stream.specs.cny-base.declared.refusal.Refusal.TheVariants.{Malformed}
use Rattle.change_set.specs.declared.change.Part.{Part}
use Rattle.change_set.specs.Reading.{ArePartsTo, tags_behind}
use Rattle.change_set.proofs.Faults.{fault_of_whole}
use Rattle.change_set.proofs.Taking.{one_more, few_before, stops_behind, none_part, part_is_small}
use Rattle.change_set.proofs.parts.push_part.Goals as goal

pub returns-in_ok-push-in-Ok-clause-more : goal.returns-in_ok-push-in-Ok-clause-more
returns-in_ok-push-in-Ok-clause-more c =
    let bytes = c.args.bytes.now in
    let parts = c.args.parts.now.items in
    let item = c.args.item in
    let few = few_before (length parts) item.tag c.requires.expected c.requires.tagged in
    let more = one_more bytes parts c.args.at item.tag item.from item.to c.in-Ok.part c.requires.parts c.requires.item few c.in-Ok.ensures.found in
    subst (λ (l : List Part). ArePartsTo bytes l item.to) (sym c.in_ok-push-in-Ok.ensures.items) more

pub returns-in-Err-Bad-clause-refused : goal.returns-in-Err-Bad-clause-refused
returns-in-Err-Bad-clause-refused c =
    let bytes = c.args.bytes.now in
    let parts = c.args.parts.now.items in
    let item = c.args.item in
    let at = c.args.at in
    let none = none_part bytes parts at item.tag item.from item.to c.requires.item c.requires.tagged (λ part is. c.in-Err-Bad.ensures.bad (ap Err c.in-Err-Bad.field-0-is) part is) in
    let fault = fault_of_whole bytes (tags_behind (length parts)) at item.tag item.from item.to c.requires.parts.within c.requires.item c.requires.expected
    (part_is_small item.tag (slice_range bytes item.from item.to) c.requires.tagged) in
    stops_behind bytes parts at (Malformed at) c.requires.parts none (sym fault)
