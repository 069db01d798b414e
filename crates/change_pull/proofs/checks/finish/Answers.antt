use Rattle.std.proofs.Common.{◌≡◌, ◌⊎◌, sym, ap, ◌∙◌, arith, rules}
use Rattle.change_pull.specs.declared.reading.Reading.{Reading}
use Rattle.change_pull.proofs.Whole.{part_opens, part_decides, content_opens, content_decides, end_opens, end_decides, the_end, on_two, err_map, tag_of}
use Rattle.change_pull.proofs.checks.finish.Goals as goal

pub returns-then-tag-eq-TROVE-clause-opens : goal.returns-then-tag-eq-TROVE-clause-opens
returns-then-tag-eq-TROVE-clause-opens c = λ set tag value written whole.
    let own : (c.args.reading.now.item.tag ≡ 0x10) ⊎ (c.args.reading.now.item.tag ≡ 0x11) = search rules in
    on_two c.finish_part.result (c.finish_part.ensures.found set.parts whole.kept.index) c.finish_part.ensures.same
    (λ found same. part_opens c.args.reading.now c.finish_part.new.reading c.args.dir.now set tag value written whole found.0 (tag_of tag c.args.reading.now.item.tag whole.item.gathered.tagged own) found.1 found.2 found.3
    (ap (λ (r : Reading). r.staged) same) (ap (λ (r : Reading). r.cutter) same) (ap (λ (r : Reading). r.start) same) (ap (λ (r : Reading). r.given) same) (ap (λ (r : Reading). r.ended) same))

pub returns-then-tag-eq-TROVE-clause-refused : goal.returns-then-tag-eq-TROVE-clause-refused
returns-then-tag-eq-TROVE-clause-refused c = λ set tag value written whole.
    let own : (c.args.reading.now.item.tag ≡ 0x10) ⊎ (c.args.reading.now.item.tag ≡ 0x11) = search rules in
    err_map c.finish_part.result c.finish_part.ensures.bad
    (λ halt bad. part_decides c.args.reading.now c.finish_part.new.reading c.args.dir.now set tag value written whole halt (tag_of tag c.args.reading.now.item.tag whole.item.gathered.tagged own) bad)

pub returns-then-tag-eq-CONTENT-clause-opens : goal.returns-then-tag-eq-CONTENT-clause-opens
returns-then-tag-eq-CONTENT-clause-opens c = λ set tag value written whole.
    let tagged = sym whole.item.gathered.tagged ∙ c.if-tag-eq-CONTENT.true in
    on_two c.finish_content.result (c.finish_content.ensures.found set value written whole.kept (whole.item.gathered.content tagged) whole.item.gathered.long) c.finish_content.ensures.same
    (λ found same. content_opens c.args.reading.now c.finish_content.new.reading c.args.dir.now set tag value written whole found.0 tagged found.1 found.2
    (ap (λ (r : Reading). r.parts) same) (ap (λ (r : Reading). r.index) same) (ap (λ (r : Reading). r.cutter) same) (ap (λ (r : Reading). r.start) same) (ap (λ (r : Reading). r.given) same) (ap (λ (r : Reading). r.ended) same))

pub returns-then-tag-eq-CONTENT-clause-refused : goal.returns-then-tag-eq-CONTENT-clause-refused
returns-then-tag-eq-CONTENT-clause-refused c = λ set tag value written whole.
    let tagged = sym whole.item.gathered.tagged ∙ c.if-tag-eq-CONTENT.true in
    err_map c.finish_content.result (c.finish_content.ensures.bad set value written whole.kept (whole.item.gathered.content tagged) whole.item.gathered.long)
    (λ halt bad. content_decides c.args.reading.now c.finish_content.new.reading c.args.dir.now set tag value written whole c.distinct_troves.ensures.unique c.distinct_rels.ensures.unique halt tagged bad)

pub returns-clause-opens : goal.returns-clause-opens
returns-clause-opens c = λ set tag value written whole.
    let own = whole.item.gathered.tagged in
    let tagged = the_end set tag whole.item.expected (λ e. omega (arith, e, own)) (λ e. omega (arith, e, own)) (λ e. omega (arith, e, own)) in
    on_two c.finish_set.result c.finish_set.ensures.empty c.finish_set.ensures.same
    (λ empty same. end_opens c.args.reading.now c.finish_set.new.reading c.args.dir.now set tag value written whole tagged empty
    (ap (λ (r : Reading). r.parts) same) (ap (λ (r : Reading). r.index) same) (ap (λ (r : Reading). r.staged) same) (ap (λ (r : Reading). r.cutter) same) (ap (λ (r : Reading). r.start) same) (ap (λ (r : Reading). r.given) same) (ap (λ (r : Reading). r.ended) same))

pub returns-clause-refused : goal.returns-clause-refused
returns-clause-refused c = λ set tag value written whole.
    let own = whole.item.gathered.tagged in
    let tagged = the_end set tag whole.item.expected (λ e. omega (arith, e, own)) (λ e. omega (arith, e, own)) (λ e. omega (arith, e, own)) in
    err_map c.finish_set.result c.finish_set.ensures.bad (λ halt bad. end_decides c.args.reading.now c.finish_set.new.reading c.args.dir.now set tag value written whole halt tagged bad)
