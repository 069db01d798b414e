use Rattle.std.proofs.Common.{◌≡◌, ◌-◌, ℕ, List, OnOk, IfErr, None, refl, sym, [], ◌++◌, subst, arith}
use Rattle.change_set.specs.FirstFault.{IsFirstFault}
use Rattle.cny_stream.specs.Item.{is_expected}
use Rattle.std.specs.Prelude.{IsTrue}
use Rattle.cny_stream.specs.Cut.{head_of}
use Rattle.cny_stream.specs.Decided.{Decided}
use Rattle.change_set.specs.cny-base.declared.refusal.Refusal.TheVariants.{TooLarge}
use Rattle.change_set.specs.cny-base.declared.refusal.What.TheVariants.{Content}
use Rattle.change_pull.specs.Files.{files_of}
use Rattle.change_pull.specs.Front.{front_bytes, tags_behind_set}
use Rattle.change_pull.specs.Halts.{IfRefusal}
use Rattle.change_pull.specs.Open.{IsOpenWith}
use Rattle.change_pull.proofs.Pushed.{begun_open, begun_whole, empty_item}
use Rattle.change_pull.proofs.Stops.{oversized_decides}
use Rattle.change_pull.proofs.checks.begin.Goals.{else-tag-eq-CONTENT-via-then-tag-eq-CONTENT+else-len-gt-CONTENT_ITEM_LIMIT, else-tag-eq-CONTENT-via-else-tag-eq-CONTENT}
use Rattle.change_pull.proofs.checks.begin.Goals as goal

pub returns-then-len-gt-CONTENT_ITEM_LIMIT-clause-refused : goal.returns-then-len-gt-CONTENT_ITEM_LIMIT-clause-refused
returns-then-len-gt-CONTENT_ITEM_LIMIT-clause-refused c = λ set begun.
    let tagged = c.if-tag-eq-CONTENT.true in
    let size : c.from.result ≡ c.args.len - 20 = omega (arith, c.from.ensures) in
    subst (λ (n : ℕ). Decided IsFirstFault (front_bytes set ++ head_of c.args.tag c.args.len) (TooLarge Content n)) (sym size)
    (subst (λ (t : ℕ). Decided IsFirstFault (front_bytes set ++ head_of t c.args.len) (TooLarge Content (c.args.len - 20))) (sym tagged)
    (oversized_decides set c.args.len begun.behind.set_is (subst (λ (t : ℕ). IsTrue (is_expected (tags_behind_set set) t)) tagged begun.expected) begun.fits (omega arith)))

pub returns-then-len-gt0-clause-opens : goal.returns-then-len-gt0-clause-opens
returns-then-len-gt0-clause-opens c = λ set begun.
    begun_open c.args.reading.now _ c.args.dir.now set c.args.tag c.args.len begun c.begin.ensures refl refl refl refl refl refl refl
    (λ content. elim c.else-tag-eq-CONTENT.branch [ else-tag-eq-CONTENT-via-then-tag-eq-CONTENT+else-len-gt-CONTENT_ITEM_LIMIT w ↦ omega arith | else-tag-eq-CONTENT-via-else-tag-eq-CONTENT w ↦ omega (arith, content) ])
    (omega arith)

pub returns-clause-opens : goal.returns-clause-opens
returns-clause-opens c = λ set begun.
    let none : c.args.len ≡ 0 = omega arith in
    subst (λ (l : List ℕ). OnOk c.finish.result (IsOpenWith c.finish.new.reading c.args.dir.now (front_bytes set ++ l) (files_of set.contents None))) (empty_item c.args.tag c.args.len none)
    (c.finish.ensures.opens set c.args.tag [] None
    (begun_whole c.args.reading.now _ c.args.dir.now set c.args.tag c.args.len begun c.begin.ensures refl refl refl refl refl refl refl
    (λ content. elim c.else-tag-eq-CONTENT.branch [ else-tag-eq-CONTENT-via-then-tag-eq-CONTENT+else-len-gt-CONTENT_ITEM_LIMIT w ↦ omega arith | else-tag-eq-CONTENT-via-else-tag-eq-CONTENT w ↦ omega (arith, content) ])
    none))

pub returns-clause-refused : goal.returns-clause-refused
returns-clause-refused c = λ set begun.
    let none : c.args.len ≡ 0 = omega arith in
    subst (λ (l : List ℕ). IfErr c.finish.result (IfRefusal (Decided IsFirstFault (front_bytes set ++ l)))) (empty_item c.args.tag c.args.len none)
    (c.finish.ensures.refused set c.args.tag [] None
    (begun_whole c.args.reading.now _ c.args.dir.now set c.args.tag c.args.len begun c.begin.ensures refl refl refl refl refl refl refl
    (λ content. elim c.else-tag-eq-CONTENT.branch [ else-tag-eq-CONTENT-via-then-tag-eq-CONTENT+else-len-gt-CONTENT_ITEM_LIMIT w ↦ omega arith | else-tag-eq-CONTENT-via-else-tag-eq-CONTENT w ↦ omega (arith, content) ])
    none))
