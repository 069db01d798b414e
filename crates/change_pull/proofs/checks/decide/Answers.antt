use Rattle.std.proofs.Common.{List, ℕ, IfErr, refl, sym, subst}
use Rattle.std.proofs.lemmas.Result.{on_ok_weaker}
use Rattle.cny_stream.specs.Decided.{Decided}
use Rattle.cny_stream.specs.declared.cutter.Event.{Event}
use Rattle.cny_stream.specs.declared.cutter.Event.TheVariants.{Value}
use Rattle.std.specs.Prelude.{Bool}
use Rattle.change_set.specs.FirstFault.{IsFirstFault}
use Rattle.change_pull.specs.Halts.{IfRefusal}
use Rattle.change_pull.specs.Open.{IsOpenWith, IsPushed}
use Rattle.change_pull.proofs.Pushed.{pushed_more, pushed_begun, pushed_no_magic, pushed_unexpected, pushed_head, pushed_whole, pushed_value}
use Rattle.change_pull.proofs.checks.decide.Goals as goal

pub returns-in-More-clause-opens : goal.returns-in-More-clause-opens
returns-in-More-clause-opens c = λ given wanted p.
    pushed_more c.args.reading.now c.args.dir.now given wanted (subst (λ (e : Event). IsPushed c.args.reading.now c.args.dir.now given e wanted) c.in-More.is p)

pub returns-in-Begun-clause-opens : goal.returns-in-Begun-clause-opens
returns-in-Begun-clause-opens c = λ given wanted p.
    pushed_begun c.args.reading.now c.args.dir.now given wanted (subst (λ (e : Event). IsPushed c.args.reading.now c.args.dir.now given e wanted) c.in-Begun.is p) _ refl refl refl refl refl refl refl

pub returns-in-NoMagic-clause-refused : goal.returns-in-NoMagic-clause-refused
returns-in-NoMagic-clause-refused c = λ given wanted p.
    pushed_no_magic c.args.reading.now c.args.dir.now given wanted (subst (λ (e : Event). IsPushed c.args.reading.now c.args.dir.now given e wanted) c.in-NoMagic.is p)

pub returns-in-Unexpected-clause-refused : goal.returns-in-Unexpected-clause-refused
returns-in-Unexpected-clause-refused c = λ given wanted p.
    pushed_unexpected c.args.reading.now c.args.dir.now given wanted (subst (λ (e : Event). IsPushed c.args.reading.now c.args.dir.now given e wanted) c.in-Unexpected.is p)

pub returns-in-Head-clause-opens : goal.returns-in-Head-clause-opens
returns-in-Head-clause-opens c = λ given wanted p.
    let head = pushed_head c.args.reading.now c.args.dir.now given wanted c.in-Head.tag c.in-Head.len (subst (λ (e : Event). IsPushed c.args.reading.now c.args.dir.now given e wanted) c.in-Head.is p) in
    on_ok_weaker c.begin.result (λ it. subst (λ (l : List ℕ). IsOpenWith c.begin.new.reading c.args.dir.now l wanted) (sym head.spelled) (subst (IsOpenWith c.begin.new.reading c.args.dir.now _) head.files it)) (c.begin.ensures.opens head.set head.begun)

pub returns-in-Head-clause-refused : goal.returns-in-Head-clause-refused
returns-in-Head-clause-refused c = λ given wanted p.
    let head = pushed_head c.args.reading.now c.args.dir.now given wanted c.in-Head.tag c.in-Head.len (subst (λ (e : Event). IsPushed c.args.reading.now c.args.dir.now given e wanted) c.in-Head.is p) in
    subst (λ (l : List ℕ). IfErr c.begin.result (IfRefusal (Decided IsFirstFault l))) (sym head.spelled) (c.begin.ensures.refused head.set head.begun)

pub returns-then-whole-clause-opens : goal.returns-then-whole-clause-opens
returns-then-whole-clause-opens c = λ given wanted p.
    let value = pushed_whole c.args.reading.now c.args.dir.now given wanted (subst (λ (b : Bool). IsPushed c.args.reading.now c.args.dir.now given (Value b) wanted) c.if-whole.true (subst (λ (e : Event). IsPushed c.args.reading.now c.args.dir.now given e wanted) c.in-Value.is p)) in
    on_ok_weaker c.finish.result (λ it. subst (λ (l : List ℕ). IsOpenWith c.finish.new.reading c.args.dir.now l wanted) (sym value.spelled) (subst (IsOpenWith c.finish.new.reading c.args.dir.now _) value.files it)) (c.finish.ensures.opens value.set value.tag value.value value.written value.whole)

pub returns-then-whole-clause-refused : goal.returns-then-whole-clause-refused
returns-then-whole-clause-refused c = λ given wanted p.
    let value = pushed_whole c.args.reading.now c.args.dir.now given wanted (subst (λ (b : Bool). IsPushed c.args.reading.now c.args.dir.now given (Value b) wanted) c.if-whole.true (subst (λ (e : Event). IsPushed c.args.reading.now c.args.dir.now given e wanted) c.in-Value.is p)) in
    subst (λ (l : List ℕ). IfErr c.finish.result (IfRefusal (Decided IsFirstFault l))) (sym value.spelled) (c.finish.ensures.refused value.set value.tag value.value value.written value.whole)

pub returns-else-whole-clause-opens : goal.returns-else-whole-clause-opens
returns-else-whole-clause-opens c = λ given wanted p.
    pushed_value c.args.reading.now c.args.dir.now given wanted (subst (λ (b : Bool). IsPushed c.args.reading.now c.args.dir.now given (Value b) wanted) c.if-whole.false (subst (λ (e : Event). IsPushed c.args.reading.now c.args.dir.now given e wanted) c.in-Value.is p))
