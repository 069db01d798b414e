use Rattle.std.proofs.Common.{List, rules, subst, ◌∙◌}
use Rattle.std.specs.BTreeMap.{keys}
use Rattle.trove_stream.specs.declared.parts.TroveParts.{TroveParts}
use Rattle.dep_closure.specs.Changed.{IsChanged}
use Rattle.dep_closure.specs.Slots.{all_held, held_after, listed}
use Rattle.dep_closure.proofs.Edited.{still_kept, still_held, list_after, kept_after, faulty, provided_after, changed_after, closed_change, refuses}
use Rattle.trove_stream.proofs.cny-base.Faults.{on_err}
use Rattle.dep_closure.proofs.changing.Closure.change.Goals as goal

pub invariant_of-self : goal.invariant_of-self
invariant_of-self c =
    still_kept c.self.inside.slots c.prepare.new.slots c.self.inside.requirers c.prepare.new.requirers c.self.inside.providers c.prepare.new.providers c.self.inside.closed c.self.invariant c.prepare.ensures.ordered c.prepare.ensures.same c.prepare.ensures.requirers_kept c.prepare.ensures.providers_kept

pub returns-in_err-edits-clause-err : goal.returns-in_err-edits-clause-err
returns-in_err-edits-clause-err c = on_err c.from_residual.result
    (still_held c.self.inside.slots c.prepare.new.slots c.self.inside.requirers c.prepare.new.requirers c.self.inside.providers c.prepare.new.providers c.self.inside.closed c.self.invariant c.prepare.ensures.ordered c.prepare.ensures.same c.prepare.ensures.requirers_kept c.prepare.ensures.providers_kept
    ∙ c.self.view_is)

pub invariant_of-self-in-Err : goal.invariant_of-self-in-Err
invariant_of-self-in-Err c =
    still_kept c.self.inside.slots c.prepare.new.slots c.self.inside.requirers c.prepare.new.requirers c.self.inside.providers c.prepare.new.providers c.self.inside.closed c.self.invariant c.prepare.ensures.ordered c.prepare.ensures.same c.prepare.ensures.requirers_kept c.prepare.ensures.providers_kept

pub returns-in-Err-clause-fault : goal.returns-in-Err-clause-fault
returns-in-Err-clause-fault c =
    let slots = c.prepare.new.slots in
    let edits = c.in_ok-edits.edits in
    let kept = still_kept c.self.inside.slots c.prepare.new.slots c.self.inside.requirers c.prepare.new.requirers c.self.inside.providers c.prepare.new.providers c.self.inside.closed c.self.invariant c.prepare.ensures.ordered c.prepare.ensures.same c.prepare.ensures.requirers_kept c.prepare.ensures.providers_kept in
    let same = still_held c.self.inside.slots c.prepare.new.slots c.self.inside.requirers c.prepare.new.requirers c.self.inside.providers c.prepare.new.providers c.self.inside.closed c.self.invariant c.prepare.ensures.ordered c.prepare.ensures.same c.prepare.ensures.requirers_kept c.prepare.ensures.providers_kept ∙ c.self.view_is in
    refuses c.args.gone.now c.args.come.now c.args.self.now (listed (held_after slots edits) (keys slots)) c.in-Err.fault
    (subst (λ (old : List TroveParts). IsChanged c.args.gone.now c.args.come.now old (listed (held_after slots edits) (keys slots))) same
    (list_after c.args.gone.now c.args.come.now slots edits c.prepare.new.requirers c.prepare.new.providers c.self.inside.closed kept c.in_ok-edits.ensures.edits c.in_ok-edits.ensures.made))
    (faulty c.args.gone.now c.args.come.now slots edits c.prepare.new.requirers c.prepare.new.providers c.self.inside.closed kept c.in_ok-edits.ensures.edits c.in_ok-edits.ensures.made c.in-Err.fault c.in-Err.ensures.fault)

pub returns-in-Err-clause-err : goal.returns-in-Err-clause-err
returns-in-Err-clause-err c =
    still_held c.self.inside.slots c.prepare.new.slots c.self.inside.requirers c.prepare.new.requirers c.self.inside.providers c.prepare.new.providers c.self.inside.closed c.self.invariant c.prepare.ensures.ordered c.prepare.ensures.same c.prepare.ensures.requirers_kept c.prepare.ensures.providers_kept
    ∙ c.self.view_is

pub invariant_of-self-2 : goal.invariant_of-self-2
invariant_of-self-2 c =
    let kept = still_kept c.self.inside.slots c.prepare.new.slots c.self.inside.requirers c.prepare.new.requirers c.self.inside.providers c.prepare.new.providers c.self.inside.closed c.self.invariant c.prepare.ensures.ordered c.prepare.ensures.same c.prepare.ensures.requirers_kept c.prepare.ensures.providers_kept in
    kept_after c.args.gone.now c.args.come.now c.prepare.new.slots c.in_ok-edits.edits c.prepare.new.requirers c.prepare.new.providers c.self.inside.closed kept c.in_ok-edits.ensures.edits c.in_ok-edits.ensures.requirers c.in_ok-edits.ensures.providers
    c.commit.new.slots c.commit.ensures.ordered c.commit.ensures.made c.in_ok-edits.ensures.made c.in_default.ensures.ok

pub returns : goal.returns
returns c =
    let slots = c.prepare.new.slots in
    let edits = c.in_ok-edits.edits in
    let kept = still_kept c.self.inside.slots c.prepare.new.slots c.self.inside.requirers c.prepare.new.requirers c.self.inside.providers c.prepare.new.providers c.self.inside.closed c.self.invariant c.prepare.ensures.ordered c.prepare.ensures.same c.prepare.ensures.requirers_kept c.prepare.ensures.providers_kept in
    let same = still_held c.self.inside.slots c.prepare.new.slots c.self.inside.requirers c.prepare.new.requirers c.self.inside.providers c.prepare.new.providers c.self.inside.closed c.self.invariant c.prepare.ensures.ordered c.prepare.ensures.same c.prepare.ensures.requirers_kept c.prepare.ensures.providers_kept ∙ c.self.view_is in
    record {
      ok = subst (λ (old : List TroveParts). IsChanged c.args.gone.now c.args.come.now old (all_held c.commit.new.slots)) same
          (changed_after c.args.gone.now c.args.come.now slots edits c.prepare.new.requirers c.prepare.new.providers c.self.inside.closed kept c.in_ok-edits.ensures.edits c.in_ok-edits.ensures.requirers c.in_ok-edits.ensures.providers
          c.commit.new.slots c.commit.ensures.ordered c.commit.ensures.made c.in_ok-edits.ensures.made c.in_default.ensures.ok);
      closed = closed_change c.args.gone.now c.args.come.now slots edits c.prepare.new.requirers c.prepare.new.providers c.self.inside.closed kept c.in_ok-edits.ensures.edits c.in_ok-edits.ensures.requirers c.in_ok-edits.ensures.providers
          c.commit.new.slots c.commit.ensures.ordered c.commit.ensures.made c.in_ok-edits.ensures.made c.in_default.ensures.ok;
      fault = search rules;
      err = search rules;
    }

pub test-tested-requires : goal.test-tested-requires
test-tested-requires c =
    let kept = still_kept c.self.inside.slots c.prepare.new.slots c.self.inside.requirers c.prepare.new.requirers c.self.inside.providers c.prepare.new.providers c.self.inside.closed c.self.invariant c.prepare.ensures.ordered c.prepare.ensures.same c.prepare.ensures.requirers_kept c.prepare.ensures.providers_kept in
    provided_after c.args.gone.now c.args.come.now c.prepare.new.slots c.in_ok-edits.edits c.prepare.new.requirers c.prepare.new.providers c.self.inside.closed kept c.in_ok-edits.ensures.edits c.in_ok-edits.ensures.providers
