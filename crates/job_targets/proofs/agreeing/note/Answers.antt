use Rattle.std.proofs.Common.{cond, sym, ◌∙◌, ap, subst, refl, Some}
use Rattle.std.specs.BTreeMap.{get}
use Rattle.std.specs.Ordering.{nat_cmp}
use Rattle.std.specs.Cmp.Lexicographic.{slice_cmp}
use Rattle.sha1.specs.Sha1.{sha1}
use Rattle.local_db.specs.tree-disk.Tree.{same_name}
use Rattle.job_targets.specs.Agree.{Collides, IsCollisionOrMemory, IsOld}
use Rattle.job_targets.proofs.Noting.{collision_map, new_agree, new_noted, no_bytes, old_bytes, on_ok_map, same_agree, same_noted, updated_cases}
use Rattle.local_db.proofs.Holding.{if_err_map}
use Rattle.job_targets.proofs.agreeing.note.Goals as goal

pub returns-in_default : goal.returns-in_default
returns-in_default c = record {
  noted = λ es are. same_noted es c.args.entry.now c.args.noted.now are (no_bytes es c.args.entry.now (sym c.in_default.ensures));
  agree = λ es are agree. same_agree es c.args.entry.now agree (no_bytes es c.args.entry.now (sym c.in_default.ensures));
  collides = λ es are. tt;
}

pub returns-in-Some-get-clause-noted : goal.returns-in-Some-get-clause-noted
returns-in-Some-get-clause-noted c es are =
    let old = are.some c.digest-name.result c.in-Some-get.earlier.now (sym c.in-Some-get.ensures.value) in
    on_ok_map _ _ c.check_same.result
    (λ same. same_noted es c.args.entry.now c.args.noted.now are (old_bytes es c.args.entry.now c.in-Some.bytes.now (sym c.in-Some.ensures) (subst (IsOld es) same old.0)))
    c.check_same.ensures.same

pub returns-in-Some-get-clause-agree : goal.returns-in-Some-get-clause-agree
returns-in-Some-get-clause-agree c es are agree =
    let old = are.some c.digest-name.result c.in-Some-get.earlier.now (sym c.in-Some-get.ensures.value) in
    on_ok_map _ _ c.check_same.result
    (λ same. same_agree es c.args.entry.now agree (old_bytes es c.args.entry.now c.in-Some.bytes.now (sym c.in-Some.ensures) (subst (IsOld es) same old.0)))
    c.check_same.ensures.same

pub returns-in-Some-get-clause-collides : goal.returns-in-Some-get-clause-collides
returns-in-Some-get-clause-collides c es are =
    let old = are.some c.digest-name.result c.in-Some-get.earlier.now (sym c.in-Some-get.ensures.value) in
    if_err_map _ (IsCollisionOrMemory (Collides es c.args.entry.now)) c.check_same.result
    (λ f. collision_map _ (Collides es c.args.entry.now) f (λ name at is. record {
      bytes = c.in-Some.bytes.now;
      was = sym c.in-Some.ensures;
      named = sym c.digest-name.ensures ∙ sym is.0;
      other = c.in-Some-get.earlier.now.now;
      old = old.0;
      other_named = old.1 ∙ sym is.0;
      differ = is.1;
    }))
    c.check_same.ensures.differ

pub returns-in_ok-insert-in-None-clause-noted : goal.returns-in_ok-insert-in-None-clause-noted
returns-in_ok-insert-in-None-clause-noted c es are =
    let own = c.in-Some.bytes.now in
    let m = c.args.noted.now in
    let named = c.digest-name.ensures in
    new_noted es c.args.entry.now own (sym c.in-Some.ensures) m are (ap (get (slice_cmp nat_cmp) m) (sym named) ∙ sym c.in-None.ensures.value) c.insert.new.self c.in-Some.bytes refl
    (λ q. updated_cases (sha1 own) q (get (slice_cmp nat_cmp) c.insert.new.self q) c.in-Some.bytes (get (slice_cmp nat_cmp) m q)
    (c.in_ok-insert-in-None.ensures.updates.0 q ∙ (λ i. cond (same_name (named i) q) (Some c.in-Some.bytes) (get (slice_cmp nat_cmp) m q))))

pub returns-in_ok-insert-in-None-clause-agree : goal.returns-in_ok-insert-in-None-clause-agree
returns-in_ok-insert-in-None-clause-agree c es are agree =
    new_agree es c.args.entry.now c.in-Some.bytes.now (sym c.in-Some.ensures) c.args.noted.now are
    (ap (get (slice_cmp nat_cmp) c.args.noted.now) (sym c.digest-name.ensures) ∙ sym c.in-None.ensures.value) agree
