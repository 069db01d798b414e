use Rattle.std.proofs.Common.{◌+◌, sym, ap, ◌∙◌, subst, arith, rules}
use Rattle.std.specs.Option.{is_some}
use Rattle.cny_version.specs.Reading.{version_found}
use Rattle.cny_version.specs.Slices.{parts_of}
use Rattle.cny_version.proofs.VersionSteps.{IsAt, at_first, at_next, at_not_deep, at_oversized, at_end, still_shallow, still_short}
use Rattle.cny_version.proofs.scan.is_version.Goals as goal

pub labels-init : goal.labels-init
labels-init c = record {
  utf8 = search rules;
  label_is = c.in-Some.ensures.label;
  shallow = omega arith;
  short = omega (arith, c.len-size.ensures.short);
  at = subst (λ n. IsAt c.args.whole (parts_of c.in-Some.label) 0 (1 + n) c.in-Some.rest.now (version_found c.args.whole c.args.text.now)) (sym c.len-size.ensures.len)
      (at_first c.args.whole (parts_of c.in-Some.label) c.in-Some.rest.now (version_found c.args.whole c.args.text.now) c.in-Some.ensures.found);
}

pub returns-in-End : goal.returns-in-End
returns-in-End c =
    c.is_last_revision.ensures
    ∙ at_end c.args.whole (parts_of c.labels.label) c.labels.depth c.labels.size c.labels.rest.now (version_found c.args.whole c.args.text.now) c.labels.invariant.at c.in-End.ensures

pub returns-in_default-depth_after : goal.returns-in_default-depth_after
returns-in_default-depth_after c =
    let s = c.in-Label.ensures in
    let none = at_not_deep c.args.whole (parts_of c.labels.label) (parts_of c.in-Label.next) c.labels.depth c.labels.size c.labels.rest.now c.in-Label.between.now s.piece c.in-Label.after.now
    (version_found c.args.whole c.args.text.now) c.labels.invariant.at s.pieces_are s.found (sym c.in_default-depth_after.ensures) in
    sym (ap is_some none)

pub returns-in_default-size_after : goal.returns-in_default-size_after
returns-in_default-size_after c =
    let s = c.in-Label.ensures in
    let none = at_oversized c.args.whole (parts_of c.labels.label) (parts_of c.in-Label.next) c.labels.depth c.labels.size c.labels.rest.now c.in-Label.between.now s.piece c.in-Label.after.now
    (version_found c.args.whole c.args.text.now) c.labels.invariant.at s.pieces_are s.found (sym c.in_default-size_after.ensures) in
    sym (ap is_some none)

pub labels-preserved : goal.labels-preserved
labels-preserved c =
    let s = c.in-Label.ensures in
    let deep = sym c.in-Some-depth_after.ensures in
    let sized = sym c.in-Some-size_after.ensures in
    record {
      utf8 = search rules;
      label_is = s.label_is;
      shallow = still_shallow c.labels.depth c.in-Some-depth_after.next_depth c.labels.size c.in-Some-size_after.next_size c.in-Label.between.now (parts_of c.in-Label.next) deep sized c.labels.invariant.shallow;
      short = still_short c.labels.size c.in-Some-size_after.next_size c.in-Label.between.now (parts_of c.in-Label.next) sized;
      at = at_next c.args.whole (parts_of c.labels.label) (parts_of c.in-Label.next) c.labels.depth c.in-Some-depth_after.next_depth c.labels.size c.in-Some-size_after.next_size
          c.labels.rest.now c.in-Label.between.now s.piece c.in-Label.after.now (version_found c.args.whole c.args.text.now) c.labels.invariant.at s.pieces_are s.found deep sized;
    }
