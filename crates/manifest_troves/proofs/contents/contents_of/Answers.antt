use Rattle.std.proofs.Common.{◌≡◌, map, sym, ap, ◌∙◌, subst}
use Rattle.std.specs.Prelude.{All, Contains}
use Rattle.std.specs.List.Sorted.{IsStrictlySortedBy}
use Rattle.std.proofs.lemmas.Result.{err_from_is_err_and}
use Rattle.change_set.specs.ChangeSet.{content_cmp}
use Rattle.manifest_troves.specs.Contents.{carried_of, contents_of}
use Rattle.manifest_troves.proofs.KeptOnes.{contents_rise, contents_given}
use Rattle.manifest_troves.proofs.Keeping.{first_kept_collision, collision_refused}
use Rattle.manifest_troves.proofs.contents.contents_of.Goals as goal

pub returns-in_err-kept-clause-refused : goal.returns-in_err-kept-clause-refused
returns-in_err-kept-clause-refused c =
    let p = err_from_is_err_and c.from_residual.result c.from_residual.ensures.1 in
    rw (p.1, p.2) (collision_refused c.args.contents.items c.in_err-kept.field-0.0 c.in_err-kept.ensures.refused)

pub returns-clause-apart : goal.returns-clause-apart
returns-clause-apart c = first_kept_collision c.args.contents.items ∙ c.in_ok-kept.ensures.none

pub returns-clause-rising : goal.returns-clause-rising
returns-clause-rising c =
    let is : c.new.result ≡ contents_of c.args.contents.items = c.new.ensures ∙ c.in_ok-listed.ensures ∙ ap (map carried_of) c.in_ok-kept.ensures.ok in
    subst (IsStrictlySortedBy content_cmp) (sym is) (contents_rise c.args.contents.items)

pub returns-clause-given : goal.returns-clause-given
returns-clause-given c =
    let is : c.new.result ≡ contents_of c.args.contents.items = c.new.ensures ∙ c.in_ok-listed.ensures ∙ ap (map carried_of) c.in_ok-kept.ensures.ok in
    subst (All (Contains c.args.contents.items)) (sym is) (contents_given c.args.contents.items)
