use Rattle.std.proofs.Common.{◌≡◌, List, [], ◌∷◌, sym, ◌∙◌, subst}
use Rattle.update_job.specs.trove-parts.declared.files.FileAt.{FileAt}
use Rattle.root_edits.specs.Verify.{asked, AreAdded, LacksOne}
use Rattle.root_edits.proofs.Added.{added_none, asked_none, asked_one}
use Rattle.content_store.proofs.SearchLaws.{searches_start, searches_weaker}
use Rattle.root_edits.proofs.verifying.verify_trove.Goals as goal
use Rattle.root_edits.proofs.verifying.verify_trove.Goals.{then-is_asked+in_ok-verify_files, else-is_asked}
use Rattle.root_edits.specs.Local.{records}

pub returns : goal.returns
returns g c =
    let names = c.args.names.now in
    let trove = c.args.trove.now in
    let answers = g.C.Contents.contents.answers c.args.far.now in
    let tree = g.T.TreeDisk.disk.reads c.args.root.now in
    elim c.if-is_asked.branch [
      | then-is_asked+in_ok-verify_files w ↦
          let files_are : records (asked names (trove ∷ [])) ≡ w.files.result.now = asked_one names trove (sym c.is_asked.ensures ∙ w.if-is_asked.true) ∙ sym w.files.ensures.value in
          rw (w.root-is, w.far-is, w.lines-is) (searches_weaker w.in_ok-verify_files.ensures
          (λ tells x added. subst (λ (l : List FileAt). AreAdded answers tree l c.args.lines.now.items w.verify_files.new.lines.items) (sym files_are) added)
          (λ refusal none. none)
          (λ lacks tells. subst (λ (l : List FileAt). LacksOne answers tree l) (sym files_are) (lacks tells)))
      | else-is_asked w ↦
          rw (w.root-is, w.far-is, w.lines-is) (searches_start g.met.C.Contents.laws g.met.T.TreeDisk.laws c.args.root.now c.args.far.now tt
          (λ tells. subst (λ (l : List FileAt). AreAdded answers tree l c.args.lines.now.items c.args.lines.now.items) (sym (asked_none names trove (sym c.is_asked.ensures ∙ w.if-is_asked.false))) (added_none answers tree c.args.lines.now.items)))
    ]
