use Rattle.std.proofs.Common.{ℕ, List, ◌++◌, OnOk, sym, subst, append-nil}
use Rattle.std.proofs.lemmas.Result.{on_ok_weaker}
use Rattle.cny_stream.specs.declared.cutter.Event.{Event}
use Rattle.change_pull.specs.Gathered.{IsGathered}
use Rattle.change_pull.specs.Open.{Gathers, IsWritten}
use Rattle.change_pull.proofs.feeding.gather.Goals as goal

pub returns-clause-gathers : goal.returns-clause-gathers
returns-clause-gathers g c =
    let bytes = c.args.bytes.now in
    subst (λ (e : Event). OnOk c.write_due.result (Gathers g.D.TreeDisk.disk c.args.dir.now c.args.disk.now c.write_due.new.disk c.args.reading.now c.write_due.new.reading bytes e)) (sym c.in-Value.is)
    (on_ok_weaker c.write_due.result (λ gains tag len value written is.
    let got = gains tag len (value ++ bytes) written (c.in_ok-add.ensures tag len value written is) in
    (got.0, subst (λ (l : List ℕ). IsGathered c.write_due.new.reading.item tag len l got.0) (append-nil (value ++ bytes)) got.1, (λ whole. subst (λ (l : List ℕ). IsWritten tag l got.0) (append-nil (value ++ bytes)) (got.2 whole)), got.3))
    c.write_due.ensures.gains)
