use Rattle.std.proofs.Common.{arith}
use Rattle.cny_batch.specs.Manifests.{document_entry, each_from, documents}
use Rattle.cny_batch.proofs.Each.{all_written, goes_on}
use Rattle.cny_batch.proofs.package.push_documents.Goals as goal

pub loop-place-preserved : goal.loop-place-preserved
loop-place-preserved c = goes_on (document_entry c.args.number) 42 c.args.out.now (each_from (document_entry c.args.number) 0 42) c.loop-place.out c.push_document.new.out c.loop-place.place (omega arith) c.loop-place.invariant c.in_ok-push_document.ensures

pub returns : goal.returns
unfolding documents
returns c = all_written (document_entry c.args.number) 42 c.args.out.now (each_from (document_entry c.args.number) 0 42) c.loop-place.out c.loop-place.place (omega arith) c.loop-place.invariant
