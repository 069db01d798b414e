use Rattle.std.proofs.Common.{◌<◌, length, arith}
use Rattle.repo_index.specs.Catalogue.{is_file_of, is_file_sized}
use Rattle.repo_index.specs.Keys.{knows, knows_sized}
use Rattle.repo_index.proofs.Indexing.{any_more, map_extends, set_extends}
use Rattle.repo_index.proofs.index.add_contents.Goals as goal

pub loop-file-preserved : goal.loop-file-preserved
loop-file-preserved c =
    let files = c.args.files.now in
    let i = c.loop-file.file-index in
    let file = c.file-item.result in
    let within : i < length files = omega arith in record {
      names = λ name. any_more (is_file_of name) files i file within c.file-item.is (knows c.args.contents.now name) (knows c.loop-file.contents name) (knows c.add_file.new.contents name)
          (c.loop-file.invariant.names name) (c.in_ok-add_file.ensures.names name);
      sizes = λ name size. any_more (is_file_sized name size) files i file within c.file-item.is (knows_sized c.args.contents.now c.args.others.now name size)
          (knows_sized c.loop-file.contents c.loop-file.others name size) (knows_sized c.add_file.new.contents c.add_file.new.others name size)
          (c.loop-file.invariant.sizes name size) (c.in_ok-add_file.ensures.sizes name size);
      contents_kept = map_extends c.args.contents.now c.loop-file.contents c.add_file.new.contents c.loop-file.invariant.contents_kept c.add_file.ensures.contents;
      others_kept = set_extends c.args.others.now c.loop-file.others c.add_file.new.others c.loop-file.invariant.others_kept c.add_file.ensures.others;
    }
