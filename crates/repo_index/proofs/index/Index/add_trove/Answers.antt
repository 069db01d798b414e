use Rattle.std.proofs.Common.{◌≡◌, ℕ, ◌||◌, cond, IsTrue, List, [], ◌∷◌, ◌++◌, ap, subst, ◌∙◌}
use Rattle.std.specs.List.{list_any}
use Rattle.std.specs.Str.{bytes_eq}
use Rattle.trove_stream.specs.trove-parts.declared.id.TroveId.{TroveId}
use Rattle.trove_stream.specs.trove-parts.declared.files.FileAt.{FileAt}
use Rattle.repo_index.specs.Catalogue.{is_file_of, is_file_sized}
use Rattle.repo_index.specs.Hashes.{hash_of, is_kept}
use Rattle.repo_index.specs.Keys.{places_in, knows, knows_sized}
use Rattle.repo_index.proofs.Indexing.{one_more}
use Rattle.repo_index.proofs.index.Index.add_trove.Goals as goal

pub returns-clause-ok : goal.returns-clause-ok
returns-clause-ok c troves is last =
    let old = c.args.self.now in
    let name_is : c.text.result.now ≡ c.args.trove.now.id.name = c.text.ensures.value ∙ ap (λ (id : TroveId). id.name) c.id-2.ensures.value in
    let hash_is : c.hash_of.result ≡ hash_of c.args.trove.now.id = c.hash_of.ensures ∙ ap hash_of c.id.ensures.value in
    one_more troves c.args.trove.now c.args.place old
    (record { ids = c.add.new.self; names = c.add_place.new.names; contents = c.add_contents.new.contents; others = c.add_contents.new.others }) is last
    c.add.ensures.keeps
    (subst (λ (hash : ℕ). IsTrue (is_kept c.add.new.self hash c.args.place)) hash_is c.in_ok-add.ensures.added)
    (λ name. c.in_ok-add_place.ensures.ok name ∙ ap (λ (own : List ℕ). places_in old.names name ++ cond (bytes_eq own name) (c.args.place ∷ []) []) name_is)
    (λ name. c.in_ok-add_contents.ensures.names name ∙ ap (λ (files : List FileAt). knows old.contents name || list_any (is_file_of name) files) c.files.ensures.value)
    (λ name size. c.in_ok-add_contents.ensures.sizes name size ∙ ap (λ (files : List FileAt). knows_sized old.contents old.others name size || list_any (is_file_sized name size) files) c.files.ensures.value)
