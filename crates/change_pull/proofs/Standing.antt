-- What was pulled stands in its files.
use Rattle.std.proofs.Common.{◌≡◌, ◌≢◌, ℕ, zero, suc, ◌+◌, ◌<◌, ◌^◌, IsTrue, List, [], ◌∷◌, length, map, slice_get, get_or, All, Option, None, sym, ap, ◌∙◌, subst, arith}
use Rattle.std.proofs.lemmas.List.Elements.{All-cons, All-nil, All-weaker}
use Rattle.std.specs.FinMap.{get}
use Rattle.std.specs.Fmt.{decimal}
use Rattle.sha1.specs.Sha1.{sha1}
use Rattle.journal_log.specs.cny-base.declared.node.Node.{Node}
use Rattle.journal_log.specs.cny-base.Path.{is_path, root}
use Rattle.journal_log.specs.tree-disk.Rows.{is_file_at}
use Rattle.journal_log.specs.tree-disk.Tree.{Name, Tree, is_file}
use Rattle.journal_log.proofs.tree-disk.ClearLaws.{below_within, join_below}
use Rattle.change_set.specs.declared.change.Carried.{Carried}
use Rattle.change_set.specs.declared.change.ChangeSet.{ChangeSet}
use Rattle.change_set.specs.ChangeSet.{HasContents, IsContentOf}
use Rattle.change_pull.specs.declared.pull.Pulled.{Pulled}
use Rattle.change_pull.specs.declared.staged.Staged.{Staged}
use Rattle.change_pull.specs.Files.{HoldsFiles, carried_in, file_with, files_of, number_path, staged_from, staged_of}
use Rattle.change_pull.specs.Incoming.{AreHashed, IsStaged, StandNumbered}
use Rattle.change_pull.proofs.Ends.{files_carried}
use Rattle.change_pull.proofs.Taken.{staged_count}

module _ (tree : Tree) (dir : Name) (path : IsTrue (is_path dir)) (other : dir ≢ root) where
  stand_from : (contents : List Carried) (k : ℕ) → map (carried_in tree) (staged_from dir k contents) ≡ contents → All (IsStaged dir tree) (staged_from dir k contents)
  stand_from [] k same = All-nil (IsStaged dir tree)
  stand_from (c ∷ contents) k same =
      let one : Staged = record { name = c.name; size = length c.bytes; path = number_path dir k } in
      let first : carried_in tree one ≡ c = cc same in
      let rest : map (carried_in tree) (staged_from dir (k + 1) contents) ≡ contents = cc same in
      All-cons (IsStaged dir tree) one (staged_from dir (k + 1) contents)
      (record { within = below_within dir (number_path dir k) (join_below dir (decimal k) path other); size = ap (λ (d : Carried). length d.bytes) first })
      (stand_from contents (k + 1) rest)

  -- under the number of its place
  placed : (contents : List Carried) (k place : ℕ) (one : Staged) → place < length (staged_from dir k contents) → one ≡ get_or (staged_from dir k contents) place one → one.path ≡ number_path dir (k + place)
  placed [] k place one within is = absurd (omega (arith, within))
  placed (c ∷ contents) k zero one within is = ap (λ (s : Staged). s.path) is ∙ ap (number_path dir) (let same : k ≡ k + 0 = omega arith in same)
  placed (c ∷ contents) k (suc place) one within is =
      placed contents (k + 1) place one (omega (arith, within)) is ∙ ap (number_path dir) (let same : k + 1 + place ≡ k + suc place = omega arith in same)

  file_stands : (contents : List Carried) (place : ℕ) (here : Option Node) → place < length contents → here ≡ file_with (slice_get (map (λ (c : Carried). c.bytes) contents) place) → IsTrue (is_file here)
  file_stands [] place here low is = absurd (omega (arith, low))
  file_stands (c ∷ contents) zero here low is = ap is_file is
  file_stands (c ∷ contents) (suc place) here low is = file_stands contents place here (omega (arith, low)) is

  -- each content stands in its file, with its size
  pub pulled_stand : (set : ChangeSet) (written : Option (List ℕ)) (pulled : Pulled) → pulled.staged ≡ staged_of dir set.contents → written ≡ None → length set.contents < 2 ^ 64 → HasContents set → HoldsFiles tree dir (files_of set.contents written) → StandNumbered dir pulled.staged tree
  pulled_stand set written pulled is none small has holds =
      let whole : HoldsFiles tree dir (files_of set.contents None) = subst (λ (o : Option (List ℕ)). HoldsFiles tree dir (files_of set.contents o)) none holds in
      let same = files_carried tree dir set.contents small whole in
      subst (λ (l : List Staged). StandNumbered dir l tree) (sym is) (record {
        staged = stand_from set.contents 0 same;
        each = λ place one within at.
            let low : place < length set.contents = omega (arith, within, staged_count dir set.contents 0) in
            let path : one.path ≡ number_path dir place = placed set.contents 0 place one within at ∙ ap (number_path dir) (let plain : 0 + place ≡ place = omega arith in plain) in
            record { path = path; stands = ap (λ (q : Name). is_file_at tree q) path ∙ file_stands set.contents place (get tree (number_path dir place)) low (whole.each place (omega (arith, low, small))) };
        hashed = subst AreHashed (sym same) (record {
          hash = All-weaker (IsContentOf set.parts) (λ (content : Carried). content.name ≡ sha1 content.bytes) (λ content it. it.hash) set.contents has.contents;
          rising = has.rising;
        });
      })
