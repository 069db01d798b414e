-- What is found by what a source answers: the same by another source that answers the same, and by a map what the map has.
use Rattle.std.proofs.Common.{◌≡◌, ◌∙◌, ap, ℕ, Bool, true, false, cond, List, [], ◌∷◌, Option, Some, None}
use Rattle.std.specs.Prelude.{IsSomeAnd, MatchBool}
use Rattle.std.specs.List.{cons_option}
use Rattle.std.specs.Option.{option_map}
use Rattle.update_job.specs.cny-stream.declared.record.FileRec.{FileRec}
use Rattle.update_job.specs.cny-stream.declared.record.FileRec.TheVariants as rec
use Rattle.update_job.specs.trove-parts.declared.files.FileAt.{FileAt}
use Rattle.update_job.specs.trove-stream.declared.parts.TroveParts.{TroveParts}
use Rattle.tree_scan.specs.tree-disk.Tree.{Name, Tree}
use Rattle.content_store.specs.Contents.{Answers, ContentMap}
use Rattle.tree_scan.specs.declared.mark.Mark.{Mark}
use Rattle.tree_scan.specs.declared.mark.Mark.TheVariants.{Nothing, Dir, File, Link}
use Rattle.tree_scan.specs.declared.verification.Finding.{Finding}
use Rattle.tree_scan.specs.declared.verification.Found.{Found}
use Rattle.tree_scan.specs.declared.verification.Found.TheVariants.{Missing}
use Rattle.tree_scan.specs.declared.verification.Verified.{Verified}
use Rattle.tree_scan.specs.Marks.{fingerprint_at, is_nothing}
use Rattle.root_edits.specs.Verify as spec
use Rattle.root_edits.specs.Verify.{AreAdded, AreFindings, change_at, changed_file, finding_at, finding_of, findings, IsChangeAt, IsFoundAt, IsVerified, LacksContent, LacksOne, stands_as, verified}
use Rattle.root_edits.proofs.SearchLaws.{SameAnswers}
use Rattle.cny_version.specs.cny-base.Sized.{of_size}
use Rattle.root_edits.specs.Local.{records}

match_weaker : (b : Bool) (P Q R : Type 0) → (Q → R) → MatchBool b P Q → MatchBool b P R
match_weaker true P Q R so h = h
match_weaker false P Q R so h = so h

some_weaker : (o : Option Found) (P Q : Found → Type 0) → ((x : Found) → P x → Q x) → IsSomeAnd o P → IsSomeAnd o Q
some_weaker None P Q so h = absurd h
some_weaker (Some x) P Q so h = so x h

-- ---- by another source

module _ (one other : Answers) (same : SameAnswers one other) where
  change_of : (tree : Tree) (path : Name) (mark : Mark) (r : FileRec) (found : Found) → IsChangeAt other tree path mark r found → IsChangeAt one tree path mark r found
  change_of tree path (File m s n) (rec.File mode owner flags size name) found h = record { content = h.content; answer = same.back name h.content h.answer; is = h.is }
  change_of tree path (File m s n) (rec.Dir mode owner) found h = h
  change_of tree path (File m s n) (rec.Link target) found h = h
  change_of tree path Nothing r found h = h
  change_of tree path (Dir m) r found h = h
  change_of tree path (Link t) r found h = h

  found_of : (tree : Tree) (path : Name) (r : FileRec) (found : Option Found) → IsFoundAt other tree path r found → IsFoundAt one tree path r found
  found_of tree path r found h =
      let mark = fingerprint_at tree path in
      match_weaker (is_nothing mark) _ _ _
      (match_weaker (stands_as mark r) _ _ _ (some_weaker found (IsChangeAt other tree path mark r) (IsChangeAt one tree path mark r) (change_of tree path mark r))) h

  findings_of : (tree : Tree) (files : List FileAt) (lines : List Finding) → AreFindings other tree files lines → AreFindings one tree files lines
  findings_of tree [] lines h = h
  findings_of tree (file ∷ files) lines h = (h.0, h.1, found_of tree file.path file.rec h.0 h.2, findings_of tree files h.1 h.3, h.4)

  pub added_of : (tree : Tree) (files : List FileAt) (old new : List Finding) → AreAdded other tree files old new → AreAdded one tree files old new
  added_of tree files old new h = record { more = h.more; are = findings_of tree files h.more h.are; is = h.is }

  lacks_content_of : (mark : Mark) (r : FileRec) → LacksContent other mark r → LacksContent one mark r
  lacks_content_of (File m s n) (rec.File mode owner flags size name) h = λ found answer. h found (same.there name found answer)
  lacks_content_of (File m s n) (rec.Dir mode owner) h = h
  lacks_content_of (File m s n) (rec.Link target) h = h
  lacks_content_of Nothing r h = h
  lacks_content_of (Dir m) r h = h
  lacks_content_of (Link t) r h = h

  pub lacks_of : (tree : Tree) (files : List FileAt) → LacksOne other tree files → LacksOne one tree files
  lacks_of tree files h = record {
    file = h.file;
    among = h.among;
    lacks = record { differs = h.lacks.differs; lacks = lacks_content_of (fingerprint_at tree h.file.path) h.file.rec h.lacks.lacks };
  }

-- ---- by a map

module _ (answers : Answers) (map : ContentMap) (mapped : (name : List ℕ) (found : Option (List ℕ)) → answers name found → found ≡ map name) where
  change_by_map : (tree : Tree) (path : Name) (mark : Mark) (r : FileRec) (found : Found) → IsChangeAt answers tree path mark r found → found ≡ change_at map tree path mark r
  change_by_map tree path (File m s n) (rec.File mode owner flags size name) found h = h.is ∙ ap (λ (o : Option (List ℕ)). changed_file _ (of_size size o)) (mapped name h.content h.answer)
  change_by_map tree path (File m s n) (rec.Dir mode owner) found h = h
  change_by_map tree path (File m s n) (rec.Link target) found h = h
  change_by_map tree path Nothing r found h = h
  change_by_map tree path (Dir m) r found h = h
  change_by_map tree path (Link t) r found h = h

  found_by_map : (tree : Tree) (path : Name) (r : FileRec) (found : Option Found) → IsFoundAt answers tree path r found → found ≡ spec.found_at map tree path r
  found_by_map tree path r found h =
      let mark = fingerprint_at tree path in
      by (is_nothing mark) (stands_as mark r) found (change_at map tree path mark r) (IsChangeAt answers tree path mark r) (change_by_map tree path mark r) h
    where
      by : (b c : Bool) (found : Option Found) (other : Found) (P : Found → Type 0) → ((x : Found) → P x → x ≡ other)
          → MatchBool b (found ≡ Some Missing) (MatchBool c (found ≡ None) (IsSomeAnd found P)) → found ≡ cond b (Some Missing) (cond c None (Some other))
      by true c found other P so h = h
      by false true found other P so h = h
      by false false None other P so h = absurd h
      by false false (Some x) other P so h = ap Some (so x h)

  findings_by_map : (tree : Tree) (files : List FileAt) (lines : List Finding) → AreFindings answers tree files lines → lines ≡ findings map tree files
  findings_by_map tree [] lines h = h
  findings_by_map tree (file ∷ files) lines h =
      h.4 ∙ (ap (λ (o : Option Found). cons_option (option_map (finding_of file.path) o) h.1) (found_by_map tree file.path file.rec h.0 h.2)
      ∙ ap (cons_option (finding_at map tree file)) (findings_by_map tree files h.1 h.3))

  pub verified_by_map : (tree : Tree) (troves : List TroveParts) (found : Verified) → IsVerified answers tree troves found → found ≡ verified map tree troves
  verified_by_map tree troves found h = λ i. record { lines = findings_by_map tree (records troves) found.lines h.lines i; paths = h.paths i }
