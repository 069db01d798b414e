-- A text that grows piece by piece.
use Rattle.std.proofs.Common.{ap, ◌∙◌, append_assoc}
use Rattle.std.specs.Prelude.{◌≡◌, ℕ, List, ◌++◌, codes}
use Rattle.std.specs.List.{flat_map}
use Rattle.cny_dep.specs.Dep.{Dependency}
use Rattle.update_job.specs.trove-parts.declared.files.FileAt.{FileAt}
use Rattle.update_job.specs.trove-parts.declared.id.TroveId.{TroveId}
use Rattle.update_job.specs.trove-stream.declared.parts.TroveParts.{TroveParts}
use Rattle.cny_report.specs.Records.{file_line, dep_line, trove_text}
use Rattle.cny_report.specs.Troves.{id_line, told_id}

five_pieces : (text a b c d e first second third fourth last : List ℕ) → first ≡ text ++ a → second ≡ first ++ b → third ≡ second ++ c → fourth ≡ third ++ d → last ≡ fourth ++ e
    → last ≡ text ++ (a ++ b ++ c ++ d ++ e)
five_pieces text a b c d e first second third fourth last one two three four five =
    five ∙ ap (λ (l : List ℕ). l ++ e) (four ∙ ap (λ (l : List ℕ). l ++ d) (three ∙ ap (λ (l : List ℕ). l ++ c) (two ∙ ap (λ (l : List ℕ). l ++ b) one)))
    ∙ simp append_assoc

-- a text grows by the lines of a trove, those of one list after another
pub trove_grows : (t : TroveParts) (files : List FileAt) (refs : List TroveId) (requires_ provides : List Dependency) (text first second third fourth last : List ℕ)
    → files ≡ t.files → refs ≡ t.refs → requires_ ≡ t.requires_ → provides ≡ t.provides
    → first ≡ text ++ id_line t.id → second ≡ first ++ flat_map file_line files → third ≡ second ++ flat_map (told_id (codes "ref ")) refs
    → fourth ≡ third ++ flat_map (dep_line (codes "requires ")) requires_ → last ≡ fourth ++ flat_map (dep_line (codes "provides ")) provides
    → last ≡ text ++ trove_text t
trove_grows t files refs requires_ provides text first second third fourth last f r q p one two three four five =
    five_pieces text (id_line t.id) (flat_map file_line t.files) (flat_map (told_id (codes "ref ")) t.refs) (flat_map (dep_line (codes "requires ")) t.requires_) (flat_map (dep_line (codes "provides ")) t.provides)
    first second third fourth last one
    (two ∙ ap (λ (l : List FileAt). first ++ flat_map file_line l) f)
    (three ∙ ap (λ (l : List TroveId). second ++ flat_map (told_id (codes "ref ")) l) r)
    (four ∙ ap (λ (l : List Dependency). third ++ flat_map (dep_line (codes "requires ")) l) q)
    (five ∙ ap (λ (l : List Dependency). fourth ++ flat_map (dep_line (codes "provides ")) l) p)
