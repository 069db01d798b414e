-- Elements of lists, and tests that one of them passes.
use Rattle.std.proofs.Common.{◌≡◌, ℕ, List, Some, None, Option, ap, ◌∙◌}
use Rattle.std.specs.Prelude.{IsTrue, ◌==◌}
use Rattle.std.specs.Str.{bytes_eq}
use Rattle.repo_load.specs.cny-stream.declared.record.FileRec.{FileRec}
use Rattle.repo_load.specs.cny-stream.declared.record.FileRec.TheVariants.{Dir, File, Link}
use Rattle.repo_load.specs.cny-stream.Record.{has_name_and_size}
use Rattle.change_rel.specs.Sending.{content_of}
use Rattle.repo_index.specs.Catalogue.{is_content}
use Rattle.change_rel.proofs.Sent.{content, one_name as name_is}
use Rattle.change_rel.proofs.cny-base.Bools.{both}
use Rattle.change_rel.proofs.cny-base.Below.{equal_test as same_number}
use Rattle.change_rel.proofs.cny-base.ByteLists.{bytes_itself as same_text}

-- ---- lists that strictly rise

-- ---- tests

pub size_is : (n name : List ℕ) (s size : ℕ) → content n s ≡ content name size → s ≡ size
size_is n name s size e = ap (λ (o : Option (List ℕ × ℕ)). in' s o) e
  where
    in' : ℕ → Option (List ℕ × ℕ) → ℕ
    in' other (Some pair) = pair.1
    in' other None = other

pub sized_record : (rec : FileRec) (name : List ℕ) (size : ℕ) → content_of rec ≡ Some (name, size) → IsTrue (has_name_and_size name size rec)
sized_record (Dir mode owner) name size is = absurd (cc is)
sized_record (File mode owner flags s n) name size is =
    both (s == size) (bytes_eq n name) (ap (λ (k : ℕ). k == size) (size_is n name s size is) ∙ same_number size) (ap (λ (l : List ℕ). bytes_eq l name) (name_is n name s size is) ∙ same_text name)
sized_record (Link target) name size is = absurd (cc is)

pub named_record : (rec : FileRec) (name : List ℕ) (size : ℕ) → content_of rec ≡ Some (name, size) → IsTrue (is_content name rec)
named_record (Dir mode owner) name size is = absurd (cc is)
named_record (File mode owner flags s n) name size is = ap (λ (l : List ℕ). bytes_eq l name) (name_is n name s size is) ∙ same_text name
named_record (Link target) name size is = absurd (cc is)
