-- The bytes determine a commit.
use Rattle.std.proofs.Common.{◌≡◌, ℕ, List, [], ◌∷◌, ◌++◌, All, refl, sym, ◌∙◌, arith, append_assoc, append-nil}
use Rattle.std.proofs.lemmas.List.{append_cancel_left}
use Rattle.std.proofs.lemmas.List.Elements.{All-head, All-tail}
use Rattle.cny_stream.specs.Item.{item_bytes}
use Rattle.cny_stream.proofs.ItemLaws.{same_item}
use Rattle.repo_index.specs.cny-stream.declared.encoding.Encoding.TheVariants.{Compact}
use Rattle.repo_index.specs.trove-parts.Items.{items_bytes}
use Rattle.repo_index.specs.trove-stream.declared.parts.TroveParts.{TroveParts}
use Rattle.repo_index.specs.trove-stream.Stream.{trove_bytes}
use Rattle.repo_index.specs.trove-stream.Trove.{IsTrove}
use Rattle.repo_load.specs.State.{Commit}
use Rattle.repo_load.specs.Files.{magic, end_bytes, FitsTrove, IsCommitStream}
use Rattle.repo_index.proofs.trove-stream.Distinct.{TrovesDiffer}

-- the items of troves and the end
abbrev pub text_of : Commit → List ℕ
text_of troves = items_bytes trove_bytes 0x40 troves ++ end_bytes

abbrev pub item_of : TroveParts → List ℕ
item_of t = item_bytes 0x40 (trove_bytes t)

pub more : (t : TroveParts) (ts : Commit) (rest : List ℕ) → items_bytes trove_bytes 0x40 (t ∷ ts) ++ rest ≡ item_of t ++ (items_bytes trove_bytes 0x40 ts ++ rest)
more t ts rest = append_assoc (item_of t) (items_bytes trove_bytes 0x40 ts) rest

pub not_end : (t : TroveParts) (rest : List ℕ) → FitsTrove t → item_of t ++ rest ≡ end_bytes → ⊥
not_end t rest fits e =
    let items = same_item 0x40 0x4F (trove_bytes t) [] rest [] fits (omega arith) (e ∙ sym (append-nil end_bytes)) in
    omega (arith, items.tags)

-- what is left of all troves behind a front, and how it is spelled
pub record IsRest (front all rest : Commit) (tail : List ℕ) : Type 0 where
  pub split : all ≡ front ++ rest
  pub troves_are : All IsTrove rest
  pub fits : All FitsTrove rest
  pub spelled : tail ≡ text_of rest

pub rest_of : TrovesDiffer → (front all : Commit) (tail : List ℕ) → All IsTrove front → All FitsTrove front → All IsTrove all → All FitsTrove all
    → items_bytes trove_bytes 0x40 front ++ tail ≡ text_of all → (rest : Commit) × IsRest front all rest tail
rest_of differ [] all tail fi ff ai af e = (all, record { split = refl; troves_are = ai; fits = af; spelled = e })
rest_of differ (t ∷ front) [] tail fi ff ai af e =
    absurd (not_end t (items_bytes trove_bytes 0x40 front ++ tail) (All-head FitsTrove t front ff) (sym (more t front tail) ∙ e))
rest_of differ (t ∷ front) (u ∷ all) tail fi ff ai af e =
    let one = same_item 0x40 0x40 (trove_bytes t) (trove_bytes u) (items_bytes trove_bytes 0x40 front ++ tail) (text_of all)
    (All-head FitsTrove t front ff) (All-head FitsTrove u all af) (sym (more t front tail) ∙ e ∙ more u all end_bytes) in
    let head : u ≡ t = differ Compact Compact u t (All-head IsTrove u all ai) (All-head IsTrove t front fi) (sym one.values) in
    let others = rest_of differ front all tail (All-tail IsTrove t front fi) (All-tail FitsTrove t front ff) (All-tail IsTrove u all ai) (All-tail FitsTrove u all af) one.rests in
    let split = others.1.split in
    (others.0, record { split = λ i. head i ∷ split i; troves_are = others.1.troves_are; fits = others.1.fits; spelled = others.1.spelled })

no_more : (front all rest : Commit) → IsRest front all rest end_bytes → all ≡ front
no_more front all [] is = is.split ∙ append-nil front
no_more front all (t ∷ rest) is = absurd (not_end t (text_of rest) (All-head FitsTrove t rest is.fits) (sym (is.spelled ∙ more t rest end_bytes)))

pub one_text : TrovesDiffer → (a b : Commit) → All IsTrove a → All FitsTrove a → All IsTrove b → All FitsTrove b → text_of a ≡ text_of b → a ≡ b
one_text differ a b ai af bi bf e = let rest = rest_of differ a b end_bytes ai af bi bf e in sym (no_more a b rest.0 rest.1)

pub one_stream : TrovesDiffer → (a b : Commit) (bytes : List ℕ) → IsCommitStream a bytes → IsCommitStream b bytes → a ≡ b
one_stream differ a b bytes one other =
    one_text differ a b one.troves_are one.fits other.troves_are other.fits (append_cancel_left magic (text_of a) (text_of b) (sym one.text ∙ other.text))
