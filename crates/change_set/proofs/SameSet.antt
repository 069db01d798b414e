-- The bytes determine a change set.
use Rattle.std.proofs.Common.{◌≡◌, ℕ, ◌≤◌, List, [], ◌∷◌, ◌++◌, length, flat_map, All, refl, sym, ap, ◌∙◌, arith, append_assoc, append-nil, length-append}
use Rattle.std.proofs.lemmas.List.{append_cancel_left}
use Rattle.std.proofs.lemmas.List.Elements.{All-head, All-tail, All-weaker}
use Rattle.cny_stream.specs.Item.{FitsItem}
use Rattle.cny_stream.proofs.ItemLaws.{same_item}
use Rattle.trove_stream.specs.cny-stream.declared.encoding.Encoding.{Encoding}
use Rattle.trove_stream.specs.cny-stream.declared.encoding.Encoding.TheVariants.{Compact}
use Rattle.trove_stream.specs.declared.rel.RelParts.{RelParts}
use Rattle.trove_stream.specs.RelBytes.{IsStreamOf, rel_bytes}
use Rattle.change_set.specs.declared.change.Part.{Part}
use Rattle.change_set.specs.declared.change.Part.TheVariants.{Whole, Relative}
use Rattle.change_set.specs.declared.change.Carried.{Carried}
use Rattle.change_set.specs.declared.change.ChangeSet.{ChangeSet}
use Rattle.change_set.specs.ChangeSet.{IsPart, part_tag, part_value, part_bytes, FitsPart, content_value, content_bytes, IsContentOf, end_bytes, magic, IsSetStream}
use Rattle.change_set.specs.FirstFault.{IsItemOf}
use Rattle.change_set.specs.Reading.{item_of}
use Rattle.change_set.proofs.Progress.{content_small}
use Rattle.trove_stream.proofs.Distinct.{TrovesDiffer}
use Rattle.trove_stream.proofs.cny-base.ItemLaws.{same_front}

-- ---- parts

-- no other part has the item of this one
abbrev pub IsOnlyPart : Part → Type 0
IsOnlyPart part = (other : Part) → IsItemOf other (item_of part) → other ≡ part

abbrev pub RelsDiffer : Type 0
RelsDiffer = (one other : Encoding) (a b : RelParts) (bytes : List ℕ) → IsStreamOf one a bytes → IsStreamOf other b bytes → a ≡ b

only_part : TrovesDiffer → RelsDiffer → (part : Part) → IsPart part → IsOnlyPart part
only_part troves rels (Whole a) valid (Whole b) is = ap Whole (troves Compact Compact b a is.valid valid (sym is.spelled))
only_part troves rels (Whole a) valid (Relative b) is = let tagged = is.tagged in absurd (omega arith)
only_part troves rels (Relative a) valid (Whole b) is = let tagged = is.tagged in absurd (omega arith)
only_part troves rels (Relative a) valid (Relative b) is =
    ap Relative (rels Compact Compact b a (rel_bytes b) (record { rel_is = is.valid; text = refl }) (record { rel_is = valid; text = sym is.spelled }))

pub only_parts : TrovesDiffer → RelsDiffer → (parts : List Part) → All IsPart parts → All IsOnlyPart parts
only_parts troves rels parts valid = All-weaker IsPart IsOnlyPart (only_part troves rels) parts valid

-- ---- contents

pub record IsHeld (content : Carried) : Type 0 where
  pub twenty : length content.name ≡ 20
  pub fits : FitsItem (content_value content)

held : (parts : List Part) → All IsPart parts → (content : Carried) → IsContentOf parts content → IsHeld content
held parts valid content is = record {
  twenty = is.twenty;
  fits = omega (arith, is.twenty, content_small parts content valid is, length-append content.name content.bytes);
}

same_content : (x y : Carried) (r s : List ℕ) → IsHeld x → IsHeld y → content_bytes x ++ r ≡ content_bytes y ++ s → (x ≡ y) × (r ≡ s)
same_content x y r s f g e =
    let items = same_item 0x12 0x12 (content_value x) (content_value y) r s f.fits g.fits e in
    let both = same_front x.name y.name x.bytes y.bytes (f.twenty ∙ sym g.twenty) items.values in
    (λ i. record { name = both.0 i; bytes = both.1 i }, items.rests)

-- the contents and the end
abbrev text_of : List Carried → List ℕ
text_of contents = flat_map content_bytes contents ++ end_bytes

more : (x : Carried) (xs : List Carried) → text_of (x ∷ xs) ≡ content_bytes x ++ text_of xs
more x xs = append_assoc (content_bytes x) (flat_map content_bytes xs) end_bytes

content_not_end : (x : Carried) (r : List ℕ) → IsHeld x → content_bytes x ++ r ≡ end_bytes → ⊥
content_not_end x r f e =
    let items = same_item 0x12 0x1F (content_value x) [] r [] f.fits (omega arith) (e ∙ sym (append-nil end_bytes)) in
    omega (arith, items.tags)

same_contents : (xs ys : List Carried) → All IsHeld xs → All IsHeld ys → text_of xs ≡ text_of ys → xs ≡ ys
same_contents [] [] f g e = refl
same_contents [] (y ∷ ys) f g e = absurd (content_not_end y (text_of ys) (All-head IsHeld y ys g) (sym (more y ys) ∙ sym e))
same_contents (x ∷ xs) [] f g e = absurd (content_not_end x (text_of xs) (All-head IsHeld x xs f) (sym (more x xs) ∙ e))
same_contents (x ∷ xs) (y ∷ ys) f g e =
    let one = same_content x y (text_of xs) (text_of ys) (All-head IsHeld x xs f) (All-head IsHeld y ys g) (sym (more x xs) ∙ e ∙ more y ys) in
    let rest = same_contents xs ys (All-tail IsHeld x xs f) (All-tail IsHeld y ys g) one.1 in
    let heads = one.0 in
    cc

-- ---- parts

part_not : (p : Part) (tag : ℕ) → part_tag p ≡ tag → 0x12 ≤ tag → ⊥
part_not (Whole t) tag e le = omega (arith, e, le)
part_not (Relative r) tag e le = omega (arith, e, le)

-- what stands behind the parts begins with no part
not_part : (cs : List Carried) (p : Part) (r : List ℕ) → All IsHeld cs → FitsPart p → text_of cs ≡ part_bytes p ++ r → ⊥
not_part [] p r f fits e =
    let items = same_item 0x1F (part_tag p) [] (part_value p) [] r (omega arith) fits (append-nil end_bytes ∙ e) in
    part_not p 0x1F (sym items.tags) (omega arith)
not_part (c ∷ cs) p r f fits e =
    let head = All-head IsHeld c cs f in
    let items = same_item 0x12 (part_tag p) (content_value c) (part_value p) (text_of cs) r head.fits fits (sym (more c cs) ∙ e) in
    part_not p 0x12 (sym items.tags) (omega arith)

-- the whole
abbrev all_of : List Part → List Carried → List ℕ
all_of ps cs = flat_map part_bytes ps ++ text_of cs

more_parts : (p : Part) (ps : List Part) (cs : List Carried) → all_of (p ∷ ps) cs ≡ part_bytes p ++ all_of ps cs
more_parts p ps cs = append_assoc (part_bytes p) (flat_map part_bytes ps) (text_of cs)

same_part : (p q : Part) (r s : List ℕ) → IsOnlyPart p → IsPart q → FitsPart p → FitsPart q → part_bytes p ++ r ≡ part_bytes q ++ s → (q ≡ p) × (r ≡ s)
same_part p q r s only valid f g e =
    let items = same_item (part_tag p) (part_tag q) (part_value p) (part_value q) r s f g e in
    (only q (record { valid = valid; tagged = items.tags; spelled = items.values }), items.rests)

same_all : (ps qs : List Part) (cs ds : List Carried) → All IsOnlyPart ps → All IsPart qs → All FitsPart ps → All FitsPart qs → All IsHeld cs → All IsHeld ds → all_of ps cs ≡ all_of qs ds → (qs ≡ ps) × (ds ≡ cs)
same_all [] [] cs ds only valid f g h k e = (refl, sym (same_contents cs ds h k e))
same_all [] (q ∷ qs) cs ds only valid f g h k e = absurd (not_part cs q (all_of qs ds) h (All-head FitsPart q qs g) (e ∙ more_parts q qs ds))
same_all (p ∷ ps) [] cs ds only valid f g h k e = absurd (not_part ds p (all_of ps cs) k (All-head FitsPart p ps f) (sym e ∙ more_parts p ps cs))
same_all (p ∷ ps) (q ∷ qs) cs ds only valid f g h k e =
    let one = same_part p q (all_of ps cs) (all_of qs ds) (All-head IsOnlyPart p ps only) (All-head IsPart q qs valid) (All-head FitsPart p ps f) (All-head FitsPart q qs g) (sym (more_parts p ps cs) ∙ e ∙ more_parts q qs ds) in
    let rest = same_all ps qs cs ds (All-tail IsOnlyPart p ps only) (All-tail IsPart q qs valid) (All-tail FitsPart p ps f) (All-tail FitsPart q qs g) h k one.1 in
    let heads = one.0 in
    let tails = rest.0 in
    (cc, rest.1)

-- ---- change sets

same_set : (set other : ChangeSet) (bytes : List ℕ) → IsSetStream set bytes → All IsOnlyPart set.parts → IsSetStream other bytes → set ≡ other
same_set set other bytes is only too =
    let e = append_cancel_left magic (all_of set.parts set.contents) (all_of other.parts other.contents) (sym is.text ∙ too.text) in
    let one = same_all set.parts other.parts set.contents other.contents only too.set_is.parts is.set_is.fits too.set_is.fits
    (All-weaker (IsContentOf set.parts) IsHeld (held set.parts is.set_is.parts) set.contents is.set_is.has_contents.contents)
    (All-weaker (IsContentOf other.parts) IsHeld (held other.parts too.set_is.parts) other.contents too.set_is.has_contents.contents) e in
    λ i. record { parts = sym one.0 i; contents = sym one.1 i }

pub one_set : TrovesDiffer → RelsDiffer → (set other : ChangeSet) (bytes : List ℕ) → IsSetStream set bytes → IsSetStream other bytes → set ≡ other
one_set troves rels set other bytes is too =
    same_set set other bytes is (only_parts troves rels set.parts is.set_is.parts) too
