-- The bytes of a database and of a record spell one list, and one record.
use Rattle.std.proofs.Common.{◌≡◌, ℕ, ◌<◌, ◌^◌, Bool, true, false, cond, List, [], ◌∷◌, ◌++◌, length, drop, get_or, flat_map, Option, Some, None, All, refl, sym, ◌∙◌, ap, arith, append_assoc, append-nil}
use Rattle.std.specs.Int.{w32, to_be_bytes}
use Rattle.std.proofs.lemmas.Bool.{false≢true}
use Rattle.std.proofs.lemmas.List.Elements.{All-head, All-tail}
use Rattle.cny_stream.specs.Item.{FitsItem, item_bytes}
use Rattle.cny_stream.proofs.ItemLaws.{same_item, same_four}
use Rattle.trove_stream.specs.trove-parts.Items.{items_bytes, begins_with_tag}
use Rattle.trove_stream.proofs.trove-parts.ItemsLaws.{other_tag}
use Rattle.trove_stream.specs.declared.parts.TroveParts.{TroveParts}
use Rattle.trove_stream.specs.Trove.{IsTrove}
use Rattle.trove_stream.specs.declared.rel.RelParts.{RelParts}
use Rattle.trove_stream.specs.Rel.{IsRel}
use Rattle.trove_stream.specs.RelBytes.{IsStreamOf}
use Rattle.trove_stream.specs.cny-stream.declared.encoding.Encoding.{Encoding}
use Rattle.trove_stream.specs.trove-parts.declared.id.TroveId.{TroveId}
use Rattle.trove_stream.specs.trove-parts.Id.{IsTroveId, id_bytes}
use Rattle.trove_stream.specs.Stream.{stream_bytes}
use Rattle.tree_scan.specs.declared.mark.Mark.{Mark}
use Rattle.tree_scan.specs.declared.mark.Mark.TheVariants.{Nothing, Dir, File, Link}
use Rattle.tree_scan.proofs.MarkLaws.{same_mark_means}
use Rattle.local_db.specs.MarkBytes.{IsMark, mark_bytes, tells, told_bytes}
use Rattle.local_db.specs.Installed.{recorded}
use Rattle.local_db.specs.declared.format.Format.{Format}
use Rattle.local_db.specs.declared.format.Format.TheVariants.{One, Two}
use Rattle.local_db.specs.Formats.{encoding_of, database_magic, record_magic, trove_text, rel_text, limit, database_bytes, Fits}
use Rattle.local_db.specs.Record.{Delta, came, was, turned, delta_tag, delta_value, delta_bytes, IsDelta, Entry, IsEntry, entry_value, record_bytes}
use Rattle.local_db.specs.Stores.{SameDatabase}
use Rattle.local_db.proofs.Items.{shorter, all_fit, one_items}
use Rattle.tree_journal.proofs.journal-log.Links.{fits_path, fits_target, same_two}
use Rattle.trove_stream.proofs.cny-base.Below.{equal_test as itself}
use Rattle.trove_stream.proofs.cny-base.ItemLaws.{same_front}
use Rattle.trove_stream.proofs.cny-base.IdFields.{same_str}
use Rattle.trove_stream.proofs.cny-base.OptionValues.{same_some as some_same}

-- ---- marks

pub same_marks : (m n : Mark) (a b : List ℕ) → IsMark m → IsMark n → mark_bytes m ++ a ≡ mark_bytes n ++ b → (m ≡ n) × (a ≡ b)
same_marks Nothing Nothing a b f g e = (refl, ap (drop 1) e)
same_marks Nothing (Dir n) a b f g e = absurd (let k : 110 ≡ 100 = ap (λ l. get_or l 0 0) e in omega (arith, k))
same_marks Nothing (File n t c) a b f g e = absurd (let k : 110 ≡ 102 = ap (λ l. get_or l 0 0) e in omega (arith, k))
same_marks Nothing (Link c) a b f g e = absurd (let k : 110 ≡ 108 = ap (λ l. get_or l 0 0) e in omega (arith, k))
same_marks (Dir m) Nothing a b f g e = absurd (let k : 100 ≡ 110 = ap (λ l. get_or l 0 0) e in omega (arith, k))
same_marks (Dir m) (Dir n) a b f g e = let r = same_two m n a b (omega (arith, f)) (omega (arith, g)) (ap (drop 1) e) in (ap Dir r.0, r.1)
same_marks (Dir m) (File n t c) a b f g e = absurd (let k : 100 ≡ 102 = ap (λ l. get_or l 0 0) e in omega (arith, k))
same_marks (Dir m) (Link c) a b f g e = absurd (let k : 100 ≡ 108 = ap (λ l. get_or l 0 0) e in omega (arith, k))
same_marks (File m s d) Nothing a b f g e = absurd (let k : 102 ≡ 110 = ap (λ l. get_or l 0 0) e in omega (arith, k))
same_marks (File m s d) (Dir n) a b f g e = absurd (let k : 102 ≡ 100 = ap (λ l. get_or l 0 0) e in omega (arith, k))
same_marks (File m s d) (File n t c) a b f g e =
    let modes = same_two m n ((to_be_bytes w32 s ++ d) ++ a) ((to_be_bytes w32 t ++ c) ++ b) (omega (arith, f.0)) (omega (arith, g.0)) (ap (drop 1) e) in
    let sizes = same_four s t (d ++ a) (c ++ b) f.1 g.1 modes.1 in
    let names = same_front d c a b (f.2 ∙ sym g.2) sizes.1 in
    let m0 = modes.0 in let s0 = sizes.0 in let d0 = names.0 in
    (λ i. File (m0 i) (s0 i) (d0 i), names.1)
same_marks (File m s d) (Link c) a b f g e = absurd (let k : 102 ≡ 108 = ap (λ l. get_or l 0 0) e in omega (arith, k))
same_marks (Link d) Nothing a b f g e = absurd (let k : 108 ≡ 110 = ap (λ l. get_or l 0 0) e in omega (arith, k))
same_marks (Link d) (Dir n) a b f g e = absurd (let k : 108 ≡ 100 = ap (λ l. get_or l 0 0) e in omega (arith, k))
same_marks (Link d) (File n t c) a b f g e = absurd (let k : 108 ≡ 102 = ap (λ l. get_or l 0 0) e in omega (arith, k))
same_marks (Link d) (Link c) a b f g e = let r = same_str d c a b (fits_target d f) (fits_target c g) (ap (drop 1) e) in (ap Link r.0, r.1)

-- a mark isn't written as `=`
pub no_sign : (m : Mark) (a b : List ℕ) → mark_bytes m ++ a ≡ 61 ∷ b → ⊥
no_sign Nothing a b e = let k : 110 ≡ 61 = ap (λ l. get_or l 0 0) e in omega (arith, k)
no_sign (Dir m) a b e = let k : 100 ≡ 61 = ap (λ l. get_or l 0 0) e in omega (arith, k)
no_sign (File m s d) a b e = let k : 102 ≡ 61 = ap (λ l. get_or l 0 0) e in omega (arith, k)
no_sign (Link d) a b e = let k : 108 ≡ 61 = ap (λ l. get_or l 0 0) e in omega (arith, k)

told_is : (r : Option Mark) (m : Mark) → tells r m ≡ true → r ≡ Some m
told_is None m h = absurd (cc h)
told_is (Some told) m h = ap (λ (k : Mark). Some k) (same_mark_means told m h)

pub same_told : (r : Option Mark) (m n : Mark) (a b : List ℕ) → IsMark m → IsMark n → told_bytes r m ++ a ≡ told_bytes r n ++ b → (m ≡ n) × (a ≡ b)
same_told r m n a b f g e = by (tells r m) (tells r n) refl refl e
  where
    by : (x y : Bool) → tells r m ≡ x → tells r n ≡ y → cond x (61 ∷ []) (mark_bytes m) ++ a ≡ cond y (61 ∷ []) (mark_bytes n) ++ b → (m ≡ n) × (a ≡ b)
    by true true h k e = (some_same m n (sym (told_is r m h) ∙ told_is r n k), ap (drop 1) e)
    by true false h k e = absurd (no_sign n b a (sym e))
    by false true h k e = absurd (no_sign m a b e)
    by false false h k e = same_marks m n a b f g e

-- ---- entries

pub entry_once : (before after : List TroveParts) (d e : Entry) → IsEntry d → IsEntry e → entry_value before after d ≡ entry_value before after e → d ≡ e
entry_once before after d e d_is e_is same =
    let paths = same_str d.path e.path (told_bytes (recorded before d.path) d.was ++ told_bytes (recorded after d.path) d.now) (told_bytes (recorded before e.path) e.was ++ told_bytes (recorded after e.path) e.now)
    (fits_path d.path d_is.path) (fits_path e.path e_is.path) same in
    let at_d : told_bytes (recorded before e.path) e.was ++ told_bytes (recorded after e.path) e.now ≡ told_bytes (recorded before d.path) e.was ++ told_bytes (recorded after d.path) e.now =
    ap (λ (p : List ℕ). told_bytes (recorded before p) e.was ++ told_bytes (recorded after p) e.now) (sym paths.0) in
    let first = same_told (recorded before d.path) d.was e.was (told_bytes (recorded after d.path) d.now) (told_bytes (recorded after d.path) e.now) d_is.was e_is.was (paths.1 ∙ at_d) in
    let second = same_told (recorded after d.path) d.now e.now [] [] d_is.now e_is.now
    (append-nil (told_bytes (recorded after d.path) d.now) ∙ first.1 ∙ sym (append-nil (told_bytes (recorded after d.path) e.now))) in
    let p0 = paths.0 in let f0 = first.0 in let s0 = second.0 in
    λ i. record { path = p0 i; was = f0 i; now = s0 i }

-- ---- trove deltas

-- no bytes are those of two ids, two troves or two relative troves
pub record Distinct : Type 0 where
  pub ids : (a b : TroveId) (x y : List ℕ) → IsTroveId a → IsTroveId b → id_bytes a ++ x ≡ id_bytes b ++ y → (a ≡ b) × (x ≡ y)
  pub troves : (one other : Encoding) (a b : TroveParts) → IsTrove a → IsTrove b → stream_bytes one a ≡ stream_bytes other b → a ≡ b
  pub rels : (one other : Encoding) (a b : RelParts) (bytes : List ℕ) → IsStreamOf one a bytes → IsStreamOf other b bytes → a ≡ b

pub id_once : Distinct → (a b : TroveId) → IsTroveId a → IsTroveId b → id_bytes a ≡ id_bytes b → a ≡ b
id_once d a b x y e = (d.ids a b [] [] x y (append-nil (id_bytes a) ∙ e ∙ sym (append-nil (id_bytes b)))).0

pub trove_once : Distinct → (f : Format) (t u : TroveParts) → IsTrove t → IsTrove u → trove_text f t ≡ trove_text f u → t ≡ u
trove_once d f t u a b e = d.troves (encoding_of f) (encoding_of f) t u a b e

pub rel_once : Distinct → (f : Format) (a b : RelParts) → IsRel a → IsRel b → rel_text f a ≡ rel_text f b → a ≡ b
rel_once d f a b x y e = d.rels (encoding_of f) (encoding_of f) a b (rel_text f a) (record { rel_is = x; text = refl }) (record { rel_is = y; text = e })

delta_once : Distinct → (f : Format) (u v : Delta) → IsDelta f u → IsDelta f v → delta_tag u ≡ delta_tag v → delta_value f u ≡ delta_value f v → u ≡ v
delta_once d f (came a) (came b) x y tags e = ap came (id_once d a b x y e)
delta_once d f (came a) (was b) x y tags e = absurd (omega (arith, tags))
delta_once d f (came a) (turned b) x y tags e = absurd (omega (arith, tags))
delta_once d f (was a) (came b) x y tags e = absurd (omega (arith, tags))
delta_once d f (was a) (was b) x y tags e = ap was (trove_once d f a b x.0 y.0 e)
delta_once d f (was a) (turned b) x y tags e = absurd (omega (arith, tags))
delta_once d f (turned a) (came b) x y tags e = absurd (omega (arith, tags))
delta_once d f (turned a) (was b) x y tags e = absurd (omega (arith, tags))
delta_once d f (turned a) (turned b) x y tags e = ap turned (rel_once d f a b x.0 y.0 e)

-- bytes that begin with no item of a trove delta
Ends : List ℕ → Type 0
Ends r = (u : Delta) → begins_with_tag (delta_tag u) r ≡ false

one_deltas : Distinct → (f : Format) (us vs : List Delta) (r s : List ℕ) → All (IsDelta f) us → All (IsDelta f) vs → All (λ u. FitsItem (delta_value f u)) us → All (λ u. FitsItem (delta_value f u)) vs
    → Ends r → Ends s → flat_map (delta_bytes f) us ++ r ≡ flat_map (delta_bytes f) vs ++ s → (us ≡ vs) × (r ≡ s)
unfolding Ends
one_deltas t f [] [] r s a b c d er es e = (refl, e)
one_deltas t f [] (v ∷ vs) r s a b c d er es e = absurd (false≢true (sym (er v) ∙ ap (begins_with_tag (delta_tag v)) e ∙ itself (delta_tag v)))
one_deltas t f (u ∷ us) [] r s a b c d er es e = absurd (false≢true (sym (es u) ∙ ap (begins_with_tag (delta_tag u)) (sym e) ∙ itself (delta_tag u)))
one_deltas t f (u ∷ us) (v ∷ vs) r s a b c d er es e =
    let items = same_item (delta_tag u) (delta_tag v) (delta_value f u) (delta_value f v) (flat_map (delta_bytes f) us ++ r) (flat_map (delta_bytes f) vs ++ s)
    (All-head (λ u. FitsItem (delta_value f u)) u us c) (All-head (λ u. FitsItem (delta_value f u)) v vs d)
    (sym (append_assoc (delta_bytes f u) (flat_map (delta_bytes f) us) r) ∙ e ∙ append_assoc (delta_bytes f v) (flat_map (delta_bytes f) vs) s) in
    let head = delta_once t f u v (All-head (IsDelta f) u us a) (All-head (IsDelta f) v vs b) items.tags items.values in
    let tail = one_deltas t f us vs r s (All-tail (IsDelta f) u us a) (All-tail (IsDelta f) v vs b) (All-tail (λ u. FitsItem (delta_value f u)) u us c) (All-tail (λ u. FitsItem (delta_value f u)) v vs d) er es items.rests in
    (λ i. head i ∷ tail.0 i, tail.1)

-- ---- records

pub entries_part : (before after : List TroveParts) → List Entry → List ℕ
entries_part before after entries = items_bytes (entry_value before after) 0x67 entries ++ item_bytes 0x6F []

entries_end : (before after : List TroveParts) (entries : List Entry) → Ends (entries_part before after entries)
unfolding Ends entries_part
entries_end before after entries (came id) = other_tag (entry_value before after) 0x64 0x67 entries (item_bytes 0x6F []) refl refl
entries_end before after entries (was t) = other_tag (entry_value before after) 0x65 0x67 entries (item_bytes 0x6F []) refl refl
entries_end before after entries (turned rel) = other_tag (entry_value before after) 0x66 0x67 entries (item_bytes 0x6F []) refl refl

pub without_head : (f : Format) (number : ℕ) (r s : List ℕ) → record_magic f ++ (item_bytes 0x60 (to_be_bytes w32 number) ++ r) ≡ record_magic f ++ (item_bytes 0x60 (to_be_bytes w32 number) ++ s) → r ≡ s
without_head One number r s e = ap (drop 17) e
without_head Two number r s e = ap (drop 17) e

-- the trove deltas first
pub one_delta_list : Distinct → (f : Format) (number : ℕ) (us vs : List Delta) (l m after : List TroveParts) (es ds : List Entry)
    → All (IsDelta f) us → All (IsDelta f) vs → All (λ u. FitsItem (delta_value f u)) us → All (λ u. FitsItem (delta_value f u)) vs
    → record_bytes f number us l after es ≡ record_bytes f number vs m after ds → (us ≡ vs) × (entries_part l after es ≡ entries_part m after ds)
unfolding entries_part
one_delta_list t f number us vs l m after es ds a b c d e =
    one_deltas t f us vs (entries_part l after es) (entries_part m after ds) a b c d (entries_end l after es) (entries_end m after ds)
    (without_head f number (flat_map (delta_bytes f) us ++ entries_part l after es) (flat_map (delta_bytes f) vs ++ entries_part m after ds) e)

-- then the file entries, once the list before is known
pub one_entry_list : (l after : List TroveParts) (es ds : List Entry) → All IsEntry es → All IsEntry ds → All (λ e. FitsItem (entry_value l after e)) es → All (λ e. FitsItem (entry_value l after e)) ds
    → entries_part l after es ≡ entries_part l after ds → es ≡ ds
unfolding entries_part
one_entry_list l after es ds a b c d e =
    (one_items (entry_value l after) IsEntry 0x67 (entry_once l after) es ds (item_bytes 0x6F []) (item_bytes 0x6F []) a b c d refl refl e).0

-- ---- databases

pub one_format : (f g : Format) (list other : List TroveParts) (a b c d : ℕ) → database_bytes f list a b ≡ database_bytes g other c d → f ≡ g
one_format One One list other a b c d e = refl
one_format One Two list other a b c d e = absurd (let k : 49 ≡ 50 = ap (λ l. get_or l 6 0) e in omega (arith, k))
one_format Two One list other a b c d e = absurd (let k : 50 ≡ 49 = ap (λ l. get_or l 6 0) e in omega (arith, k))
one_format Two Two list other a b c d e = refl

pub behind_list : ℕ → ℕ → List ℕ
behind_list a b = item_bytes 0x51 (to_be_bytes w32 a ++ to_be_bytes w32 b) ++ item_bytes 0x5F []

pub without_magic : (f : Format) (r s : List ℕ) → database_magic f ++ r ≡ database_magic f ++ s → r ≡ s
without_magic One r s e = ap (drop 8) e
without_magic Two r s e = ap (drop 8) e

-- the numbers take the same room in any database
pub same_room : (f : Format) (list : List TroveParts) (a b : ℕ) → length (database_bytes f list a b) ≡ length (database_bytes f list 0 0)
same_room f list a b = room (database_magic f)
  where
    in_list : (xs : List TroveParts) → length (items_bytes (trove_text f) 0x50 xs ++ (item_bytes 0x51 (to_be_bytes w32 a ++ to_be_bytes w32 b) ++ item_bytes 0x5F []))
        ≡ length (items_bytes (trove_text f) 0x50 xs ++ (item_bytes 0x51 (to_be_bytes w32 0 ++ to_be_bytes w32 0) ++ item_bytes 0x5F []))
    in_list [] = refl
    in_list (x ∷ xs) =
        ap length (append_assoc (item_bytes 0x50 (trove_text f x)) (items_bytes (trove_text f) 0x50 xs) (item_bytes 0x51 (to_be_bytes w32 a ++ to_be_bytes w32 b) ++ item_bytes 0x5F []))
        ∙ front (item_bytes 0x50 (trove_text f x)) _ _ (in_list xs)
        ∙ ap length (sym (append_assoc (item_bytes 0x50 (trove_text f x)) (items_bytes (trove_text f) 0x50 xs) (item_bytes 0x51 (to_be_bytes w32 0 ++ to_be_bytes w32 0) ++ item_bytes 0x5F [])))
      where
        front : (p r s : List ℕ) → length r ≡ length s → length (p ++ r) ≡ length (p ++ s)
        front [] r s e = e
        front (y ∷ p) r s e = omega (arith, front p r s e)

    room : (p : List ℕ) → length (p ++ (items_bytes (trove_text f) 0x50 list ++ (item_bytes 0x51 (to_be_bytes w32 a ++ to_be_bytes w32 b) ++ item_bytes 0x5F [])))
        ≡ length (p ++ (items_bytes (trove_text f) 0x50 list ++ (item_bytes 0x51 (to_be_bytes w32 0 ++ to_be_bytes w32 0) ++ item_bytes 0x5F [])))
    room [] = in_list list
    room (y ∷ p) = omega (arith, room p)

pub fits_long : (f : Format) (list : List TroveParts) (a b : ℕ) → Fits f list → length (database_bytes f list a b) < 2 ^ 32
fits_long One list a b fits = let short = fits.short in let most : limit One ≡ 268435456 = refl in omega (arith, short, same_room One list a b, most)
fits_long Two list a b fits = let short = fits.short in let most : limit Two ≡ 536870912 = refl in omega (arith, short, same_room Two list a b, most)

pub one_database : Distinct → (f : Format) (list other : List TroveParts) (a b c d : ℕ) → All IsTrove list → All IsTrove other → Fits f list → Fits f other → a < 2 ^ 32 → b < 2 ^ 32 → c < 2 ^ 32 → d < 2 ^ 32
    → database_bytes f list a b ≡ database_bytes f other c d → SameDatabase f f list other a b c d
unfolding behind_list
one_database t f list other a b c d is js fits gits a_fits b_fits c_fits d_fits e =
    let rest = without_magic f (items_bytes (trove_text f) 0x50 list ++ behind_list a b) (items_bytes (trove_text f) 0x50 other ++ behind_list c d) e in
    let long : length (items_bytes (trove_text f) 0x50 list ++ behind_list a b) < 2 ^ 32 = shorter (database_magic f) (items_bytes (trove_text f) 0x50 list ++ behind_list a b) (fits_long f list a b fits) in
    let long' : length (items_bytes (trove_text f) 0x50 other ++ behind_list c d) < 2 ^ 32 = shorter (database_magic f) (items_bytes (trove_text f) 0x50 other ++ behind_list c d) (fits_long f other c d gits) in
    let fx = all_fit (trove_text f) IsTrove 0x50 (trove_once t f) list (behind_list a b) long in
    let fy = all_fit (trove_text f) IsTrove 0x50 (trove_once t f) other (behind_list c d) long' in
    let both = one_items (trove_text f) IsTrove 0x50 (trove_once t f) list other (behind_list a b) (behind_list c d)
    is js fx fy refl refl rest in
    let low = same_four a c (to_be_bytes w32 b ++ item_bytes 0x5F []) (to_be_bytes w32 d ++ item_bytes 0x5F []) a_fits c_fits (ap (drop 5) both.1) in
    let high = same_four b d (item_bytes 0x5F []) (item_bytes 0x5F []) b_fits d_fits low.1 in
    record { formats = refl; lists = both.0; oldest = low.0; newest = high.0 }
