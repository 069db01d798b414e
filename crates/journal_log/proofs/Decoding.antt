-- The bytes of a log determine its puts, and how far they are read.
use Rattle.std.proofs.Common.{◌≡◌, ℕ, ◌<◌, ◌≤◌, ◌^◌, true, false, List, [], ◌∷◌, ◌++◌, length, get_or, drop, flat_map, All, sym, ◌∙◌, ap, subst, refl, arith, append_assoc, append-nil, IsTrue}
use Rattle.std.specs.Prelude.{slice_range}
use Rattle.std.specs.Int.{w32, to_be_bytes}
use Rattle.std.proofs.lemmas.List.{append_cancel_left, length-drop}
use Rattle.std.proofs.lemmas.List.Concat.{flat_map-append}
use Rattle.std.proofs.lemmas.List.Elements.{All-head, All-tail, All-push, All-weaker}
use Rattle.tree_disk.specs.cny-base.Path.{is_path}
use Rattle.tree_disk.specs.cny-base.StrField.{str}
use Rattle.cny_stream.specs.Item.{FitsItem, item_bytes, IsItemAt, is_expected}
use Rattle.cny_stream.proofs.ItemLaws.{same_item, same_four}
use Rattle.tree_disk.specs.Tree.{Name}
use Rattle.journal_log.specs.declared.put.Want.{Want}
use Rattle.journal_log.specs.declared.put.Want.TheVariants.{Nothing, Dir, File, Link, Staged}
use Rattle.journal_log.specs.declared.put.Put.{Put}
use Rattle.journal_log.specs.Staged.{is_file_want}
use Rattle.journal_log.specs.WriteSet.{Rises, IsFormed, CanBeLogged}
use Rattle.journal_log.specs.Rules.{AreLogged, AreNamed, NothingBelow}
use Rattle.journal_log.specs.LogBytes.{magic, put_tag, put_value, put_bytes, end_bytes, FitsPut, IsLogText}
use Rattle.journal_log.specs.PutItem.{IsPutItem, IsTold, ArePutsOf, IsEnd}
use Rattle.journal_log.proofs.Links.{same_two, fits_path, fits_target}
use Rattle.tree_disk.proofs.cny-base.IdFields.{same_str}

-- ---- one put for one item

same_value : (p q : Name) (v w : Want) → IsTrue (is_path p) → IsTrue (is_path q) → IsFormed v → IsFormed w → is_file_want v ≡ false → is_file_want w ≡ false → put_tag v ≡ put_tag w → put_value p v ≡ put_value q w → (p ≡ q) × (v ≡ w)
same_value p q (File m a) w p_is q_is f g v_none w_none tags e = absurd (cc v_none)
same_value p q v (File m a) p_is q_is f g v_none w_none tags e = absurd (cc w_none)
same_value p q Nothing Nothing p_is q_is f g v_none w_none tags e = (e, refl)
same_value p q (Dir m) (Dir n) p_is q_is f g v_none w_none tags e =
    let both = same_two m n p q (omega arith) (omega arith) e in
    (both.1, ap Dir both.0)
same_value p q (Link s) (Link t) p_is q_is f g v_none w_none tags e =
    let one = same_str p q (str s) (str t) (fits_path p p_is) (fits_path q q_is) e in
    let two = same_str s t [] [] (fits_target s f) (fits_target t g) (append-nil (str s) ∙ one.1 ∙ sym (append-nil (str t))) in
    (one.0, ap Link two.0)
same_value p q (Staged m i s a) (Staged n j t b) p_is q_is f g v_none w_none tags e =
    let m_fits = f.mode_fits in
    let n_fits = g.mode_fits in
    let modes = same_two m n (str p ++ (to_be_bytes w32 i ++ (to_be_bytes w32 s ++ a))) (str q ++ (to_be_bytes w32 j ++ (to_be_bytes w32 t ++ b))) (omega (arith, m_fits)) (omega (arith, n_fits)) e in
    let paths = same_str p q (to_be_bytes w32 i ++ (to_be_bytes w32 s ++ a)) (to_be_bytes w32 j ++ (to_be_bytes w32 t ++ b)) (fits_path p p_is) (fits_path q q_is) modes.1 in
    let numbers = same_four i j (to_be_bytes w32 s ++ a) (to_be_bytes w32 t ++ b) f.number_fits g.number_fits paths.1 in
    let sizes = same_four s t a b f.size_fits g.size_fits numbers.1 in
    (paths.0, ap (λ (k : ℕ). Staged k i s a) modes.0 ∙ ap (λ (k : ℕ). Staged n k s a) numbers.0 ∙ ap (λ (k : ℕ). Staged n j k a) sizes.0 ∙ ap (Staged n j t) sizes.1)
same_value p q Nothing (Dir n) p_is q_is f g v_none w_none tags e = absurd (omega arith)
same_value p q Nothing (Link t) p_is q_is f g v_none w_none tags e = absurd (omega arith)
same_value p q Nothing (Staged n j t b) p_is q_is f g v_none w_none tags e = absurd (omega arith)
same_value p q (Dir m) Nothing p_is q_is f g v_none w_none tags e = absurd (omega arith)
same_value p q (Dir m) (Link t) p_is q_is f g v_none w_none tags e = absurd (omega arith)
same_value p q (Dir m) (Staged n j t b) p_is q_is f g v_none w_none tags e = absurd (omega arith)
same_value p q (Link s) Nothing p_is q_is f g v_none w_none tags e = absurd (omega arith)
same_value p q (Link s) (Dir n) p_is q_is f g v_none w_none tags e = absurd (omega arith)
same_value p q (Link s) (Staged n j t b) p_is q_is f g v_none w_none tags e = absurd (omega arith)
same_value p q (Staged m i s a) Nothing p_is q_is f g v_none w_none tags e = absurd (omega arith)
same_value p q (Staged m i s a) (Dir n) p_is q_is f g v_none w_none tags e = absurd (omega arith)
same_value p q (Staged m i s a) (Link t) p_is q_is f g v_none w_none tags e = absurd (omega arith)

pub not_end : (w : Want) → put_tag w ≡ 0x3F → ⊥
not_end Nothing e = omega arith
not_end (Dir mode) e = omega arith
not_end (Link target) e = omega arith
not_end (File mode bytes) e = omega arith
not_end (Staged mode number size name) e = omega arith

same_put : (p q : Put) (r s : List ℕ) → IsTold p → IsTold q → put_bytes p ++ r ≡ put_bytes q ++ s → (p ≡ q) × (r ≡ s)
same_put p q r s f g e =
    let items = same_item (put_tag p.want) (put_tag q.want) (put_value p.path p.want) (put_value q.path q.want) r s f.fits g.fits e in
    let parts = same_value p.path q.path p.want q.want f.path g.path f.formed g.formed f.no_bytes g.no_bytes items.tags items.values in
    (λ i. record { path = parts.0 i; want = parts.1 i }, items.rests)

-- ---- the puts read so far are a front of all puts

-- what is left of the puts, and how it is spelled
pub record IsTail (all front tail : List Put) (rest : List ℕ) (number : ℕ) : Type 0 where
  pub split : all ≡ front ++ tail
  pub told : All IsTold tail
  pub spelled : rest ≡ flat_map put_bytes tail ++ end_bytes number

same_start : (front all : List Put) (rest : List ℕ) (number : ℕ) → All IsTold front → All IsTold all → flat_map put_bytes front ++ rest ≡ flat_map put_bytes all ++ end_bytes number → (tail : List Put) × IsTail all front tail rest number
same_start [] all rest n f g e = (all, record { split = refl; told = g; spelled = e })
same_start (p ∷ front) [] rest n f g e =
    let items = same_item (put_tag p.want) 0x3F (put_value p.path p.want) (to_be_bytes w32 n) (flat_map put_bytes front ++ rest) [] (All-head IsTold p front f).fits (omega arith) (sym (append_assoc (put_bytes p) (flat_map put_bytes front) rest) ∙ e ∙ sym (append-nil (end_bytes n))) in
    absurd (not_end p.want items.tags)
same_start (p ∷ front) (q ∷ all) rest n f g e =
    let both = same_put p q (flat_map put_bytes front ++ rest) (flat_map put_bytes all ++ end_bytes n) (All-head IsTold p front f) (All-head IsTold q all g) (sym (append_assoc (put_bytes p) (flat_map put_bytes front) rest) ∙ e ∙ append_assoc (put_bytes q) (flat_map put_bytes all) (end_bytes n)) in
    let more = same_start front all rest n (All-tail IsTold p front f) (All-tail IsTold q all g) both.1 in
    (more.0, record { split = ap (λ (x : Put). x ∷ all) (sym both.0) ∙ ap (λ (l : List Put). p ∷ l) more.1.split; told = more.1.told; spelled = more.1.spelled })

-- The puts are those of the items up to `at`.
pub record IsReadTo (bytes : List ℕ) (puts : List Put) (at : ℕ) : Type 0 where
  pub within : at ≤ length bytes
  pub told : All IsTold puts
  pub text : bytes ≡ magic ++ (flat_map put_bytes puts ++ drop at bytes)

pub tail_of : (bytes : List ℕ) (puts all : List Put) (at : ℕ) → IsReadTo bytes puts at → ArePutsOf all bytes → (tail : List Put) × IsTail all puts tail (drop at bytes) (length all)
tail_of bytes puts all at so_far whole =
    same_start puts all (drop at bytes) (length all) so_far.told whole.told
    (append_cancel_left magic (flat_map put_bytes puts ++ drop at bytes) (flat_map put_bytes all ++ end_bytes (length all)) (sym so_far.text ∙ whole.text))

-- ---- one more put

pub one_more : (bytes : List ℕ) (puts : List Put) (at tag from to : ℕ) (p : Put) → IsReadTo bytes puts at → IsItemAt bytes at tag from to → IsPutItem p tag (slice_range bytes from to) → IsReadTo bytes (puts ++ p ∷ []) to
one_more bytes puts at tag from to p so_far item put =
    let same : put_bytes p ≡ item_bytes tag (slice_range bytes from to) = ap (λ (t : ℕ). item_bytes t (put_value p.path p.want)) put.tagged ∙ ap (item_bytes tag) put.spelled in
    let told : IsTold p = record { path = put.path; formed = put.formed; no_bytes = put.no_bytes; fits = subst FitsItem (sym put.spelled) item.fits } in
    record {
      within = item.within;
      told = All-push IsTold puts p so_far.told told;
      text = so_far.text ∙ ap (λ (l : List ℕ). magic ++ l)
          (ap (λ (l : List ℕ). flat_map put_bytes puts ++ l) (item.spelled ∙ ap (λ (l : List ℕ). l ++ drop to bytes) (sym same ∙ sym (append-nil (put_bytes p))))
          ∙ sym (append_assoc (flat_map put_bytes puts) (put_bytes p ++ []) (drop to bytes))
          ∙ ap (λ (l : List ℕ). l ++ drop to bytes) (sym (flat_map-append put_bytes puts (p ∷ []))));
    }

-- ---- what is no log

-- an item of a log
pub record IsNext (rest : List ℕ) (tag : ℕ) (value more : List ℕ) : Type 0 where
  pub expected : is_expected (0x30 ∷ 0x31 ∷ 0x32 ∷ 0x34 ∷ 0x3F ∷ []) tag ≡ true
  pub fits : FitsItem value
  pub spelled : rest ≡ item_bytes tag value ++ more

tag_expected : (w : Want) → is_file_want w ≡ false → is_expected (0x30 ∷ 0x31 ∷ 0x32 ∷ 0x34 ∷ 0x3F ∷ []) (put_tag w) ≡ true
tag_expected Nothing none = refl
tag_expected (Dir mode) none = refl
tag_expected (Link target) none = refl
tag_expected (Staged mode number size name) none = refl
tag_expected (File mode bytes) none = absurd (cc none)

pub next_of : (tail : List Put) (all front : List Put) (rest : List ℕ) (number : ℕ) → IsTail all front tail rest number → (tag : ℕ) × (value more : List ℕ) × IsNext rest tag value more
next_of [] all front rest n tail = (0x3F, to_be_bytes w32 n, [], record { expected = refl; fits = omega arith; spelled = tail.spelled ∙ sym (append-nil (end_bytes n)) })
next_of (p ∷ puts) all front rest n tail = (
  put_tag p.want,
  put_value p.path p.want,
  flat_map put_bytes puts ++ end_bytes n,
  record { expected = tag_expected p.want (All-head IsTold p puts tail.told).no_bytes; fits = (All-head IsTold p puts tail.told).fits; spelled = tail.spelled ∙ append_assoc (put_bytes p) (flat_map put_bytes puts) (end_bytes n) },
)

-- an item that isn't the last is that of the next put
pub put_here : (bytes : List ℕ) (tail all front : List Put) (at tag from to number : ℕ) → IsTail all front tail (drop at bytes) number → IsItemAt bytes at tag from to → (tag ≡ 0x3F → ⊥) → (p : Put) × IsPutItem p tag (slice_range bytes from to)
put_here bytes [] all front at tag from to n tail item other =
    let items = same_item tag 0x3F (slice_range bytes from to) (to_be_bytes w32 n) (drop to bytes) [] item.fits (omega arith) (sym item.spelled ∙ tail.spelled ∙ sym (append-nil (end_bytes n))) in
    absurd (other items.tags)
put_here bytes (p ∷ puts) all front at tag from to n tail item other =
    let told = All-head IsTold p puts tail.told in
    let items = same_item tag (put_tag p.want) (slice_range bytes from to) (put_value p.path p.want) (drop to bytes) (flat_map put_bytes puts ++ end_bytes n) item.fits told.fits (sym item.spelled ∙ tail.spelled ∙ append_assoc (put_bytes p) (flat_map put_bytes puts) (end_bytes n)) in
    (p, record { path = told.path; formed = told.formed; no_bytes = told.no_bytes; tagged = sym items.tags; spelled = sym items.values })

-- ---- the end

pub end_here : (bytes : List ℕ) (tail all front : List Put) (at from to : ℕ) → length all < 2 ^ 32 → IsTail all front tail (drop at bytes) (length all) → IsItemAt bytes at 0x3F from to → IsEnd bytes from to (length front)
end_here bytes (p ∷ puts) all front at from to fits tail item =
    let told = All-head IsTold p puts tail.told in
    let items = same_item 0x3F (put_tag p.want) (slice_range bytes from to) (put_value p.path p.want) (drop to bytes) (flat_map put_bytes puts ++ end_bytes (length all)) item.fits told.fits (sym item.spelled ∙ tail.spelled ∙ append_assoc (put_bytes p) (flat_map put_bytes puts) (end_bytes (length all))) in
    absurd (not_end p.want (sym items.tags))
end_here bytes [] all front at from to fits tail item =
    let items = same_item 0x3F 0x3F (slice_range bytes from to) (to_be_bytes w32 (length all)) (drop to bytes) [] item.fits (omega arith) (sym item.spelled ∙ tail.spelled ∙ sym (append-nil (end_bytes (length all)))) in
    let counted : length all ≡ length front = ap length (tail.split ∙ append-nil front) in
    let none : length (drop to bytes) ≡ 0 = ap length items.rests in
    let within = item.within in
    record {
      fits = subst (λ (n : ℕ). n < 2 ^ 32) counted fits;
      told = items.values ∙ ap (to_be_bytes w32) counted;
      last = omega (arith, none, length-drop to bytes, within);
    }

-- ---- whole logs

same_all : (a b : List Put) (bytes : List ℕ) → ArePutsOf a bytes → ArePutsOf b bytes → a ≡ b
same_all a b bytes f g =
    let tail = same_start a b (end_bytes (length a)) (length b) f.told g.told (append_cancel_left magic (flat_map put_bytes a ++ end_bytes (length a)) (flat_map put_bytes b ++ end_bytes (length b)) (sym f.text ∙ g.text)) in
    sym (at tail.0 tail.1)
  where
    at : (tail : List Put) → IsTail b a tail (end_bytes (length a)) (length b) → b ≡ a
    at [] t = t.split ∙ append-nil a
    at (p ∷ puts) t =
        let told = All-head IsTold p puts t.told in
        let items = same_item 0x3F (put_tag p.want) (to_be_bytes w32 (length a)) (put_value p.path p.want) [] (flat_map put_bytes puts ++ end_bytes (length b)) (omega arith) told.fits (append-nil (end_bytes (length a)) ∙ t.spelled ∙ append_assoc (put_bytes p) (flat_map put_bytes puts) (end_bytes (length b))) in
        absurd (not_end p.want (sym items.tags))

-- what a log tells holds no bytes of a file
no_bytes_of : (base : Name) (w : Want) → CanBeLogged base w → is_file_want w ≡ false
no_bytes_of base Nothing can = refl
no_bytes_of base (Dir mode) can = refl
no_bytes_of base (File mode bytes) can = absurd can
no_bytes_of base (Link target) can = refl
no_bytes_of base (Staged mode number size name) can = refl

pub puts_of_log : (base : Name) (puts : List Put) (bytes : List ℕ) → IsLogText base puts bytes → ArePutsOf puts bytes
puts_of_log base puts bytes l = record {
  told = λ k d lt. record { path = l.loggable.write_set.paths k d lt; formed = l.loggable.write_set.formed k d lt; no_bytes = no_bytes_of base (get_or puts k d).want (l.loggable.logged k d lt); fits = l.spelled.lengths k d lt };
  number = l.spelled.number;
  text = l.spelled.text;
}

pub log_of_puts : (base : Name) (puts : List Put) (bytes : List ℕ) → ArePutsOf puts bytes → Rises puts → AreNamed base puts × NothingBelow puts × AreLogged base puts → IsLogText base puts bytes
log_of_puts base puts bytes whole rises rules = record {
  loggable = record {
    write_set = record {
      rises = rises;
      paths = λ k d lt. (whole.told k d lt).path;
      formed = λ k d lt. (whole.told k d lt).formed;
      nothing_below = rules.1;
    };
    named = rules.0;
    logged = rules.2;
  };
  spelled = record { number = whole.number; lengths = All-weaker IsTold FitsPut (λ p t. t.fits) puts whole.told; text = whole.text };
}

-- the items that were read are those of any log that the bytes are
pub log_rises : (base : Name) (items puts : List Put) (bytes : List ℕ) → ArePutsOf items bytes → IsLogText base puts bytes → Rises items
log_rises base items puts bytes read l = subst Rises (sym (same_all items puts bytes read (puts_of_log base puts bytes l))) l.loggable.write_set.rises

pub log_rules : (base : Name) (items puts : List Put) (bytes : List ℕ) → ArePutsOf items bytes → IsLogText base puts bytes → AreNamed base items × NothingBelow items × AreLogged base items
log_rules base items puts bytes read l =
    subst (λ (x : List Put). AreNamed base x × NothingBelow x × AreLogged base x) (sym (same_all items puts bytes read (puts_of_log base puts bytes l))) (l.loggable.named, l.loggable.write_set.nothing_below, l.loggable.logged)

pub one_log : (base : Name) (a b : List Put) (bytes : List ℕ) → IsLogText base a bytes → IsLogText base b bytes → a ≡ b
one_log base a b bytes l m = same_all a b bytes (puts_of_log base a bytes l) (puts_of_log base b bytes m)
