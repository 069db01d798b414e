-- The bytes of a database file tell one list of troves, and two numbers.
use Rattle.std.proofs.Common.{◌≡◌, ℕ, ◌<◌, ◌^◌, true, List, [], ◌∷◌, ◌++◌, All, length, drop, refl, sym, ◌∙◌, ap, arith, append_assoc, append-nil}
use Rattle.std.specs.Int.{w32, to_be_bytes}
use Rattle.std.proofs.lemmas.List.{append_cancel_left}
use Rattle.std.proofs.lemmas.List.Concat.{flat_map-append}
use Rattle.std.proofs.lemmas.List.Elements.{All-nil, All-head, All-tail, All-push}
use Rattle.trove_stream.specs.cny-base.Below.{begins_with}
use Rattle.trove_stream.proofs.cny-base.Below.{begun}
use Rattle.cny_stream.specs.Item.{item_bytes}
use Rattle.cny_stream.proofs.ItemLaws.{same_item, same_four}
use Rattle.trove_stream.specs.trove-parts.Items.{items_bytes}
use Rattle.trove_stream.specs.declared.parts.TroveParts.{TroveParts}
use Rattle.trove_stream.specs.Trove.{IsTrove}
use Rattle.local_db.specs.declared.format.Format.{Format}
use Rattle.local_db.specs.declared.format.Format.TheVariants.{One, Two}
use Rattle.local_db.specs.Formats.{TroveCanTell, database_magic, encoding_of, trove_text}
use Rattle.local_db.specs.Stores.{SameDatabase}
use Rattle.local_db.specs.Reading.{FitsTrove, IsTroveAt, IsNoTroveAt, AreTrovesTo, IsDatabaseText, end_bytes}
use Rattle.trove_stream.proofs.Distinct.{TrovesDiffer}

abbrev pub item_of : Format → TroveParts → List ℕ
item_of f t = item_bytes 0x50 (trove_text f t)

abbrev pub items_of : Format → List TroveParts → List ℕ
items_of f ts = items_bytes (trove_text f) 0x50 ts

more : (f : Format) (t : TroveParts) (ts : List TroveParts) (rest : List ℕ) → items_of f (t ∷ ts) ++ rest ≡ item_of f t ++ (items_of f ts ++ rest)
more f t ts rest = append_assoc (item_of f t) (items_of f ts) rest

-- the numbers' item isn't a trove's
not_end : (f : Format) (t : TroveParts) (rest : List ℕ) (a b : ℕ) → FitsTrove f t → item_of f t ++ rest ≡ end_bytes a b → ⊥
not_end f t rest a b fits e =
    let items = same_item 0x50 0x51 (trove_text f t) (to_be_bytes w32 a ++ to_be_bytes w32 b) rest (item_bytes 0x5F []) fits (omega arith) e in
    omega (arith, items.tags)

-- what is left of all troves behind a front, and how it is spelled
pub record IsRest (f : Format) (front all rest : List TroveParts) (a b : ℕ) (tail : List ℕ) : Type 0 where
  pub split : all ≡ front ++ rest
  pub troves_are : All IsTrove rest
  pub told : All (TroveCanTell f) rest
  pub fits : All (FitsTrove f) rest
  pub spelled : tail ≡ items_of f rest ++ end_bytes a b

pub rest_of : TrovesDiffer → (f : Format) (front all : List TroveParts) (a b : ℕ) (tail : List ℕ) → All IsTrove front → All (FitsTrove f) front
    → All IsTrove all → All (TroveCanTell f) all → All (FitsTrove f) all
    → items_of f front ++ tail ≡ items_of f all ++ end_bytes a b → (rest : List TroveParts) × IsRest f front all rest a b tail
rest_of differ f [] all a b tail fi ff ai at' af e = (all, record { split = refl; troves_are = ai; told = at'; fits = af; spelled = e })
rest_of differ f (t ∷ front) [] a b tail fi ff ai at' af e =
    absurd (not_end f t (items_of f front ++ tail) a b (All-head (FitsTrove f) t front ff) (sym (more f t front tail) ∙ e))
rest_of differ f (t ∷ front) (u ∷ all) a b tail fi ff ai at' af e =
    let one = same_item 0x50 0x50 (trove_text f t) (trove_text f u) (items_of f front ++ tail) (items_of f all ++ end_bytes a b)
    (All-head (FitsTrove f) t front ff) (All-head (FitsTrove f) u all af) (sym (more f t front tail) ∙ e ∙ more f u all (end_bytes a b)) in
    let head : u ≡ t = differ (encoding_of f) (encoding_of f) u t (All-head IsTrove u all ai) (All-head IsTrove t front fi) (sym one.values) in
    let others = rest_of differ f front all a b tail (All-tail IsTrove t front fi) (All-tail (FitsTrove f) t front ff)
    (All-tail IsTrove u all ai) (All-tail (TroveCanTell f) u all at') (All-tail (FitsTrove f) u all af) one.rests in
    let split = others.1.split in
    (others.0, record { split = λ i. head i ∷ split i; troves_are = others.1.troves_are; told = others.1.told; fits = others.1.fits; spelled = others.1.spelled })

-- ---- reading

pub no_troves : (f : Format) (bytes : List ℕ) → begins_with (database_magic f) bytes ≡ true → AreTrovesTo f bytes [] 8
no_troves f bytes h = let rest = begun (database_magic f) bytes h in by f rest.0 rest.1
  where
    by : (f : Format) (rest : List ℕ) → bytes ≡ database_magic f ++ rest → AreTrovesTo f bytes [] 8
    by One rest is = record {
      within = omega (arith, ap length is);
      troves_are = All-nil IsTrove;
      told = All-nil (TroveCanTell One);
      fits = All-nil (FitsTrove One);
      spelled = is ∙ ap (λ (l : List ℕ). database_magic One ++ l) (sym (ap (drop 8) is));
    }
    by Two rest is = record {
      within = omega (arith, ap length is);
      troves_are = All-nil IsTrove;
      told = All-nil (TroveCanTell Two);
      fits = All-nil (FitsTrove Two);
      spelled = is ∙ ap (λ (l : List ℕ). database_magic Two ++ l) (sym (ap (drop 8) is));
    }

pub one_more : (f : Format) (bytes : List ℕ) (troves : List TroveParts) (at : ℕ) (trove : TroveParts) (to : ℕ) → AreTrovesTo f bytes troves at → IsTroveAt f bytes at trove to
    → AreTrovesTo f bytes (troves ++ trove ∷ []) to
one_more f bytes troves at trove to are next = record {
  within = next.within;
  troves_are = All-push IsTrove troves trove are.troves_are next.trove_is;
  told = All-push (TroveCanTell f) troves trove are.told next.told;
  fits = All-push (FitsTrove f) troves trove are.fits next.fits;
  spelled = are.spelled ∙ ap (λ (l : List ℕ). database_magic f ++ l)
      (ap (λ (l : List ℕ). items_of f troves ++ l) (next.spelled ∙ ap (λ (l : List ℕ). l ++ drop to bytes) (sym (append-nil (item_of f trove))))
      ∙ sym (append_assoc (items_of f troves) (item_of f trove ++ []) (drop to bytes))
      ∙ ap (λ (l : List ℕ). l ++ drop to bytes) (sym (flat_map-append (item_of f) troves (trove ∷ []))));
}

-- what is left of any database with these bytes
left : TrovesDiffer → (f : Format) (bytes : List ℕ) (front all : List TroveParts) (at a b : ℕ) → AreTrovesTo f bytes front at → IsDatabaseText f all a b bytes
    → (rest : List TroveParts) × IsRest f front all rest a b (drop at bytes)
left differ f bytes front all at a b are is =
    rest_of differ f front all a b (drop at bytes) are.troves_are are.fits is.troves_are is.told is.fits
    (append_cancel_left (database_magic f) (items_of f front ++ drop at bytes) (items_of f all ++ end_bytes a b) (sym are.spelled ∙ is.text))

last_rest : (f : Format) (bytes : List ℕ) (front all rest : List TroveParts) (at a b : ℕ) → IsRest f front all rest a b (drop at bytes) → IsNoTroveAt f bytes at
    → (all ≡ front) × (drop at bytes ≡ end_bytes a b)
last_rest f bytes front all [] at a b is no_trove = (is.split ∙ append-nil front, is.spelled)
last_rest f bytes front all (t ∷ rest) at a b is no_trove =
    absurd (no_trove t (items_of f rest ++ end_bytes a b) (All-head IsTrove t rest is.troves_are) (All-head (TroveCanTell f) t rest is.told) (All-head (FitsTrove f) t rest is.fits)
    (is.spelled ∙ more f t rest (end_bytes a b)))

-- where no trove follows, the troves read so far are all, and the numbers follow
pub last_of : TrovesDiffer → (f : Format) (bytes : List ℕ) (front all : List TroveParts) (at a b : ℕ) → AreTrovesTo f bytes front at → IsNoTroveAt f bytes at → IsDatabaseText f all a b bytes
    → (all ≡ front) × (drop at bytes ≡ end_bytes a b)
last_of differ f bytes front all at a b are no_trove is =
    let rest = left differ f bytes front all at a b are is in last_rest f bytes front all rest.0 at a b rest.1 no_trove

-- ---- one text

pub one_end : (a b c d : ℕ) → a < 2 ^ 32 → b < 2 ^ 32 → c < 2 ^ 32 → d < 2 ^ 32 → end_bytes a b ≡ end_bytes c d → (a ≡ c) × (b ≡ d)
one_end a b c d af bf cf df e =
    let low = same_four a c (to_be_bytes w32 b ++ item_bytes 0x5F []) (to_be_bytes w32 d ++ item_bytes 0x5F []) af cf (ap (drop 5) e) in
    let high = same_four b d (item_bytes 0x5F []) (item_bytes 0x5F []) bf df low.1 in
    (low.0, high.0)

pub rest_nil : (f : Format) (front all rest : List TroveParts) (a b c d : ℕ) → IsRest f front all rest a b (end_bytes c d) → (all ≡ front) × (end_bytes c d ≡ end_bytes a b)
rest_nil f front all [] a b c d is = (is.split ∙ append-nil front, is.spelled)
rest_nil f front all (t ∷ rest) a b c d is =
    absurd (not_end f t (items_of f rest ++ end_bytes a b) c d (All-head (FitsTrove f) t rest is.fits) (sym (is.spelled ∙ more f t rest (end_bytes a b))))

pub one_text : TrovesDiffer → (f : Format) (one other : List TroveParts) (a b c d : ℕ) (bytes : List ℕ) → IsDatabaseText f one a b bytes → IsDatabaseText f other c d bytes → SameDatabase f f one other a b c d
one_text differ f one other a b c d bytes is js =
    let rest = rest_of differ f one other c d (end_bytes a b) is.troves_are is.fits js.troves_are js.told js.fits
    (append_cancel_left (database_magic f) (items_of f one ++ end_bytes a b) (items_of f other ++ end_bytes c d) (sym is.text ∙ js.text)) in
    let same = rest_nil f one other rest.0 c d a b rest.1 in
    let ends = one_end a b c d is.oldest_fits is.newest_fits js.oldest_fits js.newest_fits same.1 in
    record { formats = refl; lists = sym same.0; oldest = ends.0; newest = ends.1 }
