-- What the next bytes gave, and what comes of it.
use Rattle.std.proofs.Common.{◌≡◌, inl, inr, ℕ, ◌+◌, ◌<◌, ◌≤◌, ◌^◌, Bool, true, false, ◌==◌, List, [], ◌∷◌, ◌++◌, length, Option, None, refl, sym, ap, ◌∙◌, subst, arith, append_assoc, append-nil, length-append}
use Rattle.change_set.specs.cny-base.declared.limits.TheConstants.{CONTENT_ITEM_LIMIT}
use Rattle.change_set.specs.cny-base.declared.refusal.Refusal.TheVariants.{Malformed}
use Rattle.std.proofs.lemmas.Bool.{eqb-true}
use Rattle.std.proofs.lemmas.Bool.Decides.{nat_tests}
use Rattle.cny_stream.specs.Item.{item_bytes}
use Rattle.cny_stream.specs.Cut.{Position, InMagic, InHead, InValue, Stands, StandsBehind, Pushed, PushedHead, head_of, open_bytes}
use Rattle.cny_stream.specs.Decided.{Decided}
use Rattle.cny_stream.specs.declared.cutter.Event.TheVariants.{More, Begun, Head, Value, NoMagic, Unexpected}
use Rattle.journal_log.specs.tree-disk.Tree.{Name}
use Rattle.change_set.specs.declared.change.ChangeSet.{ChangeSet}
use Rattle.change_set.specs.ChangeSet.{magic, change_bytes}
use Rattle.change_set.specs.FirstFault.{IsFirstFault}
use Rattle.change_set.specs.Index.{IsIndexOf}
use Rattle.change_pull.specs.declared.reading.Reading.{Reading}
use Rattle.change_pull.specs.Files.{files_of}
use Rattle.change_pull.specs.Front.{front_bytes, tags_behind_set}
use Rattle.change_pull.specs.Gathered.{IsGathered}
use Rattle.change_pull.specs.Open.{no_set, HasKept, BehindItems, BehindEnd, IsOpenAt, IsOpenValue, IsOpenWith, IsPushed, IsPushedAt, HasTaken, IsBegun, IsWhole}
use Rattle.change_pull.proofs.Growing.{no_set_is}
use Rattle.change_pull.proofs.Stops.{unexpected_decides, end_decides, no_magic_decides}

more_items : (r : Reading) (set : ChangeSet) (m n : ℕ) → m ≡ n → BehindItems r set m → BehindItems r set n
more_items r set m n same behind = record { set_is = behind.set_is; start = behind.start; count = omega (arith, behind.count, same); goes_on = behind.goes_on }

-- ---- nothing is whole yet

module _ (r : Reading) (dir : Name) (given : List ℕ) (wanted : List (List ℕ)) where
  pub pushed_more : IsPushed r dir given More wanted → IsOpenWith r dir given wanted
  pushed_more p = by p.is_at
    where
      opened : IsOpenAt r given p.set p.written → IsOpenWith r dir given wanted
      opened at = (record { set = p.set; written = p.written; kept = p.kept; is_at = at }, p.files)

      behind : (position : Position) (taken : List ℕ) → Pushed magic (tags_behind_set p.set) r.cutter (front_bytes p.set) position taken More → BehindItems r p.set (length (open_bytes position) + length taken)
          → HasTaken p.set r.item position taken More p.written → given ≡ front_bytes p.set ++ (open_bytes position ++ taken) → IsOpenWith r dir given wanted
      behind (InMagic front) taken pushed items has e = absurd has
      behind (InHead front) taken pushed items has e = opened (inr (inl (InHead (front ++ taken), pushed.1, more_items r p.set (length front + length taken) (length (front ++ taken)) (sym (length-append front taken)) items, (pushed.0, has), e)))
      behind (InValue tag len value) taken pushed items has e = absurd pushed

      ended : (taken : List ℕ) → p.written ≡ None → PushedHead magic [] r.cutter (change_bytes p.set) [] taken More → BehindEnd r p.set (length taken) → given ≡ change_bytes p.set ++ taken → IsOpenWith r dir given wanted
      ended [] none pushed end e = opened (inr (inr (none, pushed.1, end, e ∙ append-nil (change_bytes p.set))))
      ended (t ∷ taken) none pushed end e = let first = pushed.0 in absurd (cc)

      by : IsPushedAt r given More p.set p.written → IsOpenWith r dir given wanted
      by (inl x) = opened (inl (x.0, x.1, subst (λ (l : List ℕ). Stands magic r.cutter [] (InMagic l)) (sym x.2.3) x.2.2, x.3))
      by (inr (inl x)) = behind x.0 x.1 x.2 x.3 x.4 x.5
      by (inr (inr x)) = ended x.0 x.1 x.2 x.3 x.4

  pub pushed_value : IsPushed r dir given (Value false) wanted → IsOpenWith r dir given wanted
  pushed_value p = by p.is_at
    where
      behind : (position : Position) (taken : List ℕ) → Pushed magic (tags_behind_set p.set) r.cutter (front_bytes p.set) position taken (Value false) → BehindItems r p.set (length (open_bytes position) + length taken)
          → HasTaken p.set r.item position taken (Value false) p.written → given ≡ front_bytes p.set ++ (open_bytes position ++ taken) → IsOpenWith r dir given wanted
      behind (InMagic front) taken pushed items has e = absurd has
      behind (InHead front) taken pushed items has e = absurd pushed
      behind (InValue tag len value) taken pushed items has e =
          let spelled : head_of tag len ++ value ++ taken ≡ head_of tag len ++ (value ++ taken) = append_assoc (head_of tag len) value taken in (
            record {
              set = p.set;
              written = p.written;
              kept = p.kept;
              is_at = inr (inl (
                InValue tag len (value ++ taken),
                pushed.2,
                more_items r p.set (length (head_of tag len ++ value) + length taken) (length (head_of tag len ++ (value ++ taken))) (sym (length-append (head_of tag len ++ value) taken) ∙ ap length spelled) items,
                has.0,
                e ∙ ap (λ (l : List ℕ). front_bytes p.set ++ l) spelled,
              ));
            },
            p.files,
          )

      by : IsPushedAt r given (Value false) p.set p.written → IsOpenWith r dir given wanted
      by (inl x) = absurd x.2.2
      by (inr (inl x)) = behind x.0 x.1 x.2 x.3 x.4 x.5
      by (inr (inr x)) = absurd x.2

  -- ---- the magic

  pub pushed_begun : IsPushed r dir given Begun wanted → (next : Reading) → next.cutter ≡ r.cutter → next.parts ≡ r.parts → next.staged ≡ r.staged → next.index ≡ r.index → next.start ≡ r.given → next.given ≡ r.given → next.ended ≡ r.ended
      → IsOpenWith next dir given wanted
  pushed_begun p next cutter parts staged index starts count ended = by p.is_at
    where
      behind : (position : Position) (taken : List ℕ) → Pushed magic (tags_behind_set p.set) r.cutter (front_bytes p.set) position taken Begun → HasTaken p.set r.item position taken Begun p.written → IsOpenWith next dir given wanted
      behind (InMagic front) taken pushed has = absurd has
      behind (InHead front) taken pushed has = absurd pushed
      behind (InValue tag len value) taken pushed has = absurd pushed

      by : IsPushedAt r given Begun p.set p.written → IsOpenWith next dir given wanted
      by (inl x) =
          let spelled : given ≡ magic = x.2.3 ∙ x.2.2.0 in
          let eight : length given ≡ 8 = ap length spelled in
          let none = x.0 in (
            record {
              set = no_set;
              written = None;
              kept = subst (HasKept next dir) none (record { parts = ap (λ v. v.items) parts ∙ p.kept.parts; staged = ap (λ v. v.items) staged ∙ p.kept.staged; index = subst (IsIndexOf p.set.parts) (sym index) p.kept.index });
              is_at = inr (inl (
                InHead [],
                subst (λ c. Stands magic c magic (InHead [])) (sym cutter) (subst (λ (l : List ℕ). Stands magic r.cutter l (InHead [])) x.2.2.0 x.2.2.1),
                record { set_is = no_set_is; start = starts ∙ x.3.count ∙ eight; count = omega (arith, count, x.3.count, eight); goes_on = ended ∙ x.3.goes_on },
                (refl, refl),
                spelled,
              ));
            },
            sym (ap (λ (s : ChangeSet). files_of s.contents p.written) none ∙ ap (files_of []) x.1) ∙ p.files,
          )
      by (inr (inl x)) = behind x.0 x.1 x.2 x.4
      by (inr (inr x)) = absurd x.2

  pub pushed_no_magic : IsPushed r dir given NoMagic wanted → Decided IsFirstFault given (Malformed 0)
  pushed_no_magic p = by p.is_at
    where
      behind : (position : Position) (taken : List ℕ) → Pushed magic (tags_behind_set p.set) r.cutter (front_bytes p.set) position taken NoMagic → HasTaken p.set r.item position taken NoMagic p.written → Decided IsFirstFault given (Malformed 0)
      behind (InMagic front) taken pushed has = absurd has
      behind (InHead front) taken pushed has = absurd pushed
      behind (InValue tag len value) taken pushed has = absurd pushed

      by : IsPushedAt r given NoMagic p.set p.written → Decided IsFirstFault given (Malformed 0)
      by (inl x) = no_magic_decides given (ap length x.2.3 ∙ x.2.2.0) (λ e. x.2.2.1 (sym x.2.3 ∙ e))
      by (inr (inl x)) = behind x.0 x.1 x.2 x.4
      by (inr (inr x)) = absurd x.2

  -- ---- an unexpected tag

  pub pushed_unexpected : IsPushed r dir given Unexpected wanted → Decided IsFirstFault given (Malformed r.start)
  pushed_unexpected p = by p.is_at
    where
      here : (n : ℕ) (bytes : List ℕ) → r.start ≡ n → given ≡ bytes → Decided IsFirstFault bytes (Malformed n) → Decided IsFirstFault given (Malformed r.start)
      here n bytes starts spelled decided = subst (λ (l : List ℕ). Decided IsFirstFault l (Malformed r.start)) (sym spelled) (subst (λ (m : ℕ). Decided IsFirstFault bytes (Malformed m)) (sym starts) decided)

      behind : (position : Position) (taken : List ℕ) → Pushed magic (tags_behind_set p.set) r.cutter (front_bytes p.set) position taken Unexpected → BehindItems r p.set (length (open_bytes position) + length taken)
          → HasTaken p.set r.item position taken Unexpected p.written → given ≡ front_bytes p.set ++ (open_bytes position ++ taken) → Decided IsFirstFault given (Malformed r.start)
      behind (InMagic front) taken pushed items has e = absurd has
      behind (InHead front) taken pushed items has e = here (length (front_bytes p.set)) (front_bytes p.set ++ (front ++ taken)) items.start e (unexpected_decides p.set (front ++ taken) items.set_is pushed.0)
      behind (InValue tag len value) taken pushed items has e = absurd pushed

      ended : (taken : List ℕ) → PushedHead magic [] r.cutter (change_bytes p.set) [] taken Unexpected → BehindEnd r p.set (length taken) → given ≡ change_bytes p.set ++ taken → Decided IsFirstFault given (Malformed r.start)
      ended [] pushed end e = let first = pushed.0 in absurd (cc)
      ended (t ∷ taken) pushed end e = here (length (change_bytes p.set)) (change_bytes p.set ++ t ∷ taken) end.start e (end_decides p.set (t ∷ taken) end.set_is (omega arith))

      by : IsPushedAt r given Unexpected p.set p.written → Decided IsFirstFault given (Malformed r.start)
      by (inl x) = absurd x.2.2
      by (inr (inl x)) = behind x.0 x.1 x.2 x.3 x.4 x.5
      by (inr (inr x)) = ended x.0 x.2 x.3 x.4

  -- ---- a whole head

  pub record HeadIs (tag len : ℕ) : Type 0 where
    pub set : ChangeSet
    pub begun : IsBegun r dir set tag len
    pub spelled : given ≡ front_bytes set ++ head_of tag len
    pub files : files_of set.contents None ≡ wanted

  pub pushed_head : (tag len : ℕ) → IsPushed r dir given (Head tag len) wanted → HeadIs tag len
  pushed_head tag len p = by p.is_at
    where
      behind : (position : Position) (taken : List ℕ) → Pushed magic (tags_behind_set p.set) r.cutter (front_bytes p.set) position taken (Head tag len) → BehindItems r p.set (length (open_bytes position) + length taken)
          → HasTaken p.set r.item position taken (Head tag len) p.written → given ≡ front_bytes p.set ++ (open_bytes position ++ taken) → HeadIs tag len
      behind (InMagic front) taken pushed items has e = absurd has
      behind (InHead front) taken pushed items has e = record {
        set = p.set;
        begun = record {
          kept = p.kept;
          behind = more_items r p.set (length front + length taken) 5 (sym (length-append front taken) ∙ ap length pushed.0.spelled) items;
          expected = pushed.0.expected;
          fits = pushed.0.fits;
          cutter = pushed.1;
        };
        spelled = e ∙ ap (λ (l : List ℕ). front_bytes p.set ++ l) pushed.0.spelled;
        files = sym (ap (files_of p.set.contents) has) ∙ p.files;
      }
      behind (InValue t l value) taken pushed items has e = absurd pushed

      by : IsPushedAt r given (Head tag len) p.set p.written → HeadIs tag len
      by (inl x) = absurd x.2.2
      by (inr (inl x)) = behind x.0 x.1 x.2 x.3 x.4 x.5
      by (inr (inr x)) = let no = x.2.0.expected in absurd (cc)

  -- ---- a whole value

  pub record ValueIs : Type 0 where
    pub set : ChangeSet
    pub tag : ℕ
    pub value : List ℕ
    pub written : Option (List ℕ)
    pub whole : IsWhole r dir set tag value written
    pub spelled : given ≡ front_bytes set ++ item_bytes tag value
    pub files : files_of set.contents written ≡ wanted

  pub pushed_whole : IsPushed r dir given (Value true) wanted → ValueIs
  pushed_whole p = by p.is_at
    where
      behind : (position : Position) (taken : List ℕ) → Pushed magic (tags_behind_set p.set) r.cutter (front_bytes p.set) position taken (Value true) → BehindItems r p.set (length (open_bytes position) + length taken)
          → HasTaken p.set r.item position taken (Value true) p.written → given ≡ front_bytes p.set ++ (open_bytes position ++ taken) → ValueIs
      behind (InMagic front) taken pushed items has e = absurd has
      behind (InHead front) taken pushed items has e = absurd pushed
      behind (InValue tag len value) taken pushed items has e =
          let all : List ℕ = value ++ taken in
          let long : len ≡ length all = sym (eqb-true (length all) len (sym pushed.1)) in
          let spelled : (head_of tag len ++ value) ++ taken ≡ head_of tag len ++ all = append_assoc (head_of tag len) value taken in
          let item : head_of tag len ++ all ≡ item_bytes tag all = ap (λ (n : ℕ). head_of tag n ++ all) long in
          record {
            set = p.set;
            tag = tag;
            value = all;
            written = p.written;
            whole = record {
              kept = p.kept;
              behind = more_items r p.set (length (head_of tag len ++ value) + length taken) (5 + length all) (sym (length-append (head_of tag len ++ value) taken) ∙ ap length spelled ∙ length-append (head_of tag len) all) items;
              item = record { expected = has.0.expected; small = λ content. subst (λ (n : ℕ). n ≤ CONTENT_ITEM_LIMIT) long (has.0.small content); fits = subst (λ (n : ℕ). n < 2 ^ 32) long has.0.fits; gathered = subst (λ (n : ℕ). IsGathered r.item tag n all p.written) long has.0.gathered };
              fits = subst (λ (n : ℕ). n < 2 ^ 32) long has.0.fits;
              all = has.1;
              cutter = subst (λ (l : List ℕ). Stands magic r.cutter (front_bytes p.set ++ l) (InHead [])) item pushed.2;
            };
            spelled = e ∙ ap (λ (l : List ℕ). front_bytes p.set ++ l) (spelled ∙ item);
            files = p.files;
          }

      by : IsPushedAt r given (Value true) p.set p.written → ValueIs
      by (inl x) = absurd x.2.2
      by (inr (inl x)) = behind x.0 x.1 x.2 x.3 x.4 x.5
      by (inr (inr x)) = absurd x.2

-- ---- behind a head

module _ (r next : Reading) (dir : Name) (set : ChangeSet) (tag len : ℕ) (begun : IsBegun r dir set tag len) (gathered : IsGathered next.item tag len [] None) (parts : next.parts ≡ r.parts) (staged : next.staged ≡ r.staged) (index : next.index ≡ r.index)
    (cutter : next.cutter ≡ r.cutter) (starts : next.start ≡ r.start) (count : next.given ≡ r.given) (ended : next.ended ≡ r.ended) (small : tag ≡ 0x12 → len ≤ CONTENT_ITEM_LIMIT) where
  kept : HasKept next dir set
  kept = record { parts = ap (λ v. v.items) parts ∙ begun.kept.parts; staged = ap (λ v. v.items) staged ∙ begun.kept.staged; index = subst (IsIndexOf set.parts) (sym index) begun.kept.index }

  items : BehindItems next set 5
  items = record { set_is = begun.behind.set_is; start = starts ∙ begun.behind.start; count = omega (arith, count, begun.behind.count); goes_on = ended ∙ begun.behind.goes_on }

  value : IsOpenValue set next.item tag len [] None
  value = record { expected = begun.expected; small = small; fits = begun.fits; gathered = gathered }

  pub begun_open : 0 < len → IsOpenWith next dir (front_bytes set ++ head_of tag len) (files_of set.contents None)
  begun_open some = (
    record {
      set = set;
      written = None;
      kept = kept;
      is_at = inr (inl (InValue tag len [], subst (λ c. Stands magic c (front_bytes set) (InValue tag len [])) (sym cutter) (still (0 == len) (not_zero len some) begun.cutter), items, value, ap (λ (l : List ℕ). front_bytes set ++ l) (sym (append-nil (head_of tag len)))));
    },
    refl,
  )
    where
      not_zero : (n : ℕ) → 0 < n → (0 == n) ≡ false
      not_zero n some = grind (arith, nat_tests)

      still : (b : Bool) → b ≡ false → StandsBehind magic r.cutter (front_bytes set) tag len [] b → Stands magic r.cutter (front_bytes set) (InValue tag len [])
      still true is stands = absurd (cc)
      still false is stands = stands

  pub begun_whole : len ≡ 0 → IsWhole next dir set tag [] None
  begun_whole none = record {
    kept = kept;
    behind = items;
    item = subst (λ (n : ℕ). IsOpenValue set next.item tag n [] None) none value;
    fits = omega arith;
    all = λ content long. absurd (omega arith);
    cutter = subst (λ c. Stands magic c (front_bytes set ++ item_bytes tag []) (InHead [])) (sym cutter)
        (subst (λ (n : ℕ). Stands magic r.cutter (front_bytes set ++ (head_of tag n ++ [])) (InHead [])) none (whole (0 == len) (ap (λ (n : ℕ). 0 == n) none) begun.cutter));
  }
    where
      whole : (b : Bool) → b ≡ true → StandsBehind magic r.cutter (front_bytes set) tag len [] b → Stands magic r.cutter (front_bytes set ++ (head_of tag len ++ [])) (InHead [])
      whole true is stands = stands
      whole false is stands = absurd (cc)

-- a head without a value
pub empty_item : (tag len : ℕ) → len ≡ 0 → item_bytes tag [] ≡ head_of tag len
empty_item tag len none = append-nil (head_of tag 0) ∙ ap (head_of tag) (sym none)
