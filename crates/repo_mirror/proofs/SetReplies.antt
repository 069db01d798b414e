-- The one reply that has a change set.
use Rattle.std.proofs.Common.{◌≡◌, inl, inr, ⊎_elim, ℕ, ◌+◌, ◌-◌, true, List, [], ◌∷◌, ◌++◌, length, drop, refl, sym, ap, ◌∙◌, subst, arith, append-nil, length-append}
use Rattle.std.specs.Prelude.{slice_range}
use Rattle.std.specs.Int.{w32, to_be_bytes}
use Rattle.std.proofs.lemmas.List.{append_cancel_left, length-take, length-drop}
use Rattle.cny_stream.specs.Item.{FitsItem, IsItemAt, item_bytes}
use Rattle.cny_stream.specs.ItemLaws.{SameItem}
use Rattle.cny_stream.proofs.ItemLaws.{same_item}
use Rattle.change_set.specs.cny-base.Below.{begins_with}
use Rattle.change_set.specs.cny-base.declared.refusal.Fault.{Fault}
use Rattle.change_set.specs.cny-base.declared.refusal.Fault.TheVariants as fault
use Rattle.change_set.specs.declared.change.ChangeSet.{ChangeSet}
use Rattle.change_set.specs.ChangeSet.{IsSetStream}
use Rattle.change_set.proofs.cny-base.Below.{begins, begun}
use Rattle.repo_mirror.specs.Faults.{IsMalformed, LacksMagic}
use Rattle.repo_mirror.specs.Replies.{reply_end, reply_magic, GoesOn, IsAbsoluteStream, IsEndItem, IsNoEnd, IsReplyFault, IsSetItem, IsSetReply, LacksEnd, LacksSet}
use Rattle.repo_mirror.proofs.ItemFaults.{no_fault, one_fault}

front : (bytes : List ℕ) → begins_with reply_magic bytes ≡ true → bytes ≡ reply_magic ++ drop 8 bytes
front bytes is = let b = begun reply_magic bytes is in b.1 ∙ ap (λ (l : List ℕ). reply_magic ++ l) (sym (ap (drop 8) b.1))

item_long : (tag : ℕ) (value : List ℕ) → length (item_bytes tag value) ≡ 5 + length value
item_long tag value = omega (arith, length-append (tag ∷ to_be_bytes w32 (length value)) value)

module _ (bytes : List ℕ) (from to : ℕ) (begins_so : begins_with reply_magic bytes ≡ true) (item : IsItemAt bytes 8 0x84 from to) where
  abbrev value : List ℕ
  value = slice_range bytes from to

  value_long : length value ≡ to - from
  value_long = let long = length-take (to - from) (drop from bytes) in let rest = length-drop from bytes in omega (arith, long, rest, item.order, item.within)

  spelled : bytes ≡ reply_magic ++ (item_bytes 0x84 value ++ drop to bytes)
  spelled = front bytes begins_so ∙ ap (λ (l : List ℕ). reply_magic ++ l) item.spelled

  module _ (set : ChangeSet) (stream : IsAbsoluteStream set value) where
    pub taken : drop to bytes ≡ reply_end → IsSetReply set bytes
    taken ends = record { value = value; stream = stream; fits = item.fits; text = spelled ∙ ap (λ (l : List ℕ). reply_magic ++ (item_bytes 0x84 value ++ l)) ends }

    -- the reply doesn't end behind it
    pub no_end : (place : ℕ) → IsNoEnd bytes to place → IsReplyFault bytes place
    no_end place fault = inr (inr (record {
      set = set;
      value = value;
      to = to;
      stream = stream;
      fits = item.fits;
      spelled = spelled;
      there = omega (arith, value_long, item.begins, item.order);
      fault = fault;
    }))

-- ---- one reply

-- the change set whose stream bytes are is one
abbrev pub OneSet : Type 0
OneSet = (set other : ChangeSet) (bytes : List ℕ) → IsSetStream set bytes → IsSetStream other bytes → set ≡ other

behind_magic : (a b : List ℕ) → reply_magic ++ a ≡ reply_magic ++ b → a ≡ b
behind_magic a b e = append_cancel_left reply_magic a b e

same_value : (set : ChangeSet) (bytes value rest : List ℕ) (reply : IsSetReply set bytes) → FitsItem value → bytes ≡ reply_magic ++ (item_bytes 0x84 value ++ rest) → SameItem 0x84 0x84 value reply.value rest reply_end
same_value set bytes value rest reply fits is =
    same_item 0x84 0x84 value reply.value rest reply_end fits reply.fits (behind_magic (item_bytes 0x84 value ++ rest) (item_bytes 0x84 reply.value ++ reply_end) (sym is ∙ reply.text))

pub same_set : OneSet → (set other : ChangeSet) (bytes : List ℕ) → IsSetReply set bytes → IsSetReply other bytes → set ≡ other
same_set one set other bytes a b =
    let same = same_value other bytes a.value reply_end b a.fits a.text in
    one set other b.value (subst (IsSetStream set) same.values a.stream.stream) b.stream.stream

module _ (bytes : List ℕ) where
  begins_so : (rest : List ℕ) → bytes ≡ reply_magic ++ rest → begins_with reply_magic bytes ≡ true
  begins_so rest is = ap (begins_with reply_magic) is ∙ begins reply_magic rest

  not_lacking : (rest : List ℕ) (place : ℕ) → bytes ≡ reply_magic ++ rest → LacksMagic reply_magic bytes place → ⊥
  not_lacking rest place is lacks = let so = begins_so rest is in absurd (cc (so, lacks.lacks))

  -- where an item of a change set stands, it isn't lacking
  set_there : (set : ChangeSet) (value rest : List ℕ) (place : ℕ) → IsAbsoluteStream set value → FitsItem value → bytes ≡ reply_magic ++ (item_bytes 0x84 value ++ rest) → LacksSet bytes place → ⊥
  set_there set value rest place stream fits is lacks =
      no_fault IsSetItem (0x84 ∷ []) 8 bytes 0x84 value rest refl fits (ap (drop 8) is) (λ tag v tags values. (set, subst (IsAbsoluteStream set) (sym values) stream)) place lacks.fault

  -- where the end stands, it isn't lacking
  end_there : (at place : ℕ) → drop at bytes ≡ reply_end → IsNoEnd bytes at place → ⊥
  end_there at place is no_end = ⊎_elim
      (λ fault. no_fault IsEndItem (0x8F ∷ []) at bytes 0x8F [] [] refl (omega arith) (is ∙ sym (append-nil reply_end)) (λ tag v tags values. values) place fault)
      (λ (on : GoesOn bytes at place). on.more (append_cancel_left reply_end on.rest [] (sym on.spelled ∙ is ∙ sym (append-nil reply_end))))
      no_end

  pub excluded : (set : ChangeSet) (place : ℕ) → IsSetReply set bytes → IsReplyFault bytes place → ⊥
  excluded set place reply fault = ⊎_elim
      (λ lacks. not_lacking (item_bytes 0x84 reply.value ++ reply_end) place reply.text lacks)
      (λ f. ⊎_elim
      (λ lacks. set_there set reply.value reply_end place reply.stream reply.fits reply.text lacks)
      (λ (lacks : LacksEnd bytes place).
      let same = same_value set bytes lacks.value (drop lacks.to bytes) reply lacks.fits lacks.spelled in
      end_there lacks.to place same.rests lacks.fault)
      f)
      fault

  same_end : (at place other : ℕ) → IsNoEnd bytes at place → IsNoEnd bytes at other → place ≡ other
  same_end at place other (inl a) (inl b) = one_fault IsEndItem (0x8F ∷ []) at bytes place other a b
  same_end at place other (inl a) (inr b) = absurd (no_fault IsEndItem (0x8F ∷ []) at bytes 0x8F [] b.rest refl (omega arith) b.spelled (λ tag v tags values. values) place a)
  same_end at place other (inr a) (inl b) = absurd (no_fault IsEndItem (0x8F ∷ []) at bytes 0x8F [] a.rest refl (omega arith) a.spelled (λ tag v tags values. values) other b)
  same_end at place other (inr a) (inr b) = a.place_is ∙ sym b.place_is

  lacks_both : (place other : ℕ) → LacksMagic reply_magic bytes place → (rest : List ℕ) → bytes ≡ reply_magic ++ rest → place ≡ other
  lacks_both place other lacks rest is = absurd (not_lacking rest place is lacks)

  pub one_place : (place other : ℕ) → IsReplyFault bytes place → IsReplyFault bytes other → place ≡ other
  one_place place other (inl a) (inl b) = a.place_is ∙ sym b.place_is
  one_place place other (inl a) (inr (inl b)) = lacks_both place other a (drop 8 bytes) (front bytes b.begins)
  one_place place other (inl a) (inr (inr b)) = lacks_both place other a (item_bytes 0x84 b.value ++ drop b.to bytes) b.spelled
  one_place place other (inr (inl a)) (inl b) = sym (lacks_both other place b (drop 8 bytes) (front bytes a.begins))
  one_place place other (inr (inl a)) (inr (inl b)) = one_fault IsSetItem (0x84 ∷ []) 8 bytes place other a.fault b.fault
  one_place place other (inr (inl a)) (inr (inr b)) = absurd (set_there b.set b.value (drop b.to bytes) place b.stream b.fits b.spelled a)
  one_place place other (inr (inr a)) (inl b) = sym (lacks_both other place b (item_bytes 0x84 a.value ++ drop a.to bytes) a.spelled)
  one_place place other (inr (inr a)) (inr (inl b)) = absurd (set_there a.set a.value (drop a.to bytes) other a.stream a.fits a.spelled b)
  one_place place other (inr (inr a)) (inr (inr b)) =
      let same = same_item 0x84 0x84 a.value b.value (drop a.to bytes) (drop b.to bytes) a.fits b.fits
      (behind_magic (item_bytes 0x84 a.value ++ drop a.to bytes) (item_bytes 0x84 b.value ++ drop b.to bytes) (sym a.spelled ∙ b.spelled)) in
      let long = ap (λ (l : List ℕ). length l) same.values in
      let ends : a.to ≡ b.to = omega (arith, long, a.there, b.there) in
      same_end b.to place other (subst (λ (n : ℕ). IsNoEnd bytes n place) ends a.fault) b.fault

  -- what such a reply isn't refused for
  pub only_memory : (set : ChangeSet) → IsSetReply set bytes → (why : Fault) → IsMalformed (IsReplyFault bytes) why → why ≡ fault.Memory
  only_memory set reply (fault.Refused refusal) is = absurd (excluded set is.0 reply is.2)
  only_memory set reply fault.Memory is = refl
