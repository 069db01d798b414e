-- The input of a call: the told one, or bytes of which reading gives the same.
use Rattle.std.proofs.Common.{◌≡◌, ℕ, Bool, true, false, List, [], Option, Some, None, Result, Ok, Err, IfSome, refl, sym, ap, ◌∙◌, subst}
use Rattle.cny_laws.specs.system-core.cny-base.declared.refusal.Refusal.{Refusal}
use Rattle.repo_load.specs.cny-base.Flow.{SourceState}
use Rattle.cny_laws.specs.declared.failure.Failure.{Failure}
use Rattle.cny_laws.specs.declared.failure.Failure.TheVariants as failure
use Rattle.cny_laws.specs.Input.{IsOfSome}
use Rattle.cny_laws.specs.Reading.{left_by, Gives, IsInput, ReadFrom, ReadsGiven}

pub some_is : (o : Option (List ℕ)) {Q : List ℕ → Type 0} → ((input : List ℕ) → o ≡ Some input → Q input) → IfSome o Q
some_is None f = tt
some_is (Some input) f = f input refl

pub some_so : (o : Option (List ℕ)) {P Q : List ℕ → Type 0} → ((input : List ℕ) → P input → Q input) → IfSome o P → IfSome o Q
some_so None f h = tt
some_so (Some input) f h = f input h

some_at : (o : Option (List ℕ)) (input : List ℕ) (P : List ℕ → Type 0) → o ≡ Some input → IfSome o P → P input
some_at o input P is h = subst (λ (x : Option (List ℕ)). IfSome x P) is h

-- ---- an input that wasn't read

pub record AnyInput (takes : Bool) (before : SourceState) : Type 0 where
  pub input : List ℕ
  pub is : IsInput takes before input

any_of : (takes : Bool) (before : SourceState) (left : Option (List ℕ)) → before.left ≡ left → AnyInput takes before
any_of takes before None none = record { input = []; is = λ on. subst (λ (o : Option (List ℕ)). IfSome o (λ all. all ≡ [])) (sym none) tt }
any_of takes before (Some input) told = record { input = input; is = λ on. subst (λ (o : Option (List ℕ)). IfSome o (λ all. all ≡ input)) (sym told) refl }

pub any_input : (takes : Bool) (before : SourceState) → AnyInput takes before
any_input takes before = any_of takes before before.left refl

-- ---- an input that was read

pub record ReadInput (takes : Bool) (before : SourceState) (result : Result (List ℕ) Failure) : Type 0 where
  pub input : List ℕ
  pub is : IsInput takes before input
  pub gives : Gives takes input result

untold_is : (takes : Bool) (before : SourceState) (input : List ℕ) → before.left ≡ None → IsInput takes before input
untold_is takes before input none on = subst (λ (o : Option (List ℕ)). IfSome o (λ all. all ≡ input)) (sym none) tt

told_is : (takes : Bool) (before : SourceState) (input : List ℕ) → before.left ≡ Some input → IsInput takes before input
told_is takes before input told on = subst (λ (o : Option (List ℕ)). IfSome o (λ all. all ≡ input)) (sym told) refl

-- no input is taken
untaken : (before now : SourceState) (result : Result (List ℕ) Failure) → ReadsGiven false before now result → ReadInput false before result
untaken before now (Ok bytes) reads = record { input = []; is = λ on. absurd (cc on); gives = ap Ok (sym ((reads.untaken refl).1 bytes refl)) }
untaken before now (Err (failure.Refused r)) reads = absurd ((reads.untaken refl).2 r refl)
untaken before now (Err failure.InputFault) reads = record { input = []; is = λ on. absurd (cc on); gives = tt }
untaken before now (Err failure.Memory) reads = record { input = []; is = λ on. absurd (cc on); gives = tt }
untaken before now _ reads = absurd reads.cause

-- it isn't told
untold : (before : SourceState) (result : Result (List ℕ) Failure) → before.left ≡ None → IsOfSome result → ReadInput true before result
untold before (Ok bytes) none some = record { input = bytes; is = untold_is true before bytes none; gives = some }
untold before (Err (failure.Refused r)) none some = record { input = some.0; is = untold_is true before some.0 none; gives = some.1 }
untold before (Err failure.InputFault) none some = record { input = []; is = untold_is true before [] none; gives = tt }
untold before (Err failure.Memory) none some = record { input = []; is = untold_is true before [] none; gives = tt }
untold before _ none some = absurd some

-- it is told
told_gives : (input : List ℕ) (now : SourceState) (result : Result (List ℕ) Failure) → ReadFrom true input now result → Gives true input result
told_gives input now (Ok bytes) from = from.0
told_gives input now (Err (failure.Refused r)) from = from.0
told_gives input now (Err failure.InputFault) from = tt
told_gives input now (Err failure.Memory) from = tt
told_gives input now _ from = absurd from

taken : (before now : SourceState) (result : Result (List ℕ) Failure) → ReadsGiven true before now result → (left : Option (List ℕ)) → before.left ≡ left → ReadInput true before result
taken before now result reads None none = untold before result none (reads.some refl)
taken before now result reads (Some input) told = record {
  input = input;
  is = told_is true before input told;
  gives = told_gives input now result (some_at before.left input (λ input. ReadFrom true input now result) told (reads.taken refl));
}

pub read_input_of : (takes : Bool) (before now : SourceState) (result : Result (List ℕ) Failure) → ReadsGiven takes before now result → ReadInput takes before result
read_input_of true before now result reads = taken before now result reads before.left refl
read_input_of false before now result reads = untaken before now result reads

-- ---- what reading leaves, where it gave something or was refused

module _ (takes : Bool) (before now : SourceState) where
  left_untaken : (input : List ℕ) → now ≡ before → takes ≡ false → before.left ≡ Some input → now.left ≡ Some (left_by takes input)
  left_untaken input same off is = ap (λ (x : SourceState). x.left) same ∙ is ∙ ap Some (ap (λ (b : Bool). left_by b input) (sym off))

  pub left_ok : (bytes : List ℕ) → ReadsGiven takes before now (Ok bytes) → IfSome before.left (λ input. now.left ≡ Some (left_by takes input))
  left_ok bytes reads = by takes refl
    where
      by : (b : Bool) → takes ≡ b → IfSome before.left (λ input. now.left ≡ Some (left_by takes input))
      by true on = some_so before.left (λ input h. h.1) (reads.taken on)
      by false off = some_is before.left (λ input is. left_untaken input (reads.untaken off).0 off is)

  pub left_err : (r : Refusal) → ReadsGiven takes before now (Err (failure.Refused r)) → IfSome before.left (λ input. now.left ≡ Some (left_by takes input))
  left_err r reads = by takes refl
    where
      by : (b : Bool) → takes ≡ b → IfSome before.left (λ input. now.left ≡ Some (left_by takes input))
      by true on = some_so before.left (λ input h. h.1) (reads.taken on)
      by false off = absurd ((reads.untaken off).2 r refl)
