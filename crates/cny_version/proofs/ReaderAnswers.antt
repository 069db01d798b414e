-- What a reader promises, from what is found in a text.
use Rattle.std.proofs.Common.{◌≡◌, Option, Some, None, Result, Ok, Err, IfOk, IsErrOf, IsSome, ◌↔◌, true, refl, sym, ◌∙◌}
use Rattle.std.specs.Option.{is_some}
use Rattle.cny_base.specs.declared.text.TextFault.{TextFault}
use Rattle.cny_base.specs.declared.text.TextFault.TheVariants as fault
use Rattle.cny_version.specs.Reading.{Reads, Gives}

pub only_found : {T : Type 0} (r : Result T TextFault) (found : Option T) (x : T) → Reads r found → found ≡ Some x → IfOk r (λ y. y ≡ x)
only_found (Ok y) found x reads is = let same : Some y ≡ Some x = sym reads ∙ is in cc
only_found (Err e) found x reads is = tt

pub ok_found : {T : Type 0} (r : Result T TextFault) (found : Option T) (P : T → Type 0) → Reads r found → ((x : T) → found ≡ Some x → P x) → IfOk r P
ok_found (Ok y) found P reads sound = sound y reads
ok_found (Err e) found P reads sound = tt

pub some_of : {T : Type 0} (found : Option T) → IsSome found → (x : T) × (found ≡ Some x)
some_of (Some x) is = (x, refl)
some_of None is = absurd (cc is)

pub not_bad : {T : Type 0} (r : Result T TextFault) (found : Option T) (x : T) → Reads r found → found ≡ Some x → ¬ IsErrOf r fault.Bad
not_bad (Ok y) found x reads is e = absurd (cc e)
not_bad (Err fault.Bad) found x reads is e = let never : None ≡ Some x = sym reads ∙ is in absurd (cc never)
not_bad (Err fault.Memory) found x reads is e = absurd (cc e)

-- Something is found exactly in the texts of G.
pub some_exactly : {T G : Type 0} (found : Option T) → ((x : T) → found ≡ Some x → G) → (G → (x : T) × (found ≡ Some x)) → (is_some found ≡ true) ↔ G
some_exactly (Some x) sound complete = (λ is. sound x refl, λ inside. refl)
some_exactly None sound complete = (λ is. absurd (cc is), λ inside. absurd (cc (complete inside).1))

-- The reader refuses exactly the texts outside G, where something is found exactly in the texts of G.
pub bad_exactly : {T G : Type 0} (r : Result T TextFault) (found : Option T) → Reads r found → ((x : T) → found ≡ Some x → G) → (G → (x : T) × (found ≡ Some x))
    → IsErrOf r fault.Bad ↔ ¬ G
bad_exactly (Ok y) found reads sound complete = (λ e. absurd (cc e), λ outside. absurd (outside (sound y reads)))
bad_exactly (Err fault.Bad) found reads sound complete =
    (λ e. λ inside. let x = complete inside in let never : None ≡ Some x.0 = sym reads ∙ x.1 in absurd (cc never), λ outside. refl)
bad_exactly (Err fault.Memory) found reads sound complete =
    (λ e. absurd (cc e), λ outside. let x = some_of found reads in absurd (outside (sound x.0 x.1)))

pub ok_given : {T : Type 0} (r : Result T TextFault) (found : Option T) (P : T → Type 0) → Gives r found → ((x : T) → found ≡ Some x → P x) → IfOk r P
ok_given (Ok y) found P gives sound = sound y gives
ok_given (Err e) found P gives sound = tt

-- where something is found, the two say the same
pub reads_from_gives : {T : Type 0} (r : Result T TextFault) (found : Option T) → is_some found ≡ true → Gives r found → Reads r found
reads_from_gives (Ok y) found is gives = gives
reads_from_gives (Err fault.Bad) found is gives = gives
reads_from_gives (Err fault.Memory) found is gives = is

-- a fault of a part, where the part's grammar is needed for the whole
pub gives_err : {S T : Type 0} (e : TextFault) (part : Option S) (found : Option T) → Gives {T = S} (Err e) part → (part ≡ None → found ≡ None) → Gives {T = T} (Err e) found
gives_err fault.Bad part found gives needed = needed gives
gives_err fault.Memory part found gives needed = tt
