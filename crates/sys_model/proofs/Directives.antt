-- A line says one thing at most.
use Rattle.std.proofs.Common.{◌≡◌, ℕ, true, List, [], ◌∷◌, length, drop, Ok, Err, sym, ◌∙◌, subst, true≢false, arith}
use Rattle.std.specs.Prelude.{◌==◌, codes, IfOk, IsErrAnd, IsErrOf, Result}
use Rattle.std.proofs.lemmas.Bool.{and_parts}
use Rattle.repo_index.specs.cny-base.Below.{begins_with}
use Rattle.repo_index.specs.cny-base.declared.text.TextFault.{TextFault}
use Rattle.repo_index.specs.cny-base.declared.text.TextFault.TheVariants.{Bad}
use Rattle.repo_index.proofs.cny-base.Below.{test_equal}
use Rattle.trove_spec.proofs.ConfigLines.{same_fault}
use Rattle.trove_spec.specs.Config.{has_key, ends_word}
use Rattle.trove_spec.specs.Spec.{IsReadAs}
use Rattle.trove_spec.specs.declared.spec.Spec.{Spec}
use Rattle.sys_model.specs.declared.directive.ModelLine.{ModelLine}
use Rattle.sys_model.specs.declared.directive.ModelLine.TheVariants.{Install, Update, Erase}
use Rattle.sys_model.specs.Model.{IsSpecAs, IsInstall, IsUpdate, IsErase, IsDirective, install_word, update_word, erase_word, text_behind}

-- ---- first words

first_byte : (a : ℕ) (key : List ℕ) (b : ℕ) (line : List ℕ) → has_key (a ∷ key) (b ∷ line) ≡ true → a ≡ b
first_byte a key b line h =
    let begins = and_parts (begins_with (a ∷ key) (b ∷ line)) (ends_word (drop (length (a ∷ key)) (b ∷ line))) h in
    test_equal a b (and_parts (a == b) (begins_with key line) begins.0).0

-- no line has two words as its first one that begin with two bytes
pub one_word : (a b : ℕ) (key other line : List ℕ) → (a ≡ b → ⊥) → has_key (a ∷ key) line ≡ true → has_key (b ∷ other) line ≡ true → ⊥
one_word a b key other [] differ h g = true≢false (sym h)
one_word a b key other (c ∷ line) differ h g = differ (first_byte a key c line h ∙ sym (first_byte b other c line g))

-- ---- what a line says behind its first word

-- the directives whose first word is `install`
pub installs : (line : List ℕ) (said : ModelLine) → has_key install_word line ≡ true → IsDirective line said → IsInstall (text_behind install_word line) said
installs line (Install spec kept) h is = is.1
installs line (Update spec kept) h is = absurd (one_word 105 117 (codes "nstall") (codes "pdate") line (λ e. omega arith) h is.0)
installs line (Erase name) h is = absurd (one_word 105 101 (codes "nstall") (codes "rase") line (λ e. omega arith) h is.0)

pub updates : (line : List ℕ) (said : ModelLine) → has_key update_word line ≡ true → IsDirective line said → IsUpdate (text_behind update_word line) said
updates line (Install spec kept) h is = absurd (one_word 117 105 (codes "pdate") (codes "nstall") line (λ e. omega arith) h is.0)
updates line (Update spec kept) h is = is.1
updates line (Erase name) h is = absurd (one_word 117 101 (codes "pdate") (codes "rase") line (λ e. omega arith) h is.0)

pub erases : (line : List ℕ) (said : ModelLine) → has_key erase_word line ≡ true → IsDirective line said → IsErase (text_behind erase_word line) said
erases line (Install spec kept) h is = absurd (one_word 101 105 (codes "rase") (codes "nstall") line (λ e. omega arith) h is.0)
erases line (Update spec kept) h is = absurd (one_word 101 117 (codes "rase") (codes "pdate") line (λ e. omega arith) h is.0)
erases line (Erase name) h is = is.1

-- ---- what stands behind the words

-- no other specification with its text
abbrev pub IsOnlySpec : List ℕ → Spec → List ℕ → Type 0
IsOnlySpec bytes spec kept = (meant : Spec) (text : List ℕ) → IsSpecAs bytes meant text → (spec ≡ meant) × (kept ≡ text)

pub one_install : (bytes : List ℕ) (spec : Spec) (kept : List ℕ) (said : ModelLine) → IsOnlySpec bytes spec kept → IsInstall bytes said → Install spec kept ≡ said
one_install bytes spec kept (Install meant text) only is = let same = only meant text is in λ i. Install (same.0 i) (same.1 i)
one_install bytes spec kept (Update meant text) only is = absurd is
one_install bytes spec kept (Erase name) only is = absurd is

pub one_update : (bytes : List ℕ) (spec : Spec) (kept : List ℕ) (said : ModelLine) → IsOnlySpec bytes spec kept → IsUpdate bytes said → Update spec kept ≡ said
one_update bytes spec kept (Install meant text) only is = absurd is
one_update bytes spec kept (Update meant text) only is = let same = only meant text is in λ i. Update (same.0 i) (same.1 i)
one_update bytes spec kept (Erase name) only is = absurd is

-- no specification is that of the text
abbrev pub IsNoSpec : List ℕ → Type 0
IsNoSpec bytes = (meant : Spec) (text : List ℕ) → IsSpecAs bytes meant text → ⊥

pub no_install : (bytes : List ℕ) (said : ModelLine) → IsNoSpec bytes → IsInstall bytes said → ⊥
no_install bytes (Install meant text) none is = none meant text is
no_install bytes (Update meant text) none is = is
no_install bytes (Erase name) none is = is

pub no_update : (bytes : List ℕ) (said : ModelLine) → IsNoSpec bytes → IsUpdate bytes said → ⊥
no_update bytes (Install meant text) none is = is
no_update bytes (Update meant text) none is = none meant text is
no_update bytes (Erase name) none is = is

-- ---- readers

-- a text that no reader of specifications takes
pub unread : (fault : TextFault) (meant : Spec) → fault ≡ Bad → IsReadAs (Err fault) meant → ⊥
unread fault meant bad is = subst (λ (t : TextFault). IsReadAs (Err t) meant) bad is

pub bad_is : {X : Type 0} (s : Result X TextFault) (f : TextFault) → IsErrAnd s (λ e. e ≡ f) → IsErrOf s Bad → f ≡ Bad
bad_is (Ok x) f is h = absurd is
bad_is (Err e) f is h = sym is ∙ same_fault e Bad h

-- ---- answers

weaker_ok : {X E : Type 0} (P Q : X → Type 0) → ((x : X) → P x → Q x) → (r : Result X E) → IfOk r P → IfOk r Q
weaker_ok P Q weaker (Ok x) h = weaker x h
weaker_ok P Q weaker (Err e) h = h

-- a line whose first word is read, with this text behind it
module _ (line text word : List ℕ) (Is : List ℕ → ModelLine → Type 0) (says : (said : ModelLine) → has_key word line ≡ true → IsDirective line said → Is (text_behind word line) said)
    (behind : (has_key word line ≡ true) × (text ≡ text_behind word line)) where
  said_behind : (said : ModelLine) → IsDirective line said → Is text said
  said_behind said is = subst (λ (t : List ℕ). Is t said) (sym behind.1) (says said behind.0 is)

  pub directive_only : (r : Result ModelLine TextFault) → IfOk r (λ made. (said : ModelLine) → Is text said → made ≡ said) → IfOk r (λ made. (said : ModelLine) → IsDirective line said → made ≡ said)
  directive_only r only = weaker_ok (λ (made : ModelLine). (said : ModelLine) → Is text said → made ≡ said) (λ (made : ModelLine). (said : ModelLine) → IsDirective line said → made ≡ said) (λ made one said is. one said (said_behind said is)) r only

  pub directive_bad : (r : Result ModelLine TextFault) → (IsErrOf r Bad → (said : ModelLine) → Is text said → ⊥) → IsErrOf r Bad → (said : ModelLine) → IsDirective line said → ⊥
  directive_bad r none bad said is = none bad said (said_behind said is)
