-- Where each list of a trove's stream ends.
use Rattle.std.proofs.Common.{◌≡◌, ℕ, false, List, [], ◌∷◌, ◌++◌, length, drop, refl, sym, ap, ◌∙◌, subst, arith, append-nil}
use Rattle.std.specs.Prelude.{◌==◌}
use Rattle.std.proofs.lemmas.List.{length-drop}
use Rattle.cny_dep.specs.Dep.{dep_text}
use Rattle.trove_parts.specs.cny-stream.declared.encoding.Encoding.{Encoding}
use Rattle.trove_parts.specs.Id.{id_bytes}
use Rattle.trove_parts.specs.Deps.{deps_bytes}
use Rattle.trove_parts.specs.Files.{file_value, files_bytes}
use Rattle.trove_parts.specs.Items.{begins_with_tag, BeginsWithItems, AreItemsAt}
use Rattle.trove_parts.proofs.ItemsLaws.{other_tag}
use Rattle.trove_parts.specs.Refs.{refs_bytes}
use Rattle.trove_stream.specs.declared.parts.TroveParts.{TroveParts}
use Rattle.trove_stream.specs.Stream.{head_bytes, lists_bytes, stream_bytes, IsHeadOf}
use Rattle.trove_stream.specs.Installed.{IsRising}
use Rattle.std.specs.List.Sorted.{IsStrictlySortedBy}

abbrev pub behind_refs : TroveParts → List ℕ
behind_refs t = deps_bytes 6 t.requires_ ++ deps_bytes 7 t.provides

abbrev pub behind_files : TroveParts → List ℕ
behind_files t = refs_bytes 5 t.refs ++ behind_refs t

-- the dependencies that are provided end the stream
provides_end : (tag : ℕ) (t : TroveParts) → (7 == tag) ≡ false → begins_with_tag tag (deps_bytes 7 t.provides) ≡ false
provides_end tag t differ = subst (λ (l : List ℕ). begins_with_tag tag l ≡ false) (append-nil (deps_bytes 7 t.provides)) (other_tag dep_text tag 7 t.provides [] differ refl)

requires_end : (tag : ℕ) (t : TroveParts) → (6 == tag) ≡ false → (7 == tag) ≡ false → begins_with_tag tag (behind_refs t) ≡ false
requires_end tag t six seven = other_tag dep_text tag 6 t.requires_ (deps_bytes 7 t.provides) six (provides_end tag t seven)

pub files_begin : (encoding : Encoding) (bytes : List ℕ) (t : TroveParts) → bytes ≡ lists_bytes encoding t → BeginsWithItems (file_value encoding) 4 bytes t.files (behind_files t)
files_begin encoding bytes t same = record { spelled = same; ended = other_tag id_bytes 4 5 t.refs (behind_refs t) refl (requires_end 4 t refl refl) }

pub refs_begin : (bytes : List ℕ) (t : TroveParts) → bytes ≡ behind_files t → BeginsWithItems id_bytes 5 bytes t.refs (behind_refs t)
refs_begin bytes t same = record { spelled = same; ended = requires_end 5 t refl refl }

pub requires_begin : (bytes : List ℕ) (t : TroveParts) → bytes ≡ behind_refs t → BeginsWithItems dep_text 6 bytes t.requires_ (deps_bytes 7 t.provides)
requires_begin bytes t same = record { spelled = same; ended = provides_end 6 t refl }

pub provides_begin : (bytes : List ℕ) (t : TroveParts) → bytes ≡ deps_bytes 7 t.provides → BeginsWithItems dep_text 7 bytes t.provides []
provides_begin bytes t same = record { spelled = same ∙ sym (append-nil (deps_bytes 7 t.provides)); ended = refl }

nothing_behind : (bytes : List ℕ) (to : ℕ) → to ≡ length bytes → drop to bytes ≡ []
nothing_behind bytes to end = empty (drop to bytes) (omega (arith, length-drop to bytes))
  where
    empty : (l : List ℕ) → length l ≡ 0 → l ≡ []
    empty [] e = refl
    empty (x ∷ l) e = absurd (omega arith)

-- the lists that were read, one behind the other, are the whole stream
pub whole : (encoding : Encoding) (bytes : List ℕ) (t : TroveParts) (h f r q p : ℕ) → IsHeadOf bytes t.id h → AreItemsAt (file_value encoding) bytes h 4 t.files f → AreItemsAt id_bytes bytes f 5 t.refs r
    → AreItemsAt dep_text bytes r 6 t.requires_ q → AreItemsAt dep_text bytes q 7 t.provides p → p ≡ length bytes → bytes ≡ stream_bytes encoding t
whole encoding bytes t h f r q p head files refs required provided end =
    let last : drop q bytes ≡ deps_bytes 7 t.provides = provided.begins.spelled ∙ ap (λ l. deps_bytes 7 t.provides ++ l) (nothing_behind bytes p end) ∙ append-nil (deps_bytes 7 t.provides) in
    head.spelled
    ∙ ap (λ l. head_bytes t.id ++ l) (files.begins.spelled
    ∙ ap (λ l. files_bytes encoding 4 t.files ++ l) (refs.begins.spelled
    ∙ ap (λ l. refs_bytes 5 t.refs ++ l) (required.begins.spelled
    ∙ ap (λ l. deps_bytes 6 t.requires_ ++ l) last)))

pub none_rise : IsRising []
unfolding IsStrictlySortedBy
none_rise = tt
