-- An index with one trove more.
use Rattle.std.proofs.Common.{◌≡◌, ℕ, ◌+◌, ◌<◌, Bool, true, cond, ◌||◌, List, [], ◌∷◌, ◌++◌, length, take, get_or, None, sym, ap, ◌∙◌, zero-add, append_assoc, subst, inl, inr, IsTrue}
use Rattle.std.proofs.lemmas.List.{take_more}
use Rattle.std.specs.List.{list_any}
use Rattle.std.specs.Str.{bytes_eq}
use Rattle.indexmap.specs.IndexMap.{IndexMap, get, insert_entry}
use Rattle.indexmap.specs.IndexSet.{IndexSet, contains, Updates}
use Rattle.indexmap.proofs.CallerLemmas.{insert_entry-new}
use Rattle.trove_stream.specs.declared.parts.TroveParts.{TroveParts}
use Rattle.repo_index.specs.declared.index.Content.{Content}
use Rattle.repo_index.specs.declared.index.Index.{Index}
use Rattle.repo_index.specs.Catalogue.{places_of, is_file_of, is_file_sized, names_content, trove_records}
use Rattle.repo_index.specs.Keys.{places_in, is_number, knows, knows_sized, same_content, Extends, ExtendsMap}
use Rattle.repo_index.specs.Hashes.{hash_of, is_kept, KeepsAll}
use Rattle.repo_index.specs.Index.{IsIndexOf}
use Rattle.repo_index.proofs.Placing.{pushed_at}
use Rattle.repo_index.proofs.Searching.{places_from-push}
use Rattle.trove_stream.specs.Installed.{has_name}
use Rattle.cny_version.proofs.cny-base.Bools.{written, or_false as or-false, joined as or_assoc}

-- ---- one trove more

list_any-push : {A : Type 0} (test : A → Bool) (xs : List A) (y : A) → list_any test (xs ++ y ∷ []) ≡ (list_any test xs || test y)
list_any-push test [] y = or-false (test y)
list_any-push test (x ∷ xs) y = ap (λ (b : Bool). test x || b) (list_any-push test xs y) ∙ sym (or_assoc (test x) (list_any test xs) (test y))

pub one_more : (troves : List TroveParts) (t : TroveParts) (place : ℕ) (old new : Index) → IsIndexOf troves old → place ≡ length troves
    → KeepsAll old.ids new.ids → IsTrue (is_kept new.ids (hash_of t.id) place)
    → ((name : List ℕ) → places_in new.names name ≡ places_in old.names name ++ cond (bytes_eq t.id.name name) (place ∷ []) [])
    → ((name : List ℕ) → knows new.contents name ≡ (knows old.contents name || list_any (is_file_of name) t.files))
    → ((name : List ℕ) (size : ℕ) → knows_sized new.contents new.others name size ≡ (knows_sized old.contents old.others name size || list_any (is_file_sized name size) t.files))
    → IsIndexOf (troves ++ t ∷ []) new
one_more troves t place old new is last keeps added places contents sizes = record {
  ids = λ there u at. elim (pushed_at troves t u there at) [
    | inl before ↦ keeps (hash_of u.id) there (is.ids there u before)
    | inr end ↦
        subst (λ (x : TroveParts). IsTrue (is_kept new.ids (hash_of x.id) there)) end.1
        (subst (λ (n : ℕ). IsTrue (is_kept new.ids (hash_of t.id) n)) (last ∙ sym end.0) added)
  ];
  places = λ name.
      places name
      ∙ ap (λ (l : List ℕ). l ++ cond (has_name name t) (place ∷ []) []) (is.places name)
      ∙ ap (λ (n : ℕ). places_of name troves ++ cond (has_name name t) (n ∷ []) []) (last ∙ sym (zero-add (length troves)))
      ∙ sym (places_from-push 0 (has_name name) troves t);
  contents = λ name.
      contents name ∙ ap (λ (b : Bool). b || names_content name t) (is.contents name) ∙ sym (list_any-push (names_content name) troves t);
  sizes = λ name size.
      sizes name size ∙ ap (λ (b : Bool). b || trove_records name size t) (is.sizes name size) ∙ sym (list_any-push (trove_records name size) troves t);
}

-- ---- one file more

pub any_more : {A : Type 0} (test : A → Bool) (xs : List A) (i : ℕ) (x : A) → i < length xs → x ≡ get_or xs i x → (before old new : Bool)
    → old ≡ (before || list_any test (take i xs)) → new ≡ (old || test x) → new ≡ (before || list_any test (take (i + 1) xs))
any_more test xs i x within is before old new so_far step =
    let front : take (i + 1) xs ≡ take i xs ++ x ∷ [] = take_more xs i x within ∙ ap (λ y. take i xs ++ y ∷ []) (sym is) in
    step ∙ ap (λ (b : Bool). b || test x) so_far ∙ or_assoc before (list_any test (take i xs)) (test x)
    ∙ ap (λ (b : Bool). before || b) (sym (list_any-push test (take i xs) x) ∙ ap (list_any test) (sym front))

pub map_extends : {K V S : Type 0} (old mid new : IndexMap K V S) → ExtendsMap old mid → ExtendsMap mid new → ExtendsMap old new
map_extends old mid new first then =
    record { more = first.more ++ then.more; entries_are = then.entries_are ∙ ap (λ l. l ++ then.more) first.entries_are ∙ append_assoc old.entries first.more then.more }

pub set_extends : {K S : Type 0} (old mid new : IndexSet K S) → Extends old mid → Extends mid new → Extends old new
set_extends old mid new first then =
    record { more = first.more ++ then.more; keys_are = then.keys_are ∙ ap (λ l. l ++ then.more) first.keys_are ∙ append_assoc old.keys first.more then.more }

-- ---- one content more

-- one whose name isn't there
pub put_last : {S : Type 0} (old new : IndexMap (List ℕ) ℕ S) (name : List ℕ) (size : ℕ) → get bytes_eq old name ≡ None → new.entries ≡ insert_entry bytes_eq old.entries name size → ExtendsMap old new
put_last old new name size none is = record { more = (name, size) ∷ []; entries_are = is ∙ insert_entry-new bytes_eq old name size none }

-- one of another size
pub other_sized : {S T : Type 0} (contents : IndexMap (List ℕ) ℕ S) (old new : IndexSet Content T) (key : Content) → Updates same_content old new key true → (name : List ℕ) (size : ℕ)
    → knows_sized contents new name size ≡ (knows_sized contents old name size || same_content key (record { size = size; name = name }))
other_sized contents old new key updates name size =
    let here = same_content key (record { size = size; name = name }) in
    let before = contains same_content old (record { size = size; name = name }) in
    ap (λ (b : Bool). is_number (get bytes_eq contents name) size || b) (updates.0 (record { size = size; name = name }) ∙ written here before)
    ∙ sym (or_assoc (is_number (get bytes_eq contents name) size) before here)
