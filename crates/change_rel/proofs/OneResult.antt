-- What a relative trove leads to are the parts that it makes, and one relative trove at most leads from a trove to another.
use Rattle.std.proofs.Common.{◌≡◌, ℕ, ◌⊎◌, ⊎_elim, inl, inr, List, [], ◌∷◌, All, Contains, Ordering, refl, sym, ap, ◌∙◌, subst}
use Rattle.std.specs.Prelude.{◌↔◌}
use Rattle.std.specs.Cmp.{IsTotalOrder}
use Rattle.std.specs.Cmp.Lexicographic.{nat_list_cmp_total}
use Rattle.std.specs.List.Sorted.{IsStrictlySortedBy}
use Rattle.std.specs.declared.cmp.Ordering.TheVariants.{Less, Equal, Greater}
use Rattle.std.proofs.lemmas.Cmp.{tied_itself, on_total}
use Rattle.std.proofs.lemmas.List.Elements.{All-head, All-tail, All-contains}
use Rattle.cny_dep.specs.Dep.{Dependency, IsDependency}
use Rattle.cny_dep.specs.Order.{dep_cmp}
use Rattle.trove_stream.specs.trove-parts.declared.id.TroveId.{TroveId}
use Rattle.trove_stream.specs.trove-parts.Id.{IsTroveId}
use Rattle.trove_stream.specs.trove-parts.Order.{id_cmp, id_total}
use Rattle.trove_stream.specs.trove-parts.Files.{path_of, file_cmp}
use Rattle.trove_stream.specs.trove-parts.Paths.{IsPath, path_cmp}
use Rattle.trove_stream.specs.declared.parts.TroveParts.{TroveParts}
use Rattle.trove_stream.specs.declared.rel.RelParts.{RelParts}
use Rattle.trove_stream.specs.Above.{dep_total}
use Rattle.trove_stream.specs.Disjoint.{AreDisjoint}
use Rattle.trove_stream.specs.Rel.{IsPathOf, IsSameId, IsSameDep}
use Rattle.trove_stream.specs.Amends.{HasKey, Amends, by_key}
use Rattle.trove_stream.specs.Leads.{id_key, dep_key, Leads}
use Rattle.change_rel.specs.Lists.{AreAmended}
use Rattle.trove_stream.proofs.Members.{same_members}
use Rattle.trove_stream.proofs.OneLed.{one_made}
use Rattle.trove_stream.proofs.cny-base.Lists.{contains_cases, contains_first, contains_rest, nothing_in}
use Rattle.trove_stream.proofs.trove-parts.Orders.{file_total}

-- ---- one result

-- what a relative trove leads to are the parts that it makes
pub one_amended : (rel : RelParts) (old a b : TroveParts) → Leads rel old a → AreAmended rel old b → a ≡ b
one_amended rel old a b one two =
    let id : a.id ≡ b.id = one.to ∙ sym two.to in
    let files : a.files ≡ b.files = same_members file_cmp file_total a.files b.files one.trove.lists.files.rising two.files.new_rises
    (one_made path_of rel.paths_gone rel.files_set old.files a.files b.files one.files two.files.amends) in
    let refs : a.refs ≡ b.refs = same_members id_cmp id_total a.refs b.refs one.trove.lists.refs.rising two.refs.new_rises
    (one_made id_key rel.refs_gone rel.refs_added old.refs a.refs b.refs one.refs two.refs.amends) in
    let required : a.requires_ ≡ b.requires_ = same_members dep_cmp dep_total a.requires_ b.requires_ one.trove.lists.requires.rising two.required.new_rises
    (one_made dep_key rel.requires_gone rel.requires_added old.requires_ a.requires_ b.requires_ one.required two.required.amends) in
    let provided : a.provides ≡ b.provides = same_members dep_cmp dep_total a.provides b.provides one.trove.lists.provides.rising two.provided.new_rises
    (one_made dep_key rel.provides_gone rel.provides_added old.provides a.provides b.provides one.provided two.provided.amends) in
    λ i. record { id = id i; files = files i; refs = refs i; requires_ = required i; provides = provided i }

-- ---- one relative trove

-- no key of the one list is that of an element of the other
pub apart_from : {A K : Type 0} (key : A → K) (IsSame : K → A → Type 0) (gone : List K) (set : List A) → ((k : K) (x : A) → key x ≡ k → IsSame k x) → AreDisjoint IsSame gone set → (k : K) → Contains gone k → HasKey key set k → ⊥
apart_from key IsSame gone set give disjoint k in' h =
    All-contains (λ y. IsSame k y → ⊥) set h.0 (All-contains (λ x. All (λ y. IsSame x y → ⊥) set) gone k disjoint in') h.1 (give k h.0 h.2)

module _ {K : Type 0} (order : K → K → Ordering) (o : IsTotalOrder order) (IsValid : K → Type 0) (tied : (k m : K) → IsValid k → IsValid m → order k m ≡ Equal → k ≡ m) where
  -- a key is in the list or isn't
  in_or_not : (k : K) (ks : List K) → IsValid k → All IsValid ks → Contains ks k ⊎ (Contains ks k → ⊥)
  in_or_not k [] is are = inr (λ h. nothing_in k h)
  in_or_not k (g ∷ gs) is are = by (order k g) refl (in_or_not k gs is (All-tail IsValid g gs are))
    where
      differs : (w : Ordering) → order k g ≡ w → (w ≡ Equal → ⊥) → g ≡ k → ⊥
      differs w met other e = other (sym met ∙ ap (order k) e ∙ tied_itself o k)

      apart : (w : Ordering) → order k g ≡ w → (w ≡ Equal → ⊥) → Contains gs k ⊎ (Contains gs k → ⊥) → Contains (g ∷ gs) k ⊎ (Contains (g ∷ gs) k → ⊥)
      apart w met other (inl there) = inl (contains_rest g k gs there)
      apart w met other (inr none) = inr (λ h. ⊎_elim (λ e. differs w met other e) (λ later. none later) (contains_cases g k gs h))

      by : (w : Ordering) → order k g ≡ w → Contains gs k ⊎ (Contains gs k → ⊥) → Contains (g ∷ gs) k ⊎ (Contains (g ∷ gs) k → ⊥)
      by Less met rest = apart Less met (λ e. cc e) rest
      by Equal met rest = inl (subst (Contains (g ∷ gs)) (sym (tied k g is (All-head IsValid g gs are) met)) (contains_first g gs))
      by Greater met rest = apart Greater met (λ e. cc e) rest

  module _ {A : Type 0} (key : A → K) (gone gone' : List K) (set set' old new : List A) (a : Amends key gone set old new) (b : Amends key gone' set' old new) where
    set_within : (x : A) → Contains set x → Contains set' x
    set_within x s = ⊎_elim
        (λ r. absurd (All-contains (λ y. Contains old y → ⊥) set x a.fits.lacked s r.0))
        (λ t. t)
        ((b.result x).0 ((a.result x).1 (inr s)))

    -- an element whose key is gone isn't one of the new ones
    gone_new : (x : A) → Contains old x → Contains gone (key x) → Contains new x → ⊥
    gone_new x in' g n = ⊎_elim
        (λ r. r.1 g)
        (λ s. All-contains (λ y. Contains old y → ⊥) set x a.fits.lacked s in')
        ((a.result x).0 n)

  module _ {A : Type 0} (key : A → K) (gone gone' : List K) (set set' old new : List A) (a : Amends key gone set old new) (b : Amends key gone' set' old new)
      (apart : (k : K) → Contains gone k → HasKey key set k → ⊥) (are : All IsValid gone) (are' : All IsValid gone') where
    gone_within : (k : K) → Contains gone k → Contains gone' k
    gone_within k g =
        let h : HasKey key old k = All-contains (HasKey key old) gone k a.fits.had g in
        ⊎_elim
        (λ there. there)
        (λ none. absurd (gone_new key gone gone' set set' old new a b h.0 h.1 (subst (Contains gone) (sym h.2) g)
        ((b.result h.0).1 (inl (
          h.1,
          (λ g'. none (subst (Contains gone') h.2 g')),
          (λ s. apart k g (s.0, set_within key gone' gone set' set old new b a s.0 s.1, s.2 ∙ h.2)),
        )))))
        (in_or_not k gone' (All-contains IsValid gone k are g) are')

  pub one_gone : {A : Type 0} (key : A → K) (gone gone' : List K) (set set' old new : List A) → Amends key gone set old new → Amends key gone' set' old new
      → ((k : K) → Contains gone k → HasKey key set k → ⊥) → ((k : K) → Contains gone' k → HasKey key set' k → ⊥) → All IsValid gone → All IsValid gone' → IsStrictlySortedBy order gone → IsStrictlySortedBy order gone' → gone ≡ gone'
  one_gone key gone gone' set set' old new a b apart apart' are are' rises rises' =
      same_members order o gone gone' rises rises' (λ k. (gone_within key gone gone' set set' old new a b apart are are' k, gone_within key gone' gone set' set old new b a apart' are' are k))

  pub one_set : {A : Type 0} (key : A → K) (gone gone' : List K) (set set' old new : List A) → Amends key gone set old new → Amends key gone' set' old new
      → IsStrictlySortedBy (by_key key order) set → IsStrictlySortedBy (by_key key order) set' → set ≡ set'
  one_set key gone gone' set set' old new a b rises rises' =
      same_members (by_key key order) (on_total key o) set set' rises rises' (λ x. (set_within key gone gone' set set' old new a b x, set_within key gone' gone set' set old new b a x))

-- one relative trove leads from the old trove to the new one, where ids and dependencies that their orders take for equal are equal
pub one_rel : ((i j : TroveId) → IsTroveId i → IsTroveId j → id_cmp i j ≡ Equal → i ≡ j) → ((i j : Dependency) → IsDependency i → IsDependency j → dep_cmp i j ≡ Equal → i ≡ j)
    → ((p q : List ℕ) → IsPath p → IsPath q → path_cmp p q ≡ Equal → p ≡ q)
    → (old new : TroveParts) (a b : RelParts) → Leads a old new → Leads b old new → a ≡ b
one_rel tied_ids tied_deps tied_paths old new a b one two =
    let id : a.old ≡ b.old = sym one.from ∙ two.from in
    let to : a.fresh ≡ b.fresh = sym one.to ∙ two.to in
    let ours = one.rel_is.parts in
    let theirs = two.rel_is.parts in
    let paths_gone : a.paths_gone ≡ b.paths_gone = one_gone path_cmp nat_list_cmp_total IsPath tied_paths path_of a.paths_gone b.paths_gone a.files_set b.files_set old.files new.files one.files two.files
    (apart_from path_of IsPathOf a.paths_gone a.files_set (λ k x e. sym e) one.rel_is.together.paths) (apart_from path_of IsPathOf b.paths_gone b.files_set (λ k x e. sym e) two.rel_is.together.paths)
    ours.paths_gone.valid theirs.paths_gone.valid ours.paths_gone.rising theirs.paths_gone.rising in
    let files_set : a.files_set ≡ b.files_set = one_set path_cmp nat_list_cmp_total IsPath tied_paths path_of a.paths_gone b.paths_gone a.files_set b.files_set old.files new.files one.files two.files
    ours.files_set.rising theirs.files_set.rising in
    let refs_gone : a.refs_gone ≡ b.refs_gone = one_gone id_cmp id_total IsTroveId tied_ids id_key a.refs_gone b.refs_gone a.refs_added b.refs_added old.refs new.refs one.refs two.refs
    (apart_from id_key IsSameId a.refs_gone a.refs_added (λ k x e. sym e) one.rel_is.together.refs) (apart_from id_key IsSameId b.refs_gone b.refs_added (λ k x e. sym e) two.rel_is.together.refs)
    ours.refs_gone.valid theirs.refs_gone.valid ours.refs_gone.rising theirs.refs_gone.rising in
    let refs_added : a.refs_added ≡ b.refs_added = one_set id_cmp id_total IsTroveId tied_ids id_key a.refs_gone b.refs_gone a.refs_added b.refs_added old.refs new.refs one.refs two.refs
    ours.refs_added.rising theirs.refs_added.rising in
    let requires_gone : a.requires_gone ≡ b.requires_gone = one_gone dep_cmp dep_total IsDependency tied_deps dep_key a.requires_gone b.requires_gone a.requires_added b.requires_added old.requires_ new.requires_ one.required two.required
    (apart_from dep_key IsSameDep a.requires_gone a.requires_added (λ k x e. sym e) one.rel_is.together.required) (apart_from dep_key IsSameDep b.requires_gone b.requires_added (λ k x e. sym e) two.rel_is.together.required)
    ours.requires_gone.valid theirs.requires_gone.valid ours.requires_gone.rising theirs.requires_gone.rising in
    let requires_added : a.requires_added ≡ b.requires_added = one_set dep_cmp dep_total IsDependency tied_deps dep_key a.requires_gone b.requires_gone a.requires_added b.requires_added old.requires_ new.requires_ one.required two.required
    ours.requires_added.rising theirs.requires_added.rising in
    let provides_gone : a.provides_gone ≡ b.provides_gone = one_gone dep_cmp dep_total IsDependency tied_deps dep_key a.provides_gone b.provides_gone a.provides_added b.provides_added old.provides new.provides one.provided two.provided
    (apart_from dep_key IsSameDep a.provides_gone a.provides_added (λ k x e. sym e) one.rel_is.together.provided) (apart_from dep_key IsSameDep b.provides_gone b.provides_added (λ k x e. sym e) two.rel_is.together.provided)
    ours.provides_gone.valid theirs.provides_gone.valid ours.provides_gone.rising theirs.provides_gone.rising in
    let provides_added : a.provides_added ≡ b.provides_added = one_set dep_cmp dep_total IsDependency tied_deps dep_key a.provides_gone b.provides_gone a.provides_added b.provides_added old.provides new.provides one.provided two.provided
    ours.provides_added.rising theirs.provides_added.rising in
    λ i. record {
      old = id i;
      fresh = to i;
      paths_gone = paths_gone i;
      files_set = files_set i;
      refs_gone = refs_gone i;
      refs_added = refs_added i;
      requires_gone = requires_gone i;
      requires_added = requires_added i;
      provides_gone = provides_gone i;
      provides_added = provides_added i;
    }
