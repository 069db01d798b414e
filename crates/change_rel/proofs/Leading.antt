-- What the passes give makes a relative trove lead from one trove to another.
use Rattle.std.proofs.Common.{◌≡◌, ◌≢◌, ℕ, inr, Option, Some, None, MatchOption, List, [], ◌∷◌, ◌++◌, All, Ordering, refl, sym, ap, ◌∙◌, subst}
use Rattle.std.proofs.lemmas.List.Elements.{All-nil, All-cons, All-contains}
use Rattle.cny_dep.specs.Dep.{Dependency, IsDependency, dep_text}
use Rattle.cny_dep.specs.Order.{dep_cmp}
use Rattle.trove_stream.specs.trove-parts.Id.{IsTroveId}
use Rattle.trove_stream.specs.trove-parts.Order.{id_cmp, name_of}
use Rattle.trove_stream.specs.trove-parts.Items.{items_bytes, AreOfOneList}
use Rattle.trove_stream.specs.trove-parts.Files.{IsFileAt, path_of}
use Rattle.trove_stream.specs.trove-parts.Paths.{IsPath, path_cmp}
use Rattle.trove_stream.specs.declared.parts.TroveParts.{TroveParts}
use Rattle.trove_stream.specs.Trove.{IsTrove}
use Rattle.trove_stream.specs.declared.rel.RelParts.{RelParts}
use Rattle.trove_stream.specs.Disjoint.{AreDisjoint}
use Rattle.trove_stream.specs.Rel.{IsPathOf, IsSameId, IsSameDep, IsRel}
use Rattle.trove_stream.specs.Amends.{HasKey, IsAmended}
use Rattle.trove_stream.specs.Leads.{id_key, dep_key, Leads, LeadsNowhere}
use Rattle.change_rel.specs.Lists.{AreAmended}
use Rattle.change_rel.proofs.OneResult.{one_amended}
use Rattle.trove_stream.proofs.cny-base.Lists.{all_from}

-- ---- values that their order takes for equal

-- dependencies of one text are one, as lists of one item each
pub equal_deps : AreOfOneList dep_text dep_text IsDependency → (a b : Dependency) → IsDependency a → IsDependency b → dep_text a ≡ dep_text b → a ≡ b
equal_deps one a b a_is b_is same =
    let lists : a ∷ [] ≡ b ∷ [] = (one 0 (items_bytes dep_text 0 (a ∷ []) ++ []) (a ∷ []) (b ∷ []) [] []
    (All-cons IsDependency a [] a_is (All-nil IsDependency)) (All-cons IsDependency b [] b_is (All-nil IsDependency))
    (record { spelled = refl; ended = refl })
    (record { spelled = ap (λ (text : List ℕ). items_bytes (λ (x : List ℕ). text) 0 ([] ∷ []) ++ []) same; ended = refl })).0 in
    cc lists

-- ---- each part of a relative trove is valid

module _ {A K : Type 0} (key : A → K) (order : K → K → Ordering) (gone : List K) (set old new : List A) (d : IsAmended key order gone set old new) where
  pub set_valid : (IsValid : A → Type 0) → All IsValid new → All IsValid set
  set_valid IsValid are = all_from IsValid set (λ x in'. All-contains IsValid new x are ((d.amends.result x).1 (inr in')))

  pub gone_valid : (IsValid : A → Type 0) (IsKey : K → Type 0) → ((x : A) → IsValid x → IsKey (key x)) → All IsValid old → All IsKey gone
  gone_valid IsValid IsKey give are = all_from IsKey gone (λ k in'.
      let h : HasKey key old k = All-contains (HasKey key old) gone k d.amends.fits.had in' in
      subst IsKey h.2 (give h.0 (All-contains IsValid old h.0 are h.1)))

  pub disjoint : (IsSame : K → A → Type 0) → ((k : K) (x : A) → IsSame k x → key x ≡ k) → AreDisjoint IsSame gone set
  disjoint IsSame give = all_from (λ k. All (λ x. IsSame k x → ⊥) set) gone (λ k in'. all_from (λ x. IsSame k x → ⊥) set (λ x in'' same. d.apart k in' (x, in'', give k x same)))

-- ---- a relative trove that is found

pub leads_of : (rel : RelParts) (old new : TroveParts) → IsTrove old → IsTrove new → old.id ≡ rel.old → new.id ≡ rel.fresh → old.id.name ≡ new.id.name → old.id ≢ new.id
    → IsAmended path_of path_cmp rel.paths_gone rel.files_set old.files new.files → IsAmended id_key id_cmp rel.refs_gone rel.refs_added old.refs new.refs
    → IsAmended dep_key dep_cmp rel.requires_gone rel.requires_added old.requires_ new.requires_ → IsAmended dep_key dep_cmp rel.provides_gone rel.provides_added old.provides new.provides → Leads rel old new
leads_of rel old new old_is new_is from to one_name two_ids files refs required provided = record {
  rel_is = record {
    parts = record {
      old = subst IsTroveId from old_is.lists.id;
      fresh = subst IsTroveId to new_is.lists.id;
      paths_gone = record { valid = gone_valid path_of path_cmp rel.paths_gone rel.files_set old.files new.files files IsFileAt IsPath (λ x is. is.path) old_is.lists.files.valid; rising = files.gone_rises };
      files_set = record { valid = set_valid path_of path_cmp rel.paths_gone rel.files_set old.files new.files files IsFileAt new_is.lists.files.valid; rising = files.set_rises };
      refs_gone = record { valid = gone_valid id_key id_cmp rel.refs_gone rel.refs_added old.refs new.refs refs IsTroveId IsTroveId (λ x is. is) old_is.lists.refs.valid; rising = refs.gone_rises };
      refs_added = record { valid = set_valid id_key id_cmp rel.refs_gone rel.refs_added old.refs new.refs refs IsTroveId new_is.lists.refs.valid; rising = refs.set_rises };
      requires_gone = record { valid = gone_valid dep_key dep_cmp rel.requires_gone rel.requires_added old.requires_ new.requires_ required IsDependency IsDependency (λ x is. is) old_is.lists.requires.valid; rising = required.gone_rises };
      requires_added = record { valid = set_valid dep_key dep_cmp rel.requires_gone rel.requires_added old.requires_ new.requires_ required IsDependency new_is.lists.requires.valid; rising = required.set_rises };
      provides_gone = record { valid = gone_valid dep_key dep_cmp rel.provides_gone rel.provides_added old.provides new.provides provided IsDependency IsDependency (λ x is. is) old_is.lists.provides.valid; rising = provided.gone_rises };
      provides_added = record { valid = set_valid dep_key dep_cmp rel.provides_gone rel.provides_added old.provides new.provides provided IsDependency new_is.lists.provides.valid; rising = provided.set_rises };
    };
    together = record {
      one_name = ap name_of (sym from) ∙ one_name ∙ ap name_of to;
      two_ids = λ e. two_ids (from ∙ e ∙ sym to);
      paths = disjoint path_of path_cmp rel.paths_gone rel.files_set old.files new.files files IsPathOf (λ k x e. sym e);
      refs = disjoint id_key id_cmp rel.refs_gone rel.refs_added old.refs new.refs refs IsSameId (λ k x e. sym e);
      required = disjoint dep_key dep_cmp rel.requires_gone rel.requires_added old.requires_ new.requires_ required IsSameDep (λ k x e. sym e);
      provided = disjoint dep_key dep_cmp rel.provides_gone rel.provides_added old.provides new.provides provided IsSameDep (λ k x e. sym e);
    };
  };
  from = from;
  to = to;
  files = files.amends;
  refs = refs.amends;
  required = required.amends;
  provided = provided.amends;
  trove = new_is;
}

pub leads_by : (rel : RelParts) (old new : TroveParts) → IsRel rel → old.id ≡ rel.old → AreAmended rel old new → IsTrove new → Leads rel old new
leads_by rel old new rel_is from made new_is = record {
  rel_is = rel_is;
  from = from;
  to = made.to;
  files = made.files.amends;
  refs = made.refs.amends;
  required = made.required.amends;
  provided = made.provided.amends;
  trove = new_is;
}

-- the same of equal lists
pub moved : {A K : Type 0} (key : A → K) (order : K → K → Ordering) (gone : List K) (set old new : List A) → IsAmended key order gone set old new → (old' new' : List A) → old ≡ old' → new ≡ new' → IsAmended key order gone set old' new'
moved {A} key order gone set old new d old' new' old_is new_is =
    subst (λ (l : List A). IsAmended key order gone set l new') old_is (subst (λ (l : List A). IsAmended key order gone set old l) new_is d)

-- what is answered for the parts that are made
pub led : (rel : RelParts) (old parts : TroveParts) (made : Option TroveParts) → IsRel rel → old.id ≡ rel.old → AreAmended rel old parts → MatchOption made (IsTrove parts → ⊥) (λ trove. (trove ≡ parts) × IsTrove parts) → MatchOption made (LeadsNowhere rel old) (Leads rel old)
led rel old parts None rel_is from are none = λ fresh leads. none (subst IsTrove (one_amended rel old fresh parts leads are) leads.trove)
led rel old parts (Some trove) rel_is from are one = subst (Leads rel old) (sym one.0) (leads_by rel old parts rel_is from are one.1)
