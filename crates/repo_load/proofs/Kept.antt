-- Troves of which ids and references alone are kept: they have the ids and the references of the whole ones.
use Rattle.std.proofs.Common.{◌≡◌, true, false, Bool, cond, List, [], ◌∷◌, ◌++◌, length, map, get_or, All, Option, Some, None, refl, sym, ◌∙◌, ap, subst, arith}
use Rattle.std.specs.Option.{is_some, option_or}
use Rattle.std.proofs.lemmas.List.Folds.{find-append}
use Rattle.std.proofs.lemmas.List.Elements.{All-nil, All-cons, All-head, All-map, All-tail}
use Rattle.repo_index.specs.cny-base.Name.{kind_of_name}
use Rattle.repo_index.specs.cny-base.declared.name.NameKind.{NameKind}
use Rattle.repo_index.specs.cny-base.declared.name.NameKind.TheVariants.{Component, Package, Group}
use Rattle.repo_index.specs.cny-dep.Dep.{Dependency, IsDependency}
use Rattle.repo_index.specs.cny-dep.Order.{dep_cmp}
use Rattle.repo_index.specs.trove-parts.declared.files.FileAt.{FileAt}
use Rattle.repo_index.specs.trove-parts.Files.{file_cmp, IsFileAt}
use Rattle.repo_index.specs.trove-parts.declared.id.TroveId.{TroveId}
use Rattle.repo_index.specs.trove-stream.declared.parts.TroveParts.{TroveParts}
use Rattle.repo_index.specs.trove-stream.Trove.{IsTrove, KeepsKind}
use Rattle.repo_index.specs.Catalogue.{found, has_id, CatalogueParts}
use Rattle.repo_index.proofs.cny-base.Sorted.{rising_nil}
use Rattle.journal_log.specs.tree-disk.Tree.{Tree}
use Rattle.repo_load.specs.State.{catalogue_of, troves_of, AreNew, Commit, HasRefs, IsCommit}
use Rattle.repo_load.specs.Files.{HoldsCatalogue}
use Rattle.repo_load.specs.Loading.{kept, kept_catalogue, HoldsKept, HoldsSomeCatalogue, IsCatalogue, IsKept}

-- ---- it is a trove

kind_stays : (kind : NameKind) (t : TroveParts) → KeepsKind kind t → KeepsKind kind (kept false t)
kind_stays Component t is = is
kind_stays Package t is = (record { files = refl; requires = refl; provides = refl }, is.1)
kind_stays Group t is = (record { files = refl; requires = refl; provides = refl }, is.1)

pub kept_trove : (t : TroveParts) → IsTrove t → IsTrove (kept false t)
kept_trove t is = record {
  lists = record {
    id = is.lists.id;
    files = record { valid = All-nil IsFileAt; rising = rising_nil file_cmp };
    refs = is.lists.refs;
    requires = record { valid = All-nil IsDependency; rising = rising_nil dep_cmp };
    provides = record { valid = All-nil IsDependency; rising = rising_nil dep_cmp };
  };
  rules = record {
    limits = record { files = omega arith; refs = is.rules.limits.refs; requires = omega arith; provides = omega arith };
    build = is.rules.build;
    kind = kind_stays (kind_of_name t.id.name) t is.rules.kind;
  };
}

pub kept_parts : (t : TroveParts) → IsTrove t → (files : List FileAt) (requires provides : List Dependency) → files ≡ [] → requires ≡ [] → provides ≡ []
    → IsTrove (record { id = t.id; files = files; refs = t.refs; requires_ = requires; provides = provides })
kept_parts t is files requires provides no_files no_requires no_provides =
    subst IsTrove (λ i. record { id = t.id; files = sym no_files i; refs = t.refs; requires_ = sym no_requires i; provides = sym no_provides i }) (kept_trove t is)

-- ---- whole ones

pub all_whole : (troves : List TroveParts) → map (kept true) troves ≡ troves
all_whole [] = refl
all_whole (t ∷ troves) = ap (λ (l : List TroveParts). t ∷ l) (all_whole troves)

whole_catalogue : (catalogue : CatalogueParts) (commits : List Commit) → catalogue ≡ kept_catalogue true commits → catalogue ≡ catalogue_of commits
whole_catalogue catalogue commits is = is ∙ ap (λ (l : List TroveParts). record { commits = length commits; troves = l }) (all_whole (troves_of commits))

pub kept_whole : (catalogue : CatalogueParts) → IsKept true catalogue → IsCatalogue catalogue
kept_whole catalogue is = record { commits = is.commits; rules = is.rules; is = whole_catalogue catalogue is.commits is.is }

pub holds_whole : (tree : Tree) (catalogue : CatalogueParts) → HoldsKept true tree catalogue → HoldsCatalogue tree catalogue
holds_whole tree catalogue holds = record {
  commits = holds.commits;
  holds = holds.holds;
  rules = holds.rules;
  is = whole_catalogue catalogue holds.commits holds.is;
}

-- ---- some of them

pub holds_some : (whole : Bool) (tree : Tree) (catalogue : CatalogueParts) → HoldsKept whole tree catalogue → HoldsSomeCatalogue tree
holds_some whole tree catalogue holds =
    (catalogue_of holds.commits, record { commits = holds.commits; holds = holds.holds; rules = holds.rules; is = refl })

-- ---- the same ids

-- the same ids are found in both
abbrev pub HaveSameIds : List TroveParts → List TroveParts → Type 0
HaveSameIds a b = (id : TroveId) → is_some (found id a) ≡ is_some (found id b)

pub same_ids : (whole : Bool) (troves : List TroveParts) → HaveSameIds (map (kept whole) troves) troves
same_ids whole [] id = refl
same_ids whole (t ∷ troves) id = by (has_id id t) (kept whole t) t (found id (map (kept whole) troves)) (found id troves) (same_ids whole troves id)
  where
    by : (is : Bool) (t u : TroveParts) (a b : Option TroveParts) → is_some a ≡ is_some b → is_some (cond is (Some t) a) ≡ is_some (cond is (Some u) b)
    by true t u a b e = refl
    by false t u a b e = e

same_append : (a b c d : List TroveParts) → HaveSameIds a b → HaveSameIds c d → HaveSameIds (a ++ c) (b ++ d)
same_append a b c d one other id =
    ap is_some (find-append (has_id id) a c) ∙ by (found id a) (found id b) (found id c) (found id d) (one id) (other id) ∙ sym (ap is_some (find-append (has_id id) b d))
  where
    by : (a b c d : Option TroveParts) → is_some a ≡ is_some b → is_some c ≡ is_some d → is_some (option_or a c) ≡ is_some (option_or b d)
    by None None c d one other = other
    by None (Some y) c d one other = absurd (cc one)
    by (Some x) None c d one other = absurd (cc one)
    by (Some x) (Some y) c d one other = refl

same : (a : List TroveParts) → HaveSameIds a a
same a id = refl

pub back : (a b : List TroveParts) → HaveSameIds a b → HaveSameIds b a
back a b are id = sym (are id)

-- behind others
pub same_behind : (whole : Bool) (before troves : List TroveParts) → HaveSameIds (before ++ map (kept whole) troves) (before ++ troves)
same_behind whole before troves = same_append before before (map (kept whole) troves) troves (same before) (same_ids whole troves)

-- ---- what follows

pub not_found : (id : TroveId) (a b : List TroveParts) → HaveSameIds a b → found id a ≡ None → found id b ≡ None
not_found id a b are none = by (found id b) (sym (are id) ∙ ap is_some none)
  where
    by : (o : Option TroveParts) → is_some o ≡ false → o ≡ None
    by None is = refl
    by (Some t) is = absurd (cc is)

new_ids : (a b troves : List TroveParts) → HaveSameIds a b → AreNew a troves → AreNew b troves
new_ids a b [] are all = tt
new_ids a b (t ∷ troves) are all = (
  not_found t.id a b are all.0,
  new_ids (a ++ t ∷ []) (b ++ t ∷ []) troves (same_append a b (t ∷ []) (t ∷ []) are (same (t ∷ []))) all.1,
)

pub may_follow : (a b : List TroveParts) (troves : Commit) → HaveSameIds a b → IsCommit a troves → IsCommit b troves
may_follow a b troves are commit = record {
  full = commit.full;
  troves_are = commit.troves_are;
  allowed = commit.allowed;
  new_ids = new_ids a b troves are commit.new_ids;
}

-- references are found in what is kept just where they are found
has_refs : (a b : List TroveParts) (t : TroveParts) → HaveSameIds a b → HasRefs a t → HasRefs b t
has_refs a b t are has = λ k d lt. sym (are (get_or t.refs k d)) ∙ has k d lt

module _ (whole : Bool) (all : List TroveParts) where
  of : (t : TroveParts) → HasRefs (map (kept whole) all) (kept whole t) → HasRefs all t
  of t has = has_refs (map (kept whole) all) all t (same_ids whole all) has

  to : (t : TroveParts) → HasRefs all t → HasRefs (map (kept whole) all) (kept whole t)
  to t has = has_refs all (map (kept whole) all) t (back (map (kept whole) all) all (same_ids whole all)) has

  pub refs_of_kept : (troves : List TroveParts) → All (HasRefs (map (kept whole) all)) (map (kept whole) troves) → All (HasRefs all) troves
  refs_of_kept [] has = All-nil (HasRefs all)
  refs_of_kept (t ∷ troves) has = All-cons (HasRefs all) t troves
      (of t (All-head (HasRefs (map (kept whole) all)) (kept whole t) (map (kept whole) troves) has))
      (refs_of_kept troves (All-tail (HasRefs (map (kept whole) all)) (kept whole t) (map (kept whole) troves) has))

  pub refs_to_kept : (troves : List TroveParts) → All (HasRefs all) troves → All (HasRefs (map (kept whole) all)) (map (kept whole) troves)
  refs_to_kept troves has = All-map (HasRefs (map (kept whole) all)) (kept whole) troves (λ k d lt. to (get_or troves k d) (has k d lt))
