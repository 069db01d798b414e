-- There is one set of local changes; `localcs` has one outcome.
use Rattle.std.proofs.Common.{◌≡◌, inl, inr, ℕ, List, [], ◌∷◌, Ok, Err, sym, ap, ◌∙◌, subst}
use Rattle.conary_cli.specs.cli-call.cny-base.declared.refusal.Refusal.{Refusal}
use Rattle.conary_cli.specs.cli-call.trove-parts.Order.{id_cmp, id_total}
use Rattle.conary_cli.specs.cli-call.trove-stream.declared.parts.TroveParts.{TroveParts}
use Rattle.conary_cli.specs.cli-call.trove-stream.Installed.{by_name}
use Rattle.conary_cli.specs.cli-call.trove-stream.declared.rel.RelParts.{RelParts}
use Rattle.conary_cli.specs.cli-call.change-rel.trove-stream.Leads.{Leads}
use Rattle.conary_cli.specs.cli-call.change-set.declared.change.ChangeSet.{ChangeSet}
use Rattle.conary_cli.specs.cli-call.change-set.declared.change.Part.{Part}
use Rattle.conary_cli.specs.cli-call.change-set.declared.change.Part.TheVariants.{Whole, Relative}
use Rattle.conary_cli.specs.cli-call.tree-disk.Tree.{Tree}
use Rattle.conary_cli.specs.cli-call.cny-laws.State.{RootState, tree_of}
use Rattle.manifest_troves.specs.Contents.{contents_of}
use Rattle.conary_cli.specs.root-commands.root-edits.Local.{all_contents, first_refusal, AreLocalParts, IsLocal, IsLocalPart, IsLocalRefusal, IsLocalTrove, IsNotInstalled, IsRefusedTrove}
use Rattle.conary_cli.specs.root-commands.root-edits.Moved.{AreLocalRefs}
use Rattle.conary_cli.specs.root-commands.root-edits.Reached.{AreReached}
use Rattle.conary_cli.specs.root-commands.root-edits.Standing.{Sight, sights}
use Rattle.conary_cli.specs.root-commands.LocalChanges.{change_locally, ChangesLocally, IsSetAnswered, IsSetOf}
use Rattle.change_rel.proofs.trove-stream.Members.{same_members}
use Rattle.conary_cli.proofs.cli-call.local-db.Sorted.{trove_total}
use Rattle.outcome_laws.specs.OneOutcome.{AtMostOne, HasOneOutcome}
use Rattle.outcome_laws.proofs.Tests.{done, refused, with_shared}
use Rattle.outcome_laws.proofs.Sets.{effect_once}
use Rattle.repository.proofs.SetLaws.{OneRelative}

-- ---- the troves that are reached, and their new ones

reached_once : (list : List TroveParts) (name : List ℕ) → AtMostOne (AreReached list name)
reached_once list name a b h g = same_members by_name trove_total a b h.rising g.rising (λ t. ((λ in'. g.all t (h.from t in')), (λ in'. h.all t (g.from t in'))))

refs_once : (troves : List TroveParts) (t : TroveParts) → AtMostOne (AreLocalRefs troves t)
refs_once troves t a b h g = same_members id_cmp id_total a b h.rising g.rising (λ id. ((λ in'. (g.each id).1 ((h.each id).0 in')), (λ in'. (h.each id).1 ((g.each id).0 in'))))

trove_once : (troves : List TroveParts) (seen : List Sight) (t : TroveParts) → AtMostOne (IsLocalTrove troves seen t)
trove_once troves seen t a b h g =
    let id : a.id ≡ b.id = h.id ∙ sym g.id in
    let files : a.files ≡ b.files = h.files ∙ sym g.files in
    let refs : a.refs ≡ b.refs = refs_once troves t a.refs b.refs h.refs g.refs in
    let required : a.requires_ ≡ b.requires_ = h.required ∙ sym g.required in
    let provided : a.provides ≡ b.provides = h.provided ∙ sym g.provided in
    λ i. record { id = id i; files = files i; refs = refs i; requires_ = required i; provides = provided i }

module _ (one : OneRelative) where
  part_once : (troves : List TroveParts) (seen : List Sight) (t : TroveParts) → AtMostOne (IsLocalPart troves seen t)
  part_once troves seen t (Whole u) b h g = absurd h
  part_once troves seen t (Relative rel) (Whole u) h g = absurd g
  part_once troves seen t (Relative rel) (Relative other) h g =
      let same : h.0 ≡ g.0 = trove_once troves seen t h.0 g.0 h.1 g.1 in
      ap (λ (r : RelParts). Relative r) (one t g.0 rel other (subst (λ (u : TroveParts). Leads rel t u) same h.2) g.2)

  parts_once : (all : List TroveParts) (tree : Tree) (troves : List TroveParts) → AtMostOne (AreLocalParts all tree troves)
  parts_once all tree [] a b h g = h ∙ sym g
  parts_once all tree (t ∷ troves) a b h g =
      let first : h.0 ≡ g.0 = part_once all (sights tree t.files) t h.0 g.0 h.2 g.2 in
      let rest : h.1 ≡ g.1 = parts_once all tree troves h.1 g.1 h.3 g.3 in
      h.4 ∙ ap (λ (p : Part). p ∷ h.1) first ∙ ap (λ (l : List Part). g.0 ∷ l) rest ∙ sym g.4

  set_once : (list : List TroveParts) (name : List ℕ) (tree : Tree) → AtMostOne (IsLocal list name tree)
  set_once list name tree a b h g =
      let same : h.troves ≡ g.troves = reached_once list name h.troves g.troves h.reached g.reached in
      let parts : a.parts ≡ b.parts = parts_once g.troves tree g.troves a.parts b.parts (subst (λ (l : List TroveParts). AreLocalParts l tree l a.parts) same h.parts) g.parts in
      let contents : a.contents ≡ b.contents = h.contents ∙ ap (λ (l : List TroveParts). contents_of (all_contents tree l)) same ∙ sym g.contents in
      λ i. record { parts = parts i; contents = contents i }

  -- ---- the answer

  answer_once : (set : ChangeSet) → AtMostOne (IsSetAnswered set)
  answer_once set (Ok x) (Ok y) h g = ap done (effect_once x y (h.0 ∙ sym g.0) (h.1.text ∙ sym g.1.text))
  answer_once set (Ok x) (Err q) h g = absurd (cc (sym h.2 ∙ g))
  answer_once set (Err p) (Ok y) h g = absurd (cc (sym g.2 ∙ h))
  answer_once set (Err p) (Err q) h g = let same : p ≡ q = cc (sym h ∙ g) in ap refused same

  set_of_once : (name : List ℕ) (s : RootState) → AtMostOne (IsSetOf name s)
  set_of_once name s a b h g =
      answer_once g.set a b (subst (λ (set : ChangeSet). IsSetAnswered set a) (set_once s.installed name (tree_of s) h.set g.set h.local g.local) h.answered) g.answered

  module _ (list : List TroveParts) (name : List ℕ) (tree : Tree) where
    missing_once : AtMostOne (IsNotInstalled list name)
    missing_once p q h g = h.refusal_is ∙ sym g.refusal_is

    barred_once : AtMostOne (IsRefusedTrove list name tree)
    barred_once p q h g =
        let same : h.troves ≡ g.troves = reached_once list name h.troves g.troves h.reached g.reached in
        cc (sym h.refusal_is ∙ ap (first_refusal tree) same ∙ g.refusal_is)

    local_refusal_once : AtMostOne (IsLocalRefusal list name tree)
    local_refusal_once p q (inl x) (inl y) = missing_once p q x y
    local_refusal_once p q (inl x) (inr y) = absurd (y.installed x.missing)
    local_refusal_once p q (inr x) (inl y) = absurd (x.installed y.missing)
    local_refusal_once p q (inr x) (inr y) = barred_once p q x y

    never_both : (r : Refusal) (set : ChangeSet) → IsLocalRefusal list name tree r → IsLocal list name tree set → ⊥
    never_both r set (inl x) h = h.installed x.missing
    never_both r set (inr x) h =
        let same : x.troves ≡ h.troves = reached_once list name x.troves h.troves x.reached h.reached in
        absurd (cc (sym x.refusal_is ∙ ap (first_refusal tree) same ∙ h.unrefused))

  local_once : (name : List ℕ) (s : RootState) → AtMostOne (ChangesLocally name s)
  local_once name s (Ok x) (Ok y) h g = set_of_once name s (Ok x) (Ok y) h g
  local_once name s (Ok x) (Err q) h (inl g) = absurd (never_both s.installed name (tree_of s) q h.set g h.local)
  local_once name s (Ok x) (Err q) h (inr g) = set_of_once name s (Ok x) (Err q) h g
  local_once name s (Err p) (Ok y) (inl h) g = absurd (never_both s.installed name (tree_of s) p g.set h g.local)
  local_once name s (Err p) (Ok y) (inr h) g = set_of_once name s (Err p) (Ok y) h g
  local_once name s (Err p) (Err q) (inl h) (inl g) = ap refused (local_refusal_once s.installed name (tree_of s) p q h g)
  local_once name s (Err p) (Err q) (inl h) (inr g) = absurd (never_both s.installed name (tree_of s) p g.set h g.local)
  local_once name s (Err p) (Err q) (inr h) (inl g) = absurd (never_both s.installed name (tree_of s) q h.set g h.local)
  local_once name s (Err p) (Err q) (inr h) (inr g) = set_of_once name s (Err p) (Err q) h g

  pub locally_once : (name : List ℕ) → HasOneOutcome (change_locally name)
  locally_once name = with_shared (change_locally name) (λ s input state. local_once name s.root)
