-- The states behind a log that stands while the commit flag is set, and what an edit makes of them and of those of the machine.
use Rattle.std.proofs.Common.{◌≡◌, inl, inr, ⊎_elim, Bool, true, false, cond, List, [], ◌∷◌, ◌++◌, Option, refl, sym, ap, ◌∙◌, subst}
use Rattle.std.proofs.lemmas.Bool.{cases_Bool}
use Rattle.std.specs.FinMap.{get}
use Rattle.conary_cli.specs.cli-call.cny-base.Reserved.{is_reserved, private_directory}
use Rattle.conary_cli.specs.cli-call.cny-base.declared.node.Node.{Node}
use Rattle.conary_cli.specs.cli-call.tree-disk.Laws.{get_put}
use Rattle.conary_cli.specs.cli-call.tree-disk.Tree.{Name, Tree, same_name, WellFormed}
use Rattle.conary_cli.proofs.cli-call.tree-disk.Laws.{get_put_other}
use Rattle.conary_cli.specs.cli-call.journal-log.declared.put.Put.{Put}
use Rattle.conary_cli.specs.cli-call.journal-log.Targets.{is_target}
use Rattle.conary_cli.specs.cli-call.tree-journal.CanBePut.{AllCanBePut}
use Rattle.conary_cli.specs.cli-call.tree-journal.Recovery.{at_rest, by_log, is_committed, HoldsLog, RecoversTo}
use Rattle.conary_cli.specs.cli-call.local-db.SystemState.{IsSystemState}
use Rattle.conary_cli.proofs.cli-call.local-db.Writes.{not_both}
use Rattle.conary_cli.proofs.cli-call.local-db.tree-journal.Staged.{outcome_outside}
use Rattle.conary_cli.proofs.cli-call.system-core.Sameness.{not_own}
use Rattle.conary_cli.specs.cli-call.cny-laws.Edits.{all_edited, edited_tree, edits_beside, with_tree, AreEdits, Edit, IsEdit}
use Rattle.conary_cli.specs.cli-call.cny-laws.State.{State}
use Rattle.conary_cli.specs.cli-call.cny-laws.Store.{Recovers}
use Rattle.conary_cli.specs.cli-call.cny-laws.Stores.{root_store}
use Rattle.conary_cli.specs.cli-call.cny-laws.WholeCall.{after_edits}
use Rattle.conary_cli.proofs.cli-call.cny-laws.EditedSystems.{outside, the_system}
use Rattle.conary_cli.proofs.cli-call.cny-laws.EditedTrees.{same_or_other}
use Rattle.conary_cli.proofs.cli-call.cny-laws.SeveralEdits.{kept_beside}
use Rattle.outcome_laws.specs.Played.{IsBehindLog, IsCounted, IsLost, IsOfLog}
use Rattle.outcome_laws.proofs.BlockedLogs.{one_reading}
use Rattle.outcome_laws.proofs.NearLogs.{near_itself, near_same, next_near, IsNear, NextNear}

-- ---- several edits

edits_more : (edits : List Edit) (x : Tree) (e : Edit) → AreEdits x edits → IsEdit (all_edited x edits) e → AreEdits x (edits ++ e ∷ [])
edits_more [] x e are edit = (edit, edit.leaves_tree)
edits_more (f ∷ edits) x e are edit = (are.0, edits_more edits (edited_tree x f) e are.1 edit)

edited_more : (edits more : List Edit) (x : Tree) → all_edited x (edits ++ more) ≡ all_edited (all_edited x edits) more
edited_more [] more x = refl
edited_more (f ∷ edits) more x = edited_more edits more (edited_tree x f)

beside_one : (b : Bool) (f : Edit) (edits more : List Edit) → cond b (edits ++ more) (f ∷ (edits ++ more)) ≡ cond b edits (f ∷ edits) ++ more
beside_one true f edits more = refl
beside_one false f edits more = refl

beside_more : (puts : List Put) (edits more : List Edit) → edits_beside puts (edits ++ more) ≡ edits_beside puts edits ++ edits_beside puts more
beside_more puts [] more = refl
beside_more puts (f ∷ edits) more = ap (λ (l : List Edit). cond (is_target puts f.path) l (f ∷ l)) (beside_more puts edits more) ∙ beside_one (is_target puts f.path) f (edits_beside puts edits) (edits_beside puts more)

-- first those, then this one
after_more : (s : State) (puts : List Put) (edits more : List Edit) → after_edits s (edits_beside puts (edits ++ more)) ≡ after_edits (after_edits s (edits_beside puts edits)) (edits_beside puts more)
after_more s puts edits more =
    let at_tree : Tree → State = λ x. record { root = with_tree s.root x; repository = s.repository } in
    ap at_tree (ap (all_edited s.root.tree) (beside_more puts edits more) ∙ edited_more (edits_beside puts edits) (edits_beside puts more) s.root.tree)

-- of one edit those at whose paths the log puts nothing
beside_target : (puts : List Put) (e : Edit) → is_target puts e.path ≡ true → edits_beside puts (e ∷ []) ≡ []
beside_target puts e target = ap (λ (b : Bool). cond b [] (e ∷ [])) target

beside_free : (puts : List Put) (e : Edit) → is_target puts e.path ≡ false → edits_beside puts (e ∷ []) ≡ e ∷ []
beside_free puts e free = ap (λ (b : Bool). cond b [] (e ∷ [])) free

-- ---- the state behind a log

-- Where the log can be put, the tree recovers to the state behind it.
pub behind_recovers : (puts : List Put) (tree : Tree) (s : State) → IsBehindLog puts tree s → AllCanBePut puts tree → Recovers root_store tree s.root
behind_recovers puts tree s g can =
    let to = kept_beside g.before g.base.root g.edits puts g.are g.set g.holds (subst (AllCanBePut puts) g.is can) (g.recovers.tree, g.recovers.recovers, g.recovers.stored) in
    let next = after_edits g.base (edits_beside puts g.edits) in
    subst (λ (x : State). Recovers root_store tree x.root) (sym g.state)
    (subst (λ (t : Tree). Recovers root_store t next.root) (sym g.is) (record { tree = to.0; recovers = to.1; stored = to.2 }))

-- ---- a state of the machine

-- The state behind the log, and one of the machine that has another tree at most.
pub record IsLogState (puts : List Put) (tree : Tree) (m : State) : Type 0 where
  pub log : State
  pub behind : IsBehindLog puts tree log
  pub near : IsNear puts log.root.tree m.root.tree
  pub but_tree : m ≡ record { root = with_tree log.root m.root.tree; repository = log.repository }
  pub agree : (q : Name) → is_target puts q ≡ false → is_reserved q ≡ false → get log.root.tree q ≡ get tree q

-- where the one behind the log has a tree, it is the machine's
one_tree : (puts : List Put) (tree : Tree) (m : State) (l : IsLogState puts tree m) → WellFormed l.log.root.tree → m ≡ l.log
one_tree puts tree m l formed = l.but_tree ∙ ap (λ (t : Tree). let s : State = record { root = with_tree l.log.root t; repository = l.log.repository } in s) (near_same puts l.log.root.tree m.root.tree formed l.near)

pub of_log : (puts : List Put) (tree : Tree) (m : State) → IsLogState puts tree m → IsOfLog puts tree m
of_log puts tree m l = record { log = l.log; behind = l.behind; same = λ formed. one_tree puts tree m l formed; but_tree = l.but_tree }

-- Where the log can be put, the tree recovers to the machine's state.
pub log_recovers : (puts : List Put) (tree : Tree) (m : State) → IsLogState puts tree m → AllCanBePut puts tree → Recovers root_store tree m.root
log_recovers puts tree m l can =
    let rec = behind_recovers puts tree l.log l.behind can in
    subst (λ (x : State). Recovers root_store tree x.root) (sym (one_tree puts tree m l (the_system rec.tree l.log.root rec.stored).tree)) rec

-- Of a tree that recovers the state is the one to which it does.
pub log_itself : (puts : List Put) (tree : Tree) (s : State) → WellFormed tree → is_committed private_directory tree ≡ true → HoldsLog private_directory puts tree → Recovers root_store tree s.root → IsLogState puts tree s
log_itself puts tree s formed set holds rec = record {
  log = s;
  behind = record { before = tree; edits = []; base = s; are = formed; is = refl; set = set; holds = holds; recovers = rec; state = refl };
  near = near_itself puts s.root.tree system.tree system.managed;
  but_tree = refl;
  agree = λ q free out. sym (outside rec.tree s.root rec.stored q out) ∙ of_tree q free out rec.recovers;
}
  where
    system : IsSystemState s.root
    system = the_system rec.tree s.root rec.stored

    of_tree : (q : Name) → is_target puts q ≡ false → is_reserved q ≡ false → RecoversTo private_directory tree rec.tree → get rec.tree q ≡ get tree q
    of_tree q free out (at_rest clear same) = not_both (is_committed private_directory tree) set clear
    of_tree q free out (by_log also others held stand can same) =
        let is : others ≡ puts = one_reading tree others puts held holds in
        sym (same q (not_own q out)) ∙ outcome_outside private_directory tree others tree q (ap (λ (l : List Put). is_target l q) is ∙ free)

-- ---- an edit

module _ (puts : List Put) (tree next : Tree) (e : Edit) (edit : IsEdit tree e) (is : next ≡ edited_tree tree e) (set : is_committed private_directory tree ≡ true) (holds : HoldsLog private_directory puts tree) where
  -- the state with the edit is behind the log too
  behind_more : (s : State) → IsBehindLog puts tree s → IsBehindLog puts next (after_edits s (edits_beside puts (e ∷ [])))
  behind_more s g = record {
    before = g.before;
    edits = g.edits ++ e ∷ [];
    base = g.base;
    are = edits_more g.edits g.before e g.are (subst (λ (x : Tree). IsEdit x e) g.is edit);
    is = is ∙ ap (λ (x : Tree). edited_tree x e) g.is ∙ sym (edited_more g.edits (e ∷ []) g.before);
    set = g.set;
    holds = g.holds;
    recovers = g.recovers;
    state = ap (λ (x : State). after_edits x (edits_beside puts (e ∷ []))) g.state ∙ sym (after_more g.base puts g.edits (e ∷ []));
  }

  -- What an edit makes of a state of the machine: one that counts so, and is one of the log again.
  abbrev pub NextLog : State → Type 0
  NextLog m = (t : State) × IsCounted tree e m t × IsLogState puts next t

  module _ (m : State) (l : IsLogState puts tree m) where
    -- the log puts something at its path
    at_target : is_target puts e.path ≡ true → NextLog m
    at_target target = (
      m,
      inr (inr (set, puts, holds, target), refl),
      record {
        log = l.log;
        behind = subst (IsBehindLog puts next) (ap (after_edits l.log) (beside_target puts e target)) (behind_more l.log l.behind);
        near = l.near;
        but_tree = l.but_tree;
        agree = λ q free out. l.agree q free out ∙ sym (get_put_other tree e.path e.node q (other q free)) ∙ ap (λ (t : Tree). get t q) (sym is);
      },
    )
      where
        other : (q : Name) → is_target puts q ≡ false → same_name q e.path ≡ false
        other q free = ⊎_elim (λ same. not_both (is_target puts e.path) target (ap (is_target puts) (sym same) ∙ free)) (λ apart. apart) (same_or_other q e.path)

    -- or nothing
    module _ (free : is_target puts e.path ≡ false) where
      never_lost : IsLost tree e → ⊥
      never_lost (inl over) = over edit
      never_lost (inr logged) =
          let target : is_target puts e.path ≡ true = ap (λ (p : List Put). is_target p e.path) (one_reading tree puts logged.1 holds logged.2) ∙ logged.3 in
          not_both (is_target puts e.path) target free

      behind_free : IsBehindLog puts next (after_edits l.log (e ∷ []))
      behind_free = subst (IsBehindLog puts next) (ap (after_edits l.log) (beside_free puts e free)) (behind_more l.log l.behind)

      agree_free : (q : Name) → is_target puts q ≡ false → is_reserved q ≡ false → get (edited_tree l.log.root.tree e) q ≡ get next q
      agree_free q none out = get_put l.log.root.tree e.path e.node q ∙ ap (λ (o : Option Node). cond (same_name q e.path) e.node o) (l.agree q none out) ∙ sym (get_put tree e.path e.node q) ∙ ap (λ (t : Tree). get t q) (sym is)

      with_edit : WellFormed (edited_tree m.root.tree e) → IsNear puts (edited_tree l.log.root.tree e) (edited_tree m.root.tree e) → NextLog m
      with_edit formed near = (
        after_edits m (e ∷ []),
        inl (never_lost, inl (record { not_reserved = edit.not_reserved; not_pinned = edit.not_pinned; leaves_tree = formed }, refl)),
        record {
          log = after_edits l.log (e ∷ []);
          behind = behind_free;
          near = near;
          but_tree = ap (λ (x : State). let s : State = record { root = with_tree x.root (edited_tree m.root.tree e); repository = x.repository } in s) l.but_tree;
          agree = agree_free;
        },
      )

      without_edit : (WellFormed (edited_tree m.root.tree e) → ⊥) → IsNear puts (edited_tree l.log.root.tree e) m.root.tree → NextLog m
      without_edit never near = (
        m,
        inl (never_lost, inr (λ allowed. never allowed.leaves_tree, refl)),
        record { log = after_edits l.log (e ∷ []); behind = behind_free; near = near; but_tree = l.but_tree; agree = agree_free },
      )

      by_near : NextNear puts l.log.root.tree m.root.tree e.path e.node → NextLog m
      by_near (inl has) = with_edit has.0 has.1
      by_near (inr over) = without_edit over.0 over.1

      at_free : NextLog m
      at_free = by_near (next_near puts l.log.root.tree m.root.tree tree e.path e.node l.near edit.not_reserved free edit.leaves_tree l.agree)

    pub next_log : NextLog m
    next_log = ⊎_elim (λ target. at_target target) (λ free. at_free free) (cases_Bool (is_target puts e.path))
