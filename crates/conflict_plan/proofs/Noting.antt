-- What both lists record of a path, from claim to claim.
use Rattle.std.proofs.Common.{◌≡◌, ℕ, Bool, true, false, cond, ◌&&◌, ◌||◌, List, [], ◌∷◌, ◌++◌, Option, Some, None, refl, sym, ◌∙◌, ap, append_assoc}
use Rattle.trove_stream.specs.cny-stream.declared.record.FileRec.{FileRec}
use Rattle.trove_stream.specs.cny-stream.Record.{is_dir}
use Rattle.trove_stream.specs.trove-parts.declared.files.FileAt.{FileAt}
use Rattle.trove_stream.specs.declared.parts.TroveParts.{TroveParts}
use Rattle.tree_scan.specs.tree-disk.Tree.{Name, same_name}
use Rattle.conflict_plan.specs.declared.records.Shared.{Shared}
use Rattle.conflict_plan.specs.declared.records.Recorded.{Recorded}
use Rattle.conflict_plan.specs.declared.records.Side.{Side}
use Rattle.conflict_plan.specs.declared.records.Side.TheVariants.{Old, Fresh}
use Rattle.conflict_plan.specs.Claims.{Claim, claims, claims_in, rival}
use Rattle.conflict_plan.specs.Records.{noted, noted_all, or_nothing}

pub noted_append : (side : Side) (a b : List Claim) (before : Option Recorded) → noted_all side (a ++ b) before ≡ noted_all side b (noted_all side a before)
noted_append side [] b before = refl
noted_append side (c ∷ a) b before = noted_append side a b (Some (noted side (or_nothing before) c))

pub claims_in-append : (name : List ℕ) (x y : List FileAt) (path : Name) → claims_in name (x ++ y) path ≡ claims_in name x path ++ claims_in name y path
claims_in-append name [] y path = refl
claims_in-append name (f ∷ x) y path = at (same_name f.path path) (claims_in-append name x y path)
  where
    at : (b : Bool) → claims_in name (x ++ y) path ≡ claims_in name x path ++ claims_in name y path
        → cond b ((name, f.rec) ∷ claims_in name (x ++ y) path) (claims_in name (x ++ y) path)
        ≡ cond b ((name, f.rec) ∷ claims_in name x path) (claims_in name x path) ++ claims_in name y path
    at true is = ap (λ l. (name, f.rec) ∷ l) is
    at false is = is

pub claims-append : (x y : List TroveParts) (path : Name) → claims (x ++ y) path ≡ claims x path ++ claims y path
claims-append [] y path = refl
claims-append (t ∷ x) y path =
    ap (λ l. claims_in t.id.name t.files path ++ l) (claims-append x y path)
    ∙ sym (append_assoc (claims_in t.id.name t.files path) (claims x path) (claims y path))

-- ---- all claims of both sides

abbrev pub shared_of : List Claim → Option Shared
shared_of [] = None
shared_of (c ∷ cs) = Some (record { rec = c.1; first = c.0; second = rival c.1 cs })

abbrev pub recorded_by : List Claim → List Claim → Option Recorded
recorded_by [] [] = None
recorded_by [] (c ∷ cs) = Some (record { old = None; fresh = shared_of (c ∷ cs) })
recorded_by (c ∷ cs) fresh = Some (record { old = Some c.1; fresh = shared_of fresh })

abbrev with_old : FileRec → Option Shared → Option Recorded
with_old first fresh = Some (record { old = Some first; fresh = fresh })

old_kept : (cs : List Claim) (first : FileRec) (fresh : Option Shared) → noted_all Old cs (with_old first fresh) ≡ with_old first fresh
old_kept [] first fresh = refl
old_kept (c ∷ cs) first fresh = old_kept cs first fresh

abbrev with_fresh : Option FileRec → FileRec → List ℕ → Option (List ℕ) → Option Recorded
with_fresh old rec first second = Some (record { old = old; fresh = Some (record { rec = rec; first = first; second = second }) })

second_kept : (cs : List Claim) (old : Option FileRec) (rec : FileRec) (first second : List ℕ)
    → noted_all Fresh cs (with_fresh old rec first (Some second)) ≡ with_fresh old rec first (Some second)
second_kept [] old rec first second = refl
second_kept (c ∷ cs) old rec first second = at (is_dir rec && is_dir c.1) (second_kept cs old rec first second)
  where
    at : (b : Bool) → noted_all Fresh cs (with_fresh old rec first (Some second)) ≡ with_fresh old rec first (Some second)
        → noted_all Fresh cs (Some (record { old = old; fresh = Some (cond (b || true) (record { rec = rec; first = first; second = Some second }) (record { rec = rec; first = first; second = Some c.0 })) })) ≡ with_fresh old rec first (Some second)
    at true kept = kept
    at false kept = kept

second_found : (cs : List Claim) (old : Option FileRec) (rec : FileRec) (first : List ℕ)
    → noted_all Fresh cs (with_fresh old rec first None) ≡ with_fresh old rec first (rival rec cs)
second_found [] old rec first = refl
second_found (c ∷ cs) old rec first = at (is_dir rec && is_dir c.1) (second_found cs old rec first)
  where
    at : (b : Bool) → noted_all Fresh cs (with_fresh old rec first None) ≡ with_fresh old rec first (rival rec cs)
        → noted_all Fresh cs (Some (record { old = old; fresh = Some (cond (b || false) (record { rec = rec; first = first; second = None }) (record { rec = rec; first = first; second = Some c.0 })) })) ≡ with_fresh old rec first (cond b (rival rec cs) (Some c.0))
    at true found = found
    at false found = second_kept cs old rec first c.0

fresh_noted : (old : Option FileRec) (c : Claim) (cs : List Claim)
    → noted_all Fresh (c ∷ cs) (Some (record { old = old; fresh = None })) ≡ Some (record { old = old; fresh = shared_of (c ∷ cs) })
fresh_noted old c cs = second_found cs old c.1 c.0

pub all_noted : (old fresh : List Claim) → noted_all Fresh fresh (noted_all Old old None) ≡ recorded_by old fresh
all_noted [] [] = refl
all_noted [] (c ∷ cs) = fresh_noted None c cs
all_noted (o ∷ os) [] = old_kept os o.1 None
all_noted (o ∷ os) (c ∷ cs) = ap (noted_all Fresh (c ∷ cs)) (old_kept os o.1 None) ∙ fresh_noted (Some o.1) c cs
