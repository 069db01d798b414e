-- The first test that stops a commit, found test by test.
use Rattle.std.proofs.Common.{◌≡◌, ◌≢◌, inl, inr, ℕ, ◌+◌, ◌<◌, ◌≤◌, Bool, true, false, cond, IsTrue, List, [], ◌∷◌, ◌++◌, length, drop, get_or, Option, Some, None, Result, Ok, Err, IfErr, IsErrAnd, refl, sym, ◌∙◌, ap, subst}
use Rattle.std.specs.Option.{option_or}
use Rattle.repo_load.specs.cny-base.declared.refusal.Fault.{Fault}
use Rattle.repo_load.specs.cny-base.declared.refusal.Fault.TheVariants as fault
use Rattle.repo_load.specs.cny-base.declared.refusal.Refusal.{Refusal}
use Rattle.repo_load.specs.cny-base.declared.refusal.Refusal.TheVariants.{Collision}
use Rattle.repo_load.specs.cny-base.declared.stop.Stop.{Stop}
use Rattle.repo_load.specs.cny-base.declared.stop.Stop.TheVariants.{Refused, Memory, Failed, Damaged, FarFailed, FarDamaged}
use Rattle.repo_load.specs.cny-base.Stop.{stop_of_fault}
use Rattle.repo_load.specs.trove-stream.declared.parts.TroveParts.{TroveParts}
use Rattle.repo_load.specs.tree-disk.Tree.{Name, Tree}
use Rattle.repo_load.specs.tree-disk.Disk.{DiskModel}
use Rattle.change_set.specs.Contents.{IfRefused}
use Rattle.change_set.specs.declared.change.Carried.{Carried}
use Rattle.change_set.specs.declared.change.ChangeSet.{ChangeSet}
use Rattle.change_set.specs.declared.change.Part.{Part}
use Rattle.repo_load.specs.content-store.Difference.{first_difference}
use Rattle.repo_index.specs.Catalogue.{CatalogueParts, has_content}
use Rattle.repo_load.proofs.CountedNames.{recorded_is_named}
use Rattle.repo_load.specs.Contents.{FindsContent, IsDamagedContent}
use Rattle.repo_load.specs.Looks.{Ends, Looks}
use Rattle.repository.specs.Outcome.{committed_contents}
use Rattle.repository.specs.Order.{kept_stop, later_stop, refusing, source_stop, sources_stop, IsFirstStop, StopsAs}
use Rattle.repository.specs.Parts.{AreMade, IsFirstRefused}
use Rattle.repository.specs.Tests.{collides, collision_at, missing_content, missing_ref, refs_of, too_many}
use Rattle.tree_journal.specs.Preparing.{StopsBefore}
use Rattle.repository.specs.Preparing.{IsUntold, WritesCommit}
use Rattle.repository.specs.Verdict.{IsVerdict}
use Rattle.repository.proofs.Held.{kept_at, none_damaged, none_named}
use Rattle.change_rel.specs.trove-stream.FilesOf.{files_of}
use Rattle.change_rel.proofs.trove-stream.Members.{drop_all as drop_none}
use Rattle.change_rel.proofs.cny-base.Faults.{passed_on}
use Rattle.change_rel.proofs.trove-stream.Merging.{front_at}

-- ---- one after another

-- a stop passed on by `?`, of one test of several
pub as_stop : (a b : Option Stop) (e : Stop) (r : Result (Unit {0}) Stop) → ((s : Stop) → a ≡ Some s → b ≡ Some s) → IsErrAnd r (λ s. s ≡ e) → StopsAs {X = Unit {0}} a (Err e) → StopsAs b r
as_stop a b e (Ok x) so is stops = absurd is
as_stop a b e (Err s) so is stops = subst (λ x. StopsAs {X = Unit {0}} b (Err x)) (sym is) (by e stops)
  where
    by : (e : Stop) → StopsAs {X = Unit {0}} a (Err e) → StopsAs {X = Unit {0}} b (Err e)
    by (Refused refusal) stops = so (Refused refusal) stops
    by (Damaged path) stops = so (Damaged path) stops
    by Failed stops = tt
    by Memory stops = tt
    by FarFailed stops = tt
    by (FarDamaged path) stops = tt

-- the same of a test without the disk
pub fault_stop : (o : Option Refusal) (b : Option Stop) (e : Fault) (r : Result (Unit {0}) Stop) → ((s : Stop) → refusing o ≡ Some s → b ≡ Some s) → IsErrAnd r (λ s. s ≡ stop_of_fault e) → IsVerdict {X = Unit {0}} o (Err e) → StopsAs b r
fault_stop o b e (Ok x) so is verdict = absurd is
fault_stop o b e (Err s) so is verdict = subst (λ x. StopsAs {X = Unit {0}} b (Err x)) (sym is) (by e verdict)
  where
    by : (e : Fault) → IsVerdict {X = Unit {0}} o (Err e) → StopsAs {X = Unit {0}} b (Err (stop_of_fault e))
    by (fault.Refused refusal) verdict = so (Refused refusal) (ap refusing verdict)
    by fault.Memory verdict = tt

-- ---- one content

module _ (troves : List TroveParts) (x : Tree) (content : Carried) where
  named_stop : has_content content.name troves ≡ true → (o : Option (List ℕ)) → committed_contents troves x content.name ≡ o → source_stop troves x content ≡ kept_stop o content
  named_stop has o is = ap (λ (p : Bool). cond p (kept_stop (committed_contents troves x content.name) content) None) has ∙ ap (λ (k : Option (List ℕ)). kept_stop k content) is

  pub unnamed_stop : has_content content.name troves ≡ false → source_stop troves x content ≡ None
  unnamed_stop lacks = ap (λ (p : Bool). cond p (kept_stop (committed_contents troves x content.name) content) None) lacks

  kept_source : (kept : List ℕ) → FindsContent troves content.name x (Some kept) → source_stop troves x content ≡ refusing (collides (Some kept) content)
  kept_source kept finds = named_stop (recorded_is_named content.name (length kept) troves finds.1.recorded) (Some kept) (kept_at troves x content.name kept finds)

  -- the committed content differs
  pub collided_source : (kept : List ℕ) (at : ℕ) → FindsContent troves content.name x (Some kept) → first_difference kept content.bytes ≡ Some at → source_stop troves x content ≡ Some (Refused (Collision content.name at))
  collided_source kept at finds differs = kept_source kept finds ∙ ap (λ (o : Option ℕ). refusing (collision_at content.name o)) differs

  damaged_source : (path : Name) → IsDamagedContent troves content.name x path → source_stop troves x content ≡ Some (Damaged path)
  damaged_source path damage = named_stop damage.recorded None (none_damaged troves x content.name path damage) ∙ ap (λ (p : Name). Some (Damaged p)) (sym damage.here)

  -- the reading stopped
  pub stopped_source : (told : Bool) (P : Option (List ℕ) → Type 0) (e : Stop) (a b : ℕ) → IsTrue told → Ends told P (IsDamagedContent troves content.name x) (Err e) a b → StopsAs {X = Unit {0}} (source_stop troves x content) (Err e)
  stopped_source told P (Refused refusal) a b tells ends = absurd ends
  stopped_source told P (Damaged path) a b tells ends = damaged_source path (ends tells)
  stopped_source told P Failed a b tells ends = tt
  stopped_source told P Memory a b tells ends = tt
  stopped_source told P FarFailed a b tells ends = absurd ends
  stopped_source told P (FarDamaged path) a b tells ends = absurd ends

-- none was found
pub none_source : (troves : List TroveParts) (x : Tree) (content : Carried) (o : Option (List ℕ)) → ((kept : List ℕ) → o ≡ Some kept → ⊥) → FindsContent troves content.name x o → source_stop troves x content ≡ None
none_source troves x content (Some kept) none finds = absurd (none kept refl)
none_source troves x content None none finds = unnamed_stop troves x content finds

pub none_held : (troves : List TroveParts) (x : Tree) (content : Carried) (o : Option (List ℕ)) → ((kept : List ℕ) → o ≡ Some kept → ⊥) → FindsContent troves content.name x o → collides (committed_contents troves x content.name) content ≡ None
none_held troves x content (Some kept) none finds = absurd (none kept refl)
none_held troves x content None none finds = ap (λ (k : Option (List ℕ)). collides k content) (none_named troves x content.name finds)

pub read_stop : {D : Type 0} {disk : DiskModel D} {P : Tree → Option (List ℕ) → Type 0} {old new : D} (troves : List TroveParts) (content : Carried) (e : Stop) → IsTrue disk.tells → Looks disk P (IsDamagedContent troves content.name) old new (Err e)
    → StopsAs {X = Unit {0}} (source_stop troves (disk.reads old) content) (Err e)
read_stop {disk = disk} {P = P} {old = old} {new = new} troves content e tells looks =
    stopped_source troves (disk.reads old) content disk.tells (P (disk.reads old)) e (disk.faults old) (disk.faults new) tells looks.ends

-- ---- contents, one after another

pub sources_on : (troves : List TroveParts) (x : Tree) (cs : List Carried) (i : ℕ) (c : Carried) → i < length cs → c ≡ get_or cs i c
    → sources_stop troves x (drop i cs) ≡ option_or (source_stop troves x c) (sources_stop troves x (drop (i + 1) cs))
sources_on troves x cs i c lt is = ap (sources_stop troves x) (front_at i cs c lt is)

pub sources_end : (troves : List TroveParts) (x : Tree) (cs : List Carried) (i : ℕ) → length cs ≤ i → sources_stop troves x (drop i cs) ≡ None
sources_end troves x cs i le = ap (sources_stop troves x) (drop_none i cs le)

-- ---- all tests

pub later_stop_is : (c : CatalogueParts) (x : Tree) (contents : List Carried) (troves : List TroveParts) → troves ≢ []
    → later_stop c x contents troves
    ≡ option_or (refusing (missing_ref (c.troves ++ troves) (refs_of troves))) (option_or (refusing (missing_content c.troves contents (files_of troves))) (option_or (sources_stop c.troves x contents) (refusing (too_many c.commits))))
later_stop_is c x contents [] full = absurd (full refl)
later_stop_is c x contents (t ∷ troves) full = refl

-- the parts are refused
pub parts_stop : (c : CatalogueParts) (x : Tree) (change : ChangeSet) (parts : List Part) (e : Fault) (r : Result CatalogueParts Stop) → parts ≡ change.parts → IfRefused (IsFirstRefused c.troves parts) e → IsErrAnd r (λ s. s ≡ stop_of_fault e)
    → IfErr r (IsFirstStop c x change)
parts_stop c x change parts e (Ok k) same refused is = tt
parts_stop c x change parts e (Err s) same refused is = subst (IsFirstStop c x change) (sym is) (by e refused)
  where
    by : (e : Fault) → IfRefused (IsFirstRefused c.troves parts) e → IsFirstStop c x change (stop_of_fault e)
    by (fault.Refused refusal) refused = inl (subst (λ (given : List Part). IsFirstRefused c.troves given refusal) same refused)
    by fault.Memory refused = tt

-- a later test stopped
pub later_first : (c : CatalogueParts) (x : Tree) (change : ChangeSet) (troves : List TroveParts) (e : Stop) (r : Result CatalogueParts Stop) → AreMade c.troves change.parts troves → StopsAs {X = Unit {0}} (later_stop c x change.contents troves) (Err e)
    → IsErrAnd r (λ s. s ≡ e) → IfErr r (IsFirstStop c x change)
later_first c x change troves e (Ok k) made stops is = tt
later_first c x change troves e (Err s) made stops is = subst (IsFirstStop c x change) (sym is) (by e stops)
  where
    by : (e : Stop) → StopsAs {X = Unit {0}} (later_stop c x change.contents troves) (Err e) → IsFirstStop c x change e
    by (Refused refusal) stops = inr (record { troves = troves; made = made; fails = stops })
    by (Damaged path) stops = record { troves = troves; made = made; fails = stops }
    by Failed stops = tt
    by Memory stops = tt
    by FarFailed stops = tt
    by (FarDamaged path) stops = tt

-- memory ran out
pub memory_first : {X : Type 0} (c : CatalogueParts) (x : Tree) (change : ChangeSet) (r : Result X Stop) → IsErrAnd r (λ s. s ≡ Memory) → IfErr r (IsFirstStop c x change)
memory_first c x change r is = passed_on (IsFirstStop c x change) Memory r tt is

-- a write is never refused, and meets no damaged file
pub write_first : {D X : Type 0} {disk : DiskModel D} {k : CatalogueParts} {contents : List Carried} {troves : List TroveParts} {old new : D} (c : CatalogueParts) (x : Tree) (change : ChangeSet) (e : Stop) (r : Result X Stop) → IsTrue disk.tells
    → WritesCommit disk k contents troves old new (Err e) → IsErrAnd r (λ s. s ≡ e) → IfErr r (IsFirstStop c x change)
write_first c x change e (Ok k) tells writes is = tt
write_first {disk = disk} {old = old} {new = new} c x change e (Err s) tells writes is = subst (IsFirstStop c x change) (sym is) (by e writes.ends)
  where
    by : (e : Stop) → StopsBefore (IsUntold disk.tells) (disk.faults old) (disk.faults new) e → IsFirstStop c x change e
    by (Refused refusal) stops = absurd (stops tells)
    by (Damaged path) stops = absurd stops
    by Failed stops = tt
    by Memory stops = tt
    by FarFailed stops = tt
    by (FarDamaged path) stops = tt
