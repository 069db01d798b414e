-- Two disks opened one after the other.
use Rattle.std.proofs.Common.{◌≡◌, Result, Ok, Err, IfOk, refl, sym, ◌∙◌, subst, inl, inr}
use Rattle.cny_laws.specs.system-core.cny-base.declared.stop.Stop.{Stop}
use Rattle.cny_laws.specs.system-core.tree-disk.Disk.{DiskModel}
use Rattle.cny_laws.specs.system-core.tree-disk.Tree.{Tree}
use Rattle.local_db.specs.declared.db.Db.{Db}
use Rattle.repo_index.specs.Catalogue.{CatalogueParts, no_commits}
use Rattle.repo_load.specs.Files.{HoldsCatalogue}
use Rattle.repo_load.specs.Loading.{HoldsSomeCatalogue, IsCatalogue}
use Rattle.cny_laws.specs.declared.failure.Failure.{Failure}
use Rattle.cli_call.specs.Runs.{OpensBoth, OpensForRoot}
use Rattle.cli_call.proofs.LoadingRepository.{stopped_as, tested_opens}
use Rattle.cny_laws.specs.Opening.{Opens, no_test}
use Rattle.cny_laws.specs.RootOpening.{OpensSystem}
use Rattle.cny_laws.specs.Stops.{root_result, repository_result}
use Rattle.cny_laws.specs.Stores.{repository_store}
use Rattle.cli_call.proofs.RootResults.{same_failure}

pub same_value : {X : Type 0} {a b : X} → ◌≡◌ {A = Result X Failure} (Ok a) (Ok b) → a ≡ b
same_value h = cc h

pub opened_root : {T : Type 0} {root_disk : DiskModel T} (root root' : T) (r : Result Db Stop) (s : Result Db Failure) (u : Db) → s ≡ root_result r → s ≡ Ok u → OpensSystem root_disk root root' r → OpensSystem root_disk root root' (Ok u)
opened_root {root_disk = root_disk} root root' (Ok x) s u is was opens = subst (λ (d : Db). OpensSystem root_disk root root' (Ok d)) (same_value {X = Db} (sym is ∙ was)) opens
opened_root root root' (Err st) s u is was opens = absurd (cc (is, was))

module _ {T P : Type 0} {root_disk : DiskModel T} {repo_disk : DiskModel P} (root root' : T) where
  pub root_stopped : (repo : P) (r : Result Db Stop) (s : Result Db Failure) (e : Failure) → s ≡ root_result r → s ≡ Err e → OpensSystem root_disk root root' r → OpensBoth root_disk repo_disk root root' repo repo (Err e)
  root_stopped repo (Ok x) s e is was opens = absurd (cc (is, was))
  root_stopped repo (Err st) s e is was opens = inl (record { stop = st; is = sym (same_failure {X = Db} (sym is ∙ was)); opens = opens; same = refl })

  pub repository_stopped : {V : Type 0} {IsRead : Tree → V → Type 0} (repo repo' : P) (r0 : Result Db Stop) (s0 : Result Db Failure) (u : Db) → s0 ≡ root_result r0 → s0 ≡ Ok u → OpensSystem root_disk root root' r0
      → (r : Result V Stop) (s : Result V Failure) (e : Failure) → s ≡ repository_result r → s ≡ Err e → Opens repository_store repo_disk no_test IsRead repo repo' r → OpensBoth root_disk repo_disk root root' repo repo' (Err e)
  repository_stopped repo repo' r0 s0 u is0 was0 first (Ok x) s e is was opens = absurd (cc (is, was))
  repository_stopped {V = V} repo repo' r0 s0 u is0 was0 first (Err st) s e is was opens =
      inr (record { stop = st; is = sym (same_failure {X = V} (sym is ∙ was)); db = u; opens_root = opened_root root root' r0 s0 u is0 was0 first; opens = stopped_as HoldsCatalogue repo repo' st opens })

  pub both_opened : (repo repo' : P) (r0 : Result Db Stop) (s0 : Result Db Failure) (u : Db) → s0 ≡ root_result r0 → s0 ≡ Ok u → OpensSystem root_disk root root' r0
      → (r : Result CatalogueParts Stop) (s : Result CatalogueParts Failure) (c : CatalogueParts) → s ≡ repository_result r → s ≡ Ok c → Opens repository_store repo_disk no_test HoldsCatalogue repo repo' r → IfOk r IsCatalogue → OpensBoth root_disk repo_disk root root' repo repo' (Ok (record { db = u; catalogue = c }))
  both_opened repo repo' r0 s0 u is0 was0 first (Err st) s c is was opens rules = absurd (cc (is, was))
  both_opened repo repo' r0 s0 u is0 was0 first (Ok x) s c is was opens rules =
      let same : x ≡ c = same_value {X = CatalogueParts} (sym is ∙ was) in
      record {
        opens_root = opened_root root root' r0 s0 u is0 was0 first;
        opens = subst (λ (v : CatalogueParts). Opens repository_store repo_disk no_test HoldsCatalogue repo repo' (Ok v)) same opens;
        rules = subst IsCatalogue same rules;
      }

  -- of the repository nothing is kept
  pub both_for_root : (repo repo' : P) (r0 : Result Db Stop) (s0 : Result Db Failure) (u : Db) → s0 ≡ root_result r0 → s0 ≡ Ok u → OpensSystem root_disk root root' r0
      → (r : Result (Unit {0}) Stop) (s : Result (Unit {0}) Failure) (x : Unit {0}) → s ≡ repository_result r → s ≡ Ok x → Opens repository_store repo_disk no_test (λ tree (done : Unit {0}). HoldsSomeCatalogue tree) repo repo' r
      → (c : CatalogueParts) → c ≡ no_commits → OpensForRoot root_disk repo_disk root root' repo repo' (Ok (record { db = u; catalogue = c }))
  both_for_root repo repo' r0 s0 u is0 was0 first (Err st) s x is was opens c none = absurd (cc (is, was))
  both_for_root repo repo' r0 s0 u is0 was0 first (Ok y) s x is was opens c none =
      let some = tested_opens repo_disk repo repo' opens in
      record {
        catalogue = some.catalogue;
        are = record { opens_root = opened_root root root' r0 s0 u is0 was0 first; opens = some.opens; rules = some.rules };
        none = none;
      }
