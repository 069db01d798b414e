-- The replies to requests, of the states that a tree stores.
use Rattle.std.proofs.Common.{◌≡◌, inl, inr, ⊎_elim, ℕ, ◌+◌, Bool, true, false, cond, IsTrue, List, [], ◌∷◌, ◌++◌, length, map, All, Contains, Option, Some, None, refl, sym, ap, ◌∙◌, subst, arith, length-append}
use Rattle.std.specs.Prelude.{filter, not}
use Rattle.std.specs.Int.{w32, to_be_bytes}
use Rattle.repo_load.specs.cny-base.declared.refusal.Fault.{Fault}
use Rattle.repo_load.specs.cny-base.declared.refusal.Fault.TheVariants as fault
use Rattle.repo_load.specs.cny-base.declared.refusal.Refusal.{Refusal}
use Rattle.repo_load.specs.trove-parts.declared.id.TroveId.{TroveId}
use Rattle.repo_load.specs.trove-stream.declared.parts.TroveParts.{TroveParts}
use Rattle.repo_load.specs.tree-disk.Tree.{Name, Tree}
use Rattle.repo_index.specs.Catalogue.{is_file_of, records_content, AreCommitted, CatalogueParts}
use Rattle.repo_load.specs.Contents.{FindsContent, IsDamagedContent}
use Rattle.repo_load.specs.Files.{HoldsCatalogue, HoldsCommits, StoresRepository}
use Rattle.repo_load.specs.Loading.{HoldsCounts}
use Rattle.repo_load.specs.State.{catalogue_of, troves_of, Commit, RepositoryState}
use Rattle.repo_load.proofs.ContentsLaws.{named_is_recorded}
use Rattle.repo_load.proofs.Holding.{some_bytes as same_bytes}
use Rattle.repository.specs.change-set.declared.change.Carried.{Carried}
use Rattle.repository.specs.change-set.declared.change.ChangeSet.{ChangeSet}
use Rattle.repository.specs.Between.{HasStored, LeadsBetween, RecordsContent}
use Rattle.repository.specs.Damage.{IsDamagedBetween}
use Rattle.repo_mirror.specs.declared.request.Request.{Request}
use Rattle.repo_mirror.specs.declared.request.Request.TheVariants.{Named, Content, Missing}
use Rattle.repo_mirror.specs.Lengths.{set_length}
use Rattle.repo_mirror.specs.Missing.{commits_of, has_one_of, missing_of, AreMissing, IsTooMuch, IsTooMuchOrMemory}
use Rattle.repository.proofs.BetweenCarrying.{records_sized, sends_records}
use Rattle.repository.proofs.Members.{named_record}
use Rattle.repo_load.proofs.cny-base.Lists.{contains_cases, nothing_in}
use Rattle.repo_load.proofs.cny-base.Recorded.{any_of}
use Rattle.repo_serve.specs.Reply.{content_reply, ids_named, ids_reply, IsReplyLength}
use Rattle.repo_serve.specs.Room.{IsLongOrMemory}
use Rattle.repo_serve.specs.Serving.{IsDamagedFor, IsRecordedLength}
use Rattle.repo_serve.specs.Steps.{IsReplyOf, IsSetOf, IsUnansweredOf}

-- the laws that are called upon
abbrev pub CatalogueIs : Type 0
CatalogueIs = (x : Tree) (r : RepositoryState) (c : CatalogueParts) → StoresRepository x r → HoldsCatalogue x c → c ≡ catalogue_of r.commits

abbrev pub ContentIs : Type 0
ContentIs = (x : Tree) (r : RepositoryState) (name : List ℕ) (found : Option (List ℕ)) → StoresRepository x r → FindsContent (troves_of r.commits) name x found → found ≡ r.contents name

abbrev pub HeldContents : Type 0
HeldContents = (x : Tree) (r : RepositoryState) (old fresh : List TroveParts) (set : ChangeSet) → StoresRepository x r → AreCommitted (troves_of r.commits) fresh → LeadsBetween old fresh set → HasStored x set
    → All (λ (content : Carried). r.contents content.name ≡ Some content.bytes) set.contents

-- a reply that is too long
pub long_refused : (request : Request) (sent : ℕ) (tree : Tree) (len : ℕ) → ((r : RepositoryState) → StoresRepository tree r → IsReplyLength r request len) → (why : Fault) → IsLongOrMemory (sent + len) why
    → (refusal : Refusal) → why ≡ fault.Refused refusal → IsUnansweredOf request sent tree refusal
long_refused request sent tree len is (fault.Refused own) long refusal same r stores =
    let one : own ≡ refusal = cc same in
    inr (record { len = len; len_is = is r stores; long = long.long; refused = sym one ∙ long.refused })
long_refused request sent tree len is fault.Memory long refusal same r stores = absurd (cc same)

abbrev pub OneCommits : Type 0
OneCommits = (x : Tree) (one other : List Commit) → HoldsCommits x one → HoldsCommits x other → one ≡ other

-- the troves of the commits that the files hold
recorded_troves : OneCommits → (tree : Tree) (c : CatalogueParts) → HoldsCatalogue tree c → (commits : List Commit) → HoldsCommits tree commits → c.troves ≡ troves_of commits
recorded_troves one tree c holds commits there = ap (λ (d : CatalogueParts). d.troves) holds.is ∙ ap troves_of (one tree holds.commits commits holds.holds there)

abbrev found_bytes : Option (List ℕ) → List ℕ
found_bytes None = []
found_bytes (Some bytes) = bytes

content_long : (name : List ℕ) (found : Option (List ℕ)) → length name ≡ 20 → length (content_reply name found) ≡ 25 + length (found_bytes found)
content_long name None twenty = omega (arith, twenty, length-append (0x82 ∷ to_be_bytes w32 (length name)) name)
content_long name (Some bytes) twenty = omega (arith, twenty, length-append name bytes, length-append (0x81 ∷ to_be_bytes w32 (length (name ++ bytes))) (name ++ bytes))

recorded_found : (commits : List Commit) (tree : Tree) (name : List ℕ) (found : Option (List ℕ)) → FindsContent (troves_of commits) name tree found → (len : ℕ) → len ≡ 25 + length (found_bytes found)
    → IsRecordedLength commits (Content name) len
recorded_found commits tree name None finds len long = inl (finds, long)
recorded_found commits tree name (Some bytes) finds len long = inr (length bytes, finds.1.recorded, long)

module _ (catalogue_is : CatalogueIs) (tree : Tree) (c : CatalogueParts) (holds : HoldsCatalogue tree c) where
  pub troves_are : (r : RepositoryState) → StoresRepository tree r → c.troves ≡ troves_of r.commits
  troves_are r stores = ap (λ (d : CatalogueParts). d.troves) (catalogue_is tree r c stores holds)

  -- ---- ids

  pub named_reply : OneCommits → (name reply : List ℕ) → reply ≡ ids_reply (ids_named name c.troves) → IsReplyOf (Named name) tree reply
  named_reply one name reply is = record {
    states = λ r stores. is ∙ ap (λ (l : List TroveParts). ids_reply (ids_named name l)) (troves_are r stores);
    recorded = λ commits there. ap (λ (l : List ℕ). length l) is ∙ ap (λ (l : List TroveParts). length (ids_reply (ids_named name l))) (recorded_troves one tree c holds commits there);
  }

  pub named_length : (name : List ℕ) (r : RepositoryState) → StoresRepository tree r → IsReplyLength r (Named name) (length (ids_reply (ids_named name c.troves)))
  named_length name r stores = ap (λ (l : List TroveParts). length (ids_reply (ids_named name l))) (troves_are r stores)

  -- ---- contents

  -- the length of the reply, as a record tells it
  pub recorded_length : (name : List ℕ) → length name ≡ 20 → (size : ℕ) → IsTrue (records_content name size c.troves) → (len : ℕ) → len ≡ 25 + size → (r : RepositoryState) → StoresRepository tree r → IsReplyLength r (Content name) len
  recorded_length name twenty size recorded len long r stores =
      let own = subst (λ (l : List TroveParts). IsTrue (records_content name size l)) (troves_are r stores) recorded in
      let held = stores.repository.there name size own in
      omega (arith, long, held.2, content_long name (Some held.0) twenty, ap (λ (o : Option (List ℕ)). length (content_reply name o)) held.1)

  module _ (content_is : ContentIs) (name : List ℕ) (found : Option (List ℕ)) (finds : FindsContent c.troves name tree found) where
    found_is : (r : RepositoryState) → StoresRepository tree r → found ≡ r.contents name
    found_is r stores = content_is tree r name found stores (subst (λ (l : List TroveParts). FindsContent l name tree found) (troves_are r stores) finds)

    pub found_reply : OneCommits → length name ≡ 20 → (reply : List ℕ) → reply ≡ content_reply name found → IsReplyOf (Content name) tree reply
    found_reply one twenty reply is = record {
      states = λ r stores. is ∙ ap (content_reply name) (found_is r stores);
      recorded = λ commits there. recorded_found commits tree name found
          (subst (λ (l : List TroveParts). FindsContent l name tree found) (recorded_troves one tree c holds commits there) finds) (length reply)
          (ap (λ (l : List ℕ). length l) is ∙ content_long name found twenty);
    }

    pub found_length : (len : ℕ) → len ≡ length (content_reply name found) → (r : RepositoryState) → StoresRepository tree r → IsReplyLength r (Content name) len
    found_length len is r stores = is ∙ ap (λ (o : Option (List ℕ)). length (content_reply name o)) (found_is r stores)

  -- ---- missing troves

  module _ (counts : List ℕ) (told : (commits : List Commit) → commits_of (troves_of commits) (map (λ (troves : Commit). length troves) commits) ≡ commits)
      (one_commits : (x : Tree) (one other : List Commit) → HoldsCommits x one → HoldsCommits x other → one ≡ other) (counted : HoldsCounts tree counts) where
    commits_there : (commits : List Commit) → HoldsCommits tree commits → commits_of c.troves counts ≡ commits
    commits_there commits there =
        let same : counted.commits ≡ commits = one_commits tree counted.commits commits counted.holds there in
        ap (λ (l : List TroveParts). commits_of l counts) (recorded_troves one_commits tree c holds commits there)
        ∙ ap (commits_of (troves_of commits)) (counted.counts_are ∙ ap (map (λ (troves : Commit). length troves)) same) ∙ told commits

    pub commits_are : (r : RepositoryState) → StoresRepository tree r → commits_of c.troves counts ≡ r.commits
    commits_are r stores =
        let same : counted.commits ≡ r.commits = one_commits tree counted.commits r.commits counted.holds stores.commits in
        ap (λ (l : List TroveParts). commits_of l counts) (troves_are r stores)
        ∙ ap (commits_of (troves_of r.commits)) (counted.counts_are ∙ ap (map (λ (troves : Commit). length troves)) same) ∙ told r.commits

    module _ (ids : List TroveId) where
      pub too_much_refused : (sent : ℕ) (why : Fault) → IsTooMuchOrMemory ids (commits_of c.troves counts) why → (refusal : Refusal) → why ≡ fault.Refused refusal → IsUnansweredOf (Missing ids) sent tree refusal
      too_much_refused sent (fault.Refused own) much refusal same r stores =
          let one : own ≡ refusal = cc same in
          inl (subst (IsTooMuch ids r.commits) one (subst (λ (l : List Commit). IsTooMuch ids l own) (commits_are r stores) much))
      too_much_refused sent fault.Memory much refusal same r stores = absurd (cc same)

      module _ (troves : List TroveParts) (missing : AreMissing ids (commits_of c.troves counts) troves) where
        missing_of_state : (r : RepositoryState) → StoresRepository tree r → AreMissing ids r.commits troves
        missing_of_state r stores = subst (λ (l : List Commit). AreMissing ids l troves) (commits_are r stores) missing

        pub missing_length : (len : ℕ) → len ≡ 5 + set_length troves → (r : RepositoryState) → StoresRepository tree r → IsReplyLength r (Missing ids) len
        missing_length len is r stores = (troves, missing_of_state r stores, is)

        -- the set of the missing troves
        module _ (held : HeldContents) (committed : AreCommitted c.troves troves) where
          committed_of : (r : RepositoryState) → StoresRepository tree r → AreCommitted (troves_of r.commits) troves
          committed_of r stores = subst (λ (l : List TroveParts). AreCommitted l troves) (troves_are r stores) committed

          pub missing_reply : (reply : List ℕ) → length reply ≡ 5 + set_length troves → IsSetOf troves tree reply → IsReplyOf (Missing ids) tree reply
          missing_reply reply long is = record {
            states = λ r stores. record {
              troves = troves;
              set = is.set;
              missing = missing_of_state r stores;
              sent = is.sent;
              held = held tree r [] troves is.set stores (committed_of r stores) is.leads is.stored;
              is = is.is;
            };
            recorded = λ commits there. (troves, subst (λ (l : List Commit). AreMissing ids l troves) (commits_there commits there) missing, long);
          }

-- ---- damage

-- what is kept passes the test
kept_passes : (p : TroveParts → Bool) (troves : List TroveParts) (t : TroveParts) → Contains (filter p troves) t → p t ≡ true
kept_passes p [] t h = absurd (nothing_in t h)
kept_passes p (u ∷ troves) t h = by (p u) refl (kept_passes p troves t) h
  where
    by : (b : Bool) → p u ≡ b → (Contains (filter p troves) t → p t ≡ true) → Contains (cond b (u ∷ filter p troves) (filter p troves)) t → p t ≡ true
    by true is rest h = ⊎_elim (λ here. ap p (sym here) ∙ is) rest (contains_cases u t (filter p troves) h)
    by false is rest h = rest h

pub damaged_set : (c troves : List TroveParts) (ids : List TroveId) (commits : List Commit) → AreMissing ids commits troves → AreCommitted c troves → (tree : Tree) (path : Name) → IsDamagedBetween [] troves tree path
    → IsDamagedFor c (Missing ids) tree path
damaged_set c troves ids commits missing committed tree path bad =
    let one = sends_records [] troves bad.name bad.sent in
    let r : RecordsContent troves bad.name one.0 = one.1 in
    let own : Contains (missing_of ids (troves_of missing.first)) r.trove = subst (λ (l : List TroveParts). Contains l r.trove) missing.are r.there in
    let lacks = not_true (has_one_of ids r.trove) (kept_passes (λ (t : TroveParts). not (has_one_of ids t)) (troves_of missing.first) r.trove own) in
    record {
      name = bad.name;
      sent = (r.trove, committed r.trove r.there, lacks, any_of (is_file_of bad.name) r.trove.files r.file r.among (named_record r.file.rec bad.name one.0 r.content));
      unsound = record {
        size = one.0;
        recorded = records_sized c troves committed bad.name one.0 r;
        here = bad.here;
        none = λ bytes stands named sized. bad.none bytes stands (record { named = named; sized = λ size records. sized size (records_sized c troves committed bad.name size records) });
      };
    }
  where
    not_true : (b : Bool) → not b ≡ true → b ≡ false
    not_true true is = absurd (cc is)
    not_true false is = refl

pub damaged_content : (troves : List TroveParts) (name : List ℕ) (tree : Tree) (path : Name) → IsDamagedContent troves name tree path → IsDamagedFor troves (Content name) tree path
damaged_content troves name tree path bad =
    let one = named_is_recorded name troves bad.recorded in
    record {
      name = name;
      sent = refl;
      unsound = record {
        size = one.0;
        recorded = one.1;
        here = bad.here;
        none = λ bytes stands named sized. bad.none bytes stands (record { named = named; recorded = subst (λ (n : ℕ). IsTrue (records_content name n troves)) (sym (sized one.0 one.1)) one.1 });
      };
    }

-- in a tree that stores a repository none is damaged
pub undamaged : (x : Tree) (r : RepositoryState) (request : Request) (path : Name) → StoresRepository x r → IsDamagedFor (troves_of r.commits) request x path → ⊥
undamaged x r request path stores bad =
    let u = bad.unsound in
    let held = stores.repository.there bad.name u.size u.recorded in
    u.none held.0 (stores.contents bad.name held.0 held.1) (stores.repository.named bad.name held.0 held.1).0
    (λ other recorded. let one = stores.repository.there bad.name other recorded in
    ap (λ (l : List ℕ). length l) (same_bytes held.0 one.0 (r.contents bad.name) held.1 one.1) ∙ one.2)
