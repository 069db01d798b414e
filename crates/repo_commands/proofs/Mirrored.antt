-- The commands by which a repository takes over what it lacks of another one.
use Rattle.std.proofs.Common.{◌≡◌, inl, inr, ℕ, List, [], ◌∷◌, ◌++◌, Ok, refl, sym, ap, ◌∙◌, subst, append-nil}
use Rattle.cli_call.specs.change-set.declared.change.ChangeSet.{ChangeSet}
use Rattle.cli_call.specs.change-set.declared.change.Part.{Part}
use Rattle.cli_call.specs.cny-laws.State.{after, Effect, State}
use Rattle.cli_call.specs.trove-parts.declared.id.TroveId.{TroveId}
use Rattle.cli_call.specs.trove-stream.declared.parts.TroveParts.{TroveParts}
use Rattle.cny_report.specs.Troves.{committed_text, nothing_changes}
use Rattle.repo_load.specs.State.{troves_of, IsRepository, RepositoryState}
use Rattle.repo_mirror.specs.declared.request.Request.{Request}
use Rattle.repo_mirror.specs.declared.request.Request.TheVariants.{Missing}
use Rattle.repo_mirror.specs.Replies.{reply_end, reply_magic, IsSetReply}
use Rattle.repo_mirror.specs.Requests.{IsRequestStream}
use Rattle.repo_mirror.specs.Asking.{AreIdsOf, AsksForOthers, IsAsked}
use Rattle.repo_mirror.specs.Mirroring.{Mirrors, SendsMissing}
use Rattle.repo_serve.specs.Replies.{AreReplies, Replies}
use Rattle.repository.specs.Parts.{MakeTroves}
use Rattle.repository.specs.Steps.{ids_of, IsCommitStep}
use Rattle.repo_commands.specs.Commit.{Commits}
use Rattle.repo_commands.specs.Mirrored.{IsMirrored}
use Rattle.repo_commands.specs.TakeMirror.{OfReply}

-- what is asked, sent and taken
pub record MirrorLaws : Type 0 where
  pub asks : (troves : List TroveParts) (bytes : List ℕ) → IsAsked troves (Ok bytes) → AsksForOthers troves bytes
  pub stream : (a b : List Request) (bytes : List ℕ) → IsRequestStream a bytes → IsRequestStream b bytes → a ≡ b
  pub taken : (other own new : RepositoryState) (ids : List TroveId) (reply : List ℕ) (set : ChangeSet) → IsRepository other → AreIdsOf (troves_of own.commits) ids
      → SendsMissing other ids reply → IsSetReply set reply → IsCommitStep own set new → (it : Mirrors other own new) × (it.ids ≡ ids) × (it.set ≡ set)

-- the ids that were asked with, and what was sent for them
pub record Sends (own other : RepositoryState) (reply : List ℕ) : Type 0 where
  pub ids : List TroveId
  pub are : AreIdsOf (troves_of own.commits) ids
  pub sent : SendsMissing other ids reply

-- what was taken of a reply, and committed
pub record Takes (own : State) (reply : List ℕ) (told : Effect) : Type 0 where
  pub set : ChangeSet
  pub spelled : IsSetReply set reply
  pub step : IsCommitStep own.repository set (after own told.change).repository
  pub out : told.out ≡ committed_text (ids_of step.troves)

took : (own : State) (reply : List ℕ) (told : Effect) → OfReply reply (λ (set : ChangeSet). Commits set own.repository) (Ok told) → Takes own reply told
took own reply told (inl h) = record {
  set = h.set;
  spelled = h.spelled;
  step = record { troves = h.is.troves; passes = h.is.passes; is = ap (λ (e : Effect). (after own e.change).repository) h.is.is };
  out = ap (λ (e : Effect). e.out) h.is.is;
}
took own reply told (inr h) = absurd (cc h.is)

-- no parts make no troves
none_made : (committed : List TroveParts) (parts : List Part) (troves : List TroveParts) → parts ≡ [] → MakeTroves committed parts troves → troves ≡ []
none_made committed [] [] none make = refl
none_made committed [] (t ∷ troves) none make = absurd make
none_made committed (p ∷ parts) troves none make = absurd (cc none)

module _ (laws : MirrorLaws) where
  sends : (own other : RepositoryState) (request reply : List ℕ) → IsAsked (troves_of own.commits) (Ok request) → Replies other request (Ok reply) → Sends own other reply
  sends own other request reply asked served =
      let asks = laws.asks (troves_of own.commits) request asked in
      let only = laws.stream served.requests (Missing asks.ids ∷ []) request served.stream_is asks.stream in
      let replies = subst (λ (l : List Request). AreReplies other l served.replies) only served.replies_are in
      let one = replies.4 ∙ ap (λ (l : List ℕ). replies.0 ++ l) replies.3 ∙ append-nil replies.0 ∙ replies.2.is in
      record {
        ids = asks.ids;
        are = asks.are;
        sent = record {
          troves = replies.2.troves;
          set = replies.2.set;
          missing = replies.2.missing;
          sent = replies.2.sent;
          held = replies.2.held;
          is = served.is ∙ ap (λ (l : List ℕ). reply_magic ++ (l ++ reply_end)) one;
        };
      }

  module _ (own other : State) (told : Effect) (is : IsMirrored own other told) where
    abbrev reply : List ℕ
    reply = is.serves.0

    pub sent : Sends own.repository other.repository reply
    sent = sends own.repository other.repository is.asks.0 reply is.asks.1 (subst (λ (e : Effect). Replies other.repository e.out (Ok reply)) is.asks.2 is.serves.1)

    pub taken : Takes own reply told
    taken = took own reply told (subst (λ (e : Effect). OfReply e.out (λ (set : ChangeSet). Commits set own.repository) (Ok told)) is.serves.2 is.takes)

    abbrev next : RepositoryState
    next = (after own told.change).repository

    abbrev whole : (it : Mirrors other.repository own.repository next) × (it.ids ≡ sent.ids) × (it.set ≡ taken.set)
    whole = laws.taken other.repository own.repository next sent.ids reply taken.set is.other_is sent.are sent.sent taken.spelled taken.step

    abbrev pub by_commands : Mirrors other.repository own.repository next
    by_commands = whole.0

    -- where nothing is sent, that is told
    pub nothing_told : by_commands.set ≡ record { parts = []; contents = [] } → told.out ≡ nothing_changes
    nothing_told none =
        let parts = ap (λ (s : ChangeSet). s.parts) (sym whole.2 ∙ none) in
        taken.out ∙ ap (λ (l : List TroveParts). committed_text (ids_of l)) (none_made (troves_of own.repository.commits) taken.set.parts taken.step.troves parts taken.step.passes.made.make)
