-- Commits that follow one another.
use Rattle.std.proofs.Common.{◌≡◌, List, [], ◌∷◌, ◌++◌, sym, ◌∙◌, ap, subst, append_assoc, append-nil}
use Rattle.std.proofs.lemmas.List.Concat.{flat_map-append}
use Rattle.repo_index.specs.trove-stream.declared.parts.TroveParts.{TroveParts}
use Rattle.repo_load.specs.State.{Commit, troves_of, IsCommit, AreFollowing}

pub troves_append : (a b : List Commit) → troves_of (a ++ b) ≡ troves_of a ++ troves_of b
troves_append a b = flat_map-append (λ (troves : Commit). troves) a b

pub troves_push : (a : List Commit) (c : Commit) → troves_of (a ++ c ∷ []) ≡ troves_of a ++ c
troves_push a c = troves_append a (c ∷ []) ∙ ap (λ (l : Commit). troves_of a ++ l) (append-nil c)

-- the commit at a place follows the troves before it
pub following_at : (before : List TroveParts) (a : List Commit) (c : Commit) (b : List Commit) → AreFollowing before (a ++ c ∷ b) → IsCommit (before ++ troves_of a) c
following_at before [] c b all = subst (λ (l : List TroveParts). IsCommit l c) (sym (append-nil before)) all.0
following_at before (d ∷ a) c b all =
    subst (λ (l : List TroveParts). IsCommit l c) (append_assoc before d (troves_of a)) (following_at (before ++ d) a c b all.1)

pub following_push : (before : List TroveParts) (a : List Commit) (c : Commit) → AreFollowing before a → IsCommit (before ++ troves_of a) c → AreFollowing before (a ++ c ∷ [])
following_push before [] c all is = (subst (λ (l : List TroveParts). IsCommit l c) (append-nil before) is, tt)
following_push before (d ∷ a) c all is =
    (all.0, following_push (before ++ d) a c all.1 (subst (λ (l : List TroveParts). IsCommit l c) (sym (append_assoc before d (troves_of a))) is))
