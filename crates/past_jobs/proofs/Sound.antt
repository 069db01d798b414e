-- Lists that may be installed, with fewer troves and with one more.
use Rattle.std.proofs.Common.{◌≡◌, ◌⊎◌, ⊎_elim, List, None, All, Contains, sym, ◌∙◌, ap, subst}
use Rattle.std.proofs.lemmas.List.Elements.{All-contains}
use Rattle.local_db.specs.trove-stream.declared.parts.TroveParts.{TroveParts}
use Rattle.local_db.specs.trove-stream.Forbidden.{first_forbidden}
use Rattle.local_db.specs.trove-stream.Trove.{IsTrove}
use Rattle.local_db.specs.trove-stream.Installed.{IsRising}
use Rattle.local_db.specs.Installed.{SharesDirsAlone}
use Rattle.local_db.specs.declared.format.Format.{Format}
use Rattle.local_db.specs.Formats.{TroveCanTell}
use Rattle.past_jobs.specs.Table.{IsSound, MayJoin}
use Rattle.past_jobs.proofs.Sharing.{pairs_by_names, pairs_from_names, shares_back}
use Rattle.change_rel.proofs.cny-base.Lists.{all_from as all_of}

pub sound_part : (f : Format) (list part : List TroveParts) → IsSound f list → IsRising part → ((t : TroveParts) → Contains part t → Contains list t) → IsSound f part
sound_part f list part sound rises within = record {
  installed = record {
    troves = all_of IsTrove part (λ t t_in. All-contains IsTrove list t sound.installed.troves (within t t_in));
    rising = rises;
    allowed = all_of (λ (t : TroveParts). first_forbidden t.files ≡ None) part (λ t t_in. All-contains (λ (t : TroveParts). first_forbidden t.files ≡ None) list t sound.installed.allowed (within t t_in));
    unshared = pairs_from_names part rises (λ t u t_in u_in apart. pairs_by_names list sound.installed.unshared t u (within t t_in) (within u u_in) apart);
  };
  told = all_of (TroveCanTell f) part (λ t t_in. All-contains (TroveCanTell f) list t sound.told (within t t_in));
}

pub sound_with : (f : Format) (list more : List TroveParts) (t : TroveParts) → IsSound f list → MayJoin f list t → IsRising more → ((u : TroveParts) → Contains more u → (t ≡ u) ⊎ Contains list u) → IsSound f more
sound_with f list more t sound may rises within = record {
  installed = record {
    troves = each IsTrove may.trove sound.installed.troves;
    rising = rises;
    allowed = each (λ (t : TroveParts). first_forbidden t.files ≡ None) may.allowed sound.installed.allowed;
    unshared = pairs_from_names more rises (λ a b a_in b_in apart. pair a b apart (within a a_in) (within b b_in));
  };
  told = each (TroveCanTell f) may.told sound.told;
}
  where
    each : (P : TroveParts → Type 0) → P t → All P list → All P more
    each P own all = all_of P more (λ u u_in. ⊎_elim (λ same. subst P same own) (λ old. All-contains P list u all old) (within u u_in))

    pair : (a b : TroveParts) → (a.id.name ≡ b.id.name → ⊥) → (t ≡ a) ⊎ Contains list a → (t ≡ b) ⊎ Contains list b → SharesDirsAlone a b
    pair a b apart one other = ⊎_elim
        (λ a_same. ⊎_elim
        (λ b_same. absurd (apart (ap (λ (u : TroveParts). u.id.name) (sym a_same ∙ b_same))))
        (λ b_old. subst (λ (u : TroveParts). SharesDirsAlone u b) a_same (All-contains (SharesDirsAlone t) list b may.shares b_old))
        other)
        (λ a_old. ⊎_elim
        (λ b_same. subst (SharesDirsAlone a) b_same (shares_back t a (All-contains (SharesDirsAlone t) list a may.shares a_old)))
        (λ b_old. pairs_by_names list sound.installed.unshared a b a_old b_old apart)
        other)
        one

-- one that a list which may be installed has, with others of that list, may join those
pub joins_part : (f : Format) (whole list : List TroveParts) (t : TroveParts) → IsSound f whole → Contains whole t → ((u : TroveParts) → Contains list u → Contains whole u × (t.id.name ≡ u.id.name → ⊥)) → All (SharesDirsAlone t) list
joins_part f whole list t sound t_in within = all_of (SharesDirsAlone t) list (λ u u_in. pairs_by_names whole sound.installed.unshared t u t_in (within u u_in).0 (within u u_in).1)
