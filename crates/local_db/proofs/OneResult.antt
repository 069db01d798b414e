-- A record leads back to one list.
use Rattle.std.proofs.Common.{◌≡◌, List, Option, Some, None, refl, sym, ◌∙◌, ap}
use Rattle.trove_stream.specs.Leads.{Leads}
use Rattle.trove_stream.specs.declared.rel.RelParts.{RelParts}
use Rattle.trove_stream.specs.declared.parts.TroveParts.{TroveParts}
use Rattle.trove_stream.specs.Installed.{trove_of}
use Rattle.local_db.specs.Installed.{IsInstalled}
use Rattle.local_db.specs.Record.{Delta, came, was, turned, delta_at, TakesBackAt, TakesBack}
use Rattle.local_db.proofs.Sorted.{same_troves}

-- a relative trove leads from a trove to one other at most
abbrev pub OneLed : Type 0
OneLed = (rel : RelParts) (old a b : TroveParts) → Leads rel old a → Leads rel old b → a ≡ b

module _ (led : OneLed) where
  one_back : (u : Option Delta) (t b c : Option TroveParts) → TakesBackAt u t b → TakesBackAt u t c → b ≡ c
  one_back None t b c h g = h ∙ sym g
  one_back (Some (came id)) None None c h g = absurd h
  one_back (Some (came id)) None (Some b) c h g = absurd h
  one_back (Some (came id)) (Some t) (Some b) c h g = absurd h
  one_back (Some (came id)) (Some t) None None h g = refl
  one_back (Some (came id)) (Some t) None (Some c) h g = absurd g
  one_back (Some (was old)) None None c h g = absurd h
  one_back (Some (was old)) None (Some b) None h g = absurd g
  one_back (Some (was old)) None (Some b) (Some c) h g = ap (λ (t : TroveParts). Some t) (h ∙ sym g)
  one_back (Some (was old)) (Some t) None c h g = absurd h
  one_back (Some (was old)) (Some t) (Some b) None h g = absurd g
  one_back (Some (was old)) (Some t) (Some b) (Some c) h g = ap (λ (t : TroveParts). Some t) (h.0 ∙ sym g.0)
  one_back (Some (turned rel)) None None c h g = absurd h
  one_back (Some (turned rel)) None (Some b) c h g = absurd h
  one_back (Some (turned rel)) (Some t) None c h g = absurd h
  one_back (Some (turned rel)) (Some t) (Some b) None h g = absurd g
  one_back (Some (turned rel)) (Some t) (Some b) (Some c) h g = ap (λ (t : TroveParts). Some t) (led rel t b c h g)

  pub one_list_back : (us : List Delta) (after a b : List TroveParts) → IsInstalled a → IsInstalled b → TakesBack us after a → TakesBack us after b → a ≡ b
  one_list_back us after a b a_is b_is one two = same_troves a b a_is.rising b_is.rising
      (λ name. one_back (delta_at us name) (trove_of name after) (trove_of name a) (trove_of name b) (one.each name) (two.each name))
