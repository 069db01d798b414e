-- A plan has one write set, or one first refusal of it.
use Rattle.std.proofs.Common.{◌≡◌, ℕ, Bool, true, cond, ◌==◌, List, [], ◌∷◌, ◌++◌, Option, Some, None, refl, sym, ap, ◌∙◌, subst, arith}
use Rattle.std.specs.Option.{option_or}
use Rattle.std.proofs.lemmas.Bool.Decides.{nat_tests}
use Rattle.std.proofs.lemmas.List.Elements.{Contains-append_left, Contains-append_right}
use Rattle.sha1.specs.Sha1.{sha1}
use Rattle.conary_cli.specs.cli-call.cny-base.declared.refusal.Refusal.{Refusal}
use Rattle.conary_cli.specs.cli-call.cny-base.declared.refusal.Refusal.TheVariants.{MissingContent, TooLarge, Collision}
use Rattle.conary_cli.specs.cli-call.change-set.declared.change.Carried.{Carried}
use Rattle.conary_cli.specs.cli-call.content-store.Contents.{Answers}
use Rattle.conary_cli.specs.cli-call.content-store.Difference.{first_difference, shifted}
use Rattle.conary_cli.specs.cli-call.conflict-plan.declared.planned.Planned.{Planned}
use Rattle.conary_cli.specs.cli-call.cny-stream.declared.record.FileRec.{FileRec}
use Rattle.conary_cli.specs.cli-call.cny-stream.declared.record.FileRec.TheVariants as rec
use Rattle.conary_cli.specs.cli-call.journal-log.declared.put.Put.{Put}
use Rattle.conary_cli.specs.cli-call.journal-log.declared.put.Want.{Want}
use Rattle.conary_cli.specs.cli-call.journal-log.declared.put.Want.TheVariants as want
use Rattle.conary_cli.specs.cli-call.tree-disk.Tree.{Tree}
use Rattle.conary_cli.specs.cli-call.job-targets.declared.entry.Entry.{Entry}
use Rattle.conary_cli.specs.cli-call.job-targets.declared.targets.Targets.{Targets}
use Rattle.conary_cli.specs.cli-call.job-targets.Agree.{AllAgree, Collides, IsFirstCollision, IsOld}
use Rattle.conary_cli.specs.cli-call.job-targets.Contents.{carried_bytes, of_size, standing, Finds, FindsBehind}
use Rattle.conary_cli.specs.cli-call.job-targets.Outcome.{AreTargets, IsFirstRefusal, IsFirstUnfound, IsMissing}
use Rattle.conary_cli.specs.cli-call.job-targets.Targets.{ArePutsOf, IsPutOf, IsTarget, entries_at}
use Rattle.change_rel.proofs.cny-base.Lists.{contains_first}
use Rattle.outcome_laws.specs.OneOutcome.{AtMostOne}
use Rattle.outcome_laws.proofs.Splits.{Cuts, same, earlier, later, cuts}

-- ---- old contents that collide

same_byte : (n : ℕ) → (n == n) ≡ true
same_byte n = grind (arith, nat_tests)

none_differs : (xs : List ℕ) → first_difference xs xs ≡ None
none_differs [] = refl
none_differs (x ∷ xs) = ap (λ (b : Bool). cond b (shifted 1 (first_difference xs xs)) (Some 0)) (same_byte x) ∙ ap (shifted 1) (none_differs xs)

agree_differ : (es : List Entry) (a b : List ℕ) (at : ℕ) → AllAgree es → IsOld es a → IsOld es b → sha1 a ≡ sha1 b → first_difference a b ≡ Some at → ⊥
agree_differ es a b at agree old_a old_b names differ = absurd (cc (sym (none_differs a) ∙ ap (first_difference a) (agree a b old_a old_b names) ∙ differ))

old_before : (es more : List Entry) (bytes : List ℕ) → IsOld es bytes → IsOld (es ++ more) bytes
old_before es more bytes old = record { entry = old.entry; there = Contains-append_left es more old.entry old.there; was = old.was }

never_collides : (front : List Entry) (x : Entry) (rest : List Entry) (name : List ℕ) (at : ℕ) → AllAgree (front ++ x ∷ rest) → Collides front x name at → ⊥
never_collides front x rest name at agree c = agree_differ (front ++ x ∷ rest) c.other c.bytes at agree (old_before front (x ∷ rest) c.other c.old)
    (record { entry = x; there = Contains-append_right front (x ∷ rest) x (contains_first x rest); was = c.was }) (c.other_named ∙ sym c.named) c.differ

collides_once : (front : List Entry) (x : Entry) (n m : List ℕ) (a b : ℕ) → AllAgree front → Collides front x n a → Collides front x m b → (n ≡ m) × (a ≡ b)
collides_once front x n m a b agree h g =
    let bytes : h.bytes ≡ g.bytes = cc (sym h.was ∙ g.was) in
    let names : n ≡ m = sym h.named ∙ ap sha1 bytes ∙ g.named in
    let others : h.other ≡ g.other = agree h.other g.other h.old g.old (h.other_named ∙ names ∙ sym g.other_named) in
    let places : a ≡ b = cc (sym h.differ ∙ ap (λ (l : List ℕ). first_difference l h.bytes) others ∙ ap (first_difference g.other) bytes ∙ g.differ) in
    (names, places)

clash_once : (es : List Entry) (n m : List ℕ) (a b : ℕ) → IsFirstCollision es n a → IsFirstCollision es m b → (n ≡ m) × (a ≡ b)
clash_once es n m a b h g = by (cuts h.front g.front h.first g.first h.rest g.rest (sym h.split ∙ g.split))
  where
    by : Cuts h.front g.front h.first g.first h.rest g.rest → (n ≡ m) × (a ≡ b)
    by (same fronts ones rests) = collides_once g.front g.first n m a b g.agree
        (subst (λ (x : Entry). Collides g.front x n a) ones (subst (λ (f : List Entry). Collides f h.first n a) fronts h.collides)) g.collides
    by (earlier more at rests) = absurd (never_collides h.front h.first more n a (subst AllAgree at g.agree) h.collides)
    by (later more at rests) = absurd (never_collides g.front g.first more m b (subst AllAgree at h.agree) g.collides)

module _ (carried : List Carried) (answers : Answers) (one : (name : List ℕ) → AtMostOne (answers name)) (tree : Tree) where
  -- ---- the writes

  behind_once : (first : Option (List ℕ)) (x : Planned) (size : ℕ) (name : List ℕ) → AtMostOne (FindsBehind first answers tree x size name)
  behind_once (Some bytes) x size name a b h g = h ∙ sym g
  behind_once None x size name a b h g =
      h.first ∙ ap (λ (o : Option (List ℕ)). option_or (of_size size o) (standing tree x size name)) (one name h.answer g.answer h.answered g.answered) ∙ sym g.first

  finds_once : (x : Planned) (size : ℕ) (name : List ℕ) → AtMostOne (Finds carried answers tree x size name)
  finds_once x size name = behind_once (of_size size (carried_bytes carried name)) x size name

  target_once : (x : Planned) (r : Option FileRec) → AtMostOne (IsTarget carried answers tree x r)
  target_once x None a b h g = h ∙ sym g
  target_once x (Some (rec.Dir mode owner)) a b h g = h ∙ sym g
  target_once x (Some (rec.File mode owner flags size name)) a b h g =
      let bytes : h.bytes ≡ g.bytes = cc (finds_once x size name (Some h.bytes) (Some g.bytes) h.found g.found) in
      h.is ∙ ap (λ (l : List ℕ). want.File mode l) bytes ∙ sym g.is
  target_once x (Some (rec.Link target)) a b h g = h ∙ sym g

  put_once : (x : Planned) → AtMostOne (IsPutOf carried answers tree x)
  put_once x a b h g =
      let path : a.path ≡ b.path = h.path ∙ sym g.path in
      let wanted : a.want ≡ b.want = target_once x x.want a.want b.want h.target g.target in
      λ i. record { path = path i; want = wanted i }

  puts_once : (planned : List Planned) → AtMostOne (ArePutsOf carried answers tree planned)
  puts_once [] [] [] h g = refl
  puts_once [] [] (q ∷ b) h g = absurd g
  puts_once [] (p ∷ a) b h g = absurd h
  puts_once (x ∷ xs) [] b h g = absurd h
  puts_once (x ∷ xs) (p ∷ a) [] h g = absurd g
  puts_once (x ∷ xs) (p ∷ a) (q ∷ b) h g =
      let first = put_once x p q h.0 g.0 in
      let rest = puts_once xs a b h.1 g.1 in
      λ i. first i ∷ rest i

  pub targets_once : (planned : List Planned) → AtMostOne (AreTargets carried answers planned tree)
  targets_once planned t u h g =
      let puts : t.puts ≡ u.puts = puts_once planned t.puts u.puts h.puts g.puts in
      let entries : t.entries ≡ u.entries = h.entries ∙ sym g.entries in
      λ i. record { puts = puts i; entries = entries i }

  -- ---- a content that isn't found

  never_missing : (x : Planned) (r : Option FileRec) (w : Want) (n : List ℕ) → IsTarget carried answers tree x r w → IsMissing carried answers tree x r (MissingContent n) → ⊥
  never_missing x None w n h g = g
  never_missing x (Some (rec.Dir mode owner)) w n h g = g
  never_missing x (Some (rec.File mode owner flags size name)) w n h g = absurd (cc (finds_once x size name (Some h.bytes) None h.found g.1))
  never_missing x (Some (rec.Link target)) w n h g = g

  missing_once : (x : Planned) (r : Option FileRec) (n m : List ℕ) → IsMissing carried answers tree x r (MissingContent n) → IsMissing carried answers tree x r (MissingContent m) → n ≡ m
  missing_once x None n m h g = absurd h
  missing_once x (Some (rec.Dir mode owner)) n m h g = absurd h
  missing_once x (Some (rec.File mode owner flags size name)) n m h g = h.0 ∙ sym g.0
  missing_once x (Some (rec.Link target)) n m h g = absurd h

  never_unfound : (front : List Planned) (x : Planned) (rest : List Planned) (puts : List Put) (n : List ℕ) → ArePutsOf carried answers tree (front ++ x ∷ rest) puts → IsMissing carried answers tree x x.want (MissingContent n) → ⊥
  never_unfound [] x rest [] n h g = h
  never_unfound [] x rest (p ∷ puts) n h g = never_missing x x.want p.want n h.0.target g
  never_unfound (y ∷ front) x rest [] n h g = h
  never_unfound (y ∷ front) x rest (p ∷ puts) n h g = never_unfound front x rest puts n h.1 g

  some_unfound : (planned : List Planned) (puts : List Put) (n : List ℕ) → ArePutsOf carried answers tree planned puts → IsFirstUnfound carried answers tree planned (MissingContent n) → ⊥
  some_unfound planned puts n h g = never_unfound g.front g.first g.rest puts n (subst (λ (l : List Planned). ArePutsOf carried answers tree l puts) g.split h) g.missing

  unfound_once : (planned : List Planned) (n m : List ℕ) → IsFirstUnfound carried answers tree planned (MissingContent n) → IsFirstUnfound carried answers tree planned (MissingContent m) → n ≡ m
  unfound_once planned n m h g = by (cuts h.front g.front h.first g.first h.rest g.rest (sym h.split ∙ g.split))
    where
      by : Cuts h.front g.front h.first g.first h.rest g.rest → n ≡ m
      by (same fronts ones rests) = missing_once g.first g.first.want n m (subst (λ (x : Planned). IsMissing carried answers tree x x.want (MissingContent n)) ones h.missing) g.missing
      by (earlier more at rests) = absurd (never_unfound h.front h.first more g.puts n (subst (λ (l : List Planned). ArePutsOf carried answers tree l g.puts) at g.found) h.missing)
      by (later more at rests) = absurd (never_unfound g.front g.first more h.puts m (subst (λ (l : List Planned). ArePutsOf carried answers tree l h.puts) at h.found) g.missing)

  -- ---- the first test that fails

  pub refusal_once : (planned : List Planned) → AtMostOne (IsFirstRefusal carried answers planned tree)
  refusal_once planned (MissingContent n) (MissingContent m) h g = ap (λ (name : List ℕ). MissingContent name) (unfound_once planned n m h g)
  refusal_once planned (MissingContent n) (TooLarge what size) h g = absurd (some_unfound planned g.puts n g.found h)
  refusal_once planned (MissingContent n) (Collision name at) h g = absurd (some_unfound planned g.puts n g.found h)
  refusal_once planned (MissingContent n) _ h g = absurd g
  refusal_once planned (TooLarge what size) (MissingContent m) h g = absurd (some_unfound planned h.puts m h.found g)
  refusal_once planned (TooLarge what size) (TooLarge other more) h g =
      let kinds : what ≡ other = h.is_local ∙ sym g.is_local in
      let sizes : size ≡ more = cc (sym h.large ∙ g.large) in
      λ i. TooLarge (kinds i) (sizes i)
  refusal_once planned (TooLarge what size) (Collision name at) h g = absurd (cc (sym h.large ∙ g.small))
  refusal_once planned (TooLarge what size) _ h g = absurd g
  refusal_once planned (Collision name at) (MissingContent m) h g = absurd (some_unfound planned h.puts m h.found g)
  refusal_once planned (Collision name at) (TooLarge what size) h g = absurd (cc (sym g.large ∙ h.small))
  refusal_once planned (Collision name at) (Collision other place) h g =
      let both = clash_once (entries_at tree planned) name other at place h.collides g.collides in
      λ i. Collision (both.0 i) (both.1 i)
  refusal_once planned (Collision name at) _ h g = absurd g
  refusal_once planned _ q h g = absurd h

  pub never_refused : (planned : List Planned) (t : Targets) (why : Refusal) → AreTargets carried answers planned tree t → IsFirstRefusal carried answers planned tree why → ⊥
  never_refused planned t (MissingContent n) h g = some_unfound planned t.puts n h.puts g
  never_refused planned t (TooLarge what size) h g = absurd (cc (sym g.large ∙ h.small))
  never_refused planned t (Collision name at) h g =
      never_collides g.collides.front g.collides.first g.collides.rest name at (subst AllAgree (h.entries ∙ g.collides.split) h.agree) g.collides.collides
  never_refused planned t _ h g = g
