-- Changes that ids make, one id after the other.
use Rattle.std.proofs.Common.{◌≡◌, ℕ, ◌+◌, ◌<◌, Bool, true, false, cond, List, [], ◌∷◌, ◌++◌, length, get_or, take, Option, Some, None, refl, sym, ap, subst, ◌∙◌}
use Rattle.std.specs.Option.{option_or}
use Rattle.std.proofs.lemmas.List.{take_more}
use Rattle.cli_call.specs.trove-parts.declared.id.TroveId.{TroveId}
use Rattle.rollback_stack.specs.declared.undo.NotedJob.{NotedJob}
use Rattle.cli_call.proofs.job-record.Keyed.{found_more}
use Rattle.cli_call.specs.tree-disk.Tree.{same_name}
use Rattle.update_job.specs.declared.comparing.Change.{Change}
use Rattle.update_job.specs.declared.comparing.Change.TheVariants.{Installed, Updated, Erased}
use Rattle.cny_report.specs.declared.note.Note.{Note}
use Rattle.root_commands.specs.Noting.{AreJobsNoted, IsJobNoted, change_by_id, id_if, id_by_name, turned}

-- a second id of the name makes no change
made_once : (came : Bool) (x y : TroveId) (old : Option Change) → change_by_id came x (turned came (Some y) old) ≡ None
made_once true x y None = refl
made_once false x y None = refl
made_once true x y (Some (Erased w)) = refl
made_once false x y (Some (Erased w)) = refl
made_once true x y (Some (Installed w)) = refl
made_once false x y (Some (Installed w)) = refl
made_once true x y (Some (Updated w)) = refl
made_once false x y (Some (Updated w)) = refl

turned_more : (came : Bool) (a : Option TroveId) (b : Bool) (x : TroveId) (old : Option Change) → turned came (cond b (Some x) None) (turned came a old) ≡ turned came (option_or a (cond b (Some x) None)) old
turned_more came None b x old = refl
turned_more came (Some y) false x old = refl
turned_more came (Some y) true x old = ap (λ (o : Option Change). option_or o (turned came (Some y) old)) (made_once came x y old)

pub turned_next : (came : Bool) (ids : List TroveId) (i : ℕ) (x : TroveId) (name : List ℕ) → i < length ids → x ≡ get_or ids i x → (old mid new : Option Change)
    → mid ≡ turned came (id_by_name name (take i ids)) old → new ≡ turned came (id_if x name) mid → new ≡ turned came (id_by_name name (take (i + 1) ids)) old
turned_next came ids i x name within is old mid new so_far step =
    step
    ∙ ap (turned came (id_if x name)) so_far
    ∙ turned_more came (id_by_name name (take i ids)) (same_name x.name name) x old
    ∙ ap (λ (o : Option TroveId). turned came o old) (sym (found_more (λ (id : TroveId). id.name) ids i x name within is))

-- what is noted of a name when a change was put under the name of an id
pub put_change : (b : Bool) (came : Bool) (id : TroveId) (change : Change) (here old new : Option Change) → (b ≡ true → old ≡ here) → change_by_id came id here ≡ Some change → new ≡ cond b (Some change) old
    → new ≡ turned came (cond b (Some id) None) old
put_change true came id change here old new same made is = is ∙ ap (λ (o : Option Change). option_or o old) (sym made ∙ ap (change_by_id came id) (sym (same refl)))
put_change false came id change here old new same made is = is

-- and when none was
pub no_change : (b : Bool) (came : Bool) (id : TroveId) (here old : Option Change) → (b ≡ true → old ≡ here) → change_by_id came id here ≡ None → old ≡ turned came (cond b (Some id) None) old
no_change true came id here old same none = ap (λ (o : Option Change). option_or o old) (sym none ∙ ap (change_by_id came id) (sym (same refl)))
no_change false came id here old same none = refl

-- ---- notes

push_noted : (jobs : List NotedJob) (notes : List Note) (job : NotedJob) (note : Note) → AreJobsNoted jobs notes → IsJobNoted job note → AreJobsNoted (jobs ++ job ∷ []) (notes ++ note ∷ [])
push_noted [] [] job note are is = (is, tt)
push_noted [] (n ∷ notes) job note are is = absurd are
push_noted (j ∷ jobs) [] job note are is = absurd are
push_noted (j ∷ jobs) (n ∷ notes) job note are is = (are.0, push_noted jobs notes job note are.1 is)

pub noted_next : (jobs : List NotedJob) (i : ℕ) (job : NotedJob) (notes more : List Note) (note : Note) → i < length jobs → job ≡ get_or jobs i job → AreJobsNoted (take i jobs) notes → IsJobNoted job note → more ≡ notes ++ note ∷ []
    → AreJobsNoted (take (i + 1) jobs) more
noted_next jobs i job notes more note within is are one pushed =
    subst (λ (l : List Note). AreJobsNoted (take (i + 1) jobs) l) (sym pushed)
    (subst (λ (l : List NotedJob). AreJobsNoted l (notes ++ note ∷ [])) (sym (take_more jobs i job within ∙ ap (λ (j : NotedJob). take i jobs ++ j ∷ []) (sym is))) (push_noted (take i jobs) notes job note are one))
