-- Entries that were read by one of the lists.
use Rattle.std.proofs.Common.{◌≡◌, List, [], ◌∷◌, map, refl, sym, ◌∙◌, ap}
use Rattle.local_db.specs.trove-stream.declared.parts.TroveParts.{TroveParts}
use Rattle.local_db.specs.tree-disk.Tree.{Name}
use Rattle.local_db.specs.Installed.{recorded}
use Rattle.local_db.specs.Record as state
use Rattle.local_db.specs.declared.record.ToldEntry.{ToldEntry}
use Rattle.job_record.specs.Lists.{told_by, told_entry}
use Rattle.rollback_stack.specs.declared.job_marks.HalfRead.{HalfRead}
use Rattle.rollback_stack.specs.Halves.{half_of, half_told}
use Rattle.rollback_stack.proofs.Mapping.{map_once}
use Rattle.rollback_stack.proofs.ToldMarks.{told_once}

half_once : (after : List TroveParts) (h g : HalfRead) → half_told after h ≡ half_told after g → h ≡ g
half_once after h g e =
    let paths : h.path ≡ g.path = ap (λ (t : ToldEntry). t.path) e in
    let befores : h.before ≡ g.before = ap (λ (t : ToldEntry). t.before) e in
    let afters : h.after ≡ g.after = told_once (recorded after h.path) h.after g.after
    (ap (λ (t : ToldEntry). t.after) e ∙ ap (λ (q : Name). told_by (recorded after q) g.after) (sym paths)) in
    λ i. record { path = paths i; before = befores i; after = afters i }

pub composed : (before after : List TroveParts) (es : List state.Entry) → map (half_told after) (map (half_of before) es) ≡ map (told_entry before after) es
composed before after [] = refl
composed before after (e ∷ es) = ap (λ (l : List ToldEntry). told_entry before after e ∷ l) (composed before after es)

-- what was read by the list after the job is what is read so of these entries
pub read_of_entries : (before after : List TroveParts) (entries : List ToldEntry) (read : List HalfRead) (es : List state.Entry)
    → entries ≡ map (half_told after) read → entries ≡ map (told_entry before after) es → read ≡ map (half_of before) es
read_of_entries before after entries read es one two =
    map_once (half_told after) (half_once after) read (map (half_of before) es) (sym one ∙ two ∙ sym (composed before after es))
