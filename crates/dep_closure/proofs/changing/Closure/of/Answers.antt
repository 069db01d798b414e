use Rattle.std.proofs.Common.{◌≡◌, ℕ, List, Option, None, ap, sym, ◌∙◌}
use Rattle.std.specs.BTreeMap.{is_at}
use Rattle.std.specs.Cmp.Lexicographic.{slice_cmp}
use Rattle.std.specs.Map.{lookup}
use Rattle.std.specs.Ordering.{nat_cmp}
use Rattle.trove_stream.specs.Installed.{trove_of}
use Rattle.trove_stream.specs.declared.parts.TroveParts.{TroveParts}
use Rattle.dep_closure.specs.Slots.{slot, slot_or, held}
use Rattle.dep_closure.proofs.Edited.{held_of, kept_of, same_held}
use Rattle.dep_closure.proofs.changing.Closure.of.Goals as goal

pub invariant_of-result : goal.invariant_of-result
invariant_of-result c =
    let found : (name : List ℕ) → held c.put_troves.new.slots name ≡ trove_of name c.args.list.now =
    λ name.
    ap (λ (s : Option (Option TroveParts)). slot_or s None) (c.in_ok-put_troves.ensures.troves name)
    ∙ held_of (trove_of name c.args.list.now) (slot c.new-slots.result name) (ap (λ (es : List (List ℕ × Option TroveParts)). lookup (is_at (slice_cmp nat_cmp name)) es) c.new-slots.ensures.empty) in
    kept_of c.args.list.now c.put_troves.new.slots found c.note_requirers.new.index c.note_providers.new.index c.in_ok-known.known c.requires c.put_troves.ensures.ordered c.in_ok-note_requirers.ensures.noted
    c.in_ok-note_providers.ensures.noted c.in_ok-known.ensures

pub returns : goal.returns
returns c =
    let found : (name : List ℕ) → held c.put_troves.new.slots name ≡ trove_of name c.args.list.now =
    λ name.
    ap (λ (s : Option (Option TroveParts)). slot_or s None) (c.in_ok-put_troves.ensures.troves name)
    ∙ held_of (trove_of name c.args.list.now) (slot c.new-slots.result name) (ap (λ (es : List (List ℕ × Option TroveParts)). lookup (is_at (slice_cmp nat_cmp name)) es) c.new-slots.ensures.empty) in
    same_held c.args.list.now c.requires c.put_troves.new.slots c.note_requirers.new.index c.note_providers.new.index c.in_ok-known.known
    (kept_of c.args.list.now c.put_troves.new.slots found c.note_requirers.new.index c.note_providers.new.index c.in_ok-known.known c.requires c.put_troves.ensures.ordered c.in_ok-note_requirers.ensures.noted
    c.in_ok-note_providers.ensures.noted c.in_ok-known.ensures)
    (λ name. sym (found name))
