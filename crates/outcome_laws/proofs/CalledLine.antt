-- A call of `run` with the words of a line and just its input.
use Rattle.std.proofs.Common.{◌≡◌, ℕ, List, [], subst}
use Rattle.cny_base.specs.Flow.{SinkState, SourceState}
use Rattle.cny_batch.specs.declared.line.Line.{Line}
use Rattle.conary_cli.specs.Program.{line_state, told_source, IsSomething}
use Rattle.tree_memory.specs.declared.memory.MemoryTree.{MemoryTree}
use Rattle.tree_memory.specs.Memory.{memory_disk}
use Rattle.outcome_laws.specs.Play.{told_sink, WasMade}

pub was_made : (l : Line) (status : ℕ) (root root' repo repo' : MemoryTree) (words : List (List ℕ)) (source : SourceState) (first error : SinkState) (left out line bytes : List ℕ) → words ≡ l.words → source ≡ told_source bytes → bytes ≡ l.input
    → first ≡ told_sink [] → error ≡ told_sink []
    → IsSomething memory_disk memory_disk words (line_state source root repo first) (line_state (told_source left) root' repo' (told_sink out)) error (told_sink line) status → WasMade l status out root root' repo repo'
was_made l status root root' repo repo' words source first error left out line bytes same told all empty silent h = record {
  left = left;
  line = line;
  call = subst (λ (w : List (List ℕ)). IsSomething memory_disk memory_disk w (line_state (told_source l.input) root repo (told_sink [])) (line_state (told_source left) root' repo' (told_sink out)) (told_sink []) (told_sink line) status) same
      (subst (λ (i : List ℕ). IsSomething memory_disk memory_disk words (line_state (told_source i) root repo (told_sink [])) (line_state (told_source left) root' repo' (told_sink out)) (told_sink []) (told_sink line) status) all
      (subst (λ (s : SourceState). IsSomething memory_disk memory_disk words (line_state s root repo (told_sink [])) (line_state (told_source left) root' repo' (told_sink out)) (told_sink []) (told_sink line) status) told
      (subst (λ (o : SinkState). IsSomething memory_disk memory_disk words (line_state source root repo o) (line_state (told_source left) root' repo' (told_sink out)) (told_sink []) (told_sink line) status) empty
      (subst (λ (o : SinkState). IsSomething memory_disk memory_disk words (line_state source root repo first) (line_state (told_source left) root' repo' (told_sink out)) o (told_sink line) status) silent h))));
}
