-- The whole stream: its five parts up to its end.
use Rattle.std.proofs.Common.{◌≡◌, ℕ, List, [], ◌++◌, length, drop, ap, ◌∙◌, arith, append-nil}
use Rattle.std.proofs.lemmas.List.{drop_all}
use Rattle.cny_dep.specs.Dep.{dep_text}
use Rattle.trove_parts.specs.cny-stream.declared.encoding.Encoding.{Encoding}
use Rattle.trove_parts.specs.Id.{id_bytes}
use Rattle.trove_parts.specs.Files.{file_value}
use Rattle.trove_parts.specs.Paths.{path_value}
use Rattle.trove_stream.specs.declared.rel.RelParts.{RelParts}
use Rattle.trove_stream.specs.Pairs.{pair_bytes, IsPairAt, ids_bytes, AreIdsTo}
use Rattle.trove_stream.specs.RelBytes.{rel_stream_bytes}

-- five parts, one behind the other
joined : (bytes ids files refs required provided a b c d : List ℕ) → bytes ≡ ids ++ a → a ≡ files ++ b → b ≡ refs ++ c → c ≡ required ++ d → d ≡ provided ++ [] → bytes ≡ ids ++ (files ++ (refs ++ (required ++ provided)))
joined bytes ids files refs required provided a b c d one two three four five =
    one ∙ ap (λ l. ids ++ l) (two ∙ ap (λ l. files ++ l) (three ∙ ap (λ l. refs ++ l) (four ∙ ap (λ l. required ++ l) (five ∙ append-nil provided))))

pub whole : (encoding : Encoding) (bytes : List ℕ) (rel : RelParts) (p q r s t : ℕ) → AreIdsTo bytes rel.old rel.fresh p → IsPairAt path_value (file_value encoding) 0x23 bytes p rel.paths_gone rel.files_set q → IsPairAt id_bytes id_bytes 0x25 bytes q rel.refs_gone rel.refs_added r
    → IsPairAt dep_text dep_text 0x27 bytes r rel.requires_gone rel.requires_added s → IsPairAt dep_text dep_text 0x29 bytes s rel.provides_gone rel.provides_added t → t ≡ length bytes → bytes ≡ rel_stream_bytes encoding rel
whole encoding bytes rel p q r s t ids files refs required provided end =
    joined bytes (ids_bytes rel.old rel.fresh) (pair_bytes path_value (file_value encoding) 0x23 rel.paths_gone rel.files_set) (pair_bytes id_bytes id_bytes 0x25 rel.refs_gone rel.refs_added)
    (pair_bytes dep_text dep_text 0x27 rel.requires_gone rel.requires_added) (pair_bytes dep_text dep_text 0x29 rel.provides_gone rel.provides_added)
    (drop p bytes) (drop q bytes) (drop r bytes) (drop s bytes) ids.spelled files.spelled refs.spelled required.spelled
    (provided.spelled ∙ ap (λ l. pair_bytes dep_text dep_text 0x29 rel.provides_gone rel.provides_added ++ l) (drop_all t bytes (omega arith)))
