-- One more put in the bytes of a log.
use Rattle.std.proofs.Common.{◌≡◌, ℕ, ◌+◌, ◌<◌, List, [], ◌∷◌, ◌++◌, length, get_or, take, flat_map, All, sym, ◌∙◌, ap, subst}
use Rattle.std.proofs.lemmas.List.{flat_map_more, take_more}
use Rattle.std.proofs.lemmas.List.Elements.{All-more}
use Rattle.journal_log.specs.declared.put.Put.{Put}
use Rattle.journal_log.specs.PutItem.{IsTold}
use Rattle.journal_log.specs.LogBytes.{magic, put_bytes}

-- what is written of the first k puts
pub record IsWritten (puts : List Put) (k : ℕ) (out : List ℕ) : Type 0 where
  pub text : out ≡ magic ++ flat_map put_bytes (take k puts)
  pub told : All IsTold (take k puts)

pub one_more : (puts : List Put) (out more : List ℕ) (k : ℕ) (p : Put) → k < length puts → p ≡ get_or puts k p → IsWritten puts k out → more ≡ out ++ put_bytes p → IsTold p → IsWritten puts (k + 1) more
one_more puts out more k p lt is so_far next told = record {
  text = next ∙ ap (λ (l : List ℕ). l ++ put_bytes p) so_far.text ∙ flat_map_more put_bytes magic (take k puts) p
      ∙ ap (λ (l : List Put). magic ++ flat_map put_bytes l) (ap (λ (x : Put). take k puts ++ x ∷ []) is ∙ sym (take_more puts k p lt));
  told = All-more IsTold puts k p lt so_far.told (subst IsTold is told);
}
