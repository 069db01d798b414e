-- The length of a digest.
use Rattle.cny_base.proofs.Counts.{four_bytes}
use Rattle.sha1.specs.Sha1.{digest_bytes, hash_after, padded_message, sha1}
use Rattle.std.proofs.Common.{List, arith, length, length-append, refl, slice_index, suc, zero, ℕ, ◌*◌, ◌≡◌, ◌/◌}
use Rattle.std.specs.Int.{to_be_bytes, w32}

pub words_long : (h : List ℕ) (n : ℕ) → length (digest_bytes h n) ≡ 4 * n
unfolding digest_bytes
words_long h zero = refl
words_long h (suc n) = omega (arith, words_long h n, length-append (digest_bytes h n) (to_be_bytes w32 (slice_index h n)), four_bytes (slice_index h n))

pub digest_long : (m : List ℕ) → length (sha1 m) ≡ 20
unfolding sha1
digest_long m = words_long (hash_after (padded_message m) (length (padded_message m) / 64)) 5
