-- The bytes of a digest.
use Rattle.hex.specs.Hex.{IsBytes}
use Rattle.sha1.specs.Sha1.{digest_bytes, hash_after, padded_message, sha1}
use Rattle.std.proofs.Common.{List, [], arith, length, slice_index, suc, zero, ℕ, ◌++◌, ◌/◌, ◌<◌, ◌≡◌, ◌∷◌}
use Rattle.std.specs.Int.{byte_at, bytes_high_first, to_be_bytes, w32}
use Rattle.tree_disk.proofs.cny-base.Counts.{byte_small}
use Rattle.content_store.specs.Store.{IsContentName}

pub none_bytes : IsBytes []
none_bytes i = omega arith

pub one_more : (b : ℕ) (bs : List ℕ) → b < 256 → IsBytes bs → IsBytes (b ∷ bs)
one_more b bs small rest zero = small
one_more b bs small rest (suc i) = rest i

pub both_bytes : (a b : List ℕ) → IsBytes a → IsBytes b → IsBytes (a ++ b)
both_bytes [] b first second = second
both_bytes (x ∷ a) b first second = one_more x (a ++ b) (first 0) (both_bytes a b (λ i. first (suc i)) second)

pub high_bytes : (k n : ℕ) → IsBytes (bytes_high_first k n)
high_bytes zero n = none_bytes
high_bytes (suc k) n = one_more (byte_at k n) (bytes_high_first k n) (byte_small k n) (high_bytes k n)

pub words_bytes : (h : List ℕ) (n : ℕ) → IsBytes (digest_bytes h n)
unfolding digest_bytes
words_bytes h zero = none_bytes
words_bytes h (suc n) = both_bytes (digest_bytes h n) (to_be_bytes w32 (slice_index h n)) (words_bytes h n) (high_bytes 4 (slice_index h n))

pub sha1_bytes : (m : List ℕ) → IsBytes (sha1 m)
unfolding sha1
sha1_bytes m = words_bytes (hash_after (padded_message m) (length (padded_message m) / 64)) 5

-- a digest, which is 20 bytes long, is the name of a content
pub digest_is_name : (m : List ℕ) → length (sha1 m) ≡ 20 → IsContentName (sha1 m)
digest_is_name m long = record { long = long; bytes = sha1_bytes m }
