-- Files that are streams of items: a magic, and items one behind the other up to the end.
use Rattle.std.specs.Prelude.{ℕ, zero, suc, ◌+◌, Bool, true, false, not, ◌&&◌, nat_lt, cond, get_or, if◌then◌else◌, List, [], ◌∷◌, length, take, drop, Option, Some, None}
use Rattle.std.specs.Int.{w32, from_be_bytes}
use Rattle.cny_stream.specs.Item.{is_expected}
use Rattle.tree_disk.specs.cny-base.Below.{begins_with}
use Rattle.journal_log.specs.declared.walk.TheConstants.{LARGE}

-- Whether behind so many bytes there are items with these tags, one behind the other, and nothing else. Each head, a tag and a
-- length in four bytes, leads to the next one; the values may be any.
abbrev pub are_items : List ℕ → ℕ → List ℕ → Bool
are_items tags zero [] = true
are_items tags (suc skipped) [] = false
are_items tags (suc skipped) (byte ∷ bytes) = are_items tags skipped bytes
are_items tags zero (tag ∷ bytes) = is_expected tags tag && are_items tags (4 + from_be_bytes w32 (take 4 bytes)) bytes

-- the bytes begin with the magic, and behind it there are items with these tags
abbrev pub is_stream : (magic tags bytes : List ℕ) → Bool
is_stream magic tags bytes = begins_with magic bytes && are_items tags (length magic) bytes

-- the bytes of a file, as they are read: none of a large one that is no such stream
abbrev pub stream_read : (magic tags bytes : List ℕ) → Option (List ℕ)
stream_read magic tags bytes = if nat_lt LARGE (length bytes) && not (is_stream magic tags bytes) then None else Some bytes

-- How long the item is with which bytes begin, of which there are so many, by its head, or by all of them where there are fewer; none
-- where its tag isn't one of these, or the bytes end inside the item.
abbrev pub item_size : (tags : List ℕ) (left : ℕ) (head : List ℕ) → Option ℕ
item_size tags left head =
    cond (nat_lt (length head) 5) None
    (cond (is_expected tags (get_or head 0 0))
    (cond (nat_lt left (5 + from_be_bytes w32 (take 4 (drop 1 head)))) None (Some (5 + from_be_bytes w32 (take 4 (drop 1 head))))) None)

-- the same, of the item that begins at a place
abbrev pub size_in : (tags : List ℕ) (at : ℕ) (bytes : List ℕ) → Option ℕ
size_in tags at bytes = item_size tags (length (drop at bytes)) (take 5 (drop at bytes))
