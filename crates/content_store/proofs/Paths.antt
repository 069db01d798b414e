-- Where contents stand.
use Rattle.std.proofs.Common.{◌≡◌, ◌≢◌, ⊎_elim, ◌+◌, ◌≤◌, ◌<◌, Bool, true, false, cond, [], ◌∷◌, length, Option, Some, None, is_some, refl, sym, ◌∙◌, ap, arith, length-append}
use Rattle.std.proofs.lemmas.Bool.{cases_Bool}
use Rattle.std.specs.FinMap.{get}
use Rattle.hex.specs.Hex.{decode_of, encode_lower, IsBytes}
use Rattle.hex.proofs.HexLemmas.{decode_of-encode_lower}
use Rattle.tree_disk.specs.cny-base.Path.{is_path, join, parent, root}
use Rattle.tree_disk.specs.cny-base.Below.{is_below}
use Rattle.tree_disk.proofs.cny-base.Parent.{join_is_path}
use Rattle.tree_disk.specs.cny-base.declared.node.Node.{Node}
use Rattle.tree_disk.specs.Tree.{Name, Tree, same_name, WellFormed}
use Rattle.tree_disk.specs.Laws.{same_means}
use Rattle.tree_disk.proofs.Laws.{same_tree}
use Rattle.tree_disk.specs.Clear.{is_within, without_tree}
use Rattle.tree_disk.proofs.ClearLaws.{get-without_tree, or_cases}
use Rattle.content_store.specs.Store.{content_path}
use Rattle.content_store.proofs.Digits.{digits_long, digits_no_slash, digits_parts}
use Rattle.tree_disk.proofs.Names.{below_longer, join_short, parent_join, same_last}
use Rattle.tree_disk.proofs.cny-base.Counts.{fits}
use Rattle.tree_disk.proofs.Children.{path_short}

-- ---- lengths

join_long : (p last : Name) → 1 < length p → length (join p last) ≡ length p + length last + 1
join_long [] last long = absurd (omega arith)
join_long (b ∷ []) last long = absurd (omega arith)
join_long (b ∷ c ∷ p) last long = omega (arith, length-append (b ∷ c ∷ p) (47 ∷ last))

join_longer : (p last : Name) → is_path p ≡ true → length last < length (join p last)
join_longer [] last path = absurd (cc path)
join_longer (b ∷ []) last path = omega arith
join_longer (b ∷ c ∷ p) last path = omega (arith, length-append (b ∷ c ∷ p) (47 ∷ last))

-- ---- a content's path

pub content_is_path : (dir name : Name) → is_path dir ≡ true → length dir ≤ 983 → length name ≡ 20 → IsBytes name → is_path (content_path dir name) ≡ true
content_is_path dir name path short long bytes =
    join_is_path dir (encode_lower name) path (digits_parts name long bytes)
    (fits (length (content_path dir name)) (omega (arith, short, join_short dir (encode_lower name), digits_long name long)))

pub content_parent : (dir name : Name) → is_path dir ≡ true → IsBytes name → parent (content_path dir name) ≡ dir
content_parent dir name path bytes = parent_join dir (encode_lower name) path (digits_no_slash name bytes)

pub content_not_root : (dir name : Name) → is_path dir ≡ true → length name ≡ 20 → content_path dir name ≢ root
content_not_root dir name path long is =
    let same : length (content_path dir name) ≡ 1 = ap length is in
    absurd (omega (arith, same, join_longer dir (encode_lower name) path, digits_long name long))

-- ---- a directory that is too long for contents

within_long : (p q : Name) → is_within p q ≡ true → length p ≤ length q
within_long p q within = ⊎_elim
    (λ same. let is : length q ≡ length p = ap length (same_means q p same) in omega (arith, is))
    (λ low. let longer = below_longer p q low in omega (arith, longer))
    (or_cases (same_name q p) (is_below p q) within)

no_node : (o : Option Node) → is_some o ≡ false → o ≡ None
no_node None none = refl
no_node (Some node) none = absurd (cc none)

pub nothing_too_long : (tree : Tree) (dir name q : Name) → WellFormed tree → 983 < length dir → length name ≡ 20
    → is_within (content_path dir name) q ≡ true → get tree q ≡ None
nothing_too_long tree dir name q well far long within = no_node (get tree q) (⊎_elim
    (λ stands. absurd (omega (arith, far, path_short q (well.paths q stands), within_long (content_path dir name) q within, join_long dir (encode_lower name) (omega (arith, far)), digits_long name long)))
    (λ none. none)
    (cases_Bool (is_some (get tree q))))

pub without_nothing : (tree : Tree) (p : Name) → ((q : Name) → is_within p q ≡ true → get tree q ≡ None) → without_tree tree p ≡ tree
without_nothing tree p none = same_tree (without_tree tree p) tree (λ q. get-without_tree tree p q ∙ at q (is_within p q) refl)
  where
    at : (q : Name) (v : Bool) → is_within p q ≡ v → cond (is_within p q) None (get tree q) ≡ get tree q
    at q true is = ap (λ b. cond b None (get tree q)) is ∙ sym (none q is)
    at q false is = ap (λ b. cond b None (get tree q)) is

-- ---- two names

pub same_content_path : (dir a b : Name) → IsBytes a → IsBytes b → content_path dir a ≡ content_path dir b → a ≡ b
same_content_path dir a b bytes_a bytes_b is =
    let digits : encode_lower a ≡ encode_lower b = same_last dir (encode_lower a) (encode_lower b) is in
    cc (decode_of-encode_lower a bytes_a, decode_of-encode_lower b bytes_b, ap decode_of digits)
