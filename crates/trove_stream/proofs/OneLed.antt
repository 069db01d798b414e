-- One trove at most comes of a trove by a relative one.
use Rattle.std.proofs.Common.{◌≡◌, List, Contains, sym, ◌∙◌}
use Rattle.std.specs.Prelude.{◌↔◌}
use Rattle.cny_dep.specs.Order.{dep_cmp}
use Rattle.trove_parts.specs.Order.{id_cmp, id_total}
use Rattle.trove_parts.specs.Files.{path_of, file_cmp}
use Rattle.trove_stream.specs.declared.parts.TroveParts.{TroveParts}
use Rattle.trove_stream.specs.declared.rel.RelParts.{RelParts}
use Rattle.trove_stream.specs.Above.{dep_total}
use Rattle.trove_stream.specs.Amends.{Amends}
use Rattle.trove_stream.specs.Leads.{id_key, dep_key, Leads}
use Rattle.trove_stream.proofs.Members.{same_members}
use Rattle.trove_parts.proofs.Orders.{file_total}

-- a list amended in one way has the same elements
pub one_made : {A K : Type 0} (key : A → K) (gone : List K) (set old a b : List A) → Amends key gone set old a → Amends key gone set old b → (x : A) → Contains a x ↔ Contains b x
one_made key gone set old a b one two x = ((λ h. (two.result x).1 ((one.result x).0 h)), (λ h. (one.result x).1 ((two.result x).0 h)))

-- a relative trove leads from a trove to one other
pub one_led : (rel : RelParts) (old a b : TroveParts) → Leads rel old a → Leads rel old b → a ≡ b
one_led rel old a b one two =
    let id : a.id ≡ b.id = one.to ∙ sym two.to in
    let files : a.files ≡ b.files = same_members file_cmp file_total a.files b.files one.trove.lists.files.rising two.trove.lists.files.rising
    (one_made path_of rel.paths_gone rel.files_set old.files a.files b.files one.files two.files) in
    let refs : a.refs ≡ b.refs = same_members id_cmp id_total a.refs b.refs one.trove.lists.refs.rising two.trove.lists.refs.rising
    (one_made id_key rel.refs_gone rel.refs_added old.refs a.refs b.refs one.refs two.refs) in
    let required : a.requires_ ≡ b.requires_ = same_members dep_cmp dep_total a.requires_ b.requires_ one.trove.lists.requires.rising two.trove.lists.requires.rising
    (one_made dep_key rel.requires_gone rel.requires_added old.requires_ a.requires_ b.requires_ one.required two.required) in
    let provided : a.provides ≡ b.provides = same_members dep_cmp dep_total a.provides b.provides one.trove.lists.provides.rising two.trove.lists.provides.rising
    (one_made dep_key rel.provides_gone rel.provides_added old.provides a.provides b.provides one.provided two.provided) in
    λ i. record { id = id i; files = files i; refs = refs i; requires_ = required i; provides = provided i }
