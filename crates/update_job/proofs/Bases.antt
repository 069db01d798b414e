-- The base of a relative trove in a list whose names rise.
use Rattle.std.proofs.Common.{◌≡◌, List, Contains, sym, ◌∙◌, ap}
use Rattle.std.specs.Cmp.Lexicographic.{slice_cmp, nat_list_cmp_total}
use Rattle.std.specs.Ordering.{nat_cmp}
use Rattle.std.specs.declared.cmp.Ordering.TheVariants.{Less, Equal}
use Rattle.std.proofs.lemmas.Cmp.{tied_itself}
use Rattle.change_set.specs.trove-stream.declared.rel.RelParts.{RelParts}
use Rattle.change_set.specs.trove-parts.declared.id.TroveId.{TroveId}
use Rattle.change_set.specs.trove-stream.declared.parts.TroveParts.{TroveParts}
use Rattle.change_rel.specs.trove-stream.Leads.{Leads}
use Rattle.change_set.specs.trove-stream.Installed.{by_name, IsRising, trove_of}
use Rattle.change_set.specs.Makes.{IsLedTo}
use Rattle.update_job.specs.Made.{base_in}
use Rattle.change_rel.proofs.trove-stream.Names.{contained as found}

-- what is above another has another name
pub other_name : (x t : TroveParts) → by_name x t ≡ Less → x.id.name ≡ t.id.name → ⊥
other_name x t less same =
    let own : slice_cmp nat_cmp x.id.name x.id.name ≡ Equal = tied_itself nat_list_cmp_total x.id.name in
    let apart : slice_cmp nat_cmp x.id.name x.id.name ≡ Less = ap (slice_cmp nat_cmp x.id.name) same ∙ less in
    absurd (cc (own, apart))

pub led_from : (installed : List TroveParts) (rel : RelParts) (base made : TroveParts) → IsRising installed → Contains installed base → Leads rel base made → IsLedTo (base_in installed) rel made
led_from installed rel base made rises there leads = record {
  base = base;
  stands = ap (λ (id : TroveId). trove_of id.name installed) (sym leads.from) ∙ found installed rises base there;
  leads = leads;
}
