-- The troves that a manifest makes have one version.
use Rattle.std.proofs.Common.{◌≡◌, ℕ, List, [], ◌∷◌, map, refl, sym, subst}
use Rattle.std.proofs.lemmas.List.Elements.{All-map, All-from_recursion, recursion_from_All}
use Rattle.cli_call.specs.cny-base.Name.{kind_of_name}
use Rattle.cli_call.specs.cny-base.declared.name.NameKind.{NameKind}
use Rattle.cli_call.specs.cny-base.declared.name.NameKind.TheVariants.{Component, Package, Group}
use Rattle.cli_call.specs.trove-stream.declared.parts.TroveParts.{TroveParts}
use Rattle.cny_manifest.specs.manifest-troves.declared.lines.TroveLines.{TroveLines}
use Rattle.cny_manifest.specs.manifest-troves.Troves.{component_names, component_trove, group_trove, package_of, troves_by, troves_of, whole_component}
use Rattle.cny_manifest.specs.declared.made.Made.{Made}
use Rattle.cny_manifest.specs.Made.{lines_of}
use Rattle.cny_manifest.specs.Makes.{Makes}
use Rattle.repo_index.specs.Next.{HasOneVersion}

module _ (l : TroveLines) where
  abbrev HasIts : TroveParts → Type 0
  HasIts t = t.id.version ≡ l.id.version

  one_by : (kind : NameKind) → HasOneVersion (troves_by kind l)
  one_by Component = All-from_recursion HasIts (whole_component l ∷ []) (refl, tt)
  one_by Package = All-from_recursion HasIts (package_of l.id (component_names l) ∷ map (component_trove l) (component_names l))
      (refl, recursion_from_All HasIts (map (component_trove l) (component_names l)) (All-map HasIts (component_trove l) (component_names l) (λ k d within. refl)))
  one_by Group = All-from_recursion HasIts (group_trove l ∷ []) (refl, tt)

  lines_have_one : HasOneVersion (troves_of l)
  unfolding troves_of
  lines_have_one = one_by (kind_of_name l.id.name)

pub made_have_one : (bytes : List ℕ) (made : Made) → Makes bytes made → HasOneVersion made.troves
made_have_one bytes made makes = subst HasOneVersion (sym makes.troves_are) (lines_have_one (lines_of makes.body))
