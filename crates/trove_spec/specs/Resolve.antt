-- Which trove a specification means, by searches of the whole list of troves in the order of their commits.
use Rattle.std.specs.Prelude.{◌≡◌, ℕ, ℤ, pos, Bool, true, false, ◌&&◌, is_some, if◌then◌else◌, List, [], ◌∷◌, filter, Option, Some, None, unwrap_or}
use Rattle.std.specs.List.{last_or, reduce}
use Rattle.std.specs.Cmp.Lexicographic.{slice_cmp}
use Rattle.std.specs.Option.{option_and_then}
use Rattle.std.specs.Ordering.{nat_cmp, int_cmp, ordering_then, is_lt}
use Rattle.std.specs.declared.cmp.Ordering.{Ordering}
use Rattle.std.specs.Str.{bytes_eq}
use Rattle.repo_index.specs.cny-base.declared.refusal.Fault.{Fault}
use Rattle.repo_index.specs.cny-base.declared.refusal.Fault.TheVariants.{Refused, Memory}
use Rattle.repo_index.specs.cny-base.declared.refusal.Refusal.{Refusal}
use Rattle.repo_index.specs.cny-base.declared.refusal.Refusal.TheVariants as refusal
use Rattle.cny_dep.specs.declared.parts.Parts.{Parts}
use Rattle.cny_dep.specs.Canonical.{flavor_text}
use Rattle.cny_dep.specs.Score.{flavor_score}
use Rattle.cny_version.specs.Label.{LabelParts, label_text}
use Rattle.cny_version.specs.Version.{WholeVersion, last_label, version_text}
use Rattle.repo_index.specs.trove-stream.declared.parts.TroveParts.{TroveParts}
use Rattle.repo_index.specs.Catalogue.{named}
use Rattle.trove_spec.specs.declared.config.Config.{Config}
use Rattle.trove_spec.specs.declared.spec.Place.{Place}
use Rattle.trove_spec.specs.declared.spec.Place.TheVariants.{Any, OnLabel, At}
use Rattle.trove_spec.specs.declared.spec.Spec.{Spec}

-- ---- candidates

-- the last label of the version is this one, where one is given
abbrev pub is_on : Option LabelParts → WholeVersion → Bool
is_on None v = true
is_on (Some label) v = bytes_eq (label_text (last_label v.branch)) (label_text label)

-- it is this version, where one is given
abbrev pub is_version : Option WholeVersion → WholeVersion → Bool
is_version None v = true
is_version (Some given) v = bytes_eq (version_text v) (version_text given)

-- what the trove's flavor is worth on the system; None where it doesn't fit
abbrev pub worth : Parts → TroveParts → Option ℤ
worth system t = flavor_score t.id.flavor system

-- on the label and of the version, where they are given, and fit for the system
abbrev pub is_candidate : Option LabelParts → Option WholeVersion → Parts → TroveParts → Bool
is_candidate label version system t = (is_on label t.id.version && is_version version t.id.version) && is_some (worth system t)

abbrev pub candidates_of : Option LabelParts → Option WholeVersion → Parts → List TroveParts → List TroveParts
candidates_of label version system troves = filter (is_candidate label version system) troves

-- a candidate of this version
abbrev pub is_wanted : Option LabelParts → Option WholeVersion → Parts → WholeVersion → TroveParts → Bool
is_wanted label version system newest t = bytes_eq (version_text t.id.version) (version_text newest) && is_candidate label version system t

-- ---- the best of the newest version

-- the trove has this version
abbrev pub has_version : WholeVersion → TroveParts → Bool
has_version v t = bytes_eq (version_text t.id.version) (version_text v)

abbrev pub of_version : WholeVersion → List TroveParts → List TroveParts
of_version v troves = filter (has_version v) troves

-- what the trove's flavor is worth, or 0 where it doesn't fit, as that of no candidate is
abbrev pub points : Parts → TroveParts → ℤ
points system t = unwrap_or (worth system t) (pos 0)

abbrev pub flavor_of : TroveParts → List ℕ
flavor_of t = flavor_text t.id.flavor

-- the one that is worth more comes first, then the one whose flavor's text does
abbrev pub fit_cmp : Parts → TroveParts → TroveParts → Ordering
fit_cmp system t other = ordering_then (int_cmp (points system other) (points system t)) (slice_cmp nat_cmp (flavor_of t) (flavor_of other))

-- worth more than the other, or as much with a flavor whose text comes first
abbrev pub is_better : Parts → TroveParts → TroveParts → Bool
is_better system t other = is_lt (fit_cmp system t other)

-- the better of two, the first where neither is
abbrev pub better_of : Parts → TroveParts → TroveParts → TroveParts
better_of system best t = if is_better system t best then t else best

-- the best of these, the first of several; none of no troves
abbrev pub best : Parts → List TroveParts → Option TroveParts
best system troves = reduce (better_of system) troves

-- the better of the best so far, if there is one, and one more
abbrev pub kept : Parts → Option TroveParts → TroveParts → TroveParts
kept system None t = t
kept system (Some best) t = better_of system best t

-- Of the candidates of the name, the last one gives the version, and the best one of that version is chosen.
abbrev pub chosen_of : Parts → List TroveParts → Option TroveParts
chosen_of system candidates = option_and_then (λ (last : TroveParts). best system (of_version last.id.version candidates)) (last_or None candidates)

abbrev pub chosen : List ℕ → Option LabelParts → Option WholeVersion → Parts → List TroveParts → Option TroveParts
chosen name label version system troves = chosen_of system (candidates_of label version system (named name troves))

-- ---- by a specification

-- the one that is there, else the other
abbrev pub or_else : {A : Type 0} → Option A → Option A → Option A
or_else (Some x) other = Some x
or_else None other = other

-- on the first of the labels that has a candidate
abbrev pub first_chosen : List ℕ → Parts → List TroveParts → List LabelParts → Option TroveParts
first_chosen name system troves [] = None
first_chosen name system troves (label ∷ labels) = or_else (chosen name (Some label) None system troves) (first_chosen name system troves labels)

-- the specification's flavor, or where it has none the configuration's
abbrev pub flavor_or : Option Parts → Parts → Parts
flavor_or (Some flavor) system = flavor
flavor_or None system = system

abbrev pub system_flavor : Spec → Config → Parts
system_flavor spec config = flavor_or spec.flavor config.flavor

abbrev pub at_place : Place → List ℕ → Parts → List LabelParts → List TroveParts → Option TroveParts
at_place Any name system labels troves = first_chosen name system troves labels
at_place (OnLabel label) name system labels troves = chosen name (Some label) None system troves
at_place (At version) name system labels troves = chosen name None (Some version) system troves

-- the trove that the specification means
abbrev pub resolution : List TroveParts → Spec → Config → Option TroveParts
resolution troves spec config = at_place spec.place spec.name (system_flavor spec config) config.labels troves

-- ---- refusals

abbrev pub is_empty : List LabelParts → Bool
is_empty [] = true
is_empty (label ∷ labels) = false

-- neither the specification names a label or a version, nor the configuration a label
abbrev pub lacks_label_at : Place → List LabelParts → Bool
lacks_label_at Any labels = is_empty labels
lacks_label_at (OnLabel label) labels = false
lacks_label_at (At version) labels = false

abbrev pub lacks_label : Spec → Config → Bool
lacks_label spec config = lacks_label_at spec.place config.labels

-- Without a label the refusal says so, and else that there is no candidate.
abbrev pub IsRefusalOf : Bool → Option TroveParts → List ℕ → Refusal → Type 0
IsRefusalOf true found text refused = refused ≡ refusal.NoLabel
IsRefusalOf false found text refused = (refused ≡ refusal.MissingTrove text) × (found ≡ None)

-- the refusal, or want of memory
abbrev pub IsUnresolved : List TroveParts → Spec → List ℕ → Config → Fault → Type 0
IsUnresolved troves spec text config (Refused refused) = IsRefusalOf (lacks_label spec config) (resolution troves spec config) text refused
IsUnresolved troves spec text config Memory = Unit {0}
