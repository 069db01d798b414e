use Rattle.std.proofs.Common.{◌&&◌, ◌++◌}
use Rattle.std.specs.Cmp.{first_so, second_so}
use Rattle.std.specs.Str.{bytes_eq}
use Rattle.cny_dep.specs.Canonical.{flavor_text}
use Rattle.cny_version.specs.Version.{version_text}
use Rattle.trove_parts.specs.Id.{in_brackets}
use Rattle.cny_dep.proofs.Cuts.{same_cut}
use Rattle.trove_parts.proofs.Cuts.{same_brackets}
use Rattle.trove_parts.proofs.IdFields.{name_lacks, fields_fit, same_fields, one_id}
use Rattle.trove_parts.proofs.VersionBytes.{version_lacks}
use Rattle.cny_version.proofs.cny-base.ByteLists.{bytes_mean as equal_bytes}
use Rattle.trove_parts.proofs.id.distinct_ids.Goals as goal

pub returns-clause-equal : goal.returns-clause-equal
returns-clause-equal c a b good_a good_b same =
    let names_versions = first_so (bytes_eq a.name b.name && bytes_eq (version_text a.version) (version_text b.version)) (bytes_eq (flavor_text a.flavor) (flavor_text b.flavor)) same in
    let flavors = second_so (bytes_eq a.name b.name && bytes_eq (version_text a.version) (version_text b.version)) (bytes_eq (flavor_text a.flavor) (flavor_text b.flavor)) same in
    let names = first_so (bytes_eq a.name b.name) (bytes_eq (version_text a.version) (version_text b.version)) names_versions in
    let versions = second_so (bytes_eq a.name b.name) (bytes_eq (version_text a.version) (version_text b.version)) names_versions in
    one_id a b (equal_bytes a.name b.name names)
    (c.distinct_texts.ensures.versions a.version b.version good_a.version good_b.version (equal_bytes (version_text a.version) (version_text b.version) versions))
    (c.one_text.ensures a.flavor b.flavor good_a.flavor good_b.flavor (equal_bytes (flavor_text a.flavor) (flavor_text b.flavor) flavors))

pub returns-clause-texts : goal.returns-clause-texts
returns-clause-texts c a b good_a good_b same =
    let cut = same_cut 61 a.name b.name (version_text a.version ++ in_brackets (flavor_text a.flavor)) (version_text b.version ++ in_brackets (flavor_text b.flavor))
    (name_lacks a.name good_a.name) (name_lacks b.name good_b.name) same in
    let parts = same_brackets (version_text a.version) (version_text b.version) (flavor_text a.flavor) (flavor_text b.flavor)
    (version_lacks a.version good_a.version) (version_lacks b.version good_b.version) cut.1 in
    one_id a b cut.0 (c.distinct_texts.ensures.versions a.version b.version good_a.version good_b.version parts.0) (c.one_text.ensures a.flavor b.flavor good_a.flavor good_b.flavor parts.1)

pub returns-clause-bytes : goal.returns-clause-bytes
returns-clause-bytes c a b x y good_a good_b same =
    let fits_a = fields_fit a good_a in
    let fits_b = fields_fit b good_b in
    let parts = same_fields a.name (version_text a.version) (flavor_text a.flavor) x b.name (version_text b.version) (flavor_text b.flavor) y
    fits_a.name fits_a.version fits_a.flavor fits_b.name fits_b.version fits_b.flavor same in (
      one_id a b parts.first (c.distinct_texts.ensures.versions a.version b.version good_a.version good_b.version parts.second)
          (c.one_text.ensures a.flavor b.flavor good_a.flavor good_b.flavor parts.third),
      parts.rest,
    )
