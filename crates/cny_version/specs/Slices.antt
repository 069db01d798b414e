-- Labels whose parts are lent from a text.
use Rattle.cny_version.specs.declared.label.LabelText.{LabelText}
use Rattle.cny_version.specs.Label.{LabelParts}

abbrev pub parts_of : LabelText → LabelParts
parts_of l = record { host = l.host.now; namespace = l.namespace.now; tag = l.tag.now }
