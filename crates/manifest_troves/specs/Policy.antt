-- The component of a package to which a path falls.
use Rattle.std.specs.Prelude.{ℕ, Bool, ◌||◌, ◌&&◌, not, if◌then◌else◌, List, [], ◌∷◌, ◌++◌, length, drop, ◌-◌, codes}
use Rattle.std.specs.Str.{bytes_eq}
use Rattle.change_set.specs.cny-base.Below.{begins_with}

-- the text that is tested: the path of a directory has a slash at its end
abbrev pub tested : List ℕ → Bool → List ℕ
tested path dir = if dir then path ++ 47 ∷ [] else path

abbrev pub ends_with : List ℕ → List ℕ → Bool
ends_with end text = bytes_eq end (drop (length text - length end) text)

-- of a file's path; that of a directory has a slash at its end
abbrev pub file_ends_with : List ℕ → List ℕ → Bool → Bool
file_ends_with end path dir = not dir && ends_with end path

abbrev pub is_doc : List ℕ → Bool
is_doc text = begins_with (codes "/usr/share/doc/") text || (begins_with (codes "/usr/share/man/") text || begins_with (codes "/usr/share/info/") text)

abbrev pub is_locale : List ℕ → Bool
is_locale text = begins_with (codes "/usr/share/locale/") text

abbrev pub is_devel : List ℕ → Bool
is_devel text = begins_with (codes "/usr/include/") text || (ends_with (codes ".h") text || (ends_with (codes ".a") text || ends_with (codes ".pc") text))

abbrev pub is_lib : List ℕ → Bool
is_lib text = (begins_with (codes "/lib/") text || begins_with (codes "/lib64/") text) || (begins_with (codes "/usr/lib/") text || begins_with (codes "/usr/lib64/") text)

-- the first of these that the text is
abbrev pub component_of_text : List ℕ → List ℕ
component_of_text text =
    if is_doc text then codes "doc"
    else if is_locale text then codes "locale"
    else if is_devel text then codes "devel"
    else if is_lib text then codes "lib"
    else codes "runtime"

unfoldable pub component_of : List ℕ → Bool → List ℕ
component_of path dir = component_of_text (tested path dir)
