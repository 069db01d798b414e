-- The manifests of the packages and groups of the demo.
use Rattle.std.specs.Prelude.{ℕ, zero, suc, ◌+◌, ◌*◌, ◌/◌, ◌%◌, nat_le, List, [], ◌++◌, length, replicate, codes, if◌then◌else◌}
use Rattle.std.specs.Fmt.{decimal}

-- one behind the other for each of so many numbers, from one on
unfoldable pub each_from : (ℕ → List ℕ) → ℕ → ℕ → List ℕ
each_from f from zero = []
each_from f from (suc more) = f from ++ each_from f (from + 1) more

-- ---- entries

-- the entry of a file: its line, and its bytes with a line feed
abbrev pub file_entry : List ℕ → List ℕ → List ℕ → List ℕ → List ℕ
file_entry mode flags path content =
    codes "file " ++ mode ++ codes " " ++ decimal (length content) ++ codes " " ++ flags ++ path ++ codes "\n" ++ content ++ codes "\n"

-- the version of a round
unfoldable pub version_of : ℕ → List ℕ
version_of round = codes "/demo.example.com@ex:devel/1.0-" ++ decimal round ++ codes "-1"

-- ---- a package

-- the lines before the entries
unfoldable pub name_line : ℕ → List ℕ
name_line number = codes "manifest 1\npackage p" ++ decimal number ++ codes "\n"

unfoldable pub version_line : ℕ → List ℕ
version_line round = codes "version " ++ version_of round ++ codes "\n"

unfoldable pub requires_line : ℕ → List ℕ
requires_line number = codes "requires p" ++ decimal number ++ codes ":runtime trove: p" ++ decimal number ++ codes ":lib\n"

-- the configuration file and the program, which each round changes
unfoldable pub config_entry : ℕ → ℕ → List ℕ
config_entry number round = file_entry (codes "0644") (codes "config ") (codes "/etc/p" ++ decimal number ++ codes ".conf") (codes "conf " ++ decimal number ++ codes " " ++ decimal round ++ codes "\n")

unfoldable pub program_entry : ℕ → ℕ → List ℕ
program_entry number round = file_entry (codes "0755") [] (codes "/usr/bin/p" ++ decimal number) (codes "bin " ++ decimal number ++ codes " " ++ decimal round ++ codes "\n")

unfoldable pub header_entry : ℕ → List ℕ
header_entry number = file_entry (codes "0644") [] (codes "/usr/include/p" ++ decimal number ++ codes ".h") (codes "head " ++ decimal number ++ codes "\n")

unfoldable pub library_entry : ℕ → List ℕ
library_entry number = file_entry (codes "0755") [] (codes "/usr/lib/libp" ++ decimal number ++ codes ".so.1") (codes "lib " ++ decimal number ++ codes "\n")

-- a document: the letter of its place, 64 times more often than the place before
abbrev pub document_text : ℕ → ℕ → List ℕ
document_text number place = replicate (64 * (place + 1)) (97 + (number + place) % 26)

-- its name are the two digits of its place
unfoldable pub document_entry : ℕ → ℕ → List ℕ
document_entry number place = file_entry (codes "0644") [] (codes "/usr/share/doc/p" ++ decimal number ++ codes "/" ++ decimal (place / 10) ++ decimal (place % 10)) (document_text number place)

-- all of them
unfoldable pub documents : ℕ → List ℕ
documents number = each_from (document_entry number) 0 42

-- the directory of the documents
unfoldable pub own_dir : ℕ → List ℕ
own_dir number = codes "dir 0755 /usr/share/doc/p" ++ decimal number ++ codes "\n"

-- all entries, in the order of their paths
unfoldable pub package_entries : ℕ → ℕ → List ℕ
package_entries number round =
    codes "dir 0755 /etc\n" ++ config_entry number round
    ++ codes "dir 0755 /usr\ndir 0755 /usr/bin\n" ++ program_entry number round
    ++ codes "dir 0755 /usr/include\n" ++ header_entry number
    ++ codes "dir 0755 /usr/lib\n" ++ library_entry number
    ++ codes "dir 0755 /usr/share\ndir 0755 /usr/share/doc\n" ++ own_dir number ++ documents number

-- the package of a number in a round
unfoldable pub package_manifest : ℕ → ℕ → List ℕ
package_manifest number round = name_line number ++ version_line round ++ requires_line number ++ package_entries number round ++ codes "end\n"

-- ---- a group

-- the reference to the package of a number, where it is one of so many
unfoldable pub ref_within : ℕ → ℕ → ℕ → List ℕ
ref_within packages round number = if nat_le number packages then codes "ref p" ++ decimal number ++ codes "=" ++ version_of round ++ codes "\n" else []

-- and those whose numbers have one digit more
unfoldable pub refs_of_ten : ℕ → ℕ → ℕ → List ℕ
refs_of_ten packages round number = ref_within packages round number ++ each_from (λ digit. ref_within packages round (10 * number + digit)) 0 10

-- and two
unfoldable pub refs_of_hundred : ℕ → ℕ → ℕ → List ℕ
refs_of_hundred packages round number = ref_within packages round number ++ each_from (λ digit. refs_of_ten packages round (10 * number + digit)) 0 10

-- all references, in the order of their ids: of numbers below 1,000 that of their digits
unfoldable pub all_refs : ℕ → ℕ → List ℕ
all_refs packages round = each_from (refs_of_hundred packages round) 1 9

-- the group of so many packages in a round
unfoldable pub group_manifest : ℕ → ℕ → List ℕ
group_manifest packages round = codes "manifest 1\ngroup group-demo\n" ++ version_line round ++ all_refs packages round ++ codes "end\n"
